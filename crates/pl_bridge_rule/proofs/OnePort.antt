-- An address stands at one port of a bridge's table.
use Rattle.std.proofs.Common.{◌≡◌, ◌⊎◌, ℕ, zero, suc, ◌+◌, ◌≤◌, ◌<◌, ◌==◌, ◌&&◌, ◌||◌, not, Bool, true, false, if◌then◌else◌, List, [], ◌∷◌, Option, Some, refl, sym, ap, ◌∙◌, subst, arith, inl, inr}
use Rattle.std.specs.BTreeSet.{insert_key}
use Rattle.std.specs.declared.cmp.Ordering.{Ordering}
use Rattle.std.specs.declared.cmp.Ordering.TheVariants.{Equal, Greater, Less}
use Rattle.std.specs.List.{filter, find, list_any, range_with_len}
use Rattle.std.specs.Ordering.{match_ordering}
use Rattle.std.proofs.lemmas.Bool.{and_parts, cases_Bool, cases_eq, cond-false, cond-true, cond_both, eqb-true, false≢true, or_cases}
use Rattle.std.proofs.lemmas.Slice.Eq.{bytes_eq-Decides}
use Rattle.pl_frame.specs.declared.address.Mac.{Mac}
use Rattle.pl_frame.specs.Ethernet.{source_of}
use Rattle.pl_layouts.specs.Control.{is_control}
use Rattle.pl_layouts.specs.Equality.{same_mac}
use Rattle.pl_layouts.specs.Memberships.{is_group}
use Rattle.pl_node.specs.declared.acts.Act.{Act}
use Rattle.pl_node.specs.declared.switch_records.Member.{Member}
use Rattle.pl_node.specs.PortRecords.{ports_of_switch}
use Rattle.pl_node.specs.SwitchInputs.{SwitchInput}
use Rattle.pl_node.specs.SwitchInputs.SwitchInput.{Comes, Says, Tick}
use Rattle.pl_node.specs.SwitchViews.{SwitchView}
use Rattle.pl_steps.specs.Steps.{rests}
use Rattle.pl_switch_rule.specs.Intake.{member_cmp}
use Rattle.pl_bridge_rule.specs.BridgeRule.{AreAtOnePort, port_among, Bridges, bridge_step, bridges, is_entry_of, learns, learns_source, stands_at, table_entry}

-- whatever passes a test behind a new element is that one, or passed before
inserted : (test : Member → Bool) (x : Member) (xs : List Member) → list_any test (insert_key member_cmp xs x) ≡ true → (test x ≡ true) ⊎ (list_any test xs ≡ true)
inserted test x [] is = elim (or_cases (test x) false is) [ inl here ↦ inl here | inr never ↦ absurd (false≢true never) ]
inserted test x (y ∷ ys) is = by (inserted test x ys) (member_cmp x y) is
  where
    by : (list_any test (insert_key member_cmp ys x) ≡ true → (test x ≡ true) ⊎ (list_any test ys ≡ true)) → (r : Ordering) → list_any test (match_ordering r (x ∷ y ∷ ys) (y ∷ ys) (y ∷ insert_key member_cmp ys x)) ≡ true → (test x ≡ true) ⊎ (list_any test (y ∷ ys) ≡ true)
    by rest Less is = or_cases (test x) (test y || list_any test ys) is
    by rest Equal is = inr is
    by rest Greater is = elim (or_cases (test y) (list_any test (insert_key member_cmp ys x)) is) [
      | inl here ↦ inr (ap (λ b. b || list_any test ys) here)
      | inr later ↦ elim (rest later) [ inl new ↦ inl new | inr old ↦ inr (behind (test y) old) ]
    ]
      where
        behind : (b : Bool) → list_any test ys ≡ true → (b || list_any test ys) ≡ true
        behind true old = refl
        behind false old = old

-- and what passes among those that are kept is kept, and passed before
record WasKept (test kept : Member → Bool) (xs : List Member) : Type 0 where
  one : Member
  passes : test one ≡ true
  stays : kept one ≡ true
  before : list_any test xs ≡ true

was_kept : (test kept : Member → Bool) (xs : List Member) → list_any test (filter kept xs) ≡ true → WasKept test kept xs
was_kept test kept [] is = absurd (false≢true is)
was_kept test kept (y ∷ ys) is = by (was_kept test kept ys) (kept y) refl is
  where
    later : WasKept test kept ys → WasKept test kept (y ∷ ys)
    later rest = record { one = rest.one; passes = rest.passes; stays = rest.stays; before = behind (test y) rest.before }
      where
        behind : (b : Bool) → list_any test ys ≡ true → (b || list_any test ys) ≡ true
        behind true old = refl
        behind false old = old

    by : (list_any test (filter kept ys) ≡ true → WasKept test kept ys) → (b : Bool) → kept y ≡ b → list_any test (if◌then◌else◌ {A = List Member} b (y ∷ filter kept ys) (filter kept ys)) ≡ true → WasKept test kept (y ∷ ys)
    by before true stays is = elim (or_cases (test y) (list_any test (filter kept ys)) is) [
      | inl here ↦ record { one = y; passes = here; stays = stays; before = ap (λ b. b || list_any test ys) here }
      | inr rest ↦ later (before rest)
    ]
    by before false stays is = later (before is)

abbrev is_at : Mac → ℕ → Member → Bool
is_at mac port m = is_entry_of mac m && (m.port == port)

-- the entries of one address are none of another's
apart : (mac other : Mac) (m : Member) → same_mac mac other ≡ true → is_entry_of other m ≡ true → not (is_entry_of mac m) ≡ true → ⊥
apart mac other m same is stays =
    let parts = and_parts (m.group == 0) (same_mac m.amac other) is in
    let bytes : m.amac.0 ≡ mac.0 = (bytes_eq-Decides m.amac.0 other.0).0 parts.1 ∙ sym ((bytes_eq-Decides mac.0 other.0).0 same) in
    let own : is_entry_of mac m ≡ true = ap (λ b. b && same_mac m.amac mac) parts.0 ∙ (bytes_eq-Decides m.amac.0 mac.0).1 bytes in
    false≢true (sym (ap not own) ∙ stays)

module _ (port : ℕ) (mac : Mac) (xs : List Member) (before : AreAtOnePort xs) where
  -- an entry of the new table: the new one, or one of another address
  data Stands (other : Mac) (p : ℕ) : Type 0 where
    New : same_mac mac other ≡ true → port ≡ p → Stands other p
    Old : WasKept (is_at other p) (λ m. not (is_entry_of mac m)) xs → Stands other p

  stands : (other : Mac) (p : ℕ) → stands_at (learns port mac xs) other p ≡ true → Stands other p
  stands other p is = elim (inserted (is_at other p) (table_entry port mac) (filter (λ m. not (is_entry_of mac m)) xs) is) [
    | inl new ↦ (let parts = and_parts (same_mac mac other) (port == p) new in New parts.0 (eqb-true port p parts.1))
    | inr old ↦ Old (was_kept (is_at other p) (λ m. not (is_entry_of mac m)) xs old)
  ]

  mixed : (other : Mac) (p : ℕ) → same_mac mac other ≡ true → WasKept (is_at other p) (λ m. not (is_entry_of mac m)) xs → ⊥
  mixed other p same kept = apart mac other kept.one same (and_parts (is_entry_of other kept.one) (kept.one.port == p) kept.passes).0 kept.stays

  both : (other : Mac) (p q : ℕ) → Stands other p → Stands other q → p ≡ q
  both other p q (New same is) (New also at) = sym is ∙ at
  both other p q (New same is) (Old kept) = absurd (mixed other q same kept)
  both other p q (Old kept) (New same is) = absurd (mixed other p same kept)
  both other p q (Old kept) (Old also) = before other p q kept.before also.before

  pub learns_at_one : AreAtOnePort (learns port mac xs)
  learns_at_one other p q is also = both other p q (stands other p is) (stands other q also)

source_at_one : (v : SwitchView) (port : ℕ) (frame : List ℕ) → AreAtOnePort v.members → AreAtOnePort (learns_source port frame v.members)
source_at_one v port frame before =
    cond_both (is_group (source_of frame)) v.members (learns port (source_of frame) v.members) AreAtOnePort (λ group. before) (λ one. learns_at_one port (source_of frame) v.members before)

step_at_one : (v : SwitchView) (input : SwitchInput) → AreAtOnePort v.members → AreAtOnePort (bridge_step v input).view.members
step_at_one v Tick before = before
step_at_one v (Says says) before = before
step_at_one v (Comes port frame) before =
    cond_both (is_control frame) (rests v) (bridges v port frame) (λ step. AreAtOnePort step.view.members) (λ control. before) (λ data_frame. source_at_one v port frame before)

pub stays_at_one : (old : SwitchView) (input : SwitchInput) (new : SwitchView) (acts : List Act) → Bridges old input new acts → AreAtOnePort old.members → AreAtOnePort new.members
stays_at_one old input new acts does before = subst (λ (v : SwitchView). AreAtOnePort v.members) (sym does.view) (step_at_one old input before)

pub none_at_one : AreAtOnePort []
none_at_one mac p q is also = absurd (false≢true is)

-- ---- what is learnt is found, and no other entry is touched

-- a new element that does not pass changes nothing
none_inserted : (test : Member → Bool) (x : Member) → test x ≡ false → (xs : List Member) → list_any test (insert_key member_cmp xs x) ≡ list_any test xs
none_inserted test x none [] = ap (λ b. b || false) none
none_inserted test x none (y ∷ ys) =
    by (none_inserted test x none ys) (member_cmp x y)
  where
    by : list_any test (insert_key member_cmp ys x) ≡ list_any test ys → (r : Ordering) →
        list_any test (match_ordering r (x ∷ y ∷ ys) (y ∷ ys) (y ∷ insert_key member_cmp ys x)) ≡ (test y || list_any test ys)
    by rest Less = ap (λ b. b || (test y || list_any test ys)) none
    by rest Equal = refl
    by rest Greater = ap (λ b. test y || b) rest

-- nor does it to take out what does not pass
all_that_pass_stay : (test kept : Member → Bool) → ((m : Member) → test m ≡ true → kept m ≡ true) → (xs : List Member) → list_any test (filter kept xs) ≡ list_any test xs
all_that_pass_stay test kept stays [] = refl
all_that_pass_stay test kept stays (y ∷ ys) = by (all_that_pass_stay test kept stays ys) (test y) (kept y) refl (stays y)
  where
    by : list_any test (filter kept ys) ≡ list_any test ys → (t b : Bool) → test y ≡ t → (test y ≡ true → b ≡ true) →
        list_any test (if◌then◌else◌ {A = List Member} b (y ∷ filter kept ys) (filter kept ys)) ≡ (test y || list_any test ys)
    by rest t true is need = ap (λ x. test y || x) rest
    by rest true false is need = absurd (false≢true (need is))
    by rest false false is need = rest ∙ sym (ap (λ x. x || list_any test ys) is)

others_stand : (port : ℕ) (mac other : Mac) (xs : List Member) → same_mac mac other ≡ false → (q : ℕ) → stands_at (learns port mac xs) other q ≡ stands_at xs other q
others_stand port mac other xs differ q =
    none_inserted (is_at other q) (table_entry port mac) (ap (λ b. b && (port == q)) differ) (filter (λ m. not (is_entry_of mac m)) xs)
    ∙ all_that_pass_stay (is_at other q) (λ m. not (is_entry_of mac m)) stays xs
  where
    stays : (m : Member) → is_at other q m ≡ true → not (is_entry_of mac m) ≡ true
    stays m is = by (is_entry_of mac m) refl
      where
        by : (b : Bool) → is_entry_of mac m ≡ b → not b ≡ true
        by true own =
            let one = and_parts (m.group == 0) (same_mac m.amac mac) own in
            let two = and_parts (m.group == 0) (same_mac m.amac other) (and_parts (is_entry_of other m) (m.port == q) is).0 in
            absurd (false≢true (sym differ ∙ (bytes_eq-Decides mac.0 other.0).1 (sym ((bytes_eq-Decides m.amac.0 mac.0).0 one.1) ∙ (bytes_eq-Decides m.amac.0 other.0).0 two.1)))
        by false none = refl

same_found : (p q : ℕ → Bool) → ((n : ℕ) → p n ≡ q n) → (ports : List ℕ) → find p ports ≡ find q ports
same_found p q same [] = refl
same_found p q same (n ∷ ports) =
    ap (λ b. if◌then◌else◌ {A = Option ℕ} b (Some n) (find p ports)) (same n) ∙ ap (λ rest. if◌then◌else◌ {A = Option ℕ} (q n) (Some n) rest) (same_found p q same ports)

pub others_stay : (k port : ℕ) (mac other : Mac) (xs : List Member) → same_mac mac other ≡ false → port_among k (learns port mac xs) other ≡ port_among k xs other
unfolding port_among
others_stay k port mac other xs differ = same_found (stands_at (learns port mac xs) other) (stands_at xs other) (others_stand port mac other xs differ) (ports_of_switch k)

-- the one port at which an address stands
only_found : (test : ℕ → Bool) (port : ℕ) → test port ≡ true → ((q : ℕ) → test q ≡ true → port ≡ q) → (from n : ℕ) → from ≤ port → port < from + n →
    find test (range_with_len from n) ≡ Some port
only_found test port is only from zero low high = absurd (omega arith)
only_found test port is only from (suc n) low high = elim (cases_eq from port) [
  | inl here ↦ cond-true (test from) (Some from) (find test (range_with_len (from + 1) n)) (ap test here ∙ is) ∙ ap Some here
  | inr later ↦ elim (cases_Bool (test from)) [
    | inl also ↦ absurd (later (sym (only from also)))
    | inr none ↦ cond-false (test from) (Some from) (find test (range_with_len (from + 1) n)) none ∙ only_found test port is only (from + 1) n (omega (arith, later)) (omega arith)
  ]
]

-- an address that was learnt stands at its port alone
pub learnt_is_found : (k port : ℕ) (mac : Mac) (xs : List Member) → port < k → stands_at (learns port mac xs) mac port ≡ true → port_among k (learns port mac xs) mac ≡ Some port
unfolding port_among
learnt_is_found k port mac xs within is = only_found (stands_at (learns port mac xs) mac) port is only 0 k (omega arith) (omega (arith, within))
  where
    only : (q : ℕ) → stands_at (learns port mac xs) mac q ≡ true → port ≡ q
    only q also = elim (inserted (is_at mac q) (table_entry port mac) (filter (λ m. not (is_entry_of mac m)) xs) also) [
      | inl new ↦ eqb-true port q (and_parts (same_mac mac mac) (port == q) new).1
      | inr old ↦ (let kept = was_kept (is_at mac q) (λ m. not (is_entry_of mac m)) xs old in
          absurd (apart mac mac kept.one ((bytes_eq-Decides mac.0 mac.0).1 refl) (and_parts (is_entry_of mac kept.one) (kept.one.port == q) kept.passes).0 kept.stays))
    ]
