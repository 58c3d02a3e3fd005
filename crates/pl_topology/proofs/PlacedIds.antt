-- The ids that a file's tables leave: in range, and no two equal.
use Rattle.std.proofs.Common.{◌≡◌, ◌≢◌, ℕ, zero, suc, ◌+◌, ◌*◌, ◌/◌, ◌^◌, ◌<◌, ◌≤◌, Bool, true, false, List, [], ◌∷◌, length, get_or, map, Option, Some, None, is_some, All, AllPairs, subst, refl, sym, ap, ◌∙◌, arith, inl, inr, ◌⊎◌}
use Rattle.std.specs.List.{filter, find, list_any, range_with_len}
use Rattle.std.proofs.lemmas.Bool.{cases_Bool, cases_lt, eqb-true, false≢true, or_right}
use Rattle.std.proofs.lemmas.Bool.Decides.{Decides-eqb}
use Rattle.std.proofs.lemmas.List.FromFn.{get_or-map-range_with_len, length-map-range_with_len}
use Rattle.std.proofs.Math.Nat.{mul-le-mul_left, mul-le-mul_right}
use Rattle.pl_frame.specs.declared.address.SwitchId.{SwitchId}
use Rattle.pl_topology.specs.declared.entries.SwitchEntry.{SwitchEntry}
use Rattle.pl_topology.specs.Checks.{canonical_entry, has_id, is_unnamed, kept_ids}
use Rattle.pl_topology.specs.Entries.{is_of}
use Rattle.pl_wiring.specs.Labels.{IsArity, switch_count}
use Rattle.pl_topology.specs.Meaning.{id_of, ids_of}
use Rattle.pl_topology.proofs.FoundLemmas.{is_some_found}
use Rattle.pl_topology.proofs.PlacedLinks.{found_at}

-- what the checks of the `switch` tables tell
pub record AgreeIds (k : ℕ) (given : List SwitchEntry) : Type 0 where
  pub in_range : All (λ e. (1 ≤ e.id.0) × (e.id.0 < 2 ^ 48)) given
  pub free : All (λ e. list_any (has_id e.id) (kept_ids k given) ≡ false) given
  pub apart : AllPairs (λ e f. e.id.0 ≢ f.id.0) given

-- a test that a kept item passes
any_filter : {A : Type 0} (p q : A → Bool) (xs : List A) (i : ℕ) (d : A) → i < length xs → q (get_or xs i d) ≡ true → p (get_or xs i d) ≡ true → list_any p (filter q xs) ≡ true
any_filter p q [] i d within kept passes = absurd (omega arith)
any_filter p q (x ∷ xs) zero d within kept passes = rw (kept, passes) refl
any_filter p q (x ∷ xs) (suc i) d within kept passes =
    let rest = any_filter p q xs i d (omega arith) kept passes in
    elim (cases_Bool (q x)) [
      | inl here ↦ rw here (or_right (p x) _ rest)
      | inr other ↦ rw other rest
    ]

abbrev pub entry_for : List SwitchEntry → ℕ → Option SwitchEntry
entry_for given n = find (is_of (record { 0 = n })) given

id_of-kept : (given : List SwitchEntry) (n : ℕ) → entry_for given n ≡ None → (id_of given n).0 ≡ n + 1
id_of-kept given n none = rw none refl

id_of-given : (given : List SwitchEntry) (n : ℕ) (entry : SwitchEntry) → entry_for given n ≡ Some entry → (id_of given n).0 ≡ entry.id.0
id_of-given given n entry found = rw found refl

pub ids_of-at : (k n : ℕ) (given : List SwitchEntry) (d : SwitchId) → n < switch_count k → get_or (ids_of k given) n d ≡ id_of given n
ids_of-at k n given d within = get_or-map-range_with_len (id_of given) 0 (switch_count k) n n d within (omega arith)

pub ids_of-length : (k : ℕ) (given : List SwitchEntry) → length (ids_of k given) ≡ switch_count k
ids_of-length k given = length-map-range_with_len (id_of given) 0 (switch_count k)

-- an id that a switch keeps is among those kept
kept_here : (k n : ℕ) (given : List SwitchEntry) (id : SwitchId) → n < switch_count k → entry_for given n ≡ None → id.0 ≡ n + 1 → list_any (has_id id) (kept_ids k given) ≡ true
kept_here k n given id within none same =
    let entries = map canonical_entry (range_with_len 0 (switch_count k)) in
    let is = get_or-map-range_with_len canonical_entry 0 (switch_count k) n n (canonical_entry n) within (omega arith) in
    let inside : n < length entries = rw (length-map-range_with_len canonical_entry 0 (switch_count k)) within in
    let unnamed : list_any (is_of (record { 0 = n })) given ≡ false = sym (is_some_found (is_of (record { 0 = n })) given) ∙ ap is_some none in
    let kept : is_unnamed given (get_or entries n (canonical_entry n)) ≡ true = rw (is, unnamed) refl in
    let has : has_id id (get_or entries n (canonical_entry n)) ≡ true = rw is ((Decides-eqb (n + 1) id.0).1 (sym same)) in
    any_filter (has_id id) (is_unnamed given) entries n (canonical_entry n) inside kept has

data_for : (given : List SwitchEntry) (n : ℕ) → (entry_for given n ≡ None) ⊎ ((e : SwitchEntry) × (entry_for given n ≡ Some e))
data_for given n = go (entry_for given n)
  where
    go : (o : Option SwitchEntry) → (o ≡ None) ⊎ ((e : SwitchEntry) × (o ≡ Some e))
    go None = inl refl
    go (Some e) = inr (e, refl)

-- an id that a table gives is none that a switch keeps
given_kept : (k m n : ℕ) (given : List SwitchEntry) (entry : SwitchEntry) → AgreeIds k given → m < switch_count k → entry_for given m ≡ None → entry_for given n ≡ Some entry → entry.id.0 ≢ m + 1
given_kept k m n given entry agree within none found same =
    let at = found_at (is_of (record { 0 = n })) given entry found in
    let is = at.2 entry in
    let P : SwitchEntry → Type 0 = λ e. list_any (has_id e.id) (kept_ids k given) ≡ false in
    let free = subst P is (agree.free at.0 entry at.1) in
    false≢true (sym free ∙ kept_here k m given entry.id within none same)

given_given : (k m n : ℕ) (given : List SwitchEntry) (e f : SwitchEntry) → AgreeIds k given → m ≢ n → entry_for given m ≡ Some e → entry_for given n ≡ Some f → e.id.0 ≢ f.id.0
given_given k m n given e f agree differ found_e found_f same =
    let a = found_at (is_of (record { 0 = m })) given e found_e in
    let b = found_at (is_of (record { 0 = n })) given f found_f in
    let switch_e : e.switch.0 ≡ m = eqb-true e.switch.0 m a.3 in
    let switch_f : f.switch.0 ≡ n = eqb-true f.switch.0 n b.3 in
    elim (cases_lt a.0 b.0) [
      | inl less ↦ agree.apart a.0 b.0 e less b.1 (ap (λ x. x.id.0) (a.2 e) ∙ same ∙ sym (ap (λ x. x.id.0) (b.2 e)))
      | inr no_less ↦ elim (cases_lt b.0 a.0) [
        | inl more ↦ agree.apart b.0 a.0 e more a.1 (ap (λ x. x.id.0) (b.2 e) ∙ sym same ∙ sym (ap (λ x. x.id.0) (a.2 e)))
        | inr no_more ↦
            let one : a.0 ≡ b.0 = omega arith in
            let entries : e ≡ f = sym (a.2 e) ∙ ap (λ i. get_or given i e) one ∙ b.2 e in
            differ (sym switch_e ∙ ap (λ x. x.switch.0) entries ∙ switch_f)
      ]
    ]

ids_apart : (k m n : ℕ) (given : List SwitchEntry) → AgreeIds k given → m < switch_count k → n < switch_count k → m ≢ n → (id_of given m).0 ≢ (id_of given n).0
ids_apart k m n given agree lm ln differ same = elim (data_for given m) [
  | inl kept_m ↦ elim (data_for given n) [
    | inl kept_n ↦
        let numbers : m + 1 ≡ n + 1 = sym (id_of-kept given m kept_m) ∙ same ∙ id_of-kept given n kept_n in
        differ (omega arith)
    | inr given_n ↦
        given_kept k m n given given_n.0 agree lm kept_m given_n.1 (sym (id_of-given given n given_n.0 given_n.1) ∙ sym same ∙ id_of-kept given m kept_m)
  ]
  | inr given_m ↦ elim (data_for given n) [
    | inl kept_n ↦
        given_kept k n m given given_m.0 agree ln kept_n given_m.1 (sym (id_of-given given m given_m.0 given_m.1) ∙ same ∙ id_of-kept given n kept_n)
    | inr given_n ↦
        given_given k m n given given_m.0 given_n.0 agree differ given_m.1 given_n.1
        (sym (id_of-given given m given_m.0 given_m.1) ∙ same ∙ id_of-given given n given_n.0 given_n.1)
  ]
]

-- there are not more than 720 switches
pub few_switches : (k : ℕ) → IsArity k → switch_count k ≤ 720
few_switches k arity =
    let most = arity.most in
    let half : k / 2 ≤ 12 = omega arith in
    let edges : k * (k / 2) ≤ 24 * 12 = omega (arith, mul-le-mul_right (k / 2) most, mul-le-mul_left 24 half) in
    let cores : k / 2 * (k / 2) ≤ 12 * 12 = omega (arith, mul-le-mul_right (k / 2) half, mul-le-mul_left 12 half) in
    omega arith

id_in_range : (k n : ℕ) (given : List SwitchEntry) → IsArity k → AgreeIds k given → n < switch_count k → (1 ≤ (id_of given n).0) × ((id_of given n).0 < 2 ^ 48)
id_in_range k n given arity agree within =
    let few = few_switches k arity in
    elim (data_for given n) [
      | inl kept ↦ let is = id_of-kept given n kept in (omega arith, omega arith)
      | inr found ↦
          let at = found_at (is_of (record { 0 = n })) given found.0 found.1 in
          let P : SwitchEntry → Type 0 = λ e. (1 ≤ e.id.0) × (e.id.0 < 2 ^ 48) in
          let range = subst P (at.2 found.0) (agree.in_range at.0 found.0 at.1) in
          let is = id_of-given given n found.0 found.1 in
          rw is range
    ]

pub ids_of-in_range : (k : ℕ) (given : List SwitchEntry) → IsArity k → AgreeIds k given → All (λ id. (1 ≤ id.0) × (id.0 < 2 ^ 48)) (ids_of k given)
ids_of-in_range k given arity agree n d within =
    let inside : n < switch_count k = let many = ids_of-length k given in omega arith in
    let P : SwitchId → Type 0 = λ id. (1 ≤ id.0) × (id.0 < 2 ^ 48) in
    subst P (sym (ids_of-at k n given d inside)) (id_in_range k n given arity agree inside)

pub ids_of-apart : (k : ℕ) (given : List SwitchEntry) → AgreeIds k given → AllPairs (λ a b. a.0 ≢ b.0) (ids_of k given)
ids_of-apart k given agree m n d less within same =
    let inside : n < switch_count k = let many = ids_of-length k given in omega arith in
    let before : m < switch_count k = omega arith in
    let differ : m ≢ n = omega arith in
    ids_apart k m n given agree before inside differ (ap (λ id. id.0) (sym (ids_of-at k m given d before)) ∙ same ∙ ap (λ id. id.0) (ids_of-at k n given d inside))
