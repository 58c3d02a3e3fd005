-- Who held addresses and when, by their tenures, and how many that were granted at a port are not live.
use Rattle.std.proofs.Common.{◌≡◌, ◌≢◌, ℕ, zero, suc, ◌+◌, ◌-◌, ◌^◌, ◌≤◌, ◌<◌, ◌==◌, ◌&&◌, ◌||◌, nat_le, Bool, true, false, not, cond, List, [], ◌∷◌, length, Option, Some, None, unwrap_or, refl, sym, ap, ap₂, subst, ◌∙◌, inl, inr, arith}
use Rattle.std.specs.Map.{lookup}
use Rattle.std.specs.Option.{option_and_then, option_map}
use Rattle.std.proofs.lemmas.Bool.{and_parts, both_ways, cases_eq, cases_lt, cond-false, cond-true, cond_both, eq-eqb, eqb-true, false≢true, le-leb, leb-true, lt-leb, ne_eqb, or_cases}
use Rattle.std.proofs.lemmas.Option.{none-some, same_Some}
use Rattle.pl_pmac.specs.declared.pmac.Pmac.{Pmac}
use Rattle.pl_pmac.specs.Pmac.{PmacFits, pmac_number}
use Rattle.pl_pmac.proofs.Exports.{same_pmac_number}
use Rattle.pl_wiring.specs.declared.label.SwitchNo.{SwitchNo}
use Rattle.pl_wiring.specs.declared.host.HostNo.{HostNo}
use Rattle.pl_wiring.specs.Plan.{Plan}
use Rattle.pl_journal.specs.declared.entry.Entry.{Entry}
use Rattle.pl_journal.specs.declared.entry.Entry.TheVariants.{Freed, Granted}
use Rattle.pl_journal.specs.Places.{EdgePort, are_alike, are_live_there, at_port, edge_port, is_at, is_live, is_of_edge, same_edge_port, same_pod_and_position}
use Rattle.pl_journal.specs.Lossy.{RunTo}
use Rattle.pl_past.specs.Addressees.{Tenure, held_as_of, tenures}
use Rattle.pl_past_tables.specs.declared.keys.Point.{Point}
use Rattle.pl_past_tables.specs.declared.keys.Term.{Term}
use Rattle.pl_past_tables.specs.declared.holders.Held.{Held}
use Rattle.pl_past_tables.specs.declared.holders.Holders.{Holders}
use Rattle.pl_past_tables.specs.Keys.{edge_port_at, same_point, same_term}
use Rattle.pl_past_tables.specs.Holders.{AreBegun, AreFit, AreTenures, IsBegunAt, KeepsHolders, free_in, free_there, is_granted_at, one_more, tenure_after, tenure_of}
use Rattle.pl_past_tables.proofs.Said.{value_now}

-- the tenures of an address, with the newest first, begin before this entry, each before the one that follows it
abbrev IsFalling : ℕ → List Tenure → Type 0
IsFalling m [] = Unit {0}
IsFalling m (t ∷ tenures) = (t.since ≤ m) × IsFalling t.since tenures

falling_from : (m n : ℕ) (all : List Tenure) → m ≤ n → IsFalling m all → IsFalling n all
falling_from m n [] order falls = tt
falling_from m n (t ∷ all) order falls = let first = falls.0 in (omega arith, falls.1)

falling : (past : List Entry) (x : ℕ) → IsFalling (length past) (tenures past x)
falling [] x = tt
falling (Granted y h e p ∷ past) x =
    let new : Tenure = record { since = length past + 1; host = Some h.0 } in
    cond_both (pmac_number y == x) (new ∷ tenures past x) (tenures past x) (IsFalling (suc (length past)))
    (λ t. (omega arith, falling_from (length past) (length past + 1) (tenures past x) (omega arith) (falling past x)))
    (λ t. falling_from (length past) (suc (length past)) (tenures past x) (omega arith) (falling past x))
falling (Freed y ∷ past) x =
    let new : Tenure = record { since = length past + 1; host = None } in
    cond_both (pmac_number y == x) (new ∷ tenures past x) (tenures past x) (IsFalling (suc (length past)))
    (λ t. (omega arith, falling_from (length past) (length past + 1) (tenures past x) (omega arith) (falling past x)))
    (λ t. falling_from (length past) (suc (length past)) (tenures past x) (omega arith) (falling past x))
falling (entry ∷ past) x = falling_from (length past) (suc (length past)) (tenures past x) (omega arith) (falling past x)

within : (m : ℕ) (all : List Tenure) (i : ℕ) (t : Tenure) → IsFalling m all → tenure_after all i ≡ Some t → t.since ≤ m
within m [] i t falls at = absurd (none-some t at)
within m (u ∷ all) i t falls at = by (length all == i) at (λ older. within u.since all i t falls.1 older)
  where
    by : (b : Bool) → cond b (Some u) (tenure_after all i) ≡ Some t → (tenure_after all i ≡ Some t → t.since ≤ u.since) → t.since ≤ m
    by true same rest = subst (λ (v : Tenure). v.since ≤ m) (same_Some u t same) falls.0
    by false older rest = let first = falls.0 in let less = rest older in omega arith

before_end : (all : List Tenure) (i : ℕ) (t : Tenure) → tenure_after all i ≡ Some t → i < length all
before_end [] i t at = absurd (none-some t at)
before_end (u ∷ all) i t at = by (length all == i) refl at (before_end all i t)
  where
    by : (b : Bool) → (length all == i) ≡ b → cond b (Some u) (tenure_after all i) ≡ Some t → (tenure_after all i ≡ Some t → i < length all) →
        i < suc (length all)
    by true is same rest = let e = eqb-true (length all) i is in omega arith
    by false is older rest = let less = rest older in omega arith

older_one : (t : Tenure) (all : List Tenure) (i : ℕ) → i < length all → tenure_after (t ∷ all) i ≡ tenure_after all i
older_one t all i less = cond-false (length all == i) (Some t) (tenure_after all i) (ne_eqb (length all) i (λ e. absurd (omega arith)))

newest_one : (t : Tenure) (all : List Tenure) → tenure_after (t ∷ all) (length all) ≡ Some t
newest_one t all = cond-true (length all == length all) (Some t) (tenure_after all (length all)) (eq-eqb (length all) (length all) refl)

there_is : (all : List Tenure) (i : ℕ) → i < length all → (t : Tenure) × (tenure_after all i ≡ Some t)
there_is [] i less = absurd (omega arith)
there_is (u ∷ all) i less = elim (cases_eq i (length all)) [
  | inl last ↦ (u, ap (tenure_after (u ∷ all)) last ∙ newest_one u all)
  | inr other ↦
      let w = there_is all i (omega arith) in
      (w.0, older_one u all i (omega arith) ∙ w.1)
]

rising : (m : ℕ) (all : List Tenure) (i j : ℕ) (s t : Tenure) → IsFalling m all → i ≤ j → tenure_after all i ≡ Some s → tenure_after all j ≡ Some t →
    s.since ≤ t.since
rising m [] i j s t falls order one two = absurd (none-some s one)
rising m (u ∷ all) i j s t falls order one two = elim (cases_eq j (length all)) [
  | inl last ↦
      let newest : u ≡ t = same_Some u t (sym (newest_one u all) ∙ ap (tenure_after (u ∷ all)) (sym last) ∙ two) in
      elim (cases_eq i (length all)) [
        | inl also ↦
            let same : u ≡ s = same_Some u s (sym (newest_one u all) ∙ ap (tenure_after (u ∷ all)) (sym also) ∙ one) in
            subst (λ (v : Tenure). v.since ≤ t.since) same (subst (λ (v : Tenure). u.since ≤ v.since) newest (omega arith))
        | inr other ↦
            let less = within u.since all i s falls.1 (sym (older_one u all i (omega arith)) ∙ one) in
            subst (λ (v : Tenure). s.since ≤ v.since) newest less
      ]
  | inr other ↦
      let inside : j < suc (length all) = before_end (u ∷ all) j t two in
      rising u.since all i j s t falls.1 order (sym (older_one u all i (omega arith)) ∙ one) (sym (older_one u all j (omega arith)) ∙ two)
]

-- the host of the tenure that has one fewer before it
abbrev host_before : List Tenure → ℕ → Option ℕ
host_before all zero = None
host_before all (suc m) = option_and_then (λ (t : Tenure). t.host) (tenure_after all m)

host_older : (t : Tenure) (all : List Tenure) (m : ℕ) → m ≤ length all → host_before all m ≡ host_before (t ∷ all) m
host_older t all zero order = refl
host_older t all (suc m) order = ap (λ (o : Option Tenure). option_and_then (λ (u : Tenure). u.host) o) (sym (older_one t all m (omega arith)))

-- the newest tenure that began by an entry is the last of those that did
split_tells : (n : ℕ) (all : List Tenure) (m : ℕ) → m ≤ length all → AreBegun n all m m → held_as_of n all ≡ host_before all m
split_tells n [] zero order begun = refl
split_tells n [] (suc m) order begun = absurd (omega arith)
split_tells n (t ∷ all) m order begun = elim (cases_eq m (suc (length all))) [
  | inl whole ↦
      let began : t.since ≤ n = begun.before (length all) t (omega arith) (newest_one t all) in
      cond-true (nat_le t.since n) t.host (held_as_of n all) (le-leb t.since n began)
      ∙ ap (λ (o : Option Tenure). option_and_then (λ (u : Tenure). u.host) o) (sym (newest_one t all)) ∙ ap (host_before (t ∷ all)) (sym whole)
  | inr part ↦
      let later : n < t.since = begun.after (length all) t (omega arith) (newest_one t all) in
      let rest : AreBegun n all m m = record {
        before = λ i s less at. let inside = before_end all i s at in begun.before i s less (older_one t all i inside ∙ at);
        after = λ i s least at. let inside = before_end all i s at in begun.after i s least (older_one t all i inside ∙ at);
      } in
      cond-false (nat_le t.since n) t.host (held_as_of n all) (lt-leb t.since n later)
      ∙ split_tells n all m (omega arith) rest ∙ host_older t all m (omega arith)
]

abbrev pub no_held : Option Held
no_held = None

-- the host that a row of the table has
abbrev pub host_in : Option Held → Option ℕ
host_in None = None
host_in (Some t) = option_map (λ (h : HostNo). h.0) t.host

host_in_is : (found : Option Held) → host_in found ≡ option_and_then (λ (t : Tenure). t.host) (option_map tenure_of found)
host_in_is None = refl
host_in_is (Some t) = refl

pub held_by_none : (n m : ℕ) (all : List Tenure) → m ≤ length all → AreBegun n all m m → m ≡ 0 → None ≡ held_as_of n all
held_by_none n m all order begun none = sym (split_tells n all m order begun ∙ ap (host_before all) none)

pub held_by_last : (n m : ℕ) (all : List Tenure) (found : Option Held) → m ≤ length all → AreBegun n all m m → m ≢ 0 →
    option_map tenure_of found ≡ tenure_after all (m - 1) → host_in found ≡ held_as_of n all
held_by_last n m all found order begun some at =
    let whole : suc (m - 1) ≡ m = omega arith in
    host_in_is found ∙ ap (λ (o : Option Tenure). option_and_then (λ (t : Tenure). t.host) o) at
    ∙ ap (host_before all) whole ∙ sym (split_tells n all m order begun)

pub none_at : (n place : ℕ) (all : List Tenure) (begun : Bool) → None ≡ tenure_after all place → IsBegunAt n all place begun
none_at n place all begun at = λ t same. absurd (none-some t (at ∙ same))

pub some_at : (n place : ℕ) (all : List Tenure) (held : Held) → Some (tenure_of held) ≡ tenure_after all place → IsBegunAt n all place (nat_le held.since n)
some_at n place all held at = λ t same. ap (λ (u : Tenure). nat_le u.since n) (same_Some (tenure_of held) t (at ∙ same))

-- the search for the last that began
pub none_searched : (n count : ℕ) (all : List Tenure) → count ≡ length all → AreBegun n all 0 count
none_searched n count all is = record {
  before = λ i t less at. absurd (omega arith);
  after = λ i t least at. let inside = before_end all i t at in absurd (omega arith);
}

pub more_begun : (n low high middle : ℕ) (past : List Entry) (x : ℕ) → middle < high → high ≤ length (tenures past x) → AreBegun n (tenures past x) low high →
    IsBegunAt n (tenures past x) middle true → AreBegun n (tenures past x) (middle + 1) high
more_begun n low high middle past x less within_all begun is = record {
  before = λ i t before at.
      let all = tenures past x in
      let w = there_is all middle (omega arith) in
      let began : w.0.since ≤ n = leb-true w.0.since n (sym (is w.0 w.1)) in
      let order = rising (length past) all i middle t w.0 (falling past x) (omega arith) at w.1 in
      omega arith;
  after = begun.after;
}

pub fewer_begun : (n low high middle : ℕ) (past : List Entry) (x : ℕ) → middle < high → high ≤ length (tenures past x) → AreBegun n (tenures past x) low high →
    IsBegunAt n (tenures past x) middle false → AreBegun n (tenures past x) low middle
fewer_begun n low high middle past x less within_all begun is = record {
  before = begun.before;
  after = λ i t least at.
      let all = tenures past x in
      let w = there_is all middle (omega arith) in
      let late : n < w.0.since = not_begun w.0.since n (sym (is w.0 w.1)) in
      let order = rising (length past) all middle i w.0 t (falling past x) least w.1 at in
      omega arith;
}
  where
    not_begun : (a b : ℕ) → nat_le a b ≡ false → b < a
    not_begun a b none = elim (cases_lt b a) [
      | inl lower ↦ lower
      | inr least ↦ absurd (both_ways (nat_le a b) none (le-leb a b least))
    ]

-- an address has one tenure more
longer : (all : ℕ → List Tenure) (x k place : ℕ) (t : Tenure) (b : Bool) → (x == k) ≡ b → place ≡ length (all x) →
    cond b (place + 1) (length (all k)) ≡ length (cond b (t ∷ all k) (all k))
longer all x k place t true is long = let many = long ∙ ap (λ m. length (all m)) (eqb-true x k is) in omega arith
longer all x k place t false is long = refl

placed : (all : ℕ → List Tenure) (x place : ℕ) (k : Term) (t : Held) (before : Option Held) (b : Bool) → (x == k.address) ≡ b → place ≡ length (all x) →
    option_map tenure_of before ≡ tenure_after (all k.address) k.place →
    option_map tenure_of (cond (b && (place == k.place)) (Some t) before) ≡ tenure_after (cond b (tenure_of t ∷ all k.address) (all k.address)) k.place
placed all x place k t before true is long was =
    let many : place ≡ length (all k.address) = long ∙ ap (λ m. length (all m)) (eqb-true x k.address is) in
    by (place == k.place) ∙ ap (λ m. cond (m == k.place) (Some (tenure_of t)) (tenure_after (all k.address) k.place)) many
  where
    by : (c : Bool) → option_map tenure_of (cond c (Some t) before) ≡ cond c (Some (tenure_of t)) (tenure_after (all k.address) k.place)
    by true = refl
    by false = was
placed all x place k t before false is long was = was

pub tenures_now : (counts now : List (ℕ × ℕ)) (terms newer : List (Term × Held)) (all : ℕ → List Tenure) (x place next : ℕ) (t : Held) →
    AreTenures counts terms all →
    place ≡ unwrap_or (lookup (λ y. x == y) counts) 0 → next ≡ place + 1 →
    ((k : ℕ) → lookup (λ y. k == y) now ≡ cond (x == k) (Some next) (lookup (λ y. k == y) counts)) →
    ((k : Term) → lookup (same_term k) newer ≡ cond (same_term (record { address = x; place = place }) k) (Some t) (lookup (same_term k) terms)) →
    AreTenures now newer (one_more all x (tenure_of t))
tenures_now counts now terms newer all x place next t are at more counted said =
    let long : place ≡ length (all x) = at ∙ are.many x in record {
      many = λ k.
          ap (λ (o : Option ℕ). unwrap_or o 0) (counted k) ∙ value_now (x == k) next 0 (lookup (λ y. k == y) counts)
          ∙ ap₂ (λ (m l : ℕ). cond (x == k) m l) more (are.many k) ∙ longer all x k place (tenure_of t) (x == k) refl long;
      each = λ k. ap (option_map tenure_of) (said k) ∙ placed all x place k t (lookup (same_term k) terms) (x == k.address) refl long (are.each k);
    }

-- how many there are is within the entries
pub few_tenures : (past : List Entry) (x : ℕ) → length (tenures past x) ≤ length past
few_tenures [] x = omega arith
few_tenures (Granted y h e p ∷ past) x =
    let before = few_tenures past x in
    let new : Tenure = record { since = length past + 1; host = Some h.0 } in
    cond_both (pmac_number y == x) (new ∷ tenures past x) (tenures past x) (λ (all : List Tenure). length all ≤ suc (length past)) (λ t. omega arith)
    (λ t. omega arith)
few_tenures (Freed y ∷ past) x =
    let before = few_tenures past x in
    let new : Tenure = record { since = length past + 1; host = None } in
    cond_both (pmac_number y == x) (new ∷ tenures past x) (tenures past x) (λ (all : List Tenure). length all ≤ suc (length past)) (λ t. omega arith)
    (λ t. omega arith)
few_tenures (entry ∷ past) x = let before = few_tenures past x in omega arith

few_free : (live : ℕ → Bool) (past : List Entry) (there : EdgePort) → free_there live past there ≤ length past
few_free live [] there = omega arith
few_free live (Granted y h e p ∷ past) there =
    let before = few_free live past there in
    cond_both (same_edge_port (at_port e.0 p) there && not (live (pmac_number y)) && not (is_granted_at past (pmac_number y) there))
    (free_there live past there + 1) (free_there live past there) (λ n. n ≤ suc (length past)) (λ t. omega arith) (λ t. omega arith)
few_free live (entry ∷ past) there = let before = few_free live past there in omega arith

-- one address is live for one test and not for the other
step_same : (at granted : Bool) (r l : ℕ) → r ≡ cond granted (l + 1) l →
    cond (at && not false && not granted) (r + 1) r
    ≡ cond ((true && at) || granted) (cond (at && not true && not granted) (l + 1) l + 1) (cond (at && not true && not granted) (l + 1) l)
step_same true true r l is = is
step_same true false r l is = ap (λ m. m + 1) is
step_same false true r l is = is
step_same false false r l is = is

step_other : (at b q granted : Bool) (r l : ℕ) → r ≡ cond granted (l + 1) l →
    cond (at && not b && not q) (r + 1) r
    ≡ cond ((false && at) || granted) (cond (at && not b && not q) (l + 1) l + 1) (cond (at && not b && not q) (l + 1) l)
step_other at b q granted r l is = by (at && not b && not q) granted is
  where
    by : (c g : Bool) → r ≡ cond g (l + 1) l → cond c (r + 1) r ≡ cond g (cond c (l + 1) l + 1) (cond c (l + 1) l)
    by true true same = ap (λ m. m + 1) same
    by true false same = ap (λ m. m + 1) same
    by false true same = same
    by false false same = same

module _ (l r : ℕ → Bool) (n : ℕ) (others : (m : ℕ) → m ≢ n → l m ≡ r m) (on : l n ≡ true) (off : r n ≡ false) where
  turned_at : (m : ℕ) (past : List Entry) (there : EdgePort) (at : Bool) →
      free_there r past there ≡ cond (is_granted_at past n there) (free_there l past there + 1) (free_there l past there) →
      cond (at && not (r m) && not (is_granted_at past m there)) (free_there r past there + 1) (free_there r past there)
      ≡ cond (((m == n) && at) || is_granted_at past n there)
      (cond (at && not (l m) && not (is_granted_at past m there)) (free_there l past there + 1) (free_there l past there) + 1)
      (cond (at && not (l m) && not (is_granted_at past m there)) (free_there l past there + 1) (free_there l past there))
  turned_at m past there at before = elim (cases_eq m n) [
    | inl same ↦
        let both = eq-eqb n n refl in
        rw same (rw both (rw on (rw off (step_same at (is_granted_at past n there) (free_there r past there) (free_there l past there) before))))
    | inr other ↦
        let alike = sym (others m other) in
        let apart = ne_eqb m n other in
        rw alike (rw apart (step_other at (l m) (is_granted_at past m there) (is_granted_at past n there) (free_there r past there) (free_there l past there)
        before))
  ]

  one_turns : (past : List Entry) (there : EdgePort) →
      free_there r past there ≡ cond (is_granted_at past n there) (free_there l past there + 1) (free_there l past there)
  one_turns [] there = refl
  one_turns (Granted y h e p ∷ past) there = turned_at (pmac_number y) past there (same_edge_port (at_port e.0 p) there) (one_turns past there)
  one_turns (entry ∷ past) there = one_turns past there

-- all are live where none is not
and_none : (b : Bool) → (b && false) ≡ false
and_none true = refl
and_none false = refl

missing_at : (live : ℕ → Bool) (n m : ℕ) (at all granted : Bool) → (((m == n) && at) || granted) ≡ true → live n ≡ false → (granted ≡ true → all ≡ false) →
    ((not at || live m) && all) ≡ false
missing_at live n m at all granted some off rest = elim (or_cases ((m == n) && at) granted some) [
  | inl here ↦
      let parts = and_parts (m == n) at here in
      let there = parts.1 in
      let gone : live m ≡ false = ap live (eqb-true m n parts.0) ∙ off in
      rw there (rw gone refl)
  | inr before ↦ let none = rest before in rw none (and_none (not at || live m))
]

missing : (live : ℕ → Bool) (past : List Entry) (n : ℕ) (there : EdgePort) → is_granted_at past n there ≡ true → live n ≡ false →
    are_live_there live past there ≡ false
missing live [] n there some off = absurd (false≢true some)
missing live (Granted y h e p ∷ past) n there some off =
    missing_at live n (pmac_number y) (same_edge_port (at_port e.0 p) there) (are_live_there live past there) (is_granted_at past n there) some off
    (λ before. missing live past n there before off)
missing live (entry ∷ past) n there some off = missing live past n there some off

none_free : (at b granted all : Bool) (many : ℕ) → all ≡ (many == 0) → (granted ≡ true → b ≡ false → all ≡ false) →
    ((not at || b) && all) ≡ (cond (at && not b && not granted) (many + 1) many == 0)
none_free true true granted all many is gone = is
none_free true false true all many is gone = sym (gone refl refl) ∙ is
none_free true false false all many is gone = sym (ne_eqb (many + 1) 0 (omega arith))
none_free false b granted all many is gone = is

pub all_are_live : (live : ℕ → Bool) (past : List Entry) (there : EdgePort) → are_live_there live past there ≡ (free_there live past there == 0)
all_are_live live [] there = refl
all_are_live live (Granted y h e p ∷ past) there =
    none_free (same_edge_port (at_port e.0 p) there) (live (pmac_number y)) (is_granted_at past (pmac_number y) there) (are_live_there live past there)
    (free_there live past there)
    (all_are_live live past there) (λ some off. missing live past (pmac_number y) there some off)
all_are_live live (entry ∷ past) there = all_are_live live past there

-- an address is granted at one port alone
alike_true : (a b : Bool) → are_alike a b ≡ true → a ≡ true → b ≡ true
alike_true true true alike is = refl
alike_true true false alike is = absurd (false≢true alike)
alike_true false b alike is = absurd (false≢true is)

earlier : (plan : Plan) (past : List Entry) (y : Pmac) (here there : EdgePort) → RunTo plan past → AreFit past → PmacFits y → y.port ≡ here.port →
    is_of_edge past y here.edge ≡ true → is_granted_at past (pmac_number y) there ≡ true → same_edge_port here there ≡ true
earlier plan [] y here there run fit fits port edge some = absurd (false≢true some)
earlier plan (Granted z h e p ∷ past) y here there run fit fits port edge some =
    let edges = and_parts (are_alike (same_pod_and_position y z) (e.0 == here.edge)) (is_of_edge past y here.edge) edge in
    elim (or_cases ((pmac_number z == pmac_number y) && same_edge_port (at_port e.0 p) there) (is_granted_at past (pmac_number y) there) some) [
      | inl both ↦
          let parts = and_parts (pmac_number z == pmac_number y) (same_edge_port (at_port e.0 p) there) both in
          let at = and_parts (e.0 == there.edge) (p == there.port) parts.1 in
          let same : z ≡ y = same_pmac_number z y fit.1 fits (eqb-true (pmac_number z) (pmac_number y) parts.0) in
          let alike : same_pod_and_position y z ≡ true = and_both (y.pod == z.pod) (y.position == z.position)
          (eq-eqb y.pod z.pod (ap (λ (x : Pmac). x.pod) (sym same))) (eq-eqb y.position z.position (ap (λ (x : Pmac). x.position) (sym same))) in
          let first : e.0 ≡ here.edge = eqb-true e.0 here.edge (alike_true (same_pod_and_position y z) (e.0 == here.edge) edges.0 alike) in
          and_both (here.edge == there.edge) (here.port == there.port) (eq-eqb here.edge there.edge (sym first ∙ eqb-true e.0 there.edge at.0))
          (eq-eqb here.port there.port (sym port ∙ ap (λ (x : Pmac). x.port) (sym same) ∙ run.1.port ∙ eqb-true p there.port at.1))
      | inr before ↦ earlier plan past y here there run.0 fit.0 fits port edges.1 before
    ]
  where
    and_both : (a b : Bool) → a ≡ true → b ≡ true → (a && b) ≡ true
    and_both true b is also = also
    and_both false b is also = is
earlier plan (entry ∷ past) y here there run fit fits port edge some = earlier plan past y here there run.0 fit fits port edge some

granted_at_port : (plan : Plan) (past : List Entry) → RunTo plan past → AreFit past → (n : ℕ) (there : EdgePort) →
    is_granted_at past n there ≡ is_at (edge_port past n) there
granted_at_port plan [] run fit n there = refl
granted_at_port plan (Granted y h e p ∷ past) run fit n there =
    by (pmac_number y == n) refl (same_edge_port (at_port e.0 p) there) refl (is_granted_at past n there) refl (granted_at_port plan past run.0 fit.0 n there)
  where
    by : (t : Bool) → (pmac_number y == n) ≡ t → (at : Bool) → same_edge_port (at_port e.0 p) there ≡ at → (before : Bool) →
        is_granted_at past n there ≡ before →
        before ≡ is_at (edge_port past n) there →
        ((t && at) || before) ≡ is_at (cond t (Some (at_port e.0 p)) (edge_port past n)) there
    by true same true at before was is = sym at
    by true same false at false was is = sym at
    by true same false at true was is =
        sym (earlier plan past y (at_port e.0 p) there run.0 fit.0 fit.1 run.1.port run.1.edge
        (ap (λ m. is_granted_at past m there) (eqb-true (pmac_number y) n same) ∙ was))
    by false other at is_at_it before was is = is
granted_at_port plan (entry ∷ past) run fit n there = granted_at_port plan past run.0 fit n there

-- how many are not live once an address is granted or freed
never : (at b granted : Bool) (many : ℕ) → b ≡ true → cond (at && not b && not granted) (many + 1) many ≡ many
never true true granted many is = refl
never true false granted many is = absurd (false≢true is)
never false b granted many is = refl

one_less : (b : Bool) (r l : ℕ) → r ≡ cond b (l + 1) l → l ≡ cond b (r - 1) r
one_less true r l is = omega arith
one_less false r l is = sym is

granted_free : (plan : Plan) (past : List Entry) (x : Pmac) (h : HostNo) (e : SwitchNo) (p : ℕ) (there : EdgePort) → RunTo plan past → AreFit past →
    is_live past (pmac_number x) ≡ false →
    free_there (is_live (Granted x h e p ∷ past)) (Granted x h e p ∷ past) there
    ≡ cond (is_at (edge_port past (pmac_number x)) there) (free_there (is_live past) past there - 1) (free_there (is_live past) past there)
granted_free plan past x h e p there run fit none =
    let n = pmac_number x in
    let on : is_live (Granted x h e p ∷ past) n ≡ true = left_true (n == n) (is_live past n) (eq-eqb n n refl) in
    let turn = one_turns (is_live (Granted x h e p ∷ past)) (is_live past) n
    (λ m other. left_false (n == m) (is_live past m) (ne_eqb n m (λ same. other (sym same)))) on none past there in
    never (same_edge_port (at_port e.0 p) there) (is_live (Granted x h e p ∷ past) n) (is_granted_at past n there)
    (free_there (is_live (Granted x h e p ∷ past)) past there) on
    ∙ one_less (is_at (edge_port past n) there) (free_there (is_live past) past there) (free_there (is_live (Granted x h e p ∷ past)) past there)
    (turn ∙ ap (λ b. cond b (free_there (is_live (Granted x h e p ∷ past)) past there + 1) (free_there (is_live (Granted x h e p ∷ past)) past there))
    (granted_at_port plan past run fit n there))
  where
    left_true : (a b : Bool) → a ≡ true → (a || b) ≡ true
    left_true true b is = refl
    left_true false b is = absurd (false≢true is)

    left_false : (a b : Bool) → a ≡ false → (a || b) ≡ b
    left_false true b is = absurd (false≢true (sym is))
    left_false false b is = refl

freed_free : (plan : Plan) (past : List Entry) (x : Pmac) (there : EdgePort) → RunTo plan past → AreFit past → is_live past (pmac_number x) ≡ true →
    free_there (is_live (Freed x ∷ past)) (Freed x ∷ past) there
    ≡ cond (is_at (edge_port past (pmac_number x)) there) (free_there (is_live past) past there + 1) (free_there (is_live past) past there)
freed_free plan past x there run fit live =
    let n = pmac_number x in
    one_turns (is_live past) (is_live (Freed x ∷ past)) n (λ m other. sym (stays (n == m) (is_live past m) (ne_eqb n m (λ same. other (sym same))))) live
    (goes (n == n) (is_live past n) (eq-eqb n n refl)) past there
    ∙ ap (λ b. cond b (free_there (is_live past) past there + 1) (free_there (is_live past) past there)) (granted_at_port plan past run fit n there)
  where
    stays : (a b : Bool) → a ≡ false → (not a && b) ≡ b
    stays true b is = absurd (false≢true (sym is))
    stays false b is = refl

    goes : (a b : Bool) → a ≡ true → (not a && b) ≡ false
    goes true b is = refl
    goes false b is = absurd (false≢true is)

-- the count of one port
abbrev made : ℕ → ℕ → Point
made edge port = record { edge = record { 0 = edge }; port = port }

same_points : (a b : Point) → same_point a b ≡ true → a ≡ b
same_points a b same =
    let parts = and_parts (a.edge.0 == b.edge.0) (a.port == b.port) same in
    ap₂ made (eqb-true a.edge.0 b.edge.0 parts.0) (eqb-true a.port b.port parts.1)

pub one_count : (old now : List (Point × ℕ)) (there k : Point) (value : ℕ) (f : ℕ → ℕ) →
    lookup (same_point k) now ≡ cond (same_point there k) (Some value) (lookup (same_point k) old) →
    (there ≡ k → value ≡ f (free_in old k)) → free_in now k ≡ cond (same_point there k) (f (free_in old k)) (free_in old k)
one_count old now there k value f said is =
    ap (λ (o : Option ℕ). unwrap_or o 0) said ∙ value_now (same_point there k) value 0 (lookup (same_point k) old) ∙ by (same_point there k) refl
  where
    by : (b : Bool) → same_point there k ≡ b → cond b value (free_in old k) ≡ cond b (f (free_in old k)) (free_in old k)
    by true same = is (same_points there k same)
    by false apart = refl

-- what is kept once an address is granted or freed
or_is : (b live before : Bool) → before ≡ live → cond b true before ≡ (b || live)
or_is true live before is = refl
or_is false live before is = is

and_is : (b live before : Bool) → before ≡ live → cond b false before ≡ (not b && live)
and_is true live before is = refl
and_is false live before is = is

abbrev from_now : ℕ → Option ℕ → Tenure
from_now n host = record { since = n; host = host }

module _ (plan : Plan) (past : List Entry) (h now : Holders) (x : Pmac) (n address : ℕ) (there : Option EdgePort) (run : RunTo plan past) (fit : AreFit past)
    (keeps : KeepsHolders past h)
    (next : n ≡ length past + 1) (at : address ≡ pmac_number x) (where_it_is : there ≡ edge_port past address) where
  at_it : there ≡ edge_port past (pmac_number x)
  at_it = where_it_is ∙ ap (edge_port past) at

  pub granted_holders : (host : HostNo) (e : SwitchNo) (p : ℕ) → is_live past address ≡ false →
      ((k : ℕ) → lookup (λ y. k == y) now.live.said.entries ≡ cond (address == k) (Some true) (lookup (λ y. k == y) h.live.said.entries)) →
      AreTenures now.counts.said.entries now.terms.said.entries (one_more (tenures past) address (from_now n (Some host.0))) →
      ((k : Point) → free_in now.free.said.entries k ≡ cond (is_at there (edge_port_at k)) (free_in h.free.said.entries k - 1)
      (free_in h.free.said.entries k)) →
      KeepsHolders (Granted x host e p ∷ past) now
  granted_holders host e p none lives are frees =
      let fresh : is_live past (pmac_number x) ≡ false = ap (is_live past) (sym at) ∙ none in record {
        live = λ k.
            ap (λ (o : Option Bool). unwrap_or o false) (lives k) ∙ value_now (address == k) true false (lookup (λ y. k == y) h.live.said.entries)
            ∙ or_is (address == k) (is_live past k) (unwrap_or (lookup (λ y. k == y) h.live.said.entries) false) (keeps.live k)
            ∙ ap (λ m. (m == k) || is_live past k) at;
        tenures = subst (λ m. AreTenures now.counts.said.entries now.terms.said.entries (one_more (tenures past) (pmac_number x) (from_now m (Some host.0))))
            next
            (subst (λ m. AreTenures now.counts.said.entries now.terms.said.entries (one_more (tenures past) m (from_now n (Some host.0)))) at are);
        free = λ k.
            frees k ∙ ap₂ (λ (o : Option EdgePort) m. cond (is_at o (edge_port_at k)) (m - 1) m) at_it (keeps.free k)
            ∙ sym (granted_free plan past x host e p (edge_port_at k) run fit fresh);
      }

  pub freed_holders : is_live past address ≡ true → n < 2 ^ 64 →
      ((k : ℕ) → lookup (λ y. k == y) now.live.said.entries ≡ cond (address == k) (Some false) (lookup (λ y. k == y) h.live.said.entries)) →
      AreTenures now.counts.said.entries now.terms.said.entries (one_more (tenures past) address (from_now n None)) →
      ((k : Point) → free_in h.free.said.entries k + 1 < 2 ^ 64 →
      free_in now.free.said.entries k ≡ cond (is_at there (edge_port_at k)) (free_in h.free.said.entries k + 1) (free_in h.free.said.entries k)) →
      KeepsHolders (Freed x ∷ past) now
  freed_holders live room lives are frees =
      let some : is_live past (pmac_number x) ≡ true = ap (is_live past) (sym at) ∙ live in record {
        live = λ k.
            ap (λ (o : Option Bool). unwrap_or o false) (lives k) ∙ value_now (address == k) false false (lookup (λ y. k == y) h.live.said.entries)
            ∙ and_is (address == k) (is_live past k) (unwrap_or (lookup (λ y. k == y) h.live.said.entries) false) (keeps.live k)
            ∙ ap (λ m. not (m == k) && is_live past k) at;
        tenures = subst (λ m. AreTenures now.counts.said.entries now.terms.said.entries (one_more (tenures past) (pmac_number x) (from_now m None))) next
            (subst (λ m. AreTenures now.counts.said.entries now.terms.said.entries (one_more (tenures past) m (from_now n None))) at are);
        free = λ k.
            let few = few_free (is_live past) past (edge_port_at k) in
            let small : free_in h.free.said.entries k + 1 < 2 ^ 64 = let same = keeps.free k in omega arith in
            frees k small ∙ ap₂ (λ (o : Option EdgePort) m. cond (is_at o (edge_port_at k)) (m + 1) m) at_it (keeps.free k)
            ∙ sym (freed_free plan past x (edge_port_at k) run fit some);
      }
