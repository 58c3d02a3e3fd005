-- The number of a pod that is given is the smallest that stands in no place told and was given to no other switch.
use Rattle.std.proofs.Common.{◌≡◌, ◌⊎◌, ◌≤◌, ◌<◌, ℕ, zero, suc, ◌+◌, ◌==◌, ◌||◌, not, Bool, true, false, cond, List, [], ◌∷◌, ◌++◌, length, map, Option, Some, None, is_some, unwrap_or, refl, sym, ap, ◌∙◌, subst, inl, inr, arith, eq-eqb, eqb-true, length-append}
use Rattle.std.specs.List.{cons_option, filter_map, find, list_any, range_with_len}
use Rattle.std.specs.Option.{option_map}
use Rattle.std.specs.Ordering.{is_eq}
use Rattle.std.proofs.lemmas.Bool.{both_ways, cases_Bool, cases_eq, cases_lt, cond_both, false≢true, or_cases, or_left, or_right}
use Rattle.std.proofs.lemmas.List.{length-map}
use Rattle.std.proofs.lemmas.Map.Steps.{le-length_from_below}
use Rattle.std.proofs.lemmas.Option.{none-some, same_Some}
use Rattle.pl_frame.specs.declared.address.SwitchId.{SwitchId}
use Rattle.pl_frame.proofs.Exports.{same_id}
use Rattle.pl_layouts.specs.declared.place.Place.{Place}
use Rattle.pl_layouts.specs.Equality.{same_switch}
use Rattle.pl_layouts.specs.Placement.{is_known, nowhere}
use Rattle.pl_node.specs.declared.pod_given.PodGiven.{PodGiven}
use Rattle.pl_node.specs.ManagerViews.{Told, first_free, id_cmp, is_given_pod, is_taken, is_told_pod, pod_given, value_at}
use Rattle.pl_manager_rule.specs.ManagerRule.{with_asker}

-- ---- the smallest free number
record IsFirst (test : ℕ → Bool) (from at : ℕ) : Type 0 where
  passes : test at ≡ true
  least : (k : ℕ) → from ≤ k → k < at → test k ≡ false
  reached : from ≤ at

found : (test : ℕ → Bool) (n from : ℕ) → ((at : ℕ) × (find test (range_with_len from n) ≡ Some at) × IsFirst test from at × (at < from + n))
    ⊎ ((k : ℕ) → from ≤ k → k < from + n → test k ≡ false)
found test zero from = inr (λ k low high. absurd (omega arith))
found test (suc n) from = by (test from) refl (found test n (from + 1))
  where
    by : (b : Bool) → test from ≡ b →
        (((at : ℕ) × (find test (range_with_len (from + 1) n) ≡ Some at) × IsFirst test (from + 1) at × (at < from + 1 + n)) ⊎ ((k : ℕ) → from + 1 ≤ k → k < from + 1 + n → test k ≡ false)) →
        ((at : ℕ) × (cond b (Some from) (find test (range_with_len (from + 1) n)) ≡ Some at) × IsFirst test from at × (at < from + suc n))
        ⊎ ((k : ℕ) → from ≤ k → k < from + suc n → test k ≡ false)
    by true is rest = inl (from, refl, record { passes = is; least = λ k low high. absurd (omega arith); reached = omega arith }, omega arith)
    by false is (inl at) =
        let first = at.2 in let low = first.reached in let high = at.3 in
        inl (
          at.0,
          at.1,
          record {
            passes = first.passes;
            least = λ k from_k k_at. elim (cases_Bool (from == k)) [
              | inl same ↦ subst (λ m. test m ≡ false) (eqb-true from k same) is
              | inr other ↦ let apart : from ≡ k → ⊥ = λ e. false≢true (sym other ∙ eq-eqb from k e) in first.least k (omega (arith, apart)) k_at
            ];
            reached = omega arith;
          },
          omega (arith, high),
        )
    by false is (inr none) = inr (λ k low high. elim (cases_Bool (from == k)) [
      | inl same ↦ subst (λ m. test m ≡ false) (eqb-true from k same) is
      | inr other ↦ let apart : from ≡ k → ⊥ = λ e. false≢true (sym other ∙ eq-eqb from k e) in none k (omega (arith, apart)) (omega arith)
    ])

not_true : (b : Bool) → not b ≡ true → b ≡ false
not_true true h = absurd (false≢true h)
not_true false h = refl

not_false : (b : Bool) → not b ≡ false → b ≡ true
not_false true h = refl
not_false false h = absurd (false≢true (sym h))

-- it is not taken, and all smaller ones are
pub record IsFree (told : Told) (pods : List PodGiven) (n : ℕ) : Type 0 where
  pub free : is_taken told pods n ≡ false
  pub smallest : (k : ℕ) → k < n → is_taken told pods k ≡ true

-- ---- what is taken, as a list
abbrev pub is_in : List ℕ → ℕ → Bool
is_in ns n = list_any (λ m. n == m) ns

abbrev told_pods : List (SwitchId × Place) → List ℕ
told_pods places = filter_map (λ (p : SwitchId × Place). p.1.pod) places

in_cons : (o : Option ℕ) (xs : List ℕ) (n : ℕ) → (is_known o n ≡ true) ⊎ (is_in xs n ≡ true) → is_in (cons_option o xs) n ≡ true
in_cons None xs n (inl h) = absurd (false≢true h)
in_cons None xs n (inr h) = h
in_cons (Some m) xs n (inl h) = or_left (n == m) (is_in xs n) (eq-eqb n m (sym (eqb-true m n h)))
in_cons (Some m) xs n (inr h) = or_right (n == m) (is_in xs n) h

told_in : (places : List (SwitchId × Place)) (n : ℕ) → list_any (λ (p : SwitchId × Place). is_known p.1.pod n) places ≡ true → is_in (told_pods places) n ≡ true
told_in [] n h = absurd (false≢true h)
told_in (p ∷ places) n h = by (is_known p.1.pod n) refl (λ k. told_in places n k) h
  where
    by : (b : Bool) → is_known p.1.pod n ≡ b → (list_any (λ (q : SwitchId × Place). is_known q.1.pod n) places ≡ true → is_in (told_pods places) n ≡ true) →
        (b || list_any (λ (q : SwitchId × Place). is_known q.1.pod n) places) ≡ true → is_in (told_pods (p ∷ places)) n ≡ true
    by true is rest h = in_cons p.1.pod (told_pods places) n (inl is)
    by false is rest h = in_cons p.1.pod (told_pods places) n (inr (rest h))

given_in : (pods : List PodGiven) (n : ℕ) → is_given_pod pods n ≡ true → is_in (map (λ (g : PodGiven). g.pod) pods) n ≡ true
given_in [] n h = absurd (false≢true h)
given_in (g ∷ pods) n h = by (g.pod == n) refl (λ k. given_in pods n k) h
  where
    by : (b : Bool) → (g.pod == n) ≡ b → (is_given_pod pods n ≡ true → is_in (map (λ (q : PodGiven). q.pod) pods) n ≡ true) → (b || is_given_pod pods n) ≡ true →
        ((n == g.pod) || is_in (map (λ (q : PodGiven). q.pod) pods) n) ≡ true
    by true is rest h = or_left (n == g.pod) (is_in (map (λ (q : PodGiven). q.pod) pods) n) (eq-eqb n g.pod (sym (eqb-true g.pod n is)))
    by false is rest h = or_right (n == g.pod) (is_in (map (λ (q : PodGiven). q.pod) pods) n) (rest h)

in_both : (xs ys : List ℕ) (n : ℕ) → (is_in xs n ≡ true) ⊎ (is_in ys n ≡ true) → is_in (xs ++ ys) n ≡ true
in_both [] ys n (inl h) = absurd (false≢true h)
in_both [] ys n (inr h) = h
in_both (x ∷ xs) ys n h = by (λ k. in_both xs ys n k) (n == x) h
  where
    by : ((is_in xs n ≡ true) ⊎ (is_in ys n ≡ true) → is_in (xs ++ ys) n ≡ true) → (b : Bool) → ((b || is_in xs n) ≡ true) ⊎ (is_in ys n ≡ true) → (b || is_in (xs ++ ys) n) ≡ true
    by rest true h = refl
    by rest false h = rest h

taken_in : (told : Told) (pods : List PodGiven) (n : ℕ) → is_taken told pods n ≡ true → is_in (told_pods told.places ++ map (λ (g : PodGiven). g.pod) pods) n ≡ true
taken_in told pods n h = elim (or_cases (is_told_pod told n) (is_given_pod pods n) h) [
  | inl stands ↦ in_both (told_pods told.places) (map (λ (g : PodGiven). g.pod) pods) n (inl (told_in told.places n stands))
  | inr given ↦ in_both (told_pods told.places) (map (λ (g : PodGiven). g.pod) pods) n (inr (given_in pods n given))
]

few_told : (places : List (SwitchId × Place)) → length (told_pods places) ≤ length places
few_told [] = omega arith
few_told (p ∷ places) = by p.1.pod (few_told places)
  where
    by : (o : Option ℕ) → length (told_pods places) ≤ length places → length (cons_option o (told_pods places)) ≤ suc (length places)
    by None rest = omega (arith, rest)
    by (Some n) rest = omega (arith, rest)

-- ---- the free number
pub first_is_free : (told : Told) (pods : List PodGiven) → IsFree told pods (first_free told pods)
first_is_free told pods = elim (found (λ n. not (is_taken told pods n)) (length told.places + length pods + 1) 0) [
  | inl at ↦
      let is : first_free told pods ≡ at.0 = ap (λ (o : Option ℕ). unwrap_or o 0) at.1 in
      subst (IsFree told pods) (sym is)
      (record { free = not_true (is_taken told pods at.0) at.2.passes; smallest = λ k less. not_false (is_taken told pods k) (at.2.least k (omega arith) less) })
  | inr none ↦
      let all : List ℕ = told_pods told.places ++ map (λ (g : PodGiven). g.pod) pods in
      let many = le-length_from_below all (length told.places + length pods + 1)
      (λ q less. taken_in told pods q (not_false (is_taken told pods q) (none q (omega arith) (omega (arith, less))))) in
      let both = length-append (told_pods told.places) (map (λ (g : PodGiven). g.pod) pods) in
      let given = length-map pods (λ (g : PodGiven). g.pod) in
      let few = few_told told.places in
      absurd (omega (arith, many, both, given, few))
]

-- there is one such number alone
pub one_free : (told : Told) (pods : List PodGiven) (m n : ℕ) → IsFree told pods m → IsFree told pods n → m ≡ n
one_free told pods m n first second = elim (cases_eq m n) [
  | inl same ↦ same
  | inr other ↦ elim (cases_lt m n) [
    | inl less ↦ absurd (both_ways (is_taken told pods m) first.free (second.smallest m less))
    | inr more ↦ absurd (both_ways (is_taken told pods n) second.free (first.smallest n (omega (arith, more, other))))
  ]
]

-- it is at most as large as any list that has all taken ones is long
pub few_free : (told : Told) (pods : List PodGiven) (ys : List ℕ) → ((k : ℕ) → is_taken told pods k ≡ true → is_in ys k ≡ true) → first_free told pods ≤ length ys
few_free told pods ys each = le-length_from_below ys (first_free told pods) (λ q less. each q ((first_is_free told pods).smallest q less))

-- nor larger than there are places told, and switches that asked
pub least_free : (told : Told) (pods : List PodGiven) → first_free told pods ≤ length told.places + length pods
least_free told pods =
    let few = few_free told pods (told_pods told.places ++ map (λ (g : PodGiven). g.pod) pods) (λ k taken. taken_in told pods k taken) in
    let both = length-append (told_pods told.places) (map (λ (g : PodGiven). g.pod) pods) in
    let given = length-map pods (λ (g : PodGiven). g.pod) in
    let places = few_told told.places in
    omega (arith, few, both, given, places)

-- ---- what is told or given is taken
pub told_taken : (places : List (SwitchId × Place)) (s : SwitchId) (n : ℕ) → (unwrap_or (value_at id_cmp places s) nowhere).pod ≡ Some n →
    list_any (λ (p : SwitchId × Place). is_known p.1.pod n) places ≡ true
told_taken [] s n is = absurd (none-some n is)
told_taken (p ∷ places) s n is = by (is_eq (id_cmp s p.0)) (λ h. told_taken places s n h) is
  where
    by : (b : Bool) → ((unwrap_or (value_at id_cmp places s) nowhere).pod ≡ Some n → list_any (λ (q : SwitchId × Place). is_known q.1.pod n) places ≡ true) →
        (unwrap_or (cond b (Some p.1) (value_at id_cmp places s)) nowhere).pod ≡ Some n →
        (is_known p.1.pod n || list_any (λ (q : SwitchId × Place). is_known q.1.pod n) places) ≡ true
    by true rest is =
        or_left (is_known p.1.pod n) (list_any (λ (q : SwitchId × Place). is_known q.1.pod n) places)
        (subst (λ (o : Option ℕ). is_known o n ≡ true) (sym is) (eq-eqb n n refl))
    by false rest is = or_right (is_known p.1.pod n) (list_any (λ (q : SwitchId × Place). is_known q.1.pod n) places) (rest is)

pub given_taken : (pods : List PodGiven) (s : SwitchId) (n : ℕ) → pod_given pods s ≡ Some n → is_given_pod pods n ≡ true
given_taken [] s n is = absurd (none-some n is)
given_taken (g ∷ pods) s n is = by (same_switch g.switch s) (λ h. given_taken pods s n h) is
  where
    by : (b : Bool) → (pod_given pods s ≡ Some n → is_given_pod pods n ≡ true) →
        option_map (λ (q : PodGiven). q.pod) (cond b (Some g) (find (λ (q : PodGiven). same_switch q.switch s) pods)) ≡ Some n → ((g.pod == n) || is_given_pod pods n) ≡ true
    by true rest is = or_left (g.pod == n) (is_given_pod pods n) (eq-eqb g.pod n (same_Some g.pod n is))
    by false rest is = or_right (g.pod == n) (is_given_pod pods n) (rest is)

-- ---- a switch asks
-- a switch has a number where it is among those that asked
pub any_given : (pods : List PodGiven) (s : SwitchId) → list_any (λ g. same_switch g.switch s) pods ≡ is_some (pod_given pods s)
any_given [] s = refl
any_given (g ∷ pods) s = by (same_switch g.switch s) (any_given pods s)
  where
    by : (b : Bool) → list_any (λ g. same_switch g.switch s) pods ≡ is_some (pod_given pods s) →
        (b || list_any (λ g. same_switch g.switch s) pods) ≡ is_some (option_map (λ g. g.pod) (cond b (Some g) (find (λ g. same_switch g.switch s) pods)))
    by true rest = refl
    by false rest = rest

-- no two switches have one number
abbrev pub AreApart : List PodGiven → Type 0
AreApart pods = (a b : SwitchId) (n : ℕ) → pod_given pods a ≡ Some n → pod_given pods b ≡ Some n → a.0 ≡ b.0

module _ (told : Told) (pods : List PodGiven) (s : SwitchId) where
  abbrev free : ℕ
  free = first_free told pods

  abbrev new : PodGiven
  new = record { switch = s; pod = free }

  pub asks_first : pod_given pods s ≡ None → with_asker told pods s ≡ record { switch = s; pod = first_free told pods } ∷ pods
  asks_first none = ap (λ b. cond b pods (new ∷ pods)) (any_given pods s ∙ ap (λ (o : Option ℕ). is_some o) none)

  pub asks_again : (n : ℕ) → pod_given pods s ≡ Some n → with_asker told pods s ≡ pods
  asks_again n is = ap (λ b. cond b pods (new ∷ pods)) (any_given pods s ∙ ap (λ (o : Option ℕ). is_some o) is)

  -- the number of one that asks for the first time
  pub own_number : pod_given pods s ≡ None → pod_given (with_asker told pods s) s ≡ Some (first_free told pods)
  own_number none =
      ap (λ gs. pod_given gs s) (asks_first none)
      ∙ ap (λ b. option_map (λ g. g.pod) (cond b (Some new) (find (λ g. same_switch g.switch s) pods))) (eq-eqb s.0 s.0 refl)

  pub given_is_free : (n : ℕ) → pod_given pods s ≡ None → pod_given (with_asker told pods s) s ≡ Some n → IsFree told pods n
  given_is_free n none is =
      subst (IsFree told pods) (same_Some free n (sym (own_number none) ∙ is)) (first_is_free told pods)

  -- one that was given before is not free
  pub free_given : (b : SwitchId) (n : ℕ) → pod_given pods b ≡ Some n → free ≡ n → ⊥
  free_given b n is same =
      both_ways (is_taken told pods free) (first_is_free told pods).free
      (subst (λ m. is_taken told pods m ≡ true) (sym same) (or_right (is_told_pod told n) (is_given_pod pods n) (given_taken pods b n is)))

  -- a number that is given then was given before, or is the free one
  pub of_either : (b : SwitchId) (n : ℕ) → pod_given (new ∷ pods) b ≡ Some n → ((s.0 ≡ b.0) × (free ≡ n)) ⊎ (pod_given pods b ≡ Some n)
  of_either b n is = by (same_switch s b) refl is
    where
      by : (c : Bool) → same_switch s b ≡ c → option_map (λ g. g.pod) (cond c (Some new) (find (λ g. same_switch g.switch b) pods)) ≡ Some n →
          ((s.0 ≡ b.0) × (free ≡ n)) ⊎ (pod_given pods b ≡ Some n)
      by true same is = inl (eqb-true s.0 b.0 same, same_Some free n is)
      by false other is = inr is

  -- it stays with its switch, whoever asks
  pub number_stays : (t : SwitchId) (n : ℕ) → pod_given pods t ≡ Some n → pod_given (with_asker told pods s) t ≡ Some n
  number_stays t n is =
      cond_both (list_any (λ g. same_switch g.switch s) pods) pods (new ∷ pods) (λ gs. pod_given gs t ≡ Some n) (λ asked. is)
      (λ fresh. by (same_switch s t) refl fresh)
    where
      by : (c : Bool) → same_switch s t ≡ c → list_any (λ g. same_switch g.switch s) pods ≡ false →
          option_map (λ g. g.pod) (cond c (Some new) (find (λ g. same_switch g.switch t) pods)) ≡ Some n
      by false other fresh = is
      by true same fresh =
          let it : s ≡ t = same_id s t (eqb-true s.0 t.0 same) in
          absurd (both_ways (list_any (λ g. same_switch g.switch s) pods) fresh
          (any_given pods s ∙ ap (λ (o : Option ℕ). is_some o) (ap (pod_given pods) it ∙ is)))

  -- so numbers stay apart
  pub apart_then : AreApart pods → AreApart (with_asker told pods s)
  apart_then apart = cond_both (list_any (λ g. same_switch g.switch s) pods) pods (new ∷ pods) AreApart (λ asked. apart)
      (λ fresh a b n is also. elim (of_either a n is) [
        | inl first ↦ elim (of_either b n also) [ inl second ↦ sym first.0 ∙ second.0 | inr before ↦ absurd (free_given b n before first.1) ]
        | inr first ↦ elim (of_either b n also) [ inl second ↦ absurd (free_given a n first second.1) | inr before ↦ apart a b n first before ]
      ])
