-- Switches that are gathered in lists: all of another list, all beside some, all that told something, all below some.
use Rattle.std.proofs.Common.{◌≡◌, ◌⊎◌, Bool, true, false, cond, List, [], ◌∷◌, refl, sym, ap, ◌∙◌, subst, inl, inr}
use Rattle.std.specs.Prelude.{fold}
use Rattle.std.specs.BTreeMap.{is_at}
use Rattle.std.specs.BTreeSet.{insert_key}
use Rattle.std.proofs.lemmas.Bool.{false≢true, or_cases}
use Rattle.pl_frame.specs.declared.address.SwitchId.{SwitchId}
use Rattle.pl_node.specs.AvoidLists.{is_above}
use Rattle.pl_node.specs.ManagerViews.{Told, alive_neighbours, id_cmp}
use Rattle.pl_node.proofs.Exports.{among_insert, id_total}
use Rattle.pl_manager_rule.proofs.Exports.{id_among, id_exact, id_is}
use Rattle.pl_reports.specs.Kept.{has_told, near_of}
use Rattle.pl_faults.specs.Listed.{Hearers, is_in, with_all, with_below, with_beside, with_told}
use Rattle.pl_faults.proofs.Anew.{among_told}
use Rattle.pl_faults.proofs.Filling.{among_fold, among_put_in}

pub in_more : (k t : SwitchId) (xs : List SwitchId) → is_in xs t ≡ true → is_in (insert_key id_cmp xs k) t ≡ true
in_more k t xs h = among_told t (insert_key id_cmp xs k) (among_put_in id_cmp id_total id_exact t k xs (inr (id_among t xs h)))

pub in_itself : (k : SwitchId) (xs : List SwitchId) → is_in (insert_key id_cmp xs k) k ≡ true
in_itself k xs = among_told k (insert_key id_cmp xs k) (among_put_in id_cmp id_total id_exact k k xs (inl refl))

-- ---- all of another list
pub in_all_before : (t : SwitchId) (list more : List SwitchId) → is_in list t ≡ true → is_in (with_all list more) t ≡ true
in_all_before t list more h = among_told t (with_all list more) (among_fold id_cmp id_total id_exact t more list (inl (id_among t list h)))

pub in_all_new : (t : SwitchId) (list more : List SwitchId) → is_in more t ≡ true → is_in (with_all list more) t ≡ true
in_all_new t list more h = among_told t (with_all list more) (among_fold id_cmp id_total id_exact t more list (inr (id_among t more h)))

-- ---- all beside some
module _ (told : Told) (t : SwitchId) where
  pub in_beside_before : (xs list : List SwitchId) → is_in list t ≡ true → is_in (fold (with_beside told) list xs) t ≡ true
  in_beside_before [] list h = h
  in_beside_before (x ∷ xs) list h = in_beside_before xs (with_beside told list x) (in_all_before t list (alive_neighbours told x) h)

  pub in_beside : (x : SwitchId) (xs list : List SwitchId) → is_in xs x ≡ true → is_in (alive_neighbours told x) t ≡ true →
      is_in (fold (with_beside told) list xs) t ≡ true
  in_beside x [] list h near = absurd (false≢true h)
  in_beside x (y ∷ xs) list h near = elim (or_cases (is_at (id_cmp x) y) (is_in xs x) h) [
    | inl here ↦
        in_beside_before xs (with_beside told list y)
        (in_all_new t list (alive_neighbours told y) (subst (λ z. is_in (alive_neighbours told z) t ≡ true) (id_is x y here) near))
    | inr there ↦ in_beside x xs (with_beside told list y) there near
  ]

-- ---- all of another list that pass a test
module _ (test : SwitchId → Bool) (t : SwitchId) where
  abbrev with_passing : List SwitchId → SwitchId → List SwitchId
  with_passing list x = cond (test x) (insert_key id_cmp list x) list

  in_passing_before : (ts list : List SwitchId) → is_in list t ≡ true → is_in (fold with_passing list ts) t ≡ true
  in_passing_before [] list h = h
  in_passing_before (x ∷ ts) list h = by (λ l j. in_passing_before ts l j) (test x)
    where
      by : ((l : List SwitchId) → is_in l t ≡ true → is_in (fold with_passing l ts) t ≡ true) → (b : Bool) →
          is_in (fold with_passing (cond b (insert_key id_cmp list x) list) ts) t ≡ true
      by rest true = rest (insert_key id_cmp list x) (in_more x t list h)
      by rest false = rest list h

  in_passing : (ts list : List SwitchId) → is_in ts t ≡ true → test t ≡ true → is_in (fold with_passing list ts) t ≡ true
  in_passing [] list h passes = absurd (false≢true h)
  in_passing (x ∷ ts) list h passes = elim (or_cases (is_at (id_cmp t) x) (is_in ts t) h) [
    | inl here ↦
        let is : t ≡ x = id_is t x here in
        let put : with_passing list x ≡ insert_key id_cmp list x =
        ap (λ b. cond b (insert_key id_cmp list x) list) (subst (λ z. test z ≡ true) is passes) in
        in_passing_before ts (with_passing list x)
        (ap (λ l. is_in l t) put ∙ subst (λ z. is_in (insert_key id_cmp list x) z ≡ true) (sym is) (in_itself x list))
    | inr there ↦ in_passing ts (with_passing list x) there passes
  ]

  -- one that is there was there, or passes
  passing_from : (ts list : List SwitchId) → is_in (fold with_passing list ts) t ≡ true → (is_in list t ≡ true) ⊎ (test t ≡ true)
  passing_from [] list h = inl h
  passing_from (x ∷ ts) list h = by (λ l j. passing_from ts l j) (test x) refl h
    where
      by : ((l : List SwitchId) → is_in (fold with_passing l ts) t ≡ true → (is_in l t ≡ true) ⊎ (test t ≡ true)) → (b : Bool) → test x ≡ b →
          is_in (fold with_passing (cond b (insert_key id_cmp list x) list) ts) t ≡ true → (is_in list t ≡ true) ⊎ (test t ≡ true)
      by rest true e j = elim (rest (insert_key id_cmp list x) j) [
        | inl there ↦ elim (among_insert id_cmp x t list (id_among t (insert_key id_cmp list x) there)) [
          | inl is ↦ inr (subst (λ z. test z ≡ true) is e)
          | inr old ↦ inl (among_told t list old)
        ]
        | inr passes ↦ inr passes
      ]
      by rest false e j = rest list j

-- ---- all that told something
module _ (told : Told) (t : SwitchId) where
  pub in_told_before : (ts list : List SwitchId) → is_in list t ≡ true → is_in (fold (with_told told) list ts) t ≡ true
  in_told_before = in_passing_before (has_told told) t

  pub in_told : (ts list : List SwitchId) → is_in ts t ≡ true → has_told told t ≡ true → is_in (fold (with_told told) list ts) t ≡ true
  in_told = in_passing (has_told told) t

  pub told_from : (ts list : List SwitchId) → is_in (fold (with_told told) list ts) t ≡ true → (is_in list t ≡ true) ⊎ (has_told told t ≡ true)
  told_from = passing_from (has_told told) t

-- ---- all below some
module _ (told : Told) (t : SwitchId) where
  abbrev Lower : SwitchId → Type 0
  Lower u = is_above told t u ≡ true

  module _ (hearers : Hearers) where
    pub in_below_before : (us list : List SwitchId) → is_in list t ≡ true → is_in (fold (with_below told hearers) list us) t ≡ true
    in_below_before [] list h = h
    in_below_before (u ∷ us) list h = in_below_before us (with_below told hearers list u) (in_passing_before (λ z. is_above told z u) t (near_of hearers u) list h)

    pub in_below : (u : SwitchId) (us list : List SwitchId) → is_in us u ≡ true → is_in (near_of hearers u) t ≡ true → is_above told t u ≡ true →
        is_in (fold (with_below told hearers) list us) t ≡ true
    in_below u [] list h heard above = absurd (false≢true h)
    in_below u (v ∷ us) list h heard above = elim (or_cases (is_at (id_cmp u) v) (is_in us u) h) [
      | inl here ↦
          let is : u ≡ v = id_is u v here in
          in_below_before us (with_below told hearers list v)
          (in_passing (λ z. is_above told z v) t (near_of hearers v) list (subst (λ z. is_in (near_of hearers z) t ≡ true) is heard) (subst (λ z. is_above told t z ≡ true) is above))
      | inr there ↦ in_below u us (with_below told hearers list v) there heard above
    ]

    pub below_from : (us list : List SwitchId) → is_in (fold (with_below told hearers) list us) t ≡ true → (is_in list t ≡ true) ⊎ ((u : SwitchId) × Lower u)
    below_from [] list h = inl h
    below_from (u ∷ us) list h = elim (below_from us (with_below told hearers list u) h) [
      | inl there ↦ elim (passing_from (λ z. is_above told z u) t (near_of hearers u) list there) [ inl was ↦ inl was | inr low ↦ inr (u, low) ]
      | inr low ↦ inr low
    ]
