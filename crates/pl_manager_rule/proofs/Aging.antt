-- What is left of what was learnt once it was told that an address has aged.
use Rattle.std.proofs.Common.{◌≡◌, ℕ, not, Bool, true, false, cond, List, [], ◌∷◌, ◌++◌, map, Option, Some, None, filter, filter_map, refl, sym, ap, subst, ◌∙◌}
use Rattle.std.specs.List.{AllByRecursion, IsDistinct, find}
use Rattle.std.specs.Option.{option_map}
use Rattle.std.proofs.lemmas.Bool.{false≢true, false_from_ne_true}
use Rattle.std.proofs.lemmas.Option.{none-some}
use Rattle.pl_pmac.specs.declared.pmac.Pmac.{Pmac}
use Rattle.pl_layouts.specs.Equality.{same_pmac}
use Rattle.pl_layouts.proofs.Exports.{pmac_is}
use Rattle.pl_node.specs.declared.acts.ManagerAct.{ManagerAct}
use Rattle.pl_node.specs.declared.acts.ManagerAct.TheVariants.{Say}
use Rattle.pl_node.specs.declared.messages.ToSwitch.TheVariants as say
use Rattle.pl_node.specs.ManagerDuties.{numbered_by}
use Rattle.pl_node.specs.ManagerViews.{Learnt, LearntAddress, Recall, Registration, recall_of, registered_as, registration}
use Rattle.pl_manager_rule.specs.ManagerRule.{LearntStep, ages_now, can_release, counts, forgets, hears_aged, nothing_said, releases, releases_as, releases_both, releases_led, with_aged}
use Rattle.pl_manager_rule.proofs.Learning.{find_mapped, same_field}

-- ---- a property of what was learnt that is kept where an address ages, and where one is forgotten
module _ (P : Learnt → Type 0) (ages : (learnt : Learnt) (x : Pmac) → P learnt → P (with_aged learnt x))
    (goes : (learnt : Learnt) (x : Pmac) → P learnt → P (forgets learnt x)) where
  kept_as : (x : Pmac) (learnt : Learnt) (o : Option Registration) → P learnt → P (releases_as x learnt o).learnt
  kept_as x learnt None p = p
  kept_as x learnt (Some r) p = goes learnt x p

  pub kept_released : (x : Pmac) (learnt : Learnt) → P learnt → P (releases x learnt).learnt
  kept_released x learnt p = by (can_release learnt x)
    where
      by : (b : Bool) → P (cond {A = LearntStep} b (releases_as x learnt (registration learnt x)) (nothing_said learnt)).learnt
      by true = kept_as x learnt (registration learnt x) p
      by false = p

  kept_led : (o : Option Recall) (learnt : Learnt) → P learnt → P (releases_led o learnt).learnt
  kept_led None learnt p = p
  kept_led (Some recall) learnt p = kept_released recall.new learnt p

  pub aged_keeps : (learnt : Learnt) (x : Pmac) (n : ℕ) → P learnt → P (hears_aged learnt x n).learnt
  aged_keeps learnt x n p = by (counts learnt x n)
    where
      by : (b : Bool) → P (cond {A = LearntStep} b (releases_both x (recall_of learnt x) (with_aged learnt x)) (nothing_said learnt)).learnt
      by true = kept_led (recall_of learnt x) (releases x (with_aged learnt x)).learnt (kept_released x (with_aged learnt x) (ages learnt x p))
      by false = p

-- ---- lists without some items
module _ {X : Type 0} (p q : X → Bool) where
  pub find_kept : ((x : X) → p x ≡ true → q x ≡ true) → (xs : List X) → find p (filter q xs) ≡ find p xs
  find_kept all [] = refl
  find_kept all (x ∷ xs) = by (find_kept all xs) (q x) refl (p x) refl
    where
      by : find p (filter q xs) ≡ find p xs → (b : Bool) → q x ≡ b → (c : Bool) → p x ≡ c → find p (cond b (x ∷ filter q xs) (filter q xs)) ≡ cond c (Some x) (find p xs)
      by rest true in_q c is = ap (λ d. cond d (Some x) (find p (filter q xs))) is ∙ ap (cond c (Some x)) rest
      by rest false out true is = absurd (false≢true (sym out ∙ all x is))
      by rest false out false is = rest

  pub find_gone : ((x : X) → p x ≡ true → q x ≡ false) → (xs : List X) → find p (filter q xs) ≡ None
  find_gone all [] = refl
  find_gone all (x ∷ xs) = by (find_gone all xs) (q x) refl
    where
      by : find p (filter q xs) ≡ None → (b : Bool) → q x ≡ b → find p (cond b (x ∷ filter q xs) (filter q xs)) ≡ None
      by rest true in_q =
          ap (λ d. cond d (Some x) (find p (filter q xs))) (false_from_ne_true (p x) (λ is. false≢true (sym (all x is) ∙ in_q))) ∙ rest
      by rest false out = rest

-- the rest of a list is apart as the list was
apart_still : {K X : Type 0} (f : X → K) (eq : K → K → Bool) (k : K) (q : X → Bool) (xs : List X) → AllByRecursion (λ y. eq k y ≡ false) (map f xs) →
    AllByRecursion (λ y. eq k y ≡ false) (map f (filter q xs))
apart_still f eq k q [] all = tt
apart_still f eq k q (x ∷ xs) all = by (apart_still f eq k q xs all.1) (q x)
  where
    by : AllByRecursion (λ y. eq k y ≡ false) (map f (filter q xs)) → (b : Bool) →
        AllByRecursion (λ y. eq k y ≡ false) (map f (cond b (x ∷ filter q xs) (filter q xs)))
    by rest true = (all.0, rest)
    by rest false = rest

pub once_still : {K X : Type 0} (f : X → K) (eq : K → K → Bool) (q : X → Bool) (xs : List X) → IsDistinct eq (map f xs) → IsDistinct eq (map f (filter q xs))
unfolding IsDistinct
once_still f eq q [] once = tt
once_still f eq q (x ∷ xs) once = by (once_still f eq q xs once.1) (q x)
  where
    by : IsDistinct eq (map f (filter q xs)) → (b : Bool) → IsDistinct eq (map f (cond b (x ∷ filter q xs) (filter q xs)))
    by rest true = (apart_still f eq (f x) q xs once.0, rest)
    by rest false = rest

-- ---- addresses: each is there once still
pub aged_once : (learnt : Learnt) (x : Pmac) (n : ℕ) → IsDistinct same_pmac (map (λ a. a.pmac) learnt.addresses) →
    IsDistinct same_pmac (map (λ a. a.pmac) (hears_aged learnt x n).learnt.addresses)
aged_once = aged_keeps (λ l. IsDistinct same_pmac (map (λ (a : LearntAddress). a.pmac) l.addresses))
    (λ l x once. subst (IsDistinct same_pmac) (sym (same_field (λ a. a.pmac) (ages_now x) (λ a. refl) l.addresses)) once)
    (λ l x once. once_still (λ (a : LearntAddress). a.pmac) same_pmac (λ a. not (same_pmac a.pmac x)) l.addresses once)

pub aged_count : (learnt : Learnt) (x : Pmac) (n : ℕ) → (hears_aged learnt x n).learnt.count ≡ learnt.count
aged_count learnt x n = aged_keeps (λ l. l.count ≡ learnt.count) (λ l y is. is) (λ l y is. is) learnt x n refl

pub aged_owners : (learnt : Learnt) (x : Pmac) (n : ℕ) → (hears_aged learnt x n).learnt.owners ≡ learnt.owners
aged_owners learnt x n = aged_keeps (λ l. l.owners ≡ learnt.owners) (λ l y is. is) (λ l y is. is) learnt x n refl

pub aged_reported : (learnt : Learnt) (x : Pmac) (n : ℕ) → (hears_aged learnt x n).learnt.reported ≡ learnt.reported
aged_reported learnt x n = aged_keeps (λ l. l.reported ≡ learnt.reported) (λ l y is. is) (λ l y is. is) learnt x n refl

-- ---- registrations: no address is registered anew
-- that one has aged changes none
pub aged_registration : (learnt : Learnt) (x y : Pmac) → registration (with_aged learnt x) y ≡ registration learnt y
aged_registration learnt x y = ap (find (λ r. same_pmac r.pmac y)) (same_field registered_as (ages_now x) (λ a. refl) learnt.addresses)

gone_or_other : (y x : Pmac) → same_pmac y x ≡ false → (a : LearntAddress) → same_pmac a.pmac y ≡ true → not (same_pmac a.pmac x) ≡ true
gone_or_other y x other a is =
    ap not (false_from_ne_true (same_pmac a.pmac x) (λ same. false≢true (sym other ∙ subst (λ (z : Pmac). same_pmac z x ≡ true) (pmac_is a.pmac y is) same)))

pub forgotten_registration : (learnt : Learnt) (x : Pmac) → registration (forgets learnt x) x ≡ None
forgotten_registration learnt x =
    find_mapped (λ (r : Registration). same_pmac r.pmac x) registered_as (filter (λ a. not (same_pmac a.pmac x)) learnt.addresses)
    ∙ ap (option_map registered_as) (find_gone (λ (a : LearntAddress). same_pmac a.pmac x) (λ a. not (same_pmac a.pmac x)) (λ a is. ap not is) learnt.addresses)

pub other_registration : (learnt : Learnt) (x y : Pmac) → same_pmac y x ≡ false → registration (forgets learnt x) y ≡ registration learnt y
other_registration learnt x y other =
    find_mapped (λ (r : Registration). same_pmac r.pmac y) registered_as (filter (λ a. not (same_pmac a.pmac x)) learnt.addresses)
    ∙ ap (option_map registered_as)
    (find_kept (λ (a : LearntAddress). same_pmac a.pmac y) (λ a. not (same_pmac a.pmac x)) (λ a is. gone_or_other y x other a is) learnt.addresses)
    ∙ sym (find_mapped (λ (r : Registration). same_pmac r.pmac y) registered_as learnt.addresses)

-- what is registered then was so before
abbrev pub WasRegistered : Learnt → Learnt → Type 0
WasRegistered before after = (y : Pmac) (r : Registration) → registration after y ≡ Some r → registration before y ≡ Some r

pub forgotten_was : (learnt : Learnt) (x : Pmac) → WasRegistered learnt (forgets learnt x)
forgotten_was learnt x y r is = by (same_pmac y x) refl
  where
    by : (b : Bool) → same_pmac y x ≡ b → registration learnt y ≡ Some r
    by true same =
        absurd (none-some r (sym (forgotten_registration learnt x) ∙ ap (registration (forgets learnt x)) (sym (pmac_is y x same)) ∙ is))
    by false other = sym (other_registration learnt x y other) ∙ is

pub aged_was : (learnt : Learnt) (x : Pmac) (n : ℕ) → WasRegistered learnt (hears_aged learnt x n).learnt
aged_was learnt x n = aged_keeps (WasRegistered learnt)
    (λ l y was z r is. was z r (sym (aged_registration l y z) ∙ is))
    (λ l y was z r is. was z r (forgotten_was l y z r is))
    learnt x n (λ z r is. is)

-- ---- the acts: switches that told an address are told that it is released
pub record IsReleaseOf (learnt : Learnt) (act : ManagerAct) : Type 0 where
  pub pmac : Pmac
  pub reg : Registration
  pub registered : registration learnt pmac ≡ Some reg
  pub is : act ≡ Say reg.switch (say.Release pmac)

abbrev pub AreReleases : Learnt → List ManagerAct → Type 0
AreReleases learnt acts = AllByRecursion (IsReleaseOf learnt) acts

both_releases : (learnt : Learnt) (xs ys : List ManagerAct) → AreReleases learnt xs → AreReleases learnt ys → AreReleases learnt (xs ++ ys)
both_releases learnt [] ys f g = g
both_releases learnt (x ∷ xs) ys f g = (f.0, both_releases learnt xs ys f.1 g)

module _ (learnt : Learnt) where
  released_by : (x : Pmac) (l : Learnt) → WasRegistered learnt l → AreReleases learnt (releases x l).acts
  released_by x l was = by (can_release l x)
    where
      of_reg : (o : Option Registration) → registration l x ≡ o → AreReleases learnt (releases_as x l o).acts
      of_reg None is = tt
      of_reg (Some r) is = (record { pmac = x; reg = r; registered = was x r is; is = refl }, tt)

      by : (b : Bool) → AreReleases learnt (cond {A = LearntStep} b (releases_as x l (registration l x)) (nothing_said l)).acts
      by true = of_reg (registration l x) refl
      by false = tt

  led_by : (o : Option Recall) (l : Learnt) → WasRegistered learnt l → AreReleases learnt (releases_led o l).acts
  led_by None l was = tt
  led_by (Some recall) l was = released_by recall.new l was

  pub aged_releases : (x : Pmac) (n : ℕ) → AreReleases learnt (hears_aged learnt x n).acts
  aged_releases x n = by (counts learnt x n)
    where
      was : WasRegistered learnt (with_aged learnt x)
      was y r is = sym (aged_registration learnt x y) ∙ is

      was_then : WasRegistered learnt (releases x (with_aged learnt x)).learnt
      was_then = kept_released (WasRegistered learnt) (λ l y w z r is. w z r (sym (aged_registration l y z) ∙ is)) (λ l y w z r is. w z r (forgotten_was l y z r is))
          x (with_aged learnt x) was

      by : (b : Bool) → AreReleases learnt (cond {A = LearntStep} b (releases_both x (recall_of learnt x) (with_aged learnt x)) (nothing_said learnt)).acts
      by true = both_releases learnt (releases x (with_aged learnt x)).acts (releases_led (recall_of learnt x) (releases x (with_aged learnt x)).learnt).acts
          (released_by x (with_aged learnt x) was) (led_by (recall_of learnt x) (releases x (with_aged learnt x)).learnt was_then)
      by false = tt

-- and nothing is numbered
pub releases_number_nothing : (learnt : Learnt) (acts : List ManagerAct) → AreReleases learnt acts → filter_map numbered_by acts ≡ []
releases_number_nothing learnt [] all = refl
releases_number_nothing learnt (act ∷ acts) all = ap (λ a. filter_map numbered_by (a ∷ acts)) all.0.is ∙ releases_number_nothing learnt acts all.1
