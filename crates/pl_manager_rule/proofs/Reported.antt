-- What is known of addresses by reports: what a word on one leaves alone, whom a release is said to, and what it leaves.
use Rattle.std.proofs.Common.{◌≡◌, ◌==◌, ◌&&◌, ◌||◌, not, Bool, true, false, cond, List, [], ◌∷◌, ◌++◌, map, ◌⊎◌, Option, Some, None, IsSome, is_some, filter, filter_map, refl, sym, ap, subst, inl, inr, ◌∙◌}
use Rattle.std.proofs.lemmas.List.{map-append}
use Rattle.std.proofs.lemmas.List.Elements.{filter_map-append}
use Rattle.std.specs.List.{AllByRecursion, find}
use Rattle.pl_frame.specs.declared.address.SwitchId.{SwitchId}
use Rattle.pl_pmac.specs.declared.pmac.Pmac.{Pmac}
use Rattle.pl_layouts.specs.Equality.{same_pmac}
use Rattle.pl_layouts.proofs.Exports.{pmac_is}
use Rattle.pl_node.specs.declared.acts.ManagerAct.{ManagerAct}
use Rattle.pl_node.specs.declared.acts.ManagerAct.TheVariants.{Say}
use Rattle.pl_node.specs.declared.messages.ToSwitch.TheVariants as say
use Rattle.pl_node.specs.ManagerDuties.{numbered_by, released_by}
use Rattle.pl_node.specs.ManagerViews.{Learnt, LearntAddress, ManagerView, Recall, Reported, registration, speakers}
use Rattle.pl_node.proofs.Exports.{among_append, among_filter, among_left, among_map, among_mapped, among_right, IsAmong}
use Rattle.pl_manager_rule.specs.ManagerRule.{LearntStep, ages_now, nothing_said}
use Rattle.pl_manager_rule.specs.Reports.{as_reported, forgets_known, is_known_led_to, known_addresses, known_at, releases_as_known, releases_known, reported_ages, reported_leads, with_aged_as, with_trap, with_trap_as}
use Rattle.pl_manager_rule.proofs.Aging.{WasRegistered, aged_registration, forgotten_was, other_registration}
use Rattle.pl_manager_rule.proofs.Learning.{same_field}
use Rattle.pl_manager_rule.proofs.Numbers.{LearnsAs, learns_nothing}
use Rattle.pl_manager_rule.proofs.Speakers.{IsWithOne, found_among, learnt_ones, same_ones}

-- ---- a word on an address is of one switch more at most, and numbers nothing
same_reporters : (change : Reported → Reported) → ((r : Reported) → (change r).switch ≡ r.switch) → (rs : List Reported) →
    map (λ r. r.switch) (map change rs) ≡ map (λ r. r.switch) rs
same_reporters change same [] = refl
same_reporters change same (r ∷ rs) = λ i. same r i ∷ same_reporters change same rs i

reported_ones : (s : SwitchId) (rs : List Reported) (r : Reported) → r.switch ≡ s → IsWithOne s (map (λ r. r.switch) (rs ++ r ∷ [])) (map (λ r. r.switch) rs)
reported_ones s rs r is t h = elim (among_append t (map (λ r. r.switch) rs) (r.switch ∷ [])
    (subst (IsAmong t) (map-append (λ (r : Reported). r.switch) rs (r ∷ [])) h)) [
      | inl before ↦ inr before
      | inr now ↦ elim now [ inl same ↦ inl (sym is ∙ same) | inr none ↦ absurd none ]
    ]

module _ (view : ManagerView) (s : SwitchId) (x : Pmac) where
  pub aged_ones : (known : Option Reported) → IsWithOne s (speakers (record view { learnt = with_aged_as view.learnt s x known })) (speakers view)
  aged_ones None =
      let new : Reported = record { switch = s; pmac = x; recall = None; aged = true } in
      learnt_ones view s (with_aged_as view.learnt s x None) (same_ones s (map (λ a. a.switch) view.learnt.addresses)) (reported_ones s view.learnt.reported new refl)
  aged_ones (Some known) = learnt_ones view s (with_aged_as view.learnt s x (Some known))
      (λ t h. inr (subst (IsAmong t) (same_field (λ a. a.switch) (ages_now x) (λ a. refl) view.learnt.addresses) h))
      (λ t h. inr (subst (IsAmong t) (same_reporters (reported_ages x) (λ r. refl) view.learnt.reported) h))

  pub aged_learns : (known : Option Reported) → LearnsAs view.learnt (with_aged_as view.learnt s x known) []
  aged_learns None = learns_nothing view.learnt (with_aged_as view.learnt s x None) refl (λ y. refl)
  aged_learns (Some known) = learns_nothing view.learnt (with_aged_as view.learnt s x (Some known)) refl (λ y. aged_registration view.learnt x y)

  module _ (to : Recall) where
    as_ones : (found : Option Reported) → IsWithOne s (speakers (record view { learnt = with_trap_as view.learnt s x to found })) (speakers view)
    as_ones None =
        let new : Reported = record { switch = s; pmac = x; recall = Some to; aged = false } in
        learnt_ones view s (with_trap_as view.learnt s x to None) (same_ones s (map (λ a. a.switch) view.learnt.addresses))
        (reported_ones s view.learnt.reported new refl)
    as_ones (Some found) = learnt_ones view s (with_trap_as view.learnt s x to (Some found)) (same_ones s (map (λ a. a.switch) view.learnt.addresses))
        (λ t h. inr (subst (IsAmong t) (same_reporters (reported_leads x to) (λ r. refl) view.learnt.reported) h))

    as_learns : (found : Option Reported) → LearnsAs view.learnt (with_trap_as view.learnt s x to found) []
    as_learns None = learns_nothing view.learnt (with_trap_as view.learnt s x to None) refl (λ y. refl)
    as_learns (Some found) = learns_nothing view.learnt (with_trap_as view.learnt s x to (Some found)) refl (λ y. refl)

    abbrev there : Option Reported
    there = find (λ r. same_pmac r.pmac x) view.learnt.reported

    pub trap_ones : IsWithOne s (speakers (record view { learnt = with_trap view.epoch view.learnt s x to })) (speakers view)
    trap_ones = by ((view.epoch == 0) || is_some (registration view.learnt x))
      where
        by : (b : Bool) → IsWithOne s (speakers (record view { learnt = cond b view.learnt (with_trap_as view.learnt s x to there) })) (speakers view)
        by true = same_ones s (speakers view)
        by false = as_ones there

    pub trap_learns : LearnsAs view.learnt (with_trap view.epoch view.learnt s x to) []
    trap_learns = by ((view.epoch == 0) || is_some (registration view.learnt x))
      where
        by : (b : Bool) → LearnsAs view.learnt (cond b view.learnt (with_trap_as view.learnt s x to there)) []
        by true = learns_nothing view.learnt view.learnt refl (λ y. refl)
        by false = as_learns there

-- ---- releases
-- a property of what was learnt that is kept where an address is forgotten
module _ (P : Learnt → Type 0) (goes : (learnt : Learnt) (x : Pmac) → P learnt → P (forgets_known learnt x)) where
  kept_as : (learnt : Learnt) (x : Pmac) (o : Option Reported) → P learnt → P (releases_as_known learnt x o).learnt
  kept_as learnt x None p = p
  kept_as learnt x (Some known) p = by (known.aged && not (is_known_led_to learnt x))
    where
      by : (b : Bool) → P (cond {A = LearntStep} b (record { learnt = forgets_known learnt x; acts = Say known.switch (say.Release x) ∷ [] }) (nothing_said learnt)).learnt
      by true = goes learnt x p
      by false = p

  pub kept_released : (x : Pmac) (learnt : Learnt) → P learnt → P (releases_known x learnt).learnt
  kept_released x learnt p = kept_as learnt x (known_at learnt x) p

-- nothing is registered anew
pub released_was : (before learnt : Learnt) (x : Pmac) → WasRegistered before learnt → WasRegistered before (forgets_known learnt x)
released_was before learnt x was y r is = was y r (forgotten_was learnt x y r is)

-- they are said to switches that told the addresses
module _ (Q : SwitchId → Type 0) where
  pub record IsReleaseTo (act : ManagerAct) : Type 0 where
    pub to : SwitchId
    pub pmac : Pmac
    pub heard : Q to
    pub is : act ≡ Say to (say.Release pmac)

  abbrev pub KnownIn : Learnt → Type 0
  KnownIn learnt = (r : Reported) → IsAmong r (known_addresses learnt) → Q r.switch

  pub known_forgets : (learnt : Learnt) (x : Pmac) → KnownIn learnt → KnownIn (forgets_known learnt x)
  known_forgets learnt x all r h =
      let registered : List LearntAddress = filter (λ a. not (same_pmac a.pmac x)) learnt.addresses in
      let reported : List Reported = filter (λ r. not (same_pmac r.pmac x)) learnt.reported in
      elim (among_append r (map as_reported registered) reported h) [
        | inl left ↦ (let at = among_map as_reported r registered left in
            all r (subst (λ q. IsAmong q (known_addresses learnt)) at.2 (among_left (as_reported at.0) (map as_reported learnt.addresses) learnt.reported
            (among_mapped as_reported at.0 learnt.addresses (among_filter (λ (a : LearntAddress). not (same_pmac a.pmac x)) at.0 learnt.addresses at.1).0))))
        | inr right ↦ all r (among_right r (map as_reported learnt.addresses) learnt.reported
            (among_filter (λ (r : Reported). not (same_pmac r.pmac x)) r learnt.reported right).0)
      ]

  of_known : (learnt : Learnt) (x : Pmac) (o : Option Reported) → known_at learnt x ≡ o → KnownIn learnt → AllByRecursion IsReleaseTo (releases_as_known learnt x o).acts
  of_known learnt x None is all = tt
  of_known learnt x (Some known) is all = by (known.aged && not (is_known_led_to learnt x))
    where
      by : (b : Bool) → AllByRecursion IsReleaseTo
          (cond {A = LearntStep} b (record { learnt = forgets_known learnt x; acts = Say known.switch (say.Release x) ∷ [] }) (nothing_said learnt)).acts
      by true = (
        record {
          to = known.switch;
          pmac = x;
          heard = all known (found_among (λ r. same_pmac r.pmac x) known (known_addresses learnt) is);
          is = refl;
        },
        tt,
      )
      by false = tt

  pub released_to : (x : Pmac) (learnt : Learnt) → KnownIn learnt → AllByRecursion IsReleaseTo (releases_known x learnt).acts
  released_to x learnt all = of_known learnt x (known_at learnt x) refl all

  pub release_numbers_nothing : (acts : List ManagerAct) → AllByRecursion IsReleaseTo acts → filter_map numbered_by acts ≡ []
  release_numbers_nothing [] all = refl
  release_numbers_nothing (act ∷ acts) all = ap (λ a. filter_map numbered_by (a ∷ acts)) all.0.is ∙ release_numbers_nothing acts all.1

-- ---- what is registered still is, or was released
abbrev pub IsLeftOrReleased : Learnt → LearntStep → Pmac → Type 0
IsLeftOrReleased before step y = IsSome (registration before y) → IsSome (registration step.learnt y) ⊎ IsAmong y (filter_map released_by step.acts)

module _ (y : Pmac) where
  of_forgotten : (learnt : Learnt) (x : Pmac) (to : SwitchId) →
      IsLeftOrReleased learnt (record { learnt = forgets_known learnt x; acts = Say to (say.Release x) ∷ [] }) y
  of_forgotten learnt x to some = by (same_pmac y x) refl
    where
      by : (b : Bool) → same_pmac y x ≡ b → IsSome (registration (forgets_known learnt x) y) ⊎ IsAmong y (x ∷ [])
      by true same = inr (inl (sym (pmac_is y x same)))
      by false other = inl (subst IsSome (sym (other_registration learnt x y other)) some)

  left_as : (learnt : Learnt) (x : Pmac) (o : Option Reported) → IsLeftOrReleased learnt (releases_as_known learnt x o) y
  left_as learnt x None = λ some. inl some
  left_as learnt x (Some known) = by (known.aged && not (is_known_led_to learnt x))
    where
      by : (b : Bool) → IsLeftOrReleased learnt
          (cond {A = LearntStep} b (record { learnt = forgets_known learnt x; acts = Say known.switch (say.Release x) ∷ [] }) (nothing_said learnt)) y
      by true = of_forgotten learnt x known.switch
      by false = λ some. inl some

  -- first the ones, and then the others
  pub left_both : (before : Learnt) (one two : LearntStep) → IsLeftOrReleased before one y → IsLeftOrReleased one.learnt two y →
      IsLeftOrReleased before (record { learnt = two.learnt; acts = one.acts ++ two.acts }) y
  left_both before one two first then some =
      let all = sym (filter_map-append released_by one.acts two.acts) in
      elim (first some) [
        | inl still ↦ elim (then still) [
          | inl left ↦ inl left
          | inr now ↦ inr (subst (IsAmong y) all (among_right y (filter_map released_by one.acts) (filter_map released_by two.acts) now))
        ]
        | inr was ↦ inr (subst (IsAmong y) all (among_left y (filter_map released_by one.acts) (filter_map released_by two.acts) was))
      ]

  pub left_released : (x : Pmac) (learnt : Learnt) → IsLeftOrReleased learnt (releases_known x learnt) y
  left_released x learnt = left_as learnt x (known_at learnt x)
