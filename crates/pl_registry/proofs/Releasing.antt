-- What is known of an address, registered or by a report alone, and what is released by it.
use Rattle.std.proofs.Common.{◌≡◌, ◌∙◌, ◌&&◌, ◌||◌, not, Bool, true, false, cond, List, [], ◌∷◌, ◌++◌, map, Option, Some, None, refl, ap, sym}
use Rattle.std.specs.List.{find, list_any}
use Rattle.std.specs.Option.{option_map, option_or}
use Rattle.std.proofs.lemmas.Option.{none-some}
use Rattle.pl_pmac.specs.declared.pmac.Pmac.{Pmac}
use Rattle.pl_layouts.specs.Equality.{same_pmac}
use Rattle.pl_node.specs.declared.acts.ManagerAct.TheVariants.{Say}
use Rattle.pl_node.specs.declared.messages.ToSwitch.TheVariants as say
use Rattle.pl_node.specs.ManagerViews as manager
use Rattle.pl_node.specs.ManagerViews.{Learnt, LearntAddress, is_led_to}
use Rattle.pl_manager_rule.specs.ManagerRule.{LearntStep, nothing_said}
use Rattle.pl_manager_rule.specs.Reports.{as_reported, forgets_known, is_known_led_to, is_known_trapped_to, known_at, releases_as_known, releases_known}
use Rattle.pl_manager_rule.proofs.Exports.{any_mapped, find_mapped}
use Rattle.pl_registry.specs.declared.addresses.Known.{Known}
use Rattle.pl_registry.specs.declared.reported_addresses.Reported.{Reported}
use Rattle.pl_registry.specs.Addresses.{learnt_at, learnt_of}
use Rattle.pl_registry.specs.ReportedAddresses.{registered_report, reported_at}

find_both : {X : Type 0} (test : X → Bool) (xs ys : List X) → find test (xs ++ ys) ≡ option_or (find test xs) (find test ys)
find_both test [] ys = refl
find_both test (x ∷ xs) ys = by (test x) (find_both test xs ys)
  where
    by : (b : Bool) → find test (xs ++ ys) ≡ option_or (find test xs) (find test ys) →
        cond b (Some x) (find test (xs ++ ys)) ≡ option_or (cond b (Some x) (find test xs)) (find test ys)
    by true rest = refl
    by false rest = rest

any_both : {X : Type 0} (test : X → Bool) (xs ys : List X) → list_any test (xs ++ ys) ≡ (list_any test xs || list_any test ys)
any_both test [] ys = refl
any_both test (x ∷ xs) ys = by (test x) (any_both test xs ys)
  where
    by : (b : Bool) → list_any test (xs ++ ys) ≡ (list_any test xs || list_any test ys) → (b || list_any test (xs ++ ys)) ≡ ((b || list_any test xs) || list_any test ys)
    by true rest = refl
    by false rest = rest

module _ (learnt : Learnt) (x : Pmac) where
  abbrev is_it : manager.Reported → Bool
  is_it r = same_pmac r.pmac x

  known_by : (o : Option LearntAddress) → find (λ a. same_pmac a.pmac x) learnt.addresses ≡ o →
      known_at learnt x ≡ option_or (option_map as_reported o) (find is_it learnt.reported)
  known_by o is =
      find_both is_it (map as_reported learnt.addresses) learnt.reported
      ∙ ap (λ (p : Option manager.Reported). option_or p (find is_it learnt.reported)) (find_mapped is_it as_reported learnt.addresses ∙ ap (option_map as_reported) is)

  -- this is what is known of the address
  pub registered_known : (k : Known) → find (λ a. same_pmac a.pmac x) learnt.addresses ≡ option_map (learnt_at x) (Some k) →
      Some (reported_at x (registered_report k)) ≡ known_at learnt x
  registered_known k is = sym (known_by (Some (learnt_at x k)) is)

  pub reported_known : (found : Option manager.Reported) → find (λ a. same_pmac a.pmac x) learnt.addresses ≡ None → found ≡ find is_it learnt.reported →
      found ≡ known_at learnt x
  reported_known found none is = is ∙ sym (known_by None none)

  -- where nothing is, no report tells of it
  pub none_reported : known_at learnt x ≡ None → find is_it learnt.reported ≡ None
  none_reported none = of_none (option_map as_reported (find (λ a. same_pmac a.pmac x) learnt.addresses)) (find is_it learnt.reported)
      (sym (known_by (find (λ a. same_pmac a.pmac x) learnt.addresses) refl) ∙ none)
    where
      of_none : (o p : Option manager.Reported) → option_or o p ≡ None → p ≡ None
      of_none None p is = is
      of_none (Some r) p is = absurd (none-some r (sym is))

  pub led_known : (is_led_to (learnt_of learnt.addresses) x || list_any (is_known_trapped_to x) learnt.reported) ≡ is_known_led_to learnt x
  led_known =
      sym (any_both (is_known_trapped_to x) (map as_reported learnt.addresses) learnt.reported
      ∙ ap (λ b. b || list_any (is_known_trapped_to x) learnt.reported) (any_mapped (is_known_trapped_to x) as_reported learnt.addresses))

  -- it may be released or not
  pub none_released : None ≡ known_at learnt x → releases_known x learnt ≡ nothing_said learnt
  none_released none = ap (releases_as_known learnt x) (sym none)

  abbrev by_test : manager.Reported → Bool → LearntStep
  by_test known can = cond {A = LearntStep} can (record { learnt = forgets_known learnt x; acts = Say known.switch (say.Release x) ∷ [] }) (nothing_said learnt)

  pub not_released : (known : Reported) → Some (reported_at x known) ≡ known_at learnt x → (known.aged && not (is_known_led_to learnt x)) ≡ false →
      releases_known x learnt ≡ nothing_said learnt
  not_released known is cannot = ap (releases_as_known learnt x) (sym is) ∙ ap (by_test (reported_at x known)) cannot

  pub is_released : (known : Reported) → Some (reported_at x known) ≡ known_at learnt x → (known.aged && not (is_known_led_to learnt x)) ≡ true →
      releases_known x learnt ≡ record { learnt = forgets_known learnt x; acts = Say known.switch (say.Release x) ∷ [] }
  is_released known is can = ap (releases_as_known learnt x) (sym is) ∙ ap (by_test (reported_at x known)) can
