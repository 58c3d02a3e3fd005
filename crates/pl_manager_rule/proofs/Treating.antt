-- In the first epoch, where nothing is known by a report alone: a word that is treated alone, and what follows from it, are what the manager does when it
-- hears that word.
use Rattle.std.proofs.Common.{◌≡◌, ℕ, ◌==◌, ◌&&◌, not, Bool, true, false, cond, List, [], ◌∷◌, ◌++◌, map, fold, Option, Some, None, is_some, refl, sym, ap, subst, ◌∙◌, append-nil}
use Rattle.std.specs.Prelude.{unwrap_or}
use Rattle.std.specs.List.{cons_option, find, list_any}
use Rattle.std.specs.Option.{option_and_then, option_map}
use Rattle.pl_frame.specs.declared.address.SwitchId.{SwitchId}
use Rattle.pl_layouts.specs.Equality.{same_pmac}
use Rattle.pl_pmac.specs.declared.pmac.Pmac.{Pmac}
use Rattle.pl_gathering.specs.Acting.{Done, treats_all}
use Rattle.pl_node.specs.declared.acts.ManagerAct.{ManagerAct}
use Rattle.pl_node.specs.declared.acts.ManagerAct.TheVariants.{Say}
use Rattle.pl_node.specs.declared.messages.ToManager.{ToManager}
use Rattle.pl_node.specs.declared.messages.ToManager.TheVariants as tell
use Rattle.pl_node.specs.declared.messages.ToSwitch.TheVariants as say
use Rattle.pl_node.specs.ManagerViews.{Learnt, LearntAddress, ManagerView, Recall, Registration, Reported, is_led_to, learnt_at, number_behind, recall_of, registered_as, registration}
use Rattle.pl_manager_rule.specs.ManagerRule.{LearntStep, ManagerStep, acts_of, ages_now, counts, forgets, hears_aged, manager_hears, nothing_said, releases, releases_as, releases_both, reply, view_after, with_aged}
use Rattle.pl_manager_rule.specs.Reports.{as_reported, counts_as, is_known_led_to, is_known_trapped_to, known_addresses, known_at, releases_as_known, releases_known, with_aged_as}
use Rattle.pl_manager_rule.specs.Treating.{Treating, at_rest, follows, then_releases, treats}
use Rattle.pl_manager_rule.proofs.Aging.{kept_released}
use Rattle.pl_manager_rule.proofs.Learning.{any_mapped, find_mapped}
use Rattle.pl_manager_rule.proofs.Repeated.{no_avoid_acts, no_tree_acts}

-- where an address leads does not change when one has aged
recall_stays : (learnt : Learnt) (x y : Pmac) → recall_of (with_aged learnt x) y ≡ recall_of learnt y
recall_stays learnt x y =
    ap (option_and_then (λ (a : LearntAddress). a.recall)) (find_mapped (λ (a : LearntAddress). same_pmac a.pmac y) (ages_now x) learnt.addresses)
    ∙ own (learnt_at learnt y)
  where
    own : (o : Option LearntAddress) → option_and_then (λ a. a.recall) (option_map (ages_now x) o) ≡ option_and_then (λ a. a.recall) o
    own None = refl
    own (Some a) = refl

-- ---- where nothing is known by a report alone
abbrev without_reports : Learnt → Learnt
without_reports learnt = record learnt { reported = [] }

module _ (learnt : Learnt) (x : Pmac) where
  abbrev l : Learnt
  l = without_reports learnt

  only_registered : known_addresses l ≡ map as_reported learnt.addresses
  only_registered = append-nil (map as_reported learnt.addresses)

  known_is : known_at l x ≡ option_map as_reported (learnt_at l x)
  known_is =
      ap (find (λ (r : Reported). same_pmac r.pmac x)) only_registered ∙ find_mapped (λ (r : Reported). same_pmac r.pmac x) as_reported learnt.addresses

  registered_is : registration l x ≡ option_map registered_as (learnt_at l x)
  registered_is = find_mapped (λ (r : Registration). same_pmac r.pmac x) registered_as learnt.addresses

  led_is : is_known_led_to l x ≡ is_led_to l x
  led_is = ap (list_any (is_known_trapped_to x)) only_registered ∙ any_mapped (is_known_trapped_to x) as_reported learnt.addresses

  recall_is : option_and_then (λ r. r.recall) (known_at l x) ≡ recall_of l x
  recall_is = ap (option_and_then (λ (r : Reported). r.recall)) known_is ∙ own (learnt_at l x)
    where
      own : (o : Option LearntAddress) → option_and_then (λ r. r.recall) (option_map as_reported o) ≡ option_and_then (λ a. a.recall) o
      own None = refl
      own (Some a) = refl

  counts_is : (number : ℕ) → counts_as 0 number (known_at l x) ≡ counts l x number
  counts_is number =
      ap (counts_as 0 number) known_is ∙ own (learnt_at l x)
      ∙ sym (ap (λ (o : Option Registration). is_some o && (number == number_behind (recall_of l x))) registered_is)
    where
      own : (o : Option LearntAddress) → counts_as 0 number (option_map as_reported o)
          ≡ (is_some (option_map registered_as o) && (number == number_behind (option_and_then (λ a. a.recall) o)))
      own None = refl
      own (Some a) = refl

  released_is : releases_known x l ≡ releases x l
  released_is = ap (releases_as_known l x) known_is ∙ own (learnt_at l x) refl
    where
      own : (o : Option LearntAddress) → learnt_at l x ≡ o → releases_as_known l x (option_map as_reported o) ≡ releases x l
      own None is =
          sym (λ i. cond {A = LearntStep} (unwrap_or (option_map (λ (a : LearntAddress). a.aged) (is i)) false && not (is_led_to l x))
          (releases_as x l (registration l x)) (nothing_said l))
      own (Some a) is =
          ap (λ (led : Bool). cond {A = LearntStep} (a.aged && not led) (record { learnt = forgets l x; acts = Say a.switch (say.Release x) ∷ [] }) (nothing_said l)) led_is
          ∙ sym (λ i. cond {A = LearntStep} (unwrap_or (option_map (λ (a : LearntAddress). a.aged) (is i)) false && not (is_led_to l x))
          (releases_as x l ((registered_is ∙ ap (option_map registered_as) is) i)) (nothing_said l))

-- of what was learnt, where that is so
is_without : (learnt : Learnt) → learnt.reported ≡ [] → learnt ≡ without_reports learnt
is_without learnt none = λ i. record learnt { reported = none i }

released_alike : (x : Pmac) (learnt : Learnt) → learnt.reported ≡ [] → releases_known x learnt ≡ releases x learnt
released_alike x learnt none = subst (λ (l : Learnt). releases_known x l ≡ releases x l) (sym (is_without learnt none)) (released_is learnt x)

abbrev pub alone : ManagerStep → Done Treating ManagerAct
alone step = record { known = at_rest step.view; acts = step.acts }

now_alone : (step : ManagerStep) → record { known = at_rest step.view; acts = step.acts ++ [] } ≡ alone step
now_alone step = ap (λ (acts : List ManagerAct). let d : Done Treating ManagerAct = record { known = at_rest step.view; acts = acts } in d) (append-nil step.acts)

-- of an address that has aged
abbrev noted : ManagerView → LearntStep → Done Treating ManagerAct
noted view step = record { known = at_rest (record view { learnt = step.learnt }); acts = step.acts }

abbrev both : LearntStep → LearntStep → LearntStep
both one two = record { learnt = two.learnt; acts = one.acts ++ two.acts }

-- first it is released itself, and then the one to which its trap led
in_turn_released : (view : ManagerView) (x : Pmac) (o : Option Recall) (l : Learnt) → l.reported ≡ [] →
    alone (fold then_releases (record { view = record view { learnt = l }; acts = [] }) (x ∷ cons_option (option_map (λ c. c.new) o) []))
    ≡ noted view (releases_both x o l)
in_turn_released view x None l none =
    let own = releases x l in
    ap (noted view) (released_alike x l none)
    ∙ ap (λ (acts : List ManagerAct). noted view (record { learnt = own.learnt; acts = acts })) (sym (append-nil own.acts))
in_turn_released view x (Some c) l none =
    let own = releases x l in
    let still : own.learnt.reported ≡ [] = kept_released (λ (m : Learnt). m.reported ≡ []) (λ m y is. is) (λ m y is. is) x l none in
    ap (λ (step : LearntStep). noted view (both step (releases_known c.new step.learnt))) (released_alike x l none)
    ∙ ap (λ (step : LearntStep). noted view (both own step)) (released_alike c.new own.learnt still)

-- in the first epoch, and where no address is known by a report alone
abbrev pub at_first : ManagerView → ManagerView
at_first view = record view { learnt = without_reports view.learnt; epoch = 0 }

aged_as : (view : ManagerView) (s : SwitchId) (x : Pmac) (number : ℕ) (o : Option LearntAddress) →
    follows (cond {A = Treating} (counts_as 0 number (option_map as_reported o))
    (record { view = record (at_first view) { learnt = with_aged_as (without_reports view.learnt) s x (option_map as_reported o) }; aged = x ∷ [] }) (at_rest (at_first view)))
    ≡ noted (at_first view) (cond {A = LearntStep} (counts_as 0 number (option_map as_reported o))
    (releases_both x (recall_of view.learnt x) (with_aged (without_reports view.learnt) x)) (nothing_said (without_reports view.learnt)))
aged_as view s x number None = refl
aged_as view s x number (Some a) = by (number == number_behind a.recall)
  where
    aged : Learnt
    aged = with_aged view.learnt x

    by : (b : Bool) → follows (cond {A = Treating} b (record { view = record (at_first view) { learnt = without_reports aged }; aged = x ∷ [] }) (at_rest (at_first view)))
        ≡ noted (at_first view) (cond {A = LearntStep} b (releases_both x (recall_of view.learnt x) (without_reports aged)) (nothing_said (without_reports view.learnt)))
    by true =
        ap (λ (o : Option Recall). alone (fold then_releases (record { view = record (at_first view) { learnt = without_reports aged }; acts = [] })
        (x ∷ cons_option (option_map (λ c. c.new) o) []))) (recall_is aged x)
        ∙ in_turn_released (at_first view) x (recall_of aged x) (without_reports aged) refl
        ∙ ap (λ (recall : Option Recall). noted (at_first view) (releases_both x recall (without_reports aged))) (recall_stays view.learnt x x)
    by false = refl

aged_alone : (view : ManagerView) (s : SwitchId) (x : Pmac) (number : ℕ) →
    treats_all treats follows (at_rest (at_first view)) (record { switch = s; word = tell.Aged x number } ∷ [])
    ≡ noted (at_first view) (hears_aged (without_reports view.learnt) x number)
aged_alone view s x number =
    let l = without_reports view.learnt in
    ap (λ (known : Option Reported). follows (cond {A = Treating} (counts_as 0 number known)
    (record { view = record (at_first view) { learnt = with_aged_as l s x known }; aged = x ∷ [] }) (at_rest (at_first view)))) (known_is view.learnt x)
    ∙ aged_as view s x number (learnt_at l x)
    ∙ ap (λ (b : Bool). noted (at_first view) (cond {A = LearntStep} b (releases_both x (recall_of l x) (with_aged l x)) (nothing_said l)))
    (sym (ap (counts_as 0 number) (known_is view.learnt x)) ∙ counts_is view.learnt x number)

-- a word that changes nothing and is not answered brings nothing about
pub passed_over : (view : ManagerView) (s : SwitchId) (says : ToManager) → view_after view s says ≡ view → reply view view s says ≡ [] →
    manager_hears view s says ≡ record { view = view; acts = [] }
unfolding manager_hears
passed_over view s says same silent =
    (λ i. let step : ManagerStep = record { view = same i; acts = acts_of view (same i) s says } in step)
    ∙ ap (λ (acts : List ManagerAct). let step : ManagerStep = record { view = view; acts = acts } in step)
    ((λ i. silent i ++ no_avoid_acts view.told i ++ no_tree_acts view i))

-- the manager hears it, and nothing is told of the tree
heard_aged : (view : ManagerView) (s : SwitchId) (x : Pmac) (number : ℕ) → noted view (hears_aged view.learnt x number) ≡ alone (manager_hears view s (tell.Aged x number))
unfolding manager_hears
heard_aged view s x number =
    let own = hears_aged view.learnt x number in
    ap (λ (acts : List ManagerAct). let d : Done Treating ManagerAct = record { known = at_rest (record view { learnt = own.learnt }); acts = acts } in d)
    (sym ((λ i. own.acts ++ no_avoid_acts view.told i ++ no_tree_acts view i) ∙ append-nil (own.acts ++ []) ∙ append-nil own.acts))

alone_at_first : (view : ManagerView) (s : SwitchId) (says : ToManager) →
    treats_all treats follows (at_rest (at_first view)) (record { switch = s; word = says } ∷ []) ≡ alone (manager_hears (at_first view) s says)
alone_at_first view s (tell.Place place) = now_alone (manager_hears (at_first view) s (tell.Place place))
alone_at_first view s (tell.Link u usable) = now_alone (manager_hears (at_first view) s (tell.Link u usable))
alone_at_first view s tell.PodWanted = now_alone (manager_hears (at_first view) s tell.PodWanted)
alone_at_first view s (tell.Learned pmac amac ip) = now_alone (manager_hears (at_first view) s (tell.Learned pmac amac ip))
alone_at_first view s (tell.Aged x number) = aged_alone view s x number ∙ heard_aged (at_first view) s x number
alone_at_first view s (tell.Begin epoch) = now_alone (manager_hears (at_first view) s (tell.Begin epoch))
alone_at_first view s (tell.End epoch) = now_alone (manager_hears (at_first view) s (tell.End epoch))
alone_at_first view s (tell.Trapped old new number) = sym (ap alone (passed_over (at_first view) s (tell.Trapped old new number) refl refl))
alone_at_first view s (tell.Query asker asker_ip ip) = now_alone (manager_hears (at_first view) s (tell.Query asker asker_ip ip))
alone_at_first view s (tell.Members group any) = now_alone (manager_hears (at_first view) s (tell.Members group any))

pub is_at_first : (view : ManagerView) → view.epoch ≡ 0 → view.learnt.reported ≡ [] → view ≡ at_first view
is_at_first view first none = λ i. record view { learnt = record view.learnt { reported = none i }; epoch = first i }

pub treated_alone : (view : ManagerView) (s : SwitchId) (says : ToManager) → view.epoch ≡ 0 → view.learnt.reported ≡ [] →
    treats_all treats follows (at_rest view) (record { switch = s; word = says } ∷ []) ≡ alone (manager_hears view s says)
treated_alone view s says first none =
    subst (λ (v : ManagerView). treats_all treats follows (at_rest v) (record { switch = s; word = says } ∷ []) ≡ alone (manager_hears v s says))
    (sym (is_at_first view first none)) (alone_at_first view s says)
