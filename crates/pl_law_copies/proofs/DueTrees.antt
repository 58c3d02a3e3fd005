-- Each step to what is due keeps it that what is told and ordered is so, and so does a manager that begins anew.
use Rattle.std.proofs.Common.{◌≡◌, ℕ, nat_lt, not, Bool, true, false, cond, List, [], ◌∷◌, ◌++◌, Some, slice_get, sym, ap, ◌∙◌, subst, inl, inr, lt-ltb}
use Rattle.std.specs.List.{AllByRecursion, filter}
use Rattle.std.proofs.lemmas.Bool.{cases_Bool, false≢true, ltb-true}
use Rattle.pl_lemmas.proofs.Exports.{all_append, all_behind, all_filter, all_front}
use Rattle.pl_frame.specs.declared.address.SwitchId.{SwitchId}
use Rattle.pl_wiring.specs.Labels.{switch_count}
use Rattle.pl_wiring.specs.Plan.{IsPlan, Plan}
use Rattle.pl_node.specs.declared.messages.ToManager.{ToManager}
use Rattle.pl_node.specs.declared.messages.ToManager.TheVariants as tell
use Rattle.pl_node.specs.ManagerViews.{ManagerView}
use Rattle.pl_node.specs.PortRecords.{id_at}
use Rattle.pl_node.specs.SwitchViews.{SwitchView}
use Rattle.pl_manager_rule.specs.Treating.{waits_for_places}
use Rattle.pl_switch_rule.specs.SwitchRule.{Loose}
use Rattle.pl_law_control_plane.specs.ControlPlanes.{ControlPlane}
use Rattle.pl_law_due.specs.Due.{is_silent, words_of}
use Rattle.pl_law_control_plane.specs.Restarts.{IsAlike, Restarts}
use Rattle.pl_law_due.specs.DueSteps.{DueStep, IsSifted, IsTurned, ManagerPart}
use Rattle.pl_law_due.specs.DueSteps.DueStep.{Managed as ManagedBy, Stepped}
use Rattle.pl_law_due.specs.DueSteps.ManagerPart.{Released, Treated, Turned}
use Rattle.pl_law_due.proofs.Exports.{part_alike, releases_learn, through_parts}
use Rattle.pl_law_places.specs.Places.{ArePlaced}
use Rattle.pl_law_places.specs.Told.{IsTrueOf}
use Rattle.pl_law_records.specs.Records.{is_neighbour}
use Rattle.pl_law_copies.specs.Trees.{AreTrees, AreTrueMembers, IsTrueLink, IsTrueOrder, IsTruePart, IsTruePlace, IsTrueReport}
use Rattle.pl_law_copies.proofs.Parts.{IsLevel}
use Rattle.pl_journal.specs.Flights.{level_of}
use Rattle.pl_law_copies.proofs.KeepingTrees.{learns_trees, level_is, like_trees, plane_trees, treated_trees}

all_words : (P : ToManager → Type 0) (queue : List ToManager) → AllByRecursion P queue → AllByRecursion P (words_of queue)
all_words P [] all = tt
all_words P (tell.Begin epoch ∷ queue) all = all_words P queue all.1
all_words P (tell.End epoch ∷ queue) all = all_words P queue all.1
all_words P (tell.Place place ∷ queue) all = (all.0, all_words P queue all.1)
all_words P (tell.Link u usable ∷ queue) all = (all.0, all_words P queue all.1)
all_words P (tell.PodWanted ∷ queue) all = (all.0, all_words P queue all.1)
all_words P (tell.Learned a b c ∷ queue) all = (all.0, all_words P queue all.1)
all_words P (tell.Aged a b ∷ queue) all = (all.0, all_words P queue all.1)
all_words P (tell.Trapped a b c ∷ queue) all = (all.0, all_words P queue all.1)
all_words P (tell.Query a b c ∷ queue) all = (all.0, all_words P queue all.1)
all_words P (tell.Members group any ∷ queue) all = (all.0, all_words P queue all.1)

all_turned : (P : ToManager → Type 0) (before after : List ToManager) → IsTurned before after → AllByRecursion P before → AllByRecursion P after
all_turned P before after turned all =
    let two : AllByRecursion P (turned.first ++ turned.others) = subst (AllByRecursion P) turned.was all in
    let first = all_front P turned.first turned.others two in
    let rest = filter (λ word. not (waits_for_places word)) turned.first in
    let wishes = filter waits_for_places turned.first in
    subst (AllByRecursion P) (sym turned.now)
    (all_append P (rest ++ wishes) turned.others
    (all_append P rest wishes (all_filter P (λ word. not (waits_for_places word)) turned.first first) (all_filter P waits_for_places turned.first first))
    (all_behind P turned.first turned.others two))

module _ (plan : Plan) (is : IsPlan plan) where
  -- where the levels of switches are those of the wiring
  abbrev WithLevels : ControlPlane → Type 0
  WithLevels f = (f.plan ≡ plan) × ((t : ℕ) → IsLevel (level_of plan.k t) (f.view t).place) × AreTrees plan f

  part_trees : (f g : ControlPlane) → ManagerPart f g → WithLevels f → WithLevels g
  part_trees f g part all = (
    alike.plan ∙ all.0,
    λ t. subst (λ (v : SwitchView). IsLevel (level_of plan.k t) v.place) (sym (alike.view t)) (all.1 t),
    by part,
  )
    where
      alike : IsAlike f g
      alike = part_alike f g part

      by : ManagerPart f g → AreTrees plan g
      by (Treated s id told mid there named taken turns) =
          treated_trees plan is f mid g s id told all.0 all.1 (ap (λ (p : Plan). slice_get p.ids s) (sym all.0) ∙ named) taken turns all.2
      by (Turned turns) =
          like_trees plan is f g turns.alike.view
          (λ s. all_turned (IsTrueReport plan s (f.view s).place) (f.reports s) (g.reports s) (turns.reports s) (all.2.reports s))
          (ap (λ (v : ManagerView). v.told) turns.manager) (ap (λ (v : ManagerView). v.members) turns.manager)
          (λ s. subst (AllByRecursion (IsTrueOrder plan (level_of plan.k s))) (sym (turns.orders s)) (all.2.orders s)) all.2
      by (Released aged releases) = learns_trees plan is f g (releases_learn f aged g releases) releases.reports all.2

  sifted_trees : (f g : ControlPlane) → IsSifted f g → AreTrees plan f → AreTrees plan g
  sifted_trees f g sifted trees =
      like_trees plan is f g sifted.alike.view
      (λ s. subst (AllByRecursion (IsTrueReport plan s (f.view s).place)) (sym (sifted.reports s)) (by s (is_silent f.orders s)))
      (ap (λ (v : ManagerView). v.told) sifted.manager) (ap (λ (v : ManagerView). v.members) sifted.manager)
      (λ s. subst (AllByRecursion (IsTrueOrder plan (level_of plan.k s))) (sym (sifted.orders s)) (trees.orders s)) trees
    where
      by : (s : ℕ) (b : Bool) → AllByRecursion (IsTrueReport plan s (f.view s).place) (cond b [] (words_of (f.reports s)))
      by s true = tt
      by s false = all_words (IsTrueReport plan s (f.view s).place) (f.reports s) (trees.reports s)

  -- a step to what is due
  pub due_trees : (f g : ControlPlane) → f.plan ≡ plan → ArePlaced plan f → ((s : ℕ) → IsTrueOf (f.view s).place (g.view s).place) →
      ((s p : ℕ) (u : SwitchId) → id_at (g.view s) p ≡ Some u → is_neighbour plan s u ≡ true) → AreTrees plan f → DueStep Loose f g → AreTrees plan g
  due_trees f g same placed grown near trees (Stepped told step sifted) =
      sifted_trees told g sifted (plane_trees plan is f told same placed
      (λ s. subst (λ (v : SwitchView). IsTrueOf (f.view s).place v.place) (sifted.alike.view s) (grown s))
      (λ s p u at. near s p u (ap (λ (v : SwitchView). id_at v p) (sifted.alike.view s) ∙ at)) trees step.0)
  due_trees f g same placed grown near trees (ManagedBy mids parts) =
      (through_parts WithLevels part_trees mids f g parts (same, level_is plan f placed, trees)).2

-- A manager that begins anew knows nothing, and nothing waits but that it did.
pub restart_trees : (plan : Plan) (f g : ControlPlane) → Restarts f g → AreTrees plan f → AreTrees plan g
restart_trees plan f g restarts trees = record {
  reports = λ s. subst (AllByRecursion (IsTrueReport plan s (g.view s).place)) (sym (restarts.reports s)) tt;
  places = subst (λ (v : ManagerView). AllByRecursion (IsTruePlace plan g.view) v.told.places) (sym restarts.manager) tt;
  links = subst (λ (v : ManagerView). AllByRecursion (IsTrueLink plan) v.told.links) (sym restarts.manager) tt;
  members = subst (λ (v : ManagerView). AllByRecursion (AreTrueMembers plan) v.members) (sym restarts.manager) tt;
  orders = λ s. elim (cases_Bool (nat_lt s (switch_count f.plan.k))) [
    | inl within ↦ subst (AllByRecursion (IsTrueOrder plan (level_of plan.k s))) (sym (restarts.orders s (ltb-true s (switch_count f.plan.k) within))) (tt, tt)
    | inr beyond ↦ subst (AllByRecursion (IsTrueOrder plan (level_of plan.k s)))
        (sym (restarts.beyond s (λ less. absurd (false≢true (sym beyond ∙ lt-ltb s (switch_count f.plan.k) less))))) tt
  ];
  held = λ s. subst (λ (v : SwitchView). AllByRecursion (λ part. IsTruePart plan (level_of plan.k s) (Some part.1)) v.parts) (sym (restarts.alike.view s)) (trees.held s);
}
