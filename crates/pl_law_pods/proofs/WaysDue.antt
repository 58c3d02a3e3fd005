-- By what is due, in all epochs of the manager: an edge switch with position 0 is on one way to the number of its pod, and any other switch on none.
use Rattle.std.proofs.Common.{◌≡◌, ℕ, false, cond, List, [], ◌++◌, if◌then◌else◌, Option, Some, None, is_some, slice_get, refl, sym, ap, ◌∙◌, subst, arith}
use Rattle.std.specs.List.{list_any}
use Rattle.std.proofs.lemmas.Bool.{or_parts}
use Rattle.pl_lemmas.proofs.Exports.{replicated}
use Rattle.pl_frame.specs.declared.address.SwitchId.{SwitchId}
use Rattle.pl_layouts.specs.Placement.{is_known}
use Rattle.pl_wiring.specs.Labels.{switch_count}
use Rattle.pl_wiring.specs.Plan.{IsPlan, Plan}
use Rattle.pl_node.specs.declared.messages.ToSwitch.{ToSwitch}
use Rattle.pl_node.specs.SwitchViews.{SwitchView}
use Rattle.pl_switch_rule.specs.SwitchRule.{Loose}
use Rattle.pl_manager_rule.specs.WholeRule.{whole_rule}
use Rattle.pl_world.specs.declared.limits.Limits.{Limits}
use Rattle.pl_world.specs.Booting.{booted}
use Rattle.pl_law_control_plane.specs.ControlPlanes.{ControlPlane, control_plane}
use Rattle.pl_law_control_plane.specs.PlaneSteps.{LosesNoWord, PlaneStep, WholeStep, ordered}
use Rattle.pl_law_control_plane.proofs.Exports.{any_append, booted_view}
use Rattle.pl_law_due.specs.Due.{due_plane, is_hello, is_silent, words_of}
use Rattle.pl_law_control_plane.specs.Restarts.{Restarts}
use Rattle.pl_law_due.specs.DueSteps.{DueStep, IsSifted, ManagerPart, treats_one}
use Rattle.pl_law_due.specs.DueSteps.DueStep.{Managed as ManagedBy, Stepped}
use Rattle.pl_law_due.specs.DueSteps.ManagerPart.{Released, Treated, Turned}
use Rattle.pl_law_due.specs.Gathering.{AreUnheard, GathersWell}
use Rattle.pl_law_due.proofs.Exports.{due_unheard, ids_apart, none_loud, nothing_due, part_alike, part_loud, releases_learn, step_due, through_parts}
use Rattle.pl_law_places.specs.Places.{ArePlaced, ArePodNumbers}
use Rattle.pl_law_votes.specs.Voting.{FixedAreApart}
use Rattle.pl_law_pods.specs.Ways.{HasOneWay, HaveOneWay, how_many, is_number, is_wish, one_if, own_pod}
use Rattle.pl_law_pods.proofs.Acting.{Acted, step_acted}
use Rattle.pl_law_pods.proofs.Acting.Acted.{Manager, Nobody, Switch}
use Rattle.pl_law_pods.proofs.StepsKeepPods.{level_zero}
use Rattle.pl_law_pods.proofs.WaysKept.{acts_way, none_released, treated_way, turned_wishes, wish_words}
use Rattle.pl_law_pods.proofs.WishesTold.{how_many_append}

-- ---- a step
module _ (f g : ControlPlane) (is : IsPlan f.plan) (placed : ArePlaced f.plan f) (apart : FixedAreApart f.plan f.view)
    (apart_then : FixedAreApart f.plan g.view)
    (numbers : ArePodNumbers f) (unheard : AreUnheard f) (all : HaveOneWay f) where
  step_way : (step : PlaneStep Loose treats_one f g) → LosesNoWord Loose treats_one f g step → HaveOneWay g
  step_way step kept = by (step_acted treats_one f g is placed apart apart_then numbers step kept)
    where
      by : Acted treats_one f g → HaveOneWay g
      by (Nobody left same) = λ t id named loud.
          subst (λ (v : SwitchView). HasOneWay v.place (g.reports t) (g.orders t)) (sym (left.view t))
          (subst (λ r. HasOneWay (f.view t).place r (g.orders t)) (sym (same.reports t))
          (subst (HasOneWay (f.view t).place (f.reports t)) (sym (same.orders t))
          (all t id (ap (λ (p : Plan). slice_get p.ids t) (sym left.plan) ∙ named) (ap (list_any is_hello) (sym (same.orders t)) ∙ loud))))
      by (Switch acts) = acts_way f g (λ s position. level_zero f is placed apart s 0 position) numbers unheard all acts
      by (Manager s id told m named taken turns) = λ t other there loud.
          let at = ap (λ (p : Plan). slice_get p.ids t) (sym (turns.plan ∙ taken.left.plan)) ∙ there in
          let before : is_silent f.orders t ≡ false =
          loud_before (f.orders t) (g.orders t) (ordered m.plan t turns.acts)
          (turns.orders t ∙ ap (λ os. os ++ ordered m.plan t turns.acts) (taken.orders t)) loud in
          treated_way f m g (ids_apart f.plan is) s id told named taken turns t other at (all t other at before)
        where
          loud_before : (before after more : List ToSwitch) → after ≡ before ++ more → list_any is_hello after ≡ false → list_any is_hello before ≡ false
          loud_before before after more same loud =
              (or_parts (list_any is_hello before) (list_any is_hello more) (sym (ap (list_any is_hello) same ∙ any_append is_hello before more) ∙ loud)).0

-- what the manager does
part_way : (f g : ControlPlane) → ManagerPart f g → IsPlan f.plan × HaveOneWay f → IsPlan g.plan × HaveOneWay g
part_way f g part both = (
  subst IsPlan (sym alike) both.0,
  λ t id named loud.
      by t id (ap (λ (p : Plan). slice_get p.ids t) (sym alike) ∙ named)
      (both.1 t id (ap (λ (p : Plan). slice_get p.ids t) (sym alike) ∙ named) (part_loud f g part t loud)) part,
)
  where
    alike : g.plan ≡ f.plan
    alike = (part_alike f g part).plan

    by : (t : ℕ) (id : SwitchId) → slice_get f.plan.ids t ≡ Some id → HasOneWay (f.view t).place (f.reports t) (f.orders t) → ManagerPart f g →
        HasOneWay (g.view t).place (g.reports t) (g.orders t)
    by t id there before (Treated s told_id told mid within named taken turns) =
        treated_way f mid g (ids_apart f.plan both.0) s told_id told named taken turns t id there before
    by t id there before (Turned turns) =
        let wishes = turned_wishes (f.reports t) (g.reports t) (turns.reports t) in
        let orders = ap (how_many is_number) (turns.orders t) in
        let known = ap (λ (v : SwitchView). one_if (is_some (own_pod v.place))) (turns.alike.view t) in
        let position = ap (λ (v : SwitchView). one_if (is_known v.place.position 0)) (turns.alike.view t) in
        omega (arith, wishes, orders, known, position, before)
    by t id there before (Released aged releases) =
        let learns = releases_learn f aged g releases in
        let wishes = ap (how_many is_wish) (releases.reports t) in
        let orders = ap (how_many is_number) (learns.orders t) ∙ how_many_append is_number (f.orders t) (learns.more t) in
        let none = none_released (learns.more t) (learns.releases t) in
        let known = ap (λ (v : SwitchView). one_if (is_some (own_pod v.place))) (learns.alike.view t) in
        let position = ap (λ (v : SwitchView). one_if (is_known v.place.position 0)) (learns.alike.view t) in
        omega (arith, wishes, orders, none, known, position, before)

-- what was told is sifted
sifted_way : (f g : ControlPlane) → IsSifted f g → HaveOneWay f → HaveOneWay g
sifted_way f g sifted all t id named loud =
    let silence : is_silent f.orders t ≡ false = ap (list_any is_hello) (sym (sifted.orders t)) ∙ loud in
    let before = all t id (ap (λ (p : Plan). slice_get p.ids t) (sym sifted.alike.plan) ∙ named) silence in
    let wishes = ap (how_many is_wish) (sifted.reports t ∙ ap (λ b. cond b [] (words_of (f.reports t))) silence) ∙ wish_words (f.reports t) in
    let orders = ap (how_many is_number) (sifted.orders t) in
    let known = ap (λ (v : SwitchView). one_if (is_some (own_pod v.place))) (sifted.alike.view t) in
    let position = ap (λ (v : SwitchView). one_if (is_known v.place.position 0)) (sifted.alike.view t) in
    omega (arith, wishes, orders, known, position, before)

due_way : (f g : ControlPlane) → IsPlan f.plan → ArePlaced f.plan f → FixedAreApart f.plan f.view → FixedAreApart f.plan g.view → ArePodNumbers f →
    AreUnheard f →
    HaveOneWay f → DueStep Loose f g → HaveOneWay g
due_way f g is placed apart apart_then numbers unheard all (Stepped told step sifted) =
    sifted_way told g sifted (step_way f told is placed apart (λ pod i j x s t a b c d. apart_then pod i j x s t a b
    (ap (λ (v : SwitchView). v.place.position) (sifted.alike.view s) ∙ c)
    (ap (λ (v : SwitchView). v.place.position) (sifted.alike.view t) ∙ d)) numbers unheard all step.0 step.1)
due_way f g is placed apart apart_then numbers unheard all (ManagedBy mids parts) =
    (through_parts (λ x. IsPlan x.plan × HaveOneWay x) part_way mids f g parts (is, all)).1

-- of the whole control plane
pub ways_kept : (f g : ControlPlane) → IsPlan f.plan → GathersWell f → ArePlaced f.plan f → FixedAreApart f.plan f.view → FixedAreApart f.plan g.view →
    ArePodNumbers f →
    HaveOneWay (due_plane f) → WholeStep Loose whole_rule f g → HaveOneWay (due_plane g)
ways_kept f g is well placed apart apart_then numbers all step =
    due_way (due_plane f) (due_plane g) is
    (record { links = placed.links; strangers = placed.strangers; own = placed.own; pods = placed.pods; sound = placed.sound })
    apart apart_then numbers (due_unheard f is well) all (step_due f g is well step.0 step.1)

-- a manager that begins anew has heard nobody yet
pub ways_anew : (f g : ControlPlane) → IsPlan f.plan → Restarts f g → HaveOneWay (due_plane g)
ways_anew f g is restarts s id named loud = absurd (none_loud f g is restarts s id named loud)

-- at the beginning no switch has a position
pub ways_at_first : (plan : Plan) (limits : Limits) → HaveOneWay (due_plane (control_plane (booted plan limits)))
ways_at_first plan limits s id named loud =
    let f = control_plane (booted plan limits) in
    let position : (f.view s).place.position ≡ None = booted_view (λ (v : SwitchView). v.place.position ≡ None) (λ i k. refl) plan.k plan.ids s in
    let nothing = ap (how_many is_wish) (nothing_due f refl s (replicated (switch_count plan.k) s [])) in
    let orders = ap (how_many is_number) (replicated (switch_count plan.k) s []) in
    let known = ap (λ (o : Option ℕ). one_if (is_some (if is_known o 0 then (f.view s).place.pod else None))) position in
    let zero = ap (λ (o : Option ℕ). one_if (is_known o 0)) position in
    omega (arith, nothing, orders, known, zero)
