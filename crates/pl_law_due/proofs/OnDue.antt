-- A step of the control plane, or a restart, to what is due.
use Rattle.std.proofs.Common.{sym, ap, subst, ◌∙◌}
use Rattle.pl_wiring.specs.Plan.{IsPlan, Plan}
use Rattle.pl_node.specs.ManagerViews.{ManagerView}
use Rattle.pl_manager_rule.specs.WholeRule.{whole_rule}
use Rattle.pl_manager_rule.proofs.Exports.{whole_answers}
use Rattle.pl_switch_rule.specs.SwitchRule.{Loose}
use Rattle.pl_law_control_plane.specs.ControlPlanes.{ControlPlane}
use Rattle.pl_law_control_plane.specs.PlaneSteps.{PlaneStep}
use Rattle.pl_law_control_plane.specs.PlaneSteps.PlaneStep.{Carried, Entered, Heard, Left, Managed, Ordered, Ticked}
use Rattle.pl_law_control_plane.specs.Restarts.{OnPlane, Restarts, RestartsWith}
use Rattle.pl_law_control_plane.specs.Restarts.OnPlane.{BeginsAnew, Steps}
use Rattle.pl_law_due.specs.Due.{due_plane}
use Rattle.pl_law_due.specs.DueSteps.{OnDue}
use Rattle.pl_law_due.specs.DueSteps.OnDue.{BeginsAnew as DueAnew, Steps as DueSteps}
use Rattle.pl_law_due.specs.Gathering.{EpochsAgree, GathersWell, IsSized}
use Rattle.pl_law_due.proofs.Epochs.{restart_agrees, step_agrees}
use Rattle.pl_law_due.proofs.Restarting.{restart_due, restart_gathers}
use Rattle.pl_law_due.proofs.Stepping.{step_due, step_gathers}

-- ---- the manager knows how many ports switches have
step_sized : (f g : ControlPlane) → IsSized f → PlaneStep Loose whole_rule f g → IsSized g
step_sized f g size (Left left) = ap (λ (m : ManagerView). m.k) left.manager ∙ size ∙ sym (ap (λ (p : Plan). p.k) left.plan)
step_sized f g size (Ticked s turns) = ap (λ (m : ManagerView). m.k) turns.acted.manager ∙ size ∙ sym (ap (λ (p : Plan). p.k) turns.acted.plan)
step_sized f g size (Heard t q s port frame mid adjacent control taken turns) =
    ap (λ (m : ManagerView). m.k) (turns.acted.manager ∙ taken.left.manager) ∙ size ∙ sym (ap (λ (p : Plan). p.k) (turns.acted.plan ∙ taken.left.plan))
step_sized f g size (Carried t q s port frame mid adjacent kind carries taken turns) =
    ap (λ (m : ManagerView). m.k) (turns.acted.manager ∙ taken.left.manager) ∙ size ∙ sym (ap (λ (p : Plan). p.k) (turns.acted.plan ∙ taken.left.plan))
step_sized f g size (Entered s port frame edge within free kind turns) =
    ap (λ (m : ManagerView). m.k) turns.acted.manager ∙ size ∙ sym (ap (λ (p : Plan). p.k) turns.acted.plan)
step_sized f g size (Ordered s says mid taken turns) =
    ap (λ (m : ManagerView). m.k) (turns.acted.manager ∙ taken.left.manager) ∙ size ∙ sym (ap (λ (p : Plan). p.k) (turns.acted.plan ∙ taken.left.plan))
step_sized f g size (Managed s id told mid there named taken turns) =
    ap (λ (m : ManagerView). m.k) turns.manager ∙ (whole_answers.grows mid.manager id told turns.after turns.acts turns.ruled).k
    ∙ ap (λ (m : ManagerView). m.k) taken.left.manager ∙ size ∙ sym (ap (λ (p : Plan). p.k) (turns.plan ∙ taken.left.plan))

pub restarts_here : (f g : ControlPlane) → IsSized f → RestartsWith f.manager.k f g → Restarts f g
restarts_here f g size anew = subst (λ k. RestartsWith k f g) size anew

-- ---- what each step of the world, and a restart, is to what is due
module _ (f g : ControlPlane) (is : IsPlan f.plan) (size : IsSized f) where
  pub on_sized : OnPlane Loose whole_rule f g → IsSized g
  on_sized (Steps step) = step_sized f g size step.0
  on_sized (BeginsAnew anew) = ap (λ (m : ManagerView). m.k) anew.manager ∙ size ∙ sym (ap (λ (p : Plan). p.k) anew.alike.plan)

  module _ (well : GathersWell f) where
    pub on_due : OnPlane Loose whole_rule f g → OnDue Loose (due_plane f) (due_plane g)
    on_due (Steps step) = DueSteps (step_due f g is well step.0 step.1)
    on_due (BeginsAnew anew) = DueAnew (restart_due f g is (restarts_here f g size anew))

    pub on_gathers : OnPlane Loose whole_rule f g → GathersWell g
    on_gathers (Steps step) = step_gathers f g is well step.0 step.1
    on_gathers (BeginsAnew anew) = restart_gathers f g is (restarts_here f g size anew)

    pub on_agrees : EpochsAgree f → OnPlane Loose whole_rule f g → EpochsAgree g
    on_agrees agree (Steps step) = step_agrees f g is well agree step.0 step.1
    on_agrees agree (BeginsAnew anew) = restart_agrees f g is agree (restarts_here f g size anew)
