-- Each switch keeps the id that the wiring gives it.
use Rattle.std.proofs.Common.{◌≡◌, ℕ, zero, suc, List, [], ◌∷◌, map, Some, get_or, slice_get, sym, ap, ◌∙◌, inl, inr}
use Rattle.std.proofs.lemmas.Bool.{cases_eq}
use Rattle.std.proofs.lemmas.Option.{same_Some}
use Rattle.pl_frame.specs.declared.address.SwitchId.{SwitchId}
use Rattle.pl_wiring.specs.Plan.{Plan}
use Rattle.pl_node.specs.Accounting.{AccountsForFrames}
use Rattle.pl_node.specs.HostDuties.{HostsSendData}
use Rattle.pl_node.specs.HostInputs.{HostRule}
use Rattle.pl_node.specs.ManagerDuties.{ManagerRule}
use Rattle.pl_node.specs.SwitchFacts.{switch_at_boot}
use Rattle.pl_node.specs.SwitchInputs.{SwitchInput, SwitchRule}
use Rattle.pl_world.specs.declared.limits.Limits.{Limits}
use Rattle.pl_world.specs.Booting.{CanBegin, booted}
use Rattle.pl_world.specs.Runs.{Moment, WorldRun}
use Rattle.pl_world.specs.Worlds.{WorldView}
use Rattle.pl_world.proofs.Exports.{booted_is_counted}
use Rattle.pl_law_control_plane.specs.ControlPlanes.{ControlPlane, control_plane, no_switch}
use Rattle.pl_law_control_plane.specs.HostsAtEdges.{HostsAtEdges}
use Rattle.pl_law_control_plane.specs.Ids.{HasIds}
use Rattle.pl_law_control_plane.specs.PlaneSteps.{IsLeft, PlaneStep, SwitchTurns}
use Rattle.pl_law_control_plane.specs.PlaneSteps.PlaneStep.{Carried, Entered, Heard, Left, Managed, Ordered, Ticked}
use Rattle.pl_law_control_plane.specs.Restarts.{OnPlane}
use Rattle.pl_law_control_plane.specs.Restarts.OnPlane.{BeginsAnew, Steps}
use Rattle.pl_law_control_plane.proofs.KeptInRuns.{kept_in_run, step_keeps_hosts}
use Rattle.pl_law_control_plane.proofs.HostsAtEdgePorts.{hosts_at_first}
use Rattle.pl_law_control_plane.proofs.StepsOfPlane.{step_on_plane}

ids_left : (f g : ControlPlane) → IsLeft f g → HasIds f → HasIds g
ids_left f g left ids = λ s id named. ap (λ v. v.id) (left.view s) ∙ ids s id (ap (λ plan. slice_get plan.ids s) (sym left.plan) ∙ named)

ids_turned : (rule : SwitchRule) (f g : ControlPlane) (s : ℕ) (input : SwitchInput) → SwitchTurns rule f s input g → HasIds f → HasIds g
ids_turned rule f g s input turns ids = λ t id named.
    let before : slice_get f.plan.ids t ≡ Some id = ap (λ plan. slice_get plan.ids t) (sym turns.acted.plan) ∙ named in
    elim (cases_eq t s) [
      | inl same ↦ ap (λ x. (g.view x).id) same ∙ ap (λ v. v.id) turns.acted.here ∙ turns.accounted.id ∙ ap (λ x. (f.view x).id) (sym same) ∙ ids t id before
      | inr differ ↦ ap (λ v. v.id) (turns.acted.others t differ) ∙ ids t id before
    ]

pub ids_kept : (switch : SwitchRule) (manager : ManagerRule) (f g : ControlPlane) → PlaneStep switch manager f g → HasIds f → HasIds g
ids_kept switch manager f g (Left left) ids = ids_left f g left ids
ids_kept switch manager f g (Ticked s turns) ids = ids_turned switch f g s _ turns ids
ids_kept switch manager f g (Heard t q s port frame mid adjacent control taken turns) ids = ids_turned switch mid g s _ turns (ids_left f mid taken.left ids)
ids_kept switch manager f g (Carried t q s port frame mid adjacent kind carries taken turns) ids = ids_turned switch mid g s _ turns (ids_left f mid taken.left ids)
ids_kept switch manager f g (Entered s port frame edge within free kind turns) ids = ids_turned switch f g s _ turns ids
ids_kept switch manager f g (Ordered s says mid taken turns) ids = ids_turned switch mid g s _ turns (ids_left f mid taken.left ids)
ids_kept switch manager f g (Managed s x told mid there named taken turns) ids = λ t id known.
    ap (λ v. v.id) (turns.view t) ∙ ids_left f mid taken.left ids t id (ap (λ plan. slice_get plan.ids t) (sym turns.plan) ∙ known)

ids_on : (switch : SwitchRule) (manager : ManagerRule) (f g : ControlPlane) → OnPlane switch manager f g → HasIds f → HasIds g
ids_on switch manager f g (Steps step) ids = ids_kept switch manager f g step.0 ids
ids_on switch manager f g (BeginsAnew anew) ids = λ s id named.
    ap (λ v. v.id) (anew.alike.view s) ∙ ids s id (ap (λ plan. slice_get plan.ids s) (sym anew.alike.plan) ∙ named)

booted_ids : (ids : List SwitchId) (k s : ℕ) (id : SwitchId) → slice_get ids s ≡ Some id → (get_or (map (λ x. switch_at_boot x k) ids) s no_switch).id ≡ id
booted_ids [] k s id e = absurd (cc)
booted_ids (x ∷ ids) k zero id e = same_Some x id e
booted_ids (x ∷ ids) k (suc s) id e = booted_ids ids k s id e

record Both (w : WorldView) : Type 0 where
  hosts : HostsAtEdges w
  ids : HasIds (control_plane w)

pub ids_in_runs : (switch : SwitchRule) (manager : ManagerRule) (host : HostRule) → AccountsForFrames switch → HostsSendData host → (plan : Plan) (limits : Limits)
    (moments : List Moment) (new : WorldView) → CanBegin plan → WorldRun switch manager host (booted plan limits) moments new → HasIds (control_plane new)
ids_in_runs switch manager host accounts sends plan limits moments new can run =
    (kept_in_run switch manager host accounts sends Both
    (λ old event next counted both none step. record {
      hosts = step_keeps_hosts switch manager host accounts sends old event next counted both.hosts none step;
      ids = ids_on switch manager (control_plane old) (control_plane next) (step_on_plane switch manager host accounts old event next counted both.hosts none step) both.ids;
    })
    (λ w entry both. record { hosts = both.hosts; ids = both.ids })
    (booted plan limits) moments new (booted_is_counted plan limits can)
    (record { hosts = hosts_at_first plan can.is_plan; ids = λ s id e. booted_ids plan.ids plan.k s id e }) run).ids
