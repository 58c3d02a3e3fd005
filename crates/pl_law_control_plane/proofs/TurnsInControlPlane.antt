-- A turn of a switch in the world is one in the control plane.
use Rattle.std.proofs.Common.{◌≡◌, ℕ, ◌*◌, ◌<◌, List, [], length, get_or, set, sym, ap, ◌∙◌, subst, arith, get_or-set_same, get_or-set_other}
use Rattle.std.specs.List.{AllByRecursion}
use Rattle.std.proofs.lemmas.Option.{get_or_from_slice_get, slice_get_within}
use Rattle.pl_wiring.specs.Labels.{switch_count}
use Rattle.pl_wiring.specs.Plan.{IsPlan, Plan}
use Rattle.pl_node.specs.declared.acts.Act.{Act}
use Rattle.pl_node.specs.declared.messages.ToManager.{ToManager}
use Rattle.pl_node.specs.Accounting.{AccountsForFrames, CanCome, IsAccounted, IsShaped}
use Rattle.pl_node.specs.SwitchInputs.{SwitchInput, SwitchRule}
use Rattle.pl_node.specs.SwitchViews.{SwitchView}
use Rattle.pl_world.specs.declared.item.Item.{Item}
use Rattle.pl_world.specs.declared.spoken_frame.SpokenFrame.{SpokenFrame}
use Rattle.pl_world.specs.Changes.{is_failed_at}
use Rattle.pl_world.specs.Flying.{IsCounted}
use Rattle.pl_world.specs.SwitchActs.{acts_done, begins, switch_stepped}
use Rattle.pl_world.specs.WorldRule.{SwitchTurn}
use Rattle.pl_world.specs.Worlds.{WorldView}
use Rattle.pl_world.proofs.Exports.{all_found}
use Rattle.pl_law_control_plane.specs.ControlPlanes.{control_plane, no_switch}
use Rattle.pl_law_control_plane.specs.PlaneSteps.{IsActed, SwitchTurns}
use Rattle.pl_law_control_plane.proofs.ActsOnQueues.{Grows, acts_grow}

-- what a turn of a switch asks of the world: there is one of each, and switches are what they should be
pub record IsSolid (plan : Plan) (switches : List SwitchView) (out : List (List Item)) (to_manager : List (List ToManager)) : Type 0 where
  pub is_plan : IsPlan plan
  pub many : length switches ≡ switch_count plan.k
  pub queues : length out ≡ switch_count plan.k * plan.k
  pub told : length to_manager ≡ switch_count plan.k
  pub sizes : AllByRecursion (λ v. v.k ≡ plan.k) switches
  pub shaped : AllByRecursion IsShaped switches

pub solid : (w : WorldView) → IsCounted w → IsSolid w.plan w.switches w.out w.to_manager
solid w is = record {
  is_plan = is.formed.plan;
  many = is.formed.switches;
  queues = is.formed.out;
  told = is.formed.to_manager;
  sizes = is.formed.ports;
  shaped = is.shaped;
}

-- the acts of a switch that has a new view, seen in the control plane
acted : (w : WorldView) (s : ℕ) (after : SwitchView) (speech : SpokenFrame) (acts : List Act) (old new : SwitchView) → s < length w.switches →
    Grows (record w { switches = set w.switches s after }) s acts (acts_done s (begins (record w { switches = set w.switches s after }) speech) acts).world →
    IsActed (control_plane w) s after (is_failed_at w s) acts (control_plane (switch_stepped w s old after speech acts))
acted w s after speech acts old new within grows = record {
  plan = grows.plan;
  here = ap (λ views. get_or views s no_switch) grows.switches ∙ get_or-set_same w.switches s after no_switch within;
  others = λ t differ. ap (λ views. get_or views t no_switch) grows.switches ∙ get_or-set_other w.switches s t after no_switch differ;
  says = grows.says;
  other_says = grows.other_says;
  carries = grows.carries;
  other_carries = grows.other_carries;
  reports = grows.reports;
  other_reports = grows.other_reports;
  orders = λ t. ap (λ queues. get_or queues t []) grows.orders;
  manager = grows.manager;
}

pub switch_turns : (rule : SwitchRule) → AccountsForFrames rule → (w : WorldView) (s : ℕ) (input : SwitchInput) (speech : SpokenFrame) (new : WorldView) →
    IsSolid w.plan w.switches w.out w.to_manager → ((v : SwitchView) → v.k ≡ w.plan.k → CanCome v input) →
    SwitchTurn rule w s input speech new → SwitchTurns rule (control_plane w) s input (control_plane new)
switch_turns rule accounts w s input speech new is can turn =
    let within : s < length w.switches = slice_get_within w.switches s turn.before turn.found in
    let same : get_or w.switches s no_switch ≡ turn.before = get_or_from_slice_get w.switches s turn.before no_switch turn.found in
    let size : turn.before.k ≡ w.plan.k = all_found (λ (u : SwitchView). u.k ≡ w.plan.k) w.switches s turn.before turn.found is.sizes in
    let shaped : IsShaped turn.before = all_found IsShaped w.switches s turn.before turn.found is.shaped in
    let accounted : IsAccounted turn.before input turn.after turn.acts = accounts turn.before input turn.after turn.acts shaped (can turn.before size) turn.ruled in
    let there : s < switch_count w.plan.k = let e = is.many in omega arith in
    let w1 : WorldView = record w { switches = set w.switches s turn.after } in
    let grows = acts_grow s (begins w1 speech) turn.acts (rw (← size) accounted.fit) there is.queues is.told in
    record {
      after = turn.after;
      acts = turn.acts;
      failed = is_failed_at w s;
      there = there;
      shaped = rw same shaped;
      size = rw same size;
      ruled = subst (λ v. rule v input turn.after turn.acts) (sym same) turn.ruled;
      accounted = subst (λ v. IsAccounted v input turn.after turn.acts) (sym same) accounted;
      acted = subst (λ x. IsActed (control_plane w) s turn.after (is_failed_at w s) turn.acts (control_plane x)) (sym turn.changed)
          (acted w s turn.after speech turn.acts turn.before turn.after within grows);
    }
