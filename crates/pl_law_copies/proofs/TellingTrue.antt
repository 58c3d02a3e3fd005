-- What a switch tells in a step is so.
use Rattle.std.proofs.Common.{◌≡◌, ℕ, true, List}
use Rattle.std.specs.List.{AllByRecursion}
use Rattle.pl_layouts.specs.declared.place.Place.{Place}
use Rattle.pl_node.specs.declared.acts.Act.{Act}
use Rattle.pl_node.specs.declared.acts.Act.TheVariants as act
use Rattle.pl_node.specs.declared.messages.ToManager.{ToManager}
use Rattle.pl_node.specs.declared.messages.ToManager.TheVariants as tell
use Rattle.pl_node.specs.declared.messages.ToSwitch.{ToSwitch}
use Rattle.pl_node.specs.SwitchViews.{SwitchView}
use Rattle.pl_steps.specs.Steps.{SwitchStep}
use Rattle.pl_switch_rule.specs.Announcing.{ticks}
use Rattle.pl_switch_rule.specs.Forwarding.{Choice}
use Rattle.pl_switch_rule.specs.Intake.{comes_from_host, has_member_of}
use Rattle.pl_switch_rule.specs.Messages.{hears_manager}
use Rattle.pl_switch_rule.specs.SwitchRule.{comes_from_switch, control_comes}
use Rattle.pl_law_control_plane.specs.ControlPlanes.{tells}
use Rattle.pl_switch_rule.specs.Messages.{hears_manager}
use Rattle.pl_switch_rule.proofs.Exports.{any_way, ChangeActs, control_acts, host_frame_acts, HostActs, IsAnyPort, manager_acts, switch_frame_acts, ticks_acts}
use Rattle.pl_law_control_plane.proofs.Exports.{told_all}

-- the places that are told are such, and members are told at an edge switch alone
abbrev pub IsSaid : (Place → Type 0) → Type 0 → ToManager → Type 0
IsSaid own edge (tell.Place place) = own place
IsSaid own edge (tell.Members group any) = edge
IsSaid own edge told = Unit {0}

module _ (own : Place → Type 0) (edge : Type 0) where
  abbrev pub IsTrueAct : Act → Type 0
  IsTrueAct (act.Tell told) = IsSaid own edge told
  IsTrueAct a = Unit {0}

  abbrev pub AreTrue : List Act → Type 0
  AreTrue acts = AllByRecursion IsTrueAct acts

  pub true_words : (acts : List Act) → AreTrue acts → AllByRecursion (IsSaid own edge) (tells acts)
  true_words = told_all IsTrueAct

  abbrev Says : SwitchStep → Type 0
  Says step = AreTrue step.acts

  host_acts : HostActs IsTrueAct
  host_acts = record {
    frames = record { passed = λ port frame way. tt; redirected = λ old new. tt; dropped = λ cause. tt; taken = tt; asked = λ asker asker_ip ip. tt };
    grants = record { granted = λ address amac. tt; learnt = λ address amac ip. tt };
    made = λ frame. tt;
    aged = λ address number. tt;
    freed = λ address. tt;
    reported = record { begun = λ epoch. tt; ended = λ epoch. tt; trapped = λ old new number. tt };
  }

  change_acts : (place : Place) → own place → ChangeActs place IsTrueAct
  change_acts place so = record { placed = so; linked = λ neighbour usable. tt; wanted = λ position. tt }

  pub over_link_true : (choose : Choice) (v : SwitchView) (port : ℕ) (frame : List ℕ) → Says (comes_from_switch choose v port frame)
  over_link_true choose v port frame = switch_frame_acts IsTrueAct IsAnyPort host_acts.frames choose v (any_way choose v) port frame (λ trap met ip. tt)

  pub ticks_true : (v : SwitchView) → own v.place → Says (ticks v)
  ticks_true v so = ticks_acts IsTrueAct v (change_acts v.place so) (λ port frame. tt) (λ port frame. tt) (λ frame. tt) (λ address number. tt)

  -- a frame of a host, at an edge switch
  pub of_host_true : (choose : Choice) (v : SwitchView) (port : ℕ) (frame : List ℕ) → edge → own (comes_from_host choose v port frame).view.place →
      Says (comes_from_host choose v port frame)
  of_host_true choose v port frame at_edge so = host_frame_acts IsTrueAct choose host_acts (λ group any. at_edge) v port frame (change_acts _ so)

  -- a message of the manager
  pub hears_true : (choose : Choice) (v : SwitchView) (says : ToSwitch) → own (hears_manager choose v says).view.place →
      ((group : ℕ) → has_member_of v.members group ≡ true → edge) → Says (hears_manager choose v says)
  hears_true choose v says so members = manager_acts IsTrueAct choose host_acts v (λ group any had. members group had) says (change_acts _ so)

  -- a control frame
  pub control_true : (v : SwitchView) (port : ℕ) (frame : List ℕ) → own (control_comes v port frame).view.place → Says (control_comes v port frame)
  control_true v port frame so = control_acts IsTrueAct v port frame (change_acts _ so) host_acts.grants (λ at told. tt)
