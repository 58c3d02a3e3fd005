-- The rule of the manager over all its epochs. In the first it treats each word as it comes, by the rule of one epoch. In each later one it knows nothing
-- at first, and hears a report of each switch: until all of these have ended it keeps what comes, and says nothing.
use Rattle.std.specs.Prelude.{◌≡◌}
use Rattle.pl_frame.specs.declared.address.SwitchId.{SwitchId}
use Rattle.pl_gathering.specs.Acting.{Step, steps}
use Rattle.pl_gathering.specs.Gathering.{Gathered}
use Rattle.pl_node.specs.declared.acts.ManagerAct.{ManagerAct}
use Rattle.pl_node.specs.declared.messages.ToManager.{ToManager}
use Rattle.pl_node.specs.ManagerDuties.{ManagerRule}
use Rattle.pl_node.specs.ManagerFacts.{switch_count}
use Rattle.pl_node.specs.ManagerViews.{ManagerView}
use Rattle.pl_manager_rule.specs.ManagerRule.{ManagerStep}
use Rattle.pl_manager_rule.specs.Treating.{Treating, as_report, at_rest, follows, treats, waits_for_places}

-- the manager as one that gathers the reports of all switches of its tree
abbrev pub gathered : ManagerView → Gathered Treating ToManager
gathered view = record {
  many = switch_count view.k;
  epoch = view.epoch;
  begun = view.begun;
  ended = view.ended;
  kept = view.kept;
  known = at_rest view;
}

-- what it knows, with what it gathered
abbrev pub viewed : Gathered Treating ToManager → ManagerView
viewed g = record g.known.view { epoch = g.epoch; begun = g.begun; ended = g.ended; kept = g.kept }

abbrev pub as_step : Step Treating ToManager ManagerAct → ManagerStep
as_step step = record { view = viewed step.now; acts = step.acts }

-- the step: a switch says this
unfoldable pub manager_steps : ManagerView → SwitchId → ToManager → ManagerStep
manager_steps view s says = as_step (steps treats waits_for_places follows (gathered view) s (as_report says))

-- the rule of this fabric manager: just that step
abbrev pub whole_rule : ManagerRule
whole_rule before s says after acts = (after ≡ (manager_steps before s says).view) × (acts ≡ (manager_steps before s says).acts)
