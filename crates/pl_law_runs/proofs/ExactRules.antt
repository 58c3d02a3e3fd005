-- The rules of the switch, the manager and the hosts leave no choice.
use Rattle.std.proofs.Common.{◌≡◌, List, sym, ◌∙◌, ap}
use Rattle.pl_node.specs.declared.acts.HostAct.{HostAct}
use Rattle.pl_node.specs.HostInputs.{HostAnswer}
use Rattle.pl_node.specs.HostViews.{HostView}
use Rattle.pl_host_rule.specs.HostRule.{HostStep, host_rule}
use Rattle.pl_manager_rule.specs.WholeRule.{whole_rule}
use Rattle.pl_switch_rule.specs.SwitchRule.{Exact}
use Rattle.pl_law_runs.specs.NoChoice.{LeavesHostNoChoice, LeavesManagerNoChoice, LeavesSwitchNoChoice}

abbrev step_of : HostView → List HostAct → HostAnswer → HostStep
step_of view acts answer = record { view = view; acts = acts; answer = answer }

pub exact_leaves_no_choice : LeavesSwitchNoChoice Exact
exact_leaves_no_choice = λ old input one other acts more first second. (first.view ∙ sym second.view, first.done ∙ sym second.done)

pub whole_rule_leaves_no_choice : LeavesManagerNoChoice whole_rule
whole_rule_leaves_no_choice = λ old switch told one other acts more first second. (first.0 ∙ sym second.0, first.1 ∙ sym second.1)

pub host_rule_leaves_no_choice : LeavesHostNoChoice host_rule
host_rule_leaves_no_choice = λ old input one other acts more p q first second.
    let same : step_of one acts p ≡ step_of other more q = sym first ∙ second in
    (ap (λ (s : HostStep). s.view) same, ap (λ (s : HostStep). s.acts) same, ap (λ (s : HostStep). s.answer) same)
