use Rattle.std.proofs.Common.{sym, subst}
use Rattle.pl_wiring.specs.Plan.{Plan}
use Rattle.pl_switch_rule.specs.SwitchRule.{Loose}
use Rattle.pl_switch_rule.proofs.Exports.{loose_steps_are_accounted}
use Rattle.pl_law_control_plane.specs.ControlPlanes.{control_plane}
use Rattle.pl_law_control_plane.proofs.Exports.{plan_same, step_on_plane}
use Rattle.pl_law_votes.specs.Voting.{IsVoting}
use Rattle.pl_law_votes.proofs.StepsKeepVotes.{votes_on}
use Rattle.pl_law_votes.proofs.vote_laws.each_step_keeps_the_votes_in_order.Goals as goal

pub returns : goal.returns
returns g c = λ old event new counted hosts can none step votes.
    let taken = step_on_plane Loose g.M.ManagerLogic.rule g.H.HostLogic.rule loose_steps_are_accounted old event new counted hosts none step in
    let after = control_plane new in
    subst (λ (plan : Plan). IsVoting plan after.view after.says) (sym (plan_same Loose g.M.ManagerLogic.rule (control_plane old) after taken))
    (votes_on g.M.ManagerLogic.rule (control_plane old) after can votes taken)
