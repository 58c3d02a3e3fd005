use Rattle.std.proofs.Common.{sym, ap, ◌∙◌, ◌++◌}
use Rattle.pl_node.specs.SwitchViews.{SwitchView}
use Rattle.pl_switch_rule.specs.Telling.{changes_told}
use Rattle.pl_edge.specs.EdgeViews.{edge_in}
use Rattle.pl_switch_state.proofs.Settled.{told_and_granted}
use Rattle.pl_switch_state.proofs.settling.tell_and_grant.Goals as goal

pub returns-clause-taken : goal.returns-clause-taken
returns-clause-taken c = λ old w same stands is_ports is_edge.
    let out = c.args.out.now in
    told_and_granted old w (edge_in c.settle_in.new.edge w) c.args.before.now.place out c.tell_changes.new.out c.settle_in.new.out stands.place
    (c.in_ok-tell_changes.ensures old w same stands ∙ ap (λ u. out ++ changes_told old u) is_ports)
    (c.in_ok-settle_in.ensures.taken w (sym (ap (λ (u : SwitchView). u.place) is_ports)) (sym (ap (λ (u : SwitchView). u.k) is_ports)) is_edge)
