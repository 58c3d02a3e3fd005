use Rattle.std.proofs.Common.{◌∙◌, ◌++◌, ap}
use Rattle.pl_groups.specs.Kept.{members_in}
use Rattle.pl_manager_rule.specs.ManagerRule.{avoid_acts, with_link}
use Rattle.pl_manager.specs.Routing.{RoutingView, trees_told_anew}
use Rattle.pl_manager.proofs.routing.Routing.report.Goals as goal

pub tell_link-requires : goal.tell_link-requires
tell_link-requires c = c.self.invariant.0

pub returns-in-Ok-clause-after : goal.returns-in-Ok-clause-after
returns-in-Ok-clause-after c =
    (λ i. record { told = c.in-Ok.ensures.told i; members = c.in-Ok.ensures.members i })
    ∙ ap (λ (v : RoutingView). record v { told = with_link v.told c.args.switch c.args.neighbour c.args.usable }) c.self.view_is

pub returns-in-Ok-clause-acts : goal.returns-in-Ok-clause-acts
returns-in-Ok-clause-acts c =
    let now : RoutingView = record { told = c.tell_link.new.matrix.told; members = members_in c.tell_link.new.groups } in
    c.in-Ok.ensures.acts ∙ ap (λ (v : RoutingView). c.args.out.now ++ (avoid_acts v.told now.told ++ trees_told_anew v now)) c.self.view_is

pub invariant_of-self : goal.invariant_of-self
invariant_of-self c = (c.in-Ok.ensures.current, c.self.invariant.1)

pub invariant_of-self-in-Err : goal.invariant_of-self-in-Err
invariant_of-self-in-Err c = (c.forget.ensures, c.self.invariant.1)
