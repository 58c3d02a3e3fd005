use Rattle.std.proofs.Common.{◌∙◌, ◌++◌, ap}
use Rattle.pl_groups.specs.Kept.{members_in}
use Rattle.pl_manager_rule.specs.ManagerRule.{avoid_acts, with_place}
use Rattle.pl_manager.specs.Routing.{RoutingView, trees_told_anew}
use Rattle.pl_manager.proofs.routing.Routing.set_place.Goals as goal

pub tell_place-requires : goal.tell_place-requires
tell_place-requires c = c.self.invariant.0

pub returns-in-Ok-clause-after : goal.returns-in-Ok-clause-after
returns-in-Ok-clause-after c =
    (λ i. record { told = c.in-Ok.ensures.told i; members = c.in-Ok.ensures.members i })
    ∙ ap (λ (v : RoutingView). record v { told = with_place v.told c.args.switch c.args.place }) c.self.view_is

pub returns-in-Ok-clause-acts : goal.returns-in-Ok-clause-acts
returns-in-Ok-clause-acts c =
    let now : RoutingView = record { told = c.tell_place.new.matrix.told; members = members_in c.tell_place.new.groups } in
    c.in-Ok.ensures.acts ∙ ap (λ (v : RoutingView). c.args.out.now ++ (avoid_acts v.told now.told ++ trees_told_anew v now)) c.self.view_is

pub invariant_of-self : goal.invariant_of-self
invariant_of-self c = (c.in-Ok.ensures.current, c.self.invariant.1)

pub invariant_of-self-in-Err : goal.invariant_of-self-in-Err
invariant_of-self-in-Err c = (c.forget.ensures, c.self.invariant.1)
