use Rattle.std.proofs.Common.{◌∙◌, ◌++◌, ap}
use Rattle.std.specs.BTreeMap.{insert_entry}
use Rattle.pl_node.specs.ManagerViews.{members_cmp}
use Rattle.pl_groups.specs.Kept.{members_in}
use Rattle.pl_manager.specs.Routing.{RoutingView, trees_told_anew}
use Rattle.pl_manager.proofs.routing.Routing.set_members.Goals as goal

pub tell_members-requires : goal.tell_members-requires
tell_members-requires c = c.self.invariant.0

pub returns-in-Ok-clause-after : goal.returns-in-Ok-clause-after
returns-in-Ok-clause-after c =
    ap (λ ms. let v : RoutingView = record { told = c.self.inside.matrix.told; members = ms } in v) c.in-Ok.ensures.members
    ∙ ap (λ (v : RoutingView). record v { members = insert_entry members_cmp v.members (c.args.edge, c.args.group) c.args.any }) c.self.view_is

pub returns-in-Ok-clause-acts : goal.returns-in-Ok-clause-acts
returns-in-Ok-clause-acts c =
    let now : RoutingView = record { told = c.self.inside.matrix.told; members = members_in c.tell_members.new.groups } in
    c.in-Ok.ensures.acts ∙ ap (λ (v : RoutingView). c.args.out.now ++ trees_told_anew v now) c.self.view_is

pub invariant_of-self : goal.invariant_of-self
invariant_of-self c = (c.in-Ok.ensures.current, c.self.invariant.1)

pub invariant_of-self-in-Err : goal.invariant_of-self-in-Err
invariant_of-self-in-Err c = (c.forget.ensures, c.self.invariant.1)
