use Rattle.std.proofs.Common.{◌∙◌, ap, sym}
use Rattle.pl_node.specs.AvoidLists.{avoid_list}
use Rattle.pl_manager.specs.Routing.{RoutingView}
use Rattle.pl_manager.proofs.Lent.{list_found, list_missing}
use Rattle.pl_manager.proofs.routing.Routing.avoid_list.Goals as goal

pub returns-in-Some : goal.returns-in-Some
returns-in-Some c =
    list_found c.self.inside.matrix.told c.args.switch c.in-Some.list.now c.in-Some.ensures
    ∙ ap (λ (v : RoutingView). avoid_list v.told c.args.switch) c.self.view_is

pub returns-in-None : goal.returns-in-None
returns-in-None c =
    c.self.invariant.1 ∙ sym (list_missing c.self.inside.matrix.told c.args.switch c.in-None.ensures)
    ∙ ap (λ (v : RoutingView). avoid_list v.told c.args.switch) c.self.view_is
