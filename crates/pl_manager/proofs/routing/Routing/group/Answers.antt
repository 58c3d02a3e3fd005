use Rattle.std.proofs.Common.{◌∙◌, ap}
use Rattle.std.specs.List.{slice_get}
use Rattle.pl_node.specs.ManagerFacts.{groups}
use Rattle.pl_manager.specs.Routing.{RoutingView}
use Rattle.pl_manager.proofs.routing.Routing.group.Goals as goal

pub returns : goal.returns
returns c = c.group.ensures ∙ ap (λ (v : RoutingView). slice_get (groups v.members) c.args.n) c.self.view_is
