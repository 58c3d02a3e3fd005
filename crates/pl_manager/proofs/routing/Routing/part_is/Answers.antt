use Rattle.std.proofs.Common.{◌≡◌, ◌∙◌, ◌↔◌, ap, subst, IsTrue, Option}
use Rattle.std.specs.Option.{option_copied}
use Rattle.pl_node.specs.declared.messages.TreePart.{TreePart}
use Rattle.pl_node.specs.Trees.{tree_part}
use Rattle.pl_manager.specs.Routing.{RoutingView}
use Rattle.pl_manager.proofs.routing.Routing.part_is.Goals as goal

pub returns : goal.returns
returns c =
    subst (λ (part : Option TreePart). IsTrue c.part_is.result ↔ (option_copied c.args.part ≡ part))
    (c.self.invariant.0.parts c.args.group c.args.switch
    ∙ ap (λ (v : RoutingView). tree_part v.told v.members c.args.group c.args.switch) c.self.view_is)
    c.part_is.ensures
