use Rattle.std.proofs.Common.{◌∙◌, ap, sym, List}
use Rattle.std.specs.Option.{option_map}
use Rattle.pl_node.specs.ManagerViews.{LearntAddress, newest}
use Rattle.pl_registry.specs.Addresses.{learnt_of, registration_of}
use Rattle.pl_registry.proofs.addresses.Addresses.newest.Goals as goal

pub returns : goal.returns
returns c =
    ap (option_map registration_of) (c.copied.ensures ∙ c.get.ensures.value) ∙ sym (c.self.invariant.newest c.args.amac)
    ∙ ap (λ (v : List LearntAddress). newest (learnt_of v) c.args.amac) c.self.view_is
