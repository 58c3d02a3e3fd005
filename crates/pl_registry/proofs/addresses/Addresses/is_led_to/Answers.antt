use Rattle.std.proofs.Common.{◌∙◌, ap, List}
use Rattle.pl_node.specs.ManagerViews.{LearntAddress, is_led_to}
use Rattle.pl_registry.specs.Addresses.{learnt_of}
use Rattle.pl_registry.proofs.Finding.{trapped_listed}
use Rattle.pl_registry.proofs.addresses.Addresses.is_led_to.Goals as goal

pub returns : goal.returns
returns c =
    c.is_any_trap_to.ensures ∙ trapped_listed c.args.pmac c.self.inside.known.entries
    ∙ ap (λ (v : List LearntAddress). is_led_to (learnt_of v) c.args.pmac) c.self.view_is
