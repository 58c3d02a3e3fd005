use Rattle.std.proofs.Common.{◌∙◌, sym, ap}
use Rattle.pl_node.specs.HostViews.{ip_cmp}
use Rattle.pl_node.specs.ManagerViews.{value_at}
use Rattle.pl_registry.proofs.Telling.{told_in_order}
use Rattle.pl_registry.proofs.owners.Owners.get.Goals as goal

pub returns : goal.returns
returns c =
    c.copied.ensures ∙ c.get.ensures.value ∙ sym (told_in_order c.self.inside.told.entries c.args.ip)
    ∙ ap (λ entries. value_at ip_cmp entries c.args.ip) c.self.view_is
