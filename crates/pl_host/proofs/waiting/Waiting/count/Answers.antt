use Rattle.std.proofs.Common.{◌∙◌, sym, ap, length}
use Rattle.std.specs.List.{sum_by}
use Rattle.pl_node.specs.HostViews.{HeldFrames}
use Rattle.pl_host.proofs.Holding.{count-entries}
use Rattle.pl_host.proofs.waiting.Waiting.count.Goals as goal

pub returns : goal.returns
returns c =
    c.self.invariant.count ∙ sym (count-entries c.self.inside.by_address.entries) ∙ ap (λ (held : HeldFrames). sum_by (λ entry. length entry.1) held) c.self.view_is
