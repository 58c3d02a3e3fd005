use Rattle.std.proofs.Common.{length, sym, ap, ◌∙◌}
use Rattle.pl_pool.proofs.Items.{length_items}
use Rattle.pl_pool.proofs.iter.Iter.len.Goals as goal

pub returns : goal.returns
returns g c = sym (length_items c.self.inside.nodes.now c.self.inside.next c.self.inside.left c.self.invariant) ∙ ap length c.self.view_is
