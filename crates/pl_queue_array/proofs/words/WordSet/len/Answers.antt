use Rattle.std.proofs.Common.{length, sym, ap, ◌∙◌}
use Rattle.pl_bits.proofs.Exports.{length-bits_of}
use Rattle.pl_queue_array.proofs.words.WordSet.len.Goals as goal

pub returns : goal.returns
returns c = sym (length-bits_of c.self.inside.words.items c.self.inside.len) ∙ ap length c.self.view_is
