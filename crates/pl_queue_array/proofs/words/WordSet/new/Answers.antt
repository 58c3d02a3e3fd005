use Rattle.std.proofs.Common.{◌∙◌, ◌+◌, ◌/◌, ap}
use Rattle.pl_bits.specs.Bits.{bits_of}
use Rattle.pl_bits.proofs.Exports.{bits_of-zeros}
use Rattle.pl_queue_array.proofs.words.WordSet.new.Goals as goal

pub returns : goal.returns
returns c =
    ap (λ words. bits_of words c.args.len) (c.in_ok-words.ensures.items_if_clones_equal (λ y same. same))
    ∙ bits_of-zeros (c.args.len / 64 + 1) c.args.len
