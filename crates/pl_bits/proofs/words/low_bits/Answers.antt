use Rattle.std.proofs.Common.{◌∙◌, ◌-◌, ap, bit_and}
use Rattle.std.proofs.lemmas.Nat.{and_mask, one_shl}
use Rattle.pl_bits.proofs.words.low_bits.Goals as goal

pub returns : goal.returns
returns c = ap (λ n. bit_and c.args.word (n - 1)) (one_shl c.args.count 64 c.requires) ∙ and_mask c.args.word c.args.count
