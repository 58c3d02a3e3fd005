use Rattle.std.proofs.Common.{refl}
use Rattle.pl_bits.proofs.RowBits.{no_bits}
use Rattle.pl_bits.proofs.row.Row.none.Goals as goal

pub returns : goal.returns
returns c = no_bits c.new.result.items 0 refl
