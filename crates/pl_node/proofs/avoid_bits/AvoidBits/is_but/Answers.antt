use Rattle.std.proofs.Common.{ap}
use Rattle.pl_node.specs.Hidden.{shown}
use Rattle.pl_node.proofs.avoid_bits.AvoidBits.is_but.Goals as goal

pub returns-then-has_same_rows : goal.returns-then-has_same_rows
returns-then-has_same_rows c =
    (λ u. ap (shown c.args.hidden) (c.has_same_rows.ensures c.if-has_same_rows.true), λ same. c.if-has_same_rows.true)
