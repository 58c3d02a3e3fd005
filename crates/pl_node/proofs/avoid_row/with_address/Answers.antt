use Rattle.std.proofs.Common.{◌∙◌, sym}
use Rattle.pl_bits.specs.Bits.{has_bit}
use Rattle.pl_node.proofs.Shown.{with_address_bits, without_address_bits}
use Rattle.pl_node.proofs.avoid_row.with_address.Goals as goal

pub returns-in-Some-clause-bits : goal.returns-in-Some-clause-bits
returns-in-Some-clause-bits c n small =
    with_address_bits c.args.pod c.args.position c.in-Some.number n (has_bit c.args.row.words n) (has_bit c.with.result.words n)
    (sym c.number_of.ensures.number ∙ c.in-Some.is) small (c.with.ensures.bits n)

pub returns-in-None-clause-bits : goal.returns-in-None-clause-bits
returns-in-None-clause-bits c n small =
    without_address_bits c.args.pod c.args.position n (has_bit c.args.row.words n) (sym c.number_of.ensures.number ∙ c.in-None.is) small
