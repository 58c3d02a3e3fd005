use Rattle.std.proofs.Common.{arith, length, ◌/◌, ◌<◌}
use Rattle.pl_node.proofs.AvoidRows.{bit_added}
use Rattle.pl_node.proofs.avoid_row.AvoidRow.with.Goals as goal

pub returns-clause-bits : goal.returns-clause-bits
returns-clause-bits c n =
    let room : c.args.number / 64 < length c.args.self.words = omega (arith, c.requires) in bit_added c.args.self.words c.args.number n room
