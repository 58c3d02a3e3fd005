use Rattle.std.proofs.Common.{◌∙◌, ap}
use Rattle.pl_node.specs.AvoidRows.{entries_of}
use Rattle.pl_node.proofs.AvoidRows.{stands_for_none}
use Rattle.pl_node.proofs.avoid_bits.is_blank.Goals as goal

pub returns : goal.returns
returns c same = ap entries_of (c.is_same_row.ensures same) ∙ stands_for_none c.of-blank.result c.of-blank.ensures.none
