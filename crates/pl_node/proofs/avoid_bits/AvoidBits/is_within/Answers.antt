use Rattle.std.proofs.Common.{subst}
use Rattle.std.specs.List.Sorted.{IsStrictlySortedBy}
use Rattle.pl_node.specs.AvoidLists.{avoided_cmp}
use Rattle.pl_node.proofs.AvoidRows.{list_rises}
use Rattle.pl_node.proofs.avoid_bits.AvoidBits.is_within.Goals as goal

pub returns-clause-rising : goal.returns-clause-rising
returns-clause-rising c = subst (IsStrictlySortedBy avoided_cmp) c.self.view_is (list_rises c.self.inside.rows.items c.self.inside.others)
