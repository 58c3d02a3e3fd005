use Rattle.std.proofs.Common.{◌∙◌, ap}
use Rattle.pl_bits.specs.Rows.{trues}
use Rattle.pl_node.specs.Trees.{core_reaches}
use Rattle.pl_groups.proofs.Rows.{count_is}
use Rattle.pl_groups.proofs.cores.reach.Goals as goal

pub returns : goal.returns
returns c =
    c.count.ensures ∙ ap trues c.in_ok-reached.ensures ∙ count_is (core_reaches c.args.reports.now c.args.core) c.args.needed.now
