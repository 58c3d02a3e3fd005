use Rattle.std.proofs.Common.{◌∙◌}
use Rattle.pl_faults.proofs.Filled.{none_filled}
use Rattle.pl_faults.proofs.row.none_reached.Goals as goal

pub returns : goal.returns
returns c = c.in_ok-row.ensures ∙ none_filled c.args.edges.now
