use Rattle.std.proofs.Common.{◌∙◌, sym}
use Rattle.pl_reports.proofs.Placing.{without_none}
use Rattle.pl_reports.proofs.edges.remove.Goals as goal

pub returns-else-contains : goal.returns-else-contains
returns-else-contains c =
    sym (without_none c.args.switch c.args.edges.now (sym c.contains.ensures ∙ c.if-contains.false))
