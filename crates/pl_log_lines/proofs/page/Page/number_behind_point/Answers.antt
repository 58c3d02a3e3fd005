use Rattle.std.proofs.Common.{codes, decimal}
use Rattle.pl_log_lines.proofs.Printing.{prints_then}
use Rattle.pl_log_lines.proofs.page.Page.number_behind_point.Goals as goal

pub returns : goal.returns
returns g c =
    prints_then c.args.self.now c.put.new.self c.number.new.self (codes ".") (decimal c.args.n) c.put.ensures c.number.ensures
