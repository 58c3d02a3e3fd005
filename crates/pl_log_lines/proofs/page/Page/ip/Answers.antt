use Rattle.std.proofs.Common.{◌/◌, ◌%◌, codes, decimal}
use Rattle.pl_log_lines.proofs.Printing.{pointed}
use Rattle.pl_log_lines.proofs.page.Page.ip.Goals as goal

pub returns : goal.returns
returns g c =
    let n = c.args.ip.0 in
    pointed c.args.self.now c.number.new.self c.number_behind_point.new.self c.number_behind_point-2.new.self c.number_behind_point-3.new.self
    (decimal (n / 16777216)) (decimal (n / 65536 % 256)) (decimal (n / 256 % 256)) (decimal (n % 256)) (codes ".")
    c.number.ensures c.number_behind_point.ensures c.number_behind_point-2.ensures c.number_behind_point-3.ensures
