use Rattle.pl_migrate.proofs.Reported.{all_told}
use Rattle.pl_migrate.proofs.address_table.AddressTable.report.Goals as goal

pub returns : goal.returns
returns c = λ v same.
    all_told c.args.self.now v c.args.out.now c.report_each.new.out c.report_each-2.new.out c.report_each-3.new.out
    (c.in_ok-report_each.ensures v same) (c.in_ok-report_each-2.ensures v same) (c.in_ok-report_each-3.ensures v same)
