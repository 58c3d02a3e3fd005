use Rattle.pl_migrate.proofs.Reported.{each_port_told}
use Rattle.pl_migrate.proofs.address_table.AddressTable.report_each.Goals as goal

pub returns : goal.returns
returns c = each_port_told c.args.which c.args.self.now c.args.k c.tell_at_each_port.result c.args.out.now c.tell_at_each_port.new.out c.tell_at_each_port.ensures
