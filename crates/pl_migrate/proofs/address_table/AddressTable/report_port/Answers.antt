use Rattle.std.proofs.Common.{◌≤◌, subst}
use Rattle.pl_migrate.proofs.Reported.{one_told, port_told}
use Rattle.pl_migrate.proofs.address_table.AddressTable.report_port.Goals as goal

pub loop-n-preserved : goal.loop-n-preserved
loop-n-preserved c =
    one_told c.args.which c.args.self.now c.args.port c.loop-n.out c.report_address.new.out c.args.out.now c.loop-n.n c.in_ok-report_address.ensures c.loop-n.invariant

pub returns : goal.returns
returns c =
    port_told c.args.which c.args.self.now c.args.port c.loop-n.out c.args.out.now c.loop-n.n
    (subst (λ many. many ≤ c.loop-n.n) c.given-n-end.ensures.many c.loop-n-test.false) c.loop-n.invariant
