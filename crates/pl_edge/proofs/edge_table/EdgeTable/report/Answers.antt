use Rattle.pl_edge.proofs.Reported.{none_reported, table_reported}
use Rattle.pl_edge.proofs.edge_table.EdgeTable.report.Goals as goal

pub returns-in-Some : goal.returns-in-Some
returns-in-Some c =
    table_reported c.report.result _ c.args.self.now c.in-Some.address_table c.args.out.now c.report.new.out c.self.view_is c.in-Some.is c.report.ensures

pub returns-in-None : goal.returns-in-None
returns-in-None c = λ v same. none_reported _ c.args.self.now c.args.out.now c.self.view_is c.in-None.is v
