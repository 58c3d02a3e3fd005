use Rattle.pl_tables.proofs.Choosing.{tables_choose}
use Rattle.pl_tables.proofs.prefix_tables.PrefixTables.ports.Goals as goal

pub returns : goal.returns
returns c = λ v at few are. tables_choose v c.args.self.now c.args.place c.args.to c.args.came c.asked_for.result c.answer.result few are at c.asked_for.ensures c.answer.ensures
