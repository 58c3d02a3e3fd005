use Rattle.std.proofs.Common.{subst}
use Rattle.pl_node.specs.SwitchViews.{SwitchView}
use Rattle.pl_tables.specs.Tables.{AreTables}
use Rattle.pl_tables.proofs.Showing.{tables_shown}
use Rattle.pl_tables.proofs.table_switch.TableSwitch.tables.Goals as goal

pub returns : goal.returns
returns c = subst (λ (v : SwitchView). AreTables v c.self.inside.tables) c.self.view_is (tables_shown c.self.inside.state c.self.inside.leads c.self.inside.tables c.self.invariant)
