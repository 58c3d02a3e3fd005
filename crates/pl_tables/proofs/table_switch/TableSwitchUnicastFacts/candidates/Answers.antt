use Rattle.std.proofs.Common.{◌≡◌, sym, subst}
use Rattle.pl_lists.specs.Ports.{ports_of}
use Rattle.pl_node.specs.SwitchViews.{SwitchView}
use Rattle.pl_switch_rule.specs.Forwarding.{candidates}
use Rattle.pl_tables.proofs.Showing.{tables_shown}
use Rattle.pl_tables.proofs.table_switch.TableSwitchUnicastFacts.candidates.Goals as goal

pub returns : goal.returns
returns c =
    subst (λ (v : SwitchView). ports_of c.ports.result ≡ candidates v c.args.to c.args.came) c.self.view_is
    (c.ports.ensures c.self.inside.state (sym c.place.ensures) c.self.invariant.few (tables_shown c.self.inside.state c.self.inside.leads c.self.inside.tables c.self.invariant))
