use Rattle.std.proofs.Common.{sym, ◌∙◌}
use Rattle.std.proofs.lemmas.Bool.{and_parts}
use Rattle.pl_node.specs.PortRecords.{port_of}
use Rattle.pl_layouts.specs.Placement.{is_known}
use Rattle.pl_layouts.proofs.Exports.{known_is}
use Rattle.pl_switch_state.proofs.Exports.{known_host}
use Rattle.pl_tables.proofs.records.TableSwitchKeepsRecords.find_host.Goals as goal

pub returns-then-knows_host-clause-taken : goal.returns-then-knows_host-clause-taken
returns-then-knows_host-clause-taken c =
    let v = c.args.self.now in
    let both = and_parts (is_known v.place.level 0) (port_of v c.args.port).host (sym c.knows_host.ensures ∙ c.if-knows_host.true) in
    known_host v c.args.port c.args.out.now (known_is v.place.level 0 both.0) both.1
