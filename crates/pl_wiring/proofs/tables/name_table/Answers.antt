use Rattle.std.proofs.Common.{◌∙◌, string_bytes}
use Rattle.pl_wiring.proofs.Named.{enter_name}
use Rattle.pl_wiring.proofs.tables.name_table.Goals as goal

pub loop-number-preserved : goal.loop-number-preserved
loop-number-preserved c =
    enter_name c.loop-number.number c.args.hosts.now c.index-hosts-number.result c.loop-number.names c.insert.new.self (string_bytes c.in_ok-from_str.field-0)
    c.requires.apart c.loop-number-test.true c.index-hosts-number.is (c.in_ok-from_str.ensures.ok ∙ c.text.ensures)
    c.loop-number.invariant c.in_ok-insert.ensures.updates
