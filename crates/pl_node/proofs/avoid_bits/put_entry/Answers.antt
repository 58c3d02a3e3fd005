use Rattle.std.proofs.Common.{◌∙◌, sym}
use Rattle.pl_node.proofs.AvoidRows.{gains_bit_if, gains_other_if}
use Rattle.pl_node.proofs.avoid_bits.put_entry.Goals as goal

pub returns-in-Some-clause-ok : goal.returns-in-Some-clause-ok
returns-in-Some-clause-ok c =
    gains_bit_if c.args.rows.now.items c.put.new.rows.items c.args.others.now c.args.entry c.in-Some.number c.put.result
    (sym c.number_of.ensures.number ∙ c.in-Some.is) c.put.ensures.ok

pub returns-in-None-clause-ok : goal.returns-in-None-clause-ok
returns-in-None-clause-ok c =
    gains_other_if c.args.rows.now.items c.args.others.now c.insert.new.self c.args.entry c.insert.result c.insert.ensures.ok
