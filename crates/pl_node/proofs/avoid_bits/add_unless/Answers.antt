use Rattle.std.proofs.Common.{◌∙◌, sym}
use Rattle.pl_node.proofs.AvoidRows.{gains_inserted}
use Rattle.pl_node.proofs.avoid_bits.add_unless.Goals as goal

pub returns : goal.returns
returns c =
    gains_inserted c.args.list.now c.insert.new.self c.args.other.now c.args.entry c.insert.result (sym c.contains.ensures ∙ c.if-contains.false) c.insert.ensures.ok
