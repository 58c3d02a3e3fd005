use Rattle.std.proofs.Common.{◌||◌, ◌∙◌, ap, sym}
use Rattle.pl_node.specs.AvoidRows.{is_listed}
use Rattle.pl_node.proofs.AvoidRows.{lists}
use Rattle.pl_node.proofs.avoid_bits.has_entry.Goals as goal

pub returns-then-rows_have : goal.returns-then-rows_have
returns-then-rows_have c =
    c.if-rows_have.true
    ∙ sym (lists c.args.entry c.args.rows.now c.args.others.now
    ∙ ap (λ b. b || is_listed c.args.entry c.args.others.now) (sym c.rows_have.ensures ∙ c.if-rows_have.true))

pub returns-else-rows_have : goal.returns-else-rows_have
returns-else-rows_have c =
    c.contains.ensures
    ∙ sym (lists c.args.entry c.args.rows.now c.args.others.now
    ∙ ap (λ b. b || is_listed c.args.entry c.args.others.now) (sym c.rows_have.ensures ∙ c.if-rows_have.false))
