use Rattle.std.proofs.Common.{◌∙◌, ◌&&◌, ◌||◌, ap, sym}
use Rattle.pl_bits.specs.Bits.{has_bit}
use Rattle.pl_node.specs.AvoidRows.{number_of}
use Rattle.pl_faults.specs.Numbered.{is_number}
use Rattle.pl_faults.proofs.making.with_edge.Goals as goal

pub returns-then-not-is_avoided-clause-bits : goal.returns-then-not-is_avoided-clause-bits
returns-then-not-is_avoided-clause-bits c n =
    let e = c.args.edge.now in
    ap (λ b. (b && is_number n (number_of e.pod e.position)) || has_bit c.args.row.words n) (sym c.if-not-is_avoided.true ∙ c.is_avoided.ensures)

pub returns-clause-bits : goal.returns-clause-bits
returns-clause-bits c n =
    let e = c.args.edge.now in let row = c.args.row in
    c.with_number.ensures.bits n
    ∙ ap (λ o. is_number n o || has_bit row.words n) c.number.ensures.number
    ∙ ap (λ b. (b && is_number n (number_of e.pod e.position)) || has_bit row.words n) (sym c.if-not-is_avoided.false ∙ c.is_avoided.ensures)
