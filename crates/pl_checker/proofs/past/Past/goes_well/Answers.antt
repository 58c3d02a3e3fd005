use Rattle.pl_checker.proofs.Crosses.{well_by_row}
use Rattle.pl_past_tables.proofs.Exports.{and_else, and_then}
use Rattle.pl_checker.proofs.past.Past.goes_well.Goals as goal

pub returns-then-good : goal.returns-then-good
returns-then-good c = λ text past frame links is.
    and_then c.goes_on_to-good.result c.leads-led.result _ c.if-good.true
    (well_by_row c.args.wiring.now text past c.args.row.now frame c.args.s.0 c.k.result c.is_some-to_group.result c.goes_on_to-good.result c.leads-led.result _
    is c.is_some-to_group.ensures c.k.ensures.k c.goes_on_to-good.ensures (c.leads-led.ensures past links) c.last.ensures)

pub returns-else-good : goal.returns-else-good
returns-else-good c = λ text past frame links is.
    and_else c.goes_on_to-good.result c.leads-led.result _ c.if-good.false
    (well_by_row c.args.wiring.now text past c.args.row.now frame c.args.s.0 c.k.result c.is_some-to_group.result c.goes_on_to-good.result c.leads-led.result _
    is c.is_some-to_group.ensures c.k.ensures.k c.goes_on_to-good.ensures (c.leads-led.ensures past links) c.last.ensures)
