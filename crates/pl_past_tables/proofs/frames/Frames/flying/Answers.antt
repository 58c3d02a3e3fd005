use Rattle.std.proofs.Common.{◌∙◌, ap, not, arith}
use Rattle.std.proofs.lemmas.Grind.{common_steps}
use Rattle.std.proofs.lemmas.Option.{gets}
use Rattle.pl_past_tables.proofs.Rows.{flies_by_row, none_flies}
use Rattle.pl_past_tables.proofs.frames.Frames.flying.Goals as goal

pub returns-then-id-eq0-clause-none : goal.returns-then-id-eq0-clause-none
returns-then-id-eq0-clause-none c = λ plan text past run keeps.
    none_flies plan text past c.args.self.now.rows.items c.args.id run keeps
    (λ within. let least = within.0 in let none = c.if-id-eq0.true in absurd (omega arith))

pub returns-then-id-len-clause-none : goal.returns-then-id-len-clause-none
returns-then-id-len-clause-none c = λ plan text past run keeps.
    none_flies plan text past c.args.self.now.rows.items c.args.id run keeps
    (λ within. let most = within.1 in let far = c.if-id-len.true in let many = c.len.ensures in absurd (omega arith))

pub returns-then-row-clause-none : goal.returns-then-row-clause-none
returns-then-row-clause-none c = λ plan text past run keeps.
    (flies_by_row plan text past c.args.self.now.rows.items c.args.id c.index-row.result.now run keeps (let some = c.if-id-eq0.false in omega arith)
    (grind (arith, common_steps, gets, c.index-row.ensures))).1 ∙ ap not c.if-row.true

pub returns-else-row-clause-found : goal.returns-else-row-clause-found
returns-else-row-clause-found c = λ plan text past run keeps.
    let is = flies_by_row plan text past c.args.self.now.rows.items c.args.id c.index-row.result.now run keeps (let some = c.if-id-eq0.false in omega arith)
    (grind (arith, common_steps, gets, c.index-row.ensures)) in
    (is.1 ∙ ap not c.if-row.false, is.0)
