use Rattle.std.proofs.Common.{◌∙◌, sym}
use Rattle.std.proofs.lemmas.Bool.{false≢true}
use Rattle.pl_node.proofs.Shown.{apart_by_rows, others_of_apart, rows_of_apart}
use Rattle.pl_node.proofs.avoid_within.are_apart.Goals as goal

pub returns-then-are_rows_apart : goal.returns-then-are_rows_apart
returns-then-are_rows_apart c =
    let hidden = c.args.hidden in let also = c.args.also in let rows = c.args.rows.now in let others = c.args.others.now in (
      λ h. apart_by_rows hidden also rows others (c.are_rows_apart.ensures.0 c.if-are_rows_apart.true) (c.are_others_apart.ensures.0 h),
      λ all. c.are_others_apart.ensures.1 (others_of_apart hidden also rows others all),
    )

pub returns-else-are_rows_apart : goal.returns-else-are_rows_apart
returns-else-are_rows_apart c = (
  λ u. absurd (false≢true (sym c.if-are_rows_apart.false ∙ u)),
  λ all. c.are_rows_apart.ensures.1 (rows_of_apart c.args.hidden c.args.also c.args.rows.now c.args.others.now all),
)
