use Rattle.std.proofs.Common.{◌∙◌, sym}
use Rattle.std.proofs.lemmas.Bool.{false≢true}
use Rattle.pl_node.proofs.Shown.{others_of_within, rows_of_within, within_by_rows}
use Rattle.pl_node.proofs.avoid_within.are_within.Goals as goal

pub returns-then-are_rows_within : goal.returns-then-are_rows_within
returns-then-are_rows_within c =
    let hidden = c.args.hidden in let rows = c.args.rows.now in let others = c.args.others.now in let other = c.args.other.now in (
      λ h. within_by_rows hidden rows others other (c.are_rows_within.ensures.0 c.if-are_rows_within.true) (c.are_others_within.ensures.0 h),
      λ all. c.are_others_within.ensures.1 (others_of_within hidden rows others other all),
    )

pub returns-else-are_rows_within : goal.returns-else-are_rows_within
returns-else-are_rows_within c = (
  λ u. absurd (false≢true (sym c.if-are_rows_within.false ∙ u)),
  λ all. c.are_rows_within.ensures.1 (rows_of_within c.args.hidden c.args.rows.now c.args.others.now c.args.other.now all),
)
