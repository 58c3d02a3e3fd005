use Rattle.std.proofs.Common.{◌∙◌, sym}
use Rattle.std.proofs.lemmas.Bool.{false≢true}
use Rattle.pl_node.specs.AvoidRows.{is_listed}
use Rattle.pl_node.specs.Hidden.{shown}
use Rattle.pl_node.proofs.Shown.{apart_in_shown, in_shown, within_whole}
use Rattle.pl_node.proofs.avoid_bits.AvoidBits.is_in_shown.Goals as goal

pub returns-then-is_within-clause-within : goal.returns-then-is_within-clause-within
returns-then-is_within-clause-within c =
    let hidden = c.args.hidden in let also = c.args.also in let xs = c.args.self.now in let ys = c.args.other.now in (
      λ h. in_shown hidden also xs ys (c.is_within.ensures.within.0 c.if-is_within.true) (c.is_apart.ensures.0 h),
      λ all. c.is_apart.ensures.1 (apart_in_shown hidden also xs ys all),
    )

pub returns-else-is_within-clause-within : goal.returns-else-is_within-clause-within
returns-else-is_within-clause-within c = (
  λ u. absurd (false≢true (sym c.if-is_within.false ∙ u)),
  λ all. c.is_within.ensures.within.1 (within_whole (λ x. is_listed x (shown c.args.hidden c.args.self.now)) c.args.also c.args.other.now all),
)
