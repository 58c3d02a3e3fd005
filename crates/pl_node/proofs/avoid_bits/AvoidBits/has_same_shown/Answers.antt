use Rattle.std.proofs.Common.{◌∙◌, sym}
use Rattle.std.proofs.lemmas.Bool.{false≢true}
use Rattle.pl_node.proofs.Shown.{same_shown, shown_back}
use Rattle.pl_node.proofs.avoid_bits.AvoidBits.has_same_shown.Goals as goal

pub returns-then-is_within : goal.returns-then-is_within
returns-then-is_within c = (
  λ h. same_shown c.args.hidden c.args.self.now c.args.other.now c.is_within.ensures.rising c.is_within-then-is_within.ensures.rising
      (c.is_within.ensures.within.0 c.if-is_within.true) (c.is_within-then-is_within.ensures.within.0 h),
  λ same. c.is_within-then-is_within.ensures.within.1 (shown_back c.args.hidden c.args.self.now c.args.other.now same),
)

pub returns-else-is_within : goal.returns-else-is_within
returns-else-is_within c = (
  λ u. absurd (false≢true (sym c.if-is_within.false ∙ u)),
  λ same. c.is_within.ensures.within.1 (shown_back c.args.hidden c.args.other.now c.args.self.now (sym same)),
)
