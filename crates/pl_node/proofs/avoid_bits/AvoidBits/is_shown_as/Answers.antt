use Rattle.std.proofs.Common.{◌∙◌, sym}
use Rattle.std.proofs.lemmas.Bool.{false≢true}
use Rattle.pl_node.specs.Hidden.{shown}
use Rattle.pl_node.proofs.AvoidRows.{same_within, within_itself}
use Rattle.pl_node.proofs.Shown.{shown_rises}
use Rattle.pl_node.proofs.avoid_bits.AvoidBits.is_shown_as.Goals as goal

pub returns-then-is_in_shown : goal.returns-then-is_in_shown
returns-then-is_in_shown c =
    let here = shown c.args.hidden c.args.self.now in
    let there = shown c.args.also c.args.other.now in (
      λ h. same_within here there (shown_rises c.args.hidden c.args.self.now c.is_in_shown.ensures.rising)
          (shown_rises c.args.also c.args.other.now c.is_in_shown-then-is_in_shown.ensures.rising)
          (c.is_in_shown.ensures.within.0 c.if-is_in_shown.true) (c.is_in_shown-then-is_in_shown.ensures.within.0 h),
      λ same. c.is_in_shown-then-is_in_shown.ensures.within.1 (within_itself there here (sym same)),
    )

pub returns-else-is_in_shown : goal.returns-else-is_in_shown
returns-else-is_in_shown c = (
  λ u. absurd (false≢true (sym c.if-is_in_shown.false ∙ u)),
  λ same. c.is_in_shown.ensures.within.1 (within_itself (shown c.args.hidden c.args.self.now) (shown c.args.also c.args.other.now) same),
)
