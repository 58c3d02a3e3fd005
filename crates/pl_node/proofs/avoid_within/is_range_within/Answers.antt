use Rattle.std.proofs.Common.{◌≡◌, ◌∙◌, ◌-◌, ap, arith, refl, sym}
use Rattle.std.specs.List.{list_any, range_with_len}
use Rattle.std.proofs.lemmas.Bool.{false≢true}
use Rattle.pl_node.specs.AvoidRows.{stands_for}
use Rattle.pl_node.proofs.Among.{among_range, any_among}
use Rattle.pl_node.proofs.AvoidWords.{within_none, within_one_more}
use Rattle.pl_node.proofs.avoid_within.is_range_within.Goals as goal

pub loop-number-init : goal.loop-number-init
loop-number-init c = (omega arith, within_none c.args.row.now c.args.other.now c.args.from (c.args.from - c.args.from) (omega arith))

pub returns-then-not-is_number_within : goal.returns-then-not-is_number_within
returns-then-not-is_number_within c =
    let n = c.loop-number.number in
    let low = c.loop-number.invariant.0 in
    let row = c.args.row.now in (
      λ u. absurd (false≢true u),
      λ all. sym c.if-not-is_number_within.true ∙ c.is_number_within.ensures.1 (λ x h. all x
          (any_among (stands_for row x) n (range_with_len c.args.from (c.args.end - c.args.from))
          (among_range (n - c.args.from) c.args.from (c.args.end - c.args.from) n (omega (arith, low)) (omega (arith, low, c.loop-number-test.true))) h)),
    )

pub loop-number-preserved : goal.loop-number-preserved
loop-number-preserved c =
    let n = c.loop-number.number in
    let low = c.loop-number.invariant.0 in (
      omega (arith, low),
      within_one_more c.args.row.now c.args.other.now c.args.from n low c.loop-number.invariant.1 (c.is_number_within.ensures.0 c.if-not-is_number_within.false),
    )

pub returns : goal.returns
returns c =
    let low = c.loop-number.invariant.0 in
    let end : c.loop-number.number ≡ c.args.end = omega (arith, low, c.loop-number-test.false, c.loop-number.auto.number-end, c.requires.order) in (
      λ u x h. c.loop-number.invariant.1 x (ap (λ e. list_any (stands_for c.args.row.now x) (range_with_len c.args.from (e - c.args.from))) end ∙ h),
      λ h. refl,
    )
