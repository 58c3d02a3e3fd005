use Rattle.std.proofs.Common.{◌≡◌, ◌∙◌, ◌+◌, ap, arith, refl, sym}
use Rattle.std.specs.List.{list_any, range_with_len}
use Rattle.std.proofs.lemmas.Bool.{false≢true}
use Rattle.pl_node.specs.AvoidRows.{stands_for}
use Rattle.pl_node.proofs.Among.{among_range, any_among}
use Rattle.pl_node.proofs.AvoidRows.{any_bit, any_bit_more}
use Rattle.pl_node.proofs.Shown.{apart_more}
use Rattle.pl_node.proofs.avoid_within.is_row_apart.Goals as goal

pub returns-then-not-is_number_apart : goal.returns-then-not-is_number_apart
returns-then-not-is_number_apart c =
    let n = c.loop-number.number in
    let row = c.args.row.now in (
      λ u. absurd (false≢true u),
      λ all. sym c.if-not-is_number_apart.true ∙ c.is_number_apart.ensures.1 (λ x h. all x
          (any_bit row x ∙ any_among (stands_for row x) n (range_with_len 0 288) (among_range n 0 288 n (omega arith) c.loop-number-test.true) h)),
    )

pub loop-number-preserved : goal.loop-number-preserved
loop-number-preserved c =
    let row = c.args.row.now in
    apart_more (λ x. list_any (stands_for row x) (range_with_len 0 c.loop-number.number)) (λ x. stands_for row x c.loop-number.number)
    (λ x. list_any (stands_for row x) (range_with_len 0 (c.loop-number.number + 1))) c.args.also
    c.loop-number.invariant (c.is_number_apart.ensures.0 c.if-not-is_number_apart.false) (λ x. any_bit_more row x c.loop-number.number)

pub returns : goal.returns
returns c =
    let same : c.loop-number.number ≡ 288 = omega (arith, c.loop-number-test.false, c.loop-number.auto.number-end) in (
      λ u x h. c.loop-number.invariant x
          (ap (λ k. list_any (stands_for c.args.row.now x) (range_with_len 0 k)) same ∙ sym (any_bit c.args.row.now x) ∙ h),
      λ h. refl,
    )
