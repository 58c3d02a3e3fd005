use Rattle.std.proofs.Common.{◌≡◌, ◌∙◌, ◌+◌, ◌-◌, ◌*◌, ap, arith, min, refl, subst, sym}
use Rattle.std.specs.List.{list_any, range_with_len}
use Rattle.std.proofs.lemmas.Bool.{false≢true}
use Rattle.pl_node.specs.AvoidRows.{AreListed, stands_for}
use Rattle.pl_node.proofs.AvoidRows.{any_bit}
use Rattle.pl_node.proofs.AvoidWords.{range_of_all, within_none, within_range}
use Rattle.pl_node.proofs.avoid_within.are_numbers_within.Goals as goal

pub loop-word-init : goal.loop-word-init
loop-word-init c = within_none c.args.row.now c.args.other.now 0 (min (0 * 64) 288 - 0) refl

pub returns-then-not-is_word_within : goal.returns-then-not-is_word_within
returns-then-not-is_word_within c =
    let word = c.loop-word.word in
    let row = c.args.row.now in (
      λ u. absurd (false≢true u),
      λ all. sym c.if-not-is_word_within.true ∙ c.is_word_within.ensures.1 (λ x h. all x
          (any_bit row x ∙ range_of_all row x (word * 64) (min (word * 64 + 64) 288) (omega (arith, c.loop-word-test.true)) (omega arith) h)),
    )

pub loop-word-preserved : goal.loop-word-preserved
loop-word-preserved c =
    let word = c.loop-word.word in
    let row = c.args.row.now in
    let before : min (word * 64) 288 ≡ word * 64 = omega (arith, c.loop-word-test.true) in
    let end : min (word * 64 + 64) 288 ≡ min ((word + 1) * 64) 288 = omega arith in
    subst (λ n. AreListed (λ x. list_any (stands_for row x) (range_with_len 0 (n - 0))) c.args.other.now) end
    (within_range row c.args.other.now 0 (word * 64) (min (word * 64 + 64) 288) (omega arith) (omega (arith, c.loop-word-test.true))
    (subst (λ n. AreListed (λ x. list_any (stands_for row x) (range_with_len 0 (n - 0))) c.args.other.now) before c.loop-word.invariant)
    (c.is_word_within.ensures.0 c.if-not-is_word_within.false))

pub returns : goal.returns
returns c =
    let row = c.args.row.now in
    let same : min (c.loop-word.word * 64) 288 - 0 ≡ 288 = omega (arith, c.loop-word-test.false, c.loop-word.auto.word-end) in (
      λ u x h. c.loop-word.invariant x (ap (λ k. list_any (stands_for row x) (range_with_len 0 k)) same ∙ sym (any_bit row x) ∙ h),
      λ h. refl,
    )
