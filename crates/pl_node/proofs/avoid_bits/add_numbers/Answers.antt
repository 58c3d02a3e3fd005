use Rattle.std.proofs.Common.{◌+◌, ◌-◌, ◌*◌, ◌≡◌, ◌∙◌, ap, arith, min, refl, subst, sym}
use Rattle.std.specs.List.{list_any, range_with_len}
use Rattle.pl_node.specs.AvoidRows.{Gains, entries_of, is_listed, stands_for}
use Rattle.pl_node.proofs.AvoidRows.{any_bit, gains_same}
use Rattle.pl_node.proofs.AvoidWords.{gains_no_range, gains_range}
use Rattle.pl_node.proofs.avoid_bits.add_numbers.Goals as goal

pub loop-word-init : goal.loop-word-init
loop-word-init c =
    gains_no_range c.args.list.now c.args.other.now c.args.row.now 0 (min (0 * 64) 288 - 0) refl

pub loop-word-preserved : goal.loop-word-preserved
loop-word-preserved c =
    let word = c.loop-word.word in
    let row = c.args.row.now in
    let before : min (word * 64) 288 ≡ word * 64 = omega (arith, c.loop-word-test.true) in
    let end : min (word * 64 + 64) 288 ≡ min ((word + 1) * 64) 288 = omega arith in
    subst (λ n. Gains c.args.list.now c.add_word.new.list c.args.other.now (λ x. list_any (stands_for row x) (range_with_len 0 (n - 0)))) end
    (gains_range c.args.list.now c.loop-word.list c.add_word.new.list c.args.other.now row 0 (word * 64) (min (word * 64 + 64) 288) (omega arith) (omega (arith, c.loop-word-test.true))
    (subst (λ n. Gains c.args.list.now c.loop-word.list c.args.other.now (λ x. list_any (stands_for row x) (range_with_len 0 (n - 0)))) before c.loop-word.invariant)
    c.in_ok-add_word.ensures)

pub returns : goal.returns
returns c =
    let same : min (c.loop-word.word * 64) 288 - 0 ≡ 288 = omega (arith, c.loop-word-test.false, c.loop-word.auto.word-end) in
    gains_same c.args.list.now c.loop-word.list c.args.other.now
    (λ x. list_any (stands_for c.args.row.now x) (range_with_len 0 (min (c.loop-word.word * 64) 288 - 0))) (λ x. is_listed x (entries_of c.args.row.now))
    c.loop-word.invariant
    (λ x. any_bit c.args.row.now x ∙ ap (λ k. list_any (stands_for c.args.row.now x) (range_with_len 0 k)) (sym same))
