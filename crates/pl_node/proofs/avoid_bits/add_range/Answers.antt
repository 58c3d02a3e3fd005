use Rattle.std.proofs.Common.{◌-◌, ◌≡◌, arith, subst}
use Rattle.std.specs.List.{list_any, range_with_len}
use Rattle.pl_node.specs.AvoidRows.{Gains, stands_for}
use Rattle.pl_node.proofs.AvoidWords.{gains_no_range, gains_one_more}
use Rattle.pl_node.proofs.avoid_bits.add_range.Goals as goal

pub loop-number-init : goal.loop-number-init
loop-number-init c =
    (omega arith, gains_no_range c.args.list.now c.args.other.now c.args.row.now c.args.from (c.args.from - c.args.from) (omega arith))

pub loop-number-preserved : goal.loop-number-preserved
loop-number-preserved c =
    let n = c.loop-number.number in
    let low = c.loop-number.invariant.0 in (
      omega (arith, low),
      gains_one_more c.args.list.now c.loop-number.list c.add_number.new.list c.args.other.now c.args.row.now c.args.from n low
          c.loop-number.invariant.1 c.in_ok-add_number.ensures,
    )

pub returns : goal.returns
returns c =
    let low = c.loop-number.invariant.0 in
    let end : c.loop-number.number ≡ c.args.end = omega (arith, low, c.loop-number-test.false, c.loop-number.auto.number-end, c.requires.order) in
    subst (λ e. Gains c.args.list.now c.loop-number.list c.args.other.now (λ x. list_any (stands_for c.args.row.now x) (range_with_len c.args.from (e - c.args.from)))) end
    c.loop-number.invariant.1
