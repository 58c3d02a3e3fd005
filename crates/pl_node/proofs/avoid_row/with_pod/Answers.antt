use Rattle.std.proofs.Common.{◌≡◌, ◌/◌, ◌%◌, ◌<◌, ◌==◌, ◌&&◌, ◌||◌, ◌∙◌, ℕ, ap, arith, false, nat_lt, refl, sym}
use Rattle.std.proofs.lemmas.Bool.{and_right, false_from_ne_true, lt-ltb, ltb-true}
use Rattle.pl_lemmas.proofs.Exports.{and_true}
use Rattle.pl_bits.specs.Bits.{has_bit}
use Rattle.pl_node.proofs.Shown.{one_position_more}
use Rattle.pl_node.proofs.avoid_row.with_pod.Goals as goal

none_below : (m : ℕ) → nat_lt m 0 ≡ false
none_below m = false_from_ne_true (nat_lt m 0) (λ h. let less = ltb-true m 0 h in absurd (omega (arith, less)))

pub loop-position-init : goal.loop-position-init
loop-position-init c =
    (refl, λ n small. sym (ap (λ b. b || has_bit c.args.row.words n) (and_right (c.args.pod == n / 12) (nat_lt (n % 12) 0) (none_below (n % 12)))))

pub loop-position-preserved : goal.loop-position-preserved
loop-position-preserved c =
    let l = c.loop-position in (
      c.with_address-row.ensures.neighbour ∙ l.invariant.0,
      λ n small.
          one_position_more c.args.pod l.position n (has_bit c.args.row.words n) (has_bit l.row.words n) (has_bit c.with_address-row.result.words n)
          (l.invariant.1 n small) (c.with_address-row.ensures.bits n small),
    )

pub returns-clause-bits : goal.returns-clause-bits
returns-clause-bits c n small =
    let l = c.loop-position in
    let end : l.position ≡ 12 = omega (arith, c.loop-position-test.false, l.auto.position-end) in
    let low : n % 12 < 12 = omega arith in
    l.invariant.1 n small
    ∙ ap (λ k. ((c.args.pod == n / 12) && nat_lt (n % 12) k) || has_bit c.args.row.words n) end
    ∙ ap (λ b. ((c.args.pod == n / 12) && b) || has_bit c.args.row.words n) (lt-ltb (n % 12) 12 low)
    ∙ ap (λ b. b || has_bit c.args.row.words n) (and_true (c.args.pod == n / 12))
