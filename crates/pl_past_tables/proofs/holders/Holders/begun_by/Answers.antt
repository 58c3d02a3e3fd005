use Rattle.std.proofs.Common.{◌≡◌, ◌+◌, ◌-◌, ◌/◌, ℕ, Bool, length, Option, unwrap_or, ap, subst, ◌∙◌, arith}
use Rattle.pl_past.specs.Addressees.{tenures}
use Rattle.pl_past_tables.specs.Holders.{IsBegunAt}
use Rattle.pl_past_tables.proofs.Holding.{fewer_begun, more_begun, none_searched}
use Rattle.pl_past_tables.proofs.holders.Holders.begun_by.Goals as goal

pub loop-low-init : goal.loop-low-init
loop-low-init c = λ past keeps.
    let many : c.unwrap_or-high.result ≡ length (tenures past c.args.address) =
    c.unwrap_or-high.ensures ∙ ap (λ (o : Option ℕ). unwrap_or o 0) c.get.ensures ∙ keeps.tenures.many c.args.address in
    (omega arith, omega (arith, many), none_searched c.args.n c.unwrap_or-high.result (tenures past c.args.address) many)

pub loop-low-preserved-then-has_begun : goal.loop-low-preserved-then-has_begun
loop-low-preserved-then-has_begun c = λ past keeps.
    let kept = c.loop-low.invariant past keeps in
    let middle : ℕ = c.loop-low.low + (c.loop-low.high - c.loop-low.low) / 2 in (
      omega (arith, c.loop-low-test.true),
      kept.1,
      more_begun c.args.n c.loop-low.low c.loop-low.high middle past c.args.address (omega (arith, c.loop-low-test.true)) kept.1 kept.2
          (subst (λ (b : Bool). IsBegunAt c.args.n (tenures past c.args.address) middle b) c.if-has_begun.true (c.has_begun.ensures past keeps)),
    )

pub loop-low-preserved : goal.loop-low-preserved
loop-low-preserved c = λ past keeps.
    let kept = c.loop-low.invariant past keeps in
    let middle : ℕ = c.loop-low.low + (c.loop-low.high - c.loop-low.low) / 2 in (
      omega arith,
      omega (arith, kept.1, c.loop-low-test.true),
      fewer_begun c.args.n c.loop-low.low c.loop-low.high middle past c.args.address (omega (arith, c.loop-low-test.true)) kept.1 kept.2
          (subst (λ (b : Bool). IsBegunAt c.args.n (tenures past c.args.address) middle b) c.if-has_begun.false (c.has_begun.ensures past keeps)),
    )
