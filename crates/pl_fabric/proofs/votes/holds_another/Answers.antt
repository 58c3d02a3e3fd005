use Rattle.std.proofs.Common.{◌/◌, sym, ◌∙◌, arith, below_more}
use Rattle.pl_fabric.specs.Settled.{is_another}
use Rattle.pl_fabric.proofs.Tests.{any_below, none_below}
use Rattle.pl_fabric.proofs.votes.holds_another.Goals as goal

pub loop-p-preserved : goal.loop-p-preserved
loop-p-preserved g c = below_more _ _ c.loop-p.invariant (sym c.is_another.ensures ∙ c.if-is_another.false)

pub returns-then-is_another : goal.returns-then-is_another
returns-then-is_another g c =
    let v = g.F.SwitchFacts.view c.args.above.now in
    let k = c.k-p-end.ensures.known in
    sym (any_below (is_another v c.args.edge c.args.position) (v.k / 2) c.loop-p.p (omega (arith, k)) (sym c.is_another.ensures ∙ c.if-is_another.true))

pub returns : goal.returns
returns g c =
    let v = g.F.SwitchFacts.view c.args.above.now in
    let k = c.k-p-end.ensures.known in
    sym (none_below (is_another v c.args.edge c.args.position) (v.k / 2) (λ n low. c.loop-p.invariant n (omega (arith, k))))
