use Rattle.std.proofs.Common.{◌∙◌, sym, below_more, arith}
use Rattle.pl_past_tables.proofs.Failing.{failed_at_port, no_such_switch, none_failed}
use Rattle.pl_past_tables.proofs.links.Links.has_failed_link.Goals as goal

pub returns-then-s-switch_count : goal.returns-then-s-switch_count
returns-then-s-switch_count c = λ past keeps. sym (no_such_switch c.args.wiring.now past c.args.s.0 c.k-k.ensures.plan
    (omega (arith, c.switch_count.ensures.count, c.if-s-switch_count.true)))

pub returns-then-is_failed_at : goal.returns-then-is_failed_at
returns-then-is_failed_at c = λ past keeps.
    sym (failed_at_port c.args.wiring.now past c.args.s.0 c.loop-port.port c.k-k.ensures.plan
    (sym (c.is_failed_at.ensures past keeps) ∙ c.if-is_failed_at.true))

pub loop-port-preserved : goal.loop-port-preserved
loop-port-preserved c = λ past keeps. below_more _ _ (c.loop-port.invariant past keeps) (sym (c.is_failed_at.ensures past keeps) ∙ c.if-is_failed_at.false)

pub returns : goal.returns
returns c = λ past keeps. sym (none_failed c.args.wiring.now past c.args.s.0 c.k-k.ensures.plan
    (λ p less. c.loop-port.invariant past keeps p (omega (arith, less, c.loop-port-test.false, c.k-port-end.ensures.k))))
