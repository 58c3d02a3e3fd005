use Rattle.std.proofs.Common.{sym, ap, ◌∙◌, arith}
use Rattle.std.specs.BTreeSet.{insert_key}
use Rattle.std.specs.Ordering.{nat_cmp}
use Rattle.pl_forward.proofs.Passing.{first_passed, none_passed}
use Rattle.pl_forward.proofs.port_test.first_that_passes.Goals as goal

pub returns-then-test : goal.returns-then-test
returns-then-test g c =
    c.insert_if.ensures ∙ ap (λ ports. insert_key nat_cmp ports c.loop-port.port) c.empty.ensures
    ∙ sym (first_passed (g.T.PortTest.passes c.args.test.now) c.loop-port.port c.args.k (omega arith) c.loop-port.invariant (sym c.test.ensures ∙ c.if-test.true))

pub loop-port-preserved : goal.loop-port-preserved
loop-port-preserved g c =
    none_passed (g.T.PortTest.passes c.args.test.now) c.loop-port.port c.loop-port.invariant (sym c.test.ensures ∙ c.if-test.false)
