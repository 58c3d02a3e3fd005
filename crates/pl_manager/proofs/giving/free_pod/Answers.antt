use Rattle.std.proofs.Common.{◌∙◌, sym, arith, below_more}
use Rattle.pl_manager.proofs.Pods.{is_first, one_is_free}
use Rattle.pl_manager.proofs.giving.free_pod.Goals as goal

pub loop-pod-preserved : goal.loop-pod-preserved
loop-pod-preserved c = below_more _ _ c.loop-pod.invariant (sym c.is_taken.ensures ∙ c.if-not-is_taken.false)

pub returns-then-not-is_taken : goal.returns-then-not-is_taken
returns-then-not-is_taken c =
    is_first c.args.reports.now c.args.askers.now c.loop-pod.pod (sym c.is_taken.ensures ∙ c.if-not-is_taken.true) c.loop-pod.invariant

pub unreachable-requires : goal.unreachable-requires
unreachable-requires c =
    one_is_free c.args.reports.now c.args.askers.now c.loop-pod.pod (omega (arith, c.places_told.ensures.many, c.len.ensures.many, c.loop-pod-test.false))
    c.loop-pod.invariant
