use Rattle.std.proofs.Common.{subst}
use Rattle.std.proofs.lemmas.List.{take_all}
use Rattle.pl_faults.specs.declared.edges.Edge.{Edge}
use Rattle.pl_faults.proofs.Apart.{AreSeen, none_seen, one_more_seen, seen_apart}
use Rattle.pl_faults.proofs.edges.are_apart.Goals as goal

pub loop-edge-init : goal.loop-edge-init
loop-edge-init c = none_seen c.of-seen.result.words

pub loop-edge-preserved : goal.loop-edge-preserved
loop-edge-preserved c =
    let d : Edge = record { switch = record { 0 = 0 }; pod = 0; position = 0 } in
    one_more_seen c.args.edges.now c.loop-edge.edge-index d c.loop-edge.seen.words c.with-seen.result.words c.in-Some.number c.loop-edge-test.true
    c.loop-edge.invariant c.in-Some.ensures.1 c.in-Some.ensures.2 c.with-seen.ensures.bits

pub returns : goal.returns
returns c h =
    let es = c.args.edges.now in
    seen_apart c.loop-edge.seen.words es (subst (AreSeen c.loop-edge.seen.words) (take_all c.loop-edge.edge-index es c.loop-edge-test.false) c.loop-edge.invariant)
