use Rattle.std.proofs.Common.{◌≡◌, ◌+◌, ◌*◌, Some, ap, arith}
use Rattle.pl_queues.specs.Counts.{counted_in}
use Rattle.pl_world.specs.Pending.{is_control_item}
use Rattle.pl_world_parts.proofs.Stale.{ports_fit}
use Rattle.pl_world_parts.proofs.StaleCounts.{after_more, before_more, known_fit, known_here, none_counted, one_counted}
use Rattle.pl_world_parts.proofs.switches.count_again.Goals as goal

pub count_port-now-requires-clause-known : goal.count_port-now-requires-clause-known
count_port-now-requires-clause-known g c = known_here (g.S.SwitchFacts.view c.args.device.now).k c.args.s (g.S.SwitchFacts.view c.args.device.now) c.args.out.now c.args.counts.now.items c.requires.queues c.loop-port.counts.items c.loop-port.before c.loop-port.after c.loop-port.port
    c.loop-port.invariant (let known = c.k-k.ensures.known in let low = c.loop-port-test.true in omega (arith, known, low)) (c.args.s * c.k-k.result + c.loop-port.port) c.index-count.result.now
    (ap (λ n. c.args.s * n + c.loop-port.port) c.k-k.ensures.known) c.index-count.ensures
    c.args.said.now _ c.queues-in-loop-port.result.now c.iter.result (let known = c.k-k.ensures.known in let low = c.loop-port-test.true in let few = c.k-k.ensures.within in let told = c.told-said in omega (arith, known, low, few, told))
    (c.requires.known c.loop-port.port (let known = c.k-k.ensures.known in let low = c.loop-port-test.true in omega (arith, known, low)))
    c.queues-in-loop-port.ensures c.iter.ensures

pub overflow_add-before : goal.overflow_add-before
overflow_add-before g c =
    let more = before_more (g.S.SwitchFacts.view c.args.device.now).k c.args.s (g.S.SwitchFacts.view c.args.device.now) c.args.out.now c.args.counts.now.items c.requires.queues c.loop-port.counts.items c.loop-port.before c.loop-port.after c.loop-port.port
    c.loop-port.invariant (let known = c.k-k.ensures.known in let low = c.loop-port-test.true in omega (arith, known, low)) (c.args.s * c.k-k.result + c.loop-port.port) c.index-count.result.now
    (ap (λ n. c.args.s * n + c.loop-port.port) c.k-k.ensures.known) c.index-count.ensures
    c.queues-in-loop-port.result.now c.iter.result c.count_port-now.result c.queues-in-loop-port.ensures c.iter.ensures c.count_port-now.ensures in
    let known = c.k-k.ensures.known in
    let low = c.loop-port-test.true in
    let fits = known_fit (g.S.SwitchFacts.view c.args.device.now).k c.args.s c.args.out.now c.args.counts.now.items c.args.said.now (c.loop-port.port + 1) (let known = c.k-k.ensures.known in let low = c.loop-port-test.true in let few = c.k-k.ensures.within in let told = c.told-said in omega (arith, known, low, few, told))
    (λ port inside. c.requires.known port (omega (arith, known, low, inside))) (let within = c.requires.queues in omega (arith, known, low, within)) in
    let bound : c.counted-bound.result ≡ counted_in is_control_item c.args.out.now = c.counted-bound.ensures.counted in
    omega (arith, more, fits, bound, c.counted-bound.ensures.within)

pub overflow_add-after : goal.overflow_add-after
overflow_add-after g c =
    let more = after_more (g.S.SwitchFacts.view c.args.device.now).k c.args.s (g.S.SwitchFacts.view c.args.device.now) c.args.out.now c.args.counts.now.items c.requires.queues c.loop-port.counts.items c.loop-port.before c.loop-port.after c.loop-port.port
    c.loop-port.invariant (let known = c.k-k.ensures.known in let low = c.loop-port-test.true in omega (arith, known, low)) (c.args.s * c.k-k.result + c.loop-port.port) c.index-count.result.now
    (ap (λ n. c.args.s * n + c.loop-port.port) c.k-k.ensures.known) c.index-count.ensures
    c.queues-in-loop-port.result.now c.iter.result c.count_port-now.result c.queues-in-loop-port.ensures c.iter.ensures c.count_port-now.ensures in
    let known = c.k-k.ensures.known in
    let low = c.loop-port-test.true in
    let fits = ports_fit (g.S.SwitchFacts.view c.args.device.now).k c.args.out.now (Some (g.S.SwitchFacts.view c.args.device.now)) c.args.s (c.loop-port.port + 1) (let within = c.requires.queues in omega (arith, known, low, within)) in
    let bound : c.counted-bound.result ≡ counted_in is_control_item c.args.out.now = c.counted-bound.ensures.counted in
    omega (arith, more, fits, bound, c.counted-bound.ensures.within)

pub loop-port-init : goal.loop-port-init
loop-port-init g c = none_counted (g.S.SwitchFacts.view c.args.device.now).k c.args.s (g.S.SwitchFacts.view c.args.device.now) c.args.out.now c.args.counts.now.items c.requires.queues
    (let many = c.requires.many in let ok = c.args.counts.now.ok in omega (arith, many, ok))

pub loop-port-preserved : goal.loop-port-preserved
loop-port-preserved g c = one_counted (g.S.SwitchFacts.view c.args.device.now).k c.args.s (g.S.SwitchFacts.view c.args.device.now) c.args.out.now c.args.counts.now.items c.requires.queues c.loop-port.counts.items c.loop-port.before c.loop-port.after c.loop-port.port
    c.loop-port.invariant (let known = c.k-k.ensures.known in let low = c.loop-port-test.true in omega (arith, known, low)) (c.args.s * c.k-k.result + c.loop-port.port) c.index-count.result.now
    (ap (λ n. c.args.s * n + c.loop-port.port) c.k-k.ensures.known) c.index-count.ensures
    c.queues-in-loop-port.result.now c.iter.result c.count_port-now.result c.queues-in-loop-port.ensures c.iter.ensures c.count_port-now.ensures
