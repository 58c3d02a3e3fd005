use Rattle.std.proofs.Common.{◌≡◌, map, subst, sym, arith}
use Rattle.pl_queues.specs.Counts.{counted_in}
use Rattle.pl_world.specs.Pending.{is_control_item}
use Rattle.pl_world_parts.specs.QueueIndices.{IsQueueIndex}
use Rattle.pl_world_parts.proofs.Stale.{one_at_most}
use Rattle.pl_world_parts.proofs.Switching.{device_found, keeps_put, kept_fits, port_there}
use Rattle.pl_world_parts.proofs.StaleCounts.{each_put, was_within}
use Rattle.pl_world_parts.proofs.switches.Switches.put.Goals as goal

pub is_stale-requires : goal.is_stale-requires
is_stale-requires g c =
    port_there g.S.SwitchFacts.view c.self.inside.k c.self.inside.devices.items c.self.inside.out c.args.self.now c.args.s c.index.result.now
    c.self.view_is c.requires.switch c.index.ensures c.args.port c.requires.port

pub overflow_add-self : goal.overflow_add-self
overflow_add-self g c =
    let fits = kept_fits c.self.inside.k (map g.S.SwitchFacts.view c.self.inside.devices.items) c.self.inside.out c.self.inside.stale c.self.invariant.0 in
    let bound : c.counted-bound.result ≡ counted_in is_control_item c.self.inside.out = c.counted-bound.ensures.counted in
    let one = one_at_most c.is_stale.result in
    omega (arith, fits, bound, one, c.counted-bound.ensures.within, c.one_if-more.ensures)

pub invariant_of-self-2 : goal.invariant_of-self-2
invariant_of-self-2 g c =
    let index = subst (λ f. IsQueueIndex f c.args.s c.args.port c.queue_index-at.result) (sym c.self.view_is) c.queue_index-at.ensures.index in
    let found = device_found g.S.SwitchFacts.view c.self.inside.k c.self.inside.devices.items c.self.inside.out c.args.self.now c.args.s c.index.result.now
    c.self.view_is c.requires.switch c.index.ensures in (
      keeps_put c.self.inside.k (map g.S.SwitchFacts.view c.self.inside.devices.items) c.self.inside.out c.args.s c.args.port c.queue_index-at.result c.self.inside.stale
          (g.S.SwitchFacts.view c.index.result.now) c.self.invariant.0 found index
          c.put.new.self c.args.item c.is_stale.result c.one_if-more.result c.in_ok-put.ensures.ok c.one_if-more.ensures c.is_stale.ensures,
      each_put c.self.inside.k (map g.S.SwitchFacts.view c.self.inside.devices.items) c.self.inside.out c.self.inside.counts.items c.self.invariant.1
          c.args.s c.args.port c.queue_index-at.result c.index_mut.result.now index c.index_mut.ensures.value (g.S.SwitchFacts.view c.index.result.now) found
          c.put.new.self c.args.item c.is_stale.result c.one_if-more.result c.in_ok-put.ensures.ok c.one_if-more.ensures c.is_stale.ensures,
    )

pub overflow_add-index_mut : goal.overflow_add-index_mut
overflow_add-index_mut g c =
    let index = subst (λ f. IsQueueIndex f c.args.s c.args.port c.queue_index-at.result) (sym c.self.view_is) c.queue_index-at.ensures.index in
    let was = was_within c.self.inside.k (map g.S.SwitchFacts.view c.self.inside.devices.items) c.self.inside.out c.self.inside.counts.items c.self.invariant.1
    c.args.s c.args.port c.queue_index-at.result c.index_mut.result.now index c.index_mut.ensures.value c.self.inside.stale c.self.invariant.0 in
    let fits = kept_fits c.self.inside.k (map g.S.SwitchFacts.view c.self.inside.devices.items) c.self.inside.out c.self.inside.stale c.self.invariant.0 in
    let bound : c.counted-bound.result ≡ counted_in is_control_item c.self.inside.out = c.counted-bound.ensures.counted in
    let one = one_at_most c.is_stale.result in
    omega (arith, was, fits, bound, one, c.counted-bound.ensures.within, c.one_if-more.ensures)
