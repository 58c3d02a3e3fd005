use Rattle.std.proofs.Common.{map, subst, sym}
use Rattle.pl_world_parts.specs.QueueIndices.{IsQueueIndex}
use Rattle.pl_world_parts.proofs.Switching.{device_found, keeps_take, port_there, taken_le}
use Rattle.pl_world_parts.proofs.StaleCounts.{each_take, less_within}
use Rattle.pl_world_parts.proofs.switches.Switches.take.Goals as goal

pub stale_taken-less-requires : goal.stale_taken-less-requires
stale_taken-less-requires g c =
    port_there g.S.SwitchFacts.view c.self.inside.k c.self.inside.devices.items c.self.inside.out c.args.self.now c.args.s c.index.result.now
    c.self.view_is c.requires.switch c.index.ensures c.args.port c.requires.port

pub overflow_sub-self : goal.overflow_sub-self
overflow_sub-self g c =
    let index = subst (λ f. IsQueueIndex f c.args.s c.args.port c.queue_index-at.result) (sym c.self.view_is) c.queue_index-at.ensures.index in
    let found = device_found g.S.SwitchFacts.view c.self.inside.k c.self.inside.devices.items c.self.inside.out c.args.self.now c.args.s c.index.result.now
    c.self.view_is c.requires.switch c.index.ensures in
    taken_le c.self.inside.k (map g.S.SwitchFacts.view c.self.inside.devices.items) c.self.inside.out c.args.s c.args.port c.queue_index-at.result c.self.inside.stale
    (g.S.SwitchFacts.view c.index.result.now) c.self.invariant.0 found index
    c.take-taken.new.self c.take-taken.result c.stale_taken-less.result c.take-taken.ensures c.stale_taken-less.ensures

pub invariant_of-self : goal.invariant_of-self
invariant_of-self g c =
    let index = subst (λ f. IsQueueIndex f c.args.s c.args.port c.queue_index-at.result) (sym c.self.view_is) c.queue_index-at.ensures.index in
    let found = device_found g.S.SwitchFacts.view c.self.inside.k c.self.inside.devices.items c.self.inside.out c.args.self.now c.args.s c.index.result.now
    c.self.view_is c.requires.switch c.index.ensures in (
      keeps_take c.self.inside.k (map g.S.SwitchFacts.view c.self.inside.devices.items) c.self.inside.out c.args.s c.args.port c.queue_index-at.result c.self.inside.stale
          (g.S.SwitchFacts.view c.index.result.now) c.self.invariant.0 found index
          c.take-taken.new.self c.take-taken.result c.stale_taken-less.result c.take-taken.ensures c.stale_taken-less.ensures,
      each_take c.self.inside.k (map g.S.SwitchFacts.view c.self.inside.devices.items) c.self.inside.out c.self.inside.counts.items c.self.invariant.1
          c.args.s c.args.port c.queue_index-at.result c.index_mut.result.now index c.index_mut.ensures.value (g.S.SwitchFacts.view c.index.result.now) found
          c.take-taken.new.self c.take-taken.result c.stale_taken-less.result c.take-taken.ensures c.stale_taken-less.ensures,
    )

pub overflow_sub-index_mut : goal.overflow_sub-index_mut
overflow_sub-index_mut g c =
    let index = subst (λ f. IsQueueIndex f c.args.s c.args.port c.queue_index-at.result) (sym c.self.view_is) c.queue_index-at.ensures.index in
    let found = device_found g.S.SwitchFacts.view c.self.inside.k c.self.inside.devices.items c.self.inside.out c.args.self.now c.args.s c.index.result.now
    c.self.view_is c.requires.switch c.index.ensures in
    less_within c.self.inside.k (map g.S.SwitchFacts.view c.self.inside.devices.items) c.self.inside.out c.self.inside.counts.items c.self.invariant.1
    c.args.s c.args.port c.queue_index-at.result c.index_mut.result.now index c.index_mut.ensures.value (g.S.SwitchFacts.view c.index.result.now) found
    c.take-taken.new.self c.take-taken.result c.stale_taken-less.result c.take-taken.ensures c.stale_taken-less.ensures
