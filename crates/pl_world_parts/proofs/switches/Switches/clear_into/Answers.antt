use Rattle.std.proofs.Common.{map, subst, sym}
use Rattle.pl_world_parts.specs.QueueIndices.{IsQueueIndex}
use Rattle.pl_world_parts.proofs.StaleCounts.{each_emptied, keeps_emptied, was_within}
use Rattle.pl_world_parts.proofs.switches.Switches.clear_into.Goals as goal

pub overflow_sub-self : goal.overflow_sub-self
overflow_sub-self g c =
    let index = subst (λ f. IsQueueIndex f c.args.s c.args.port c.queue_index-at.result) (sym c.self.view_is) c.queue_index-at.ensures.index in
    was_within c.self.inside.k (map g.S.SwitchFacts.view c.self.inside.devices.items) c.self.inside.out c.self.inside.counts.items c.self.invariant.1
    c.args.s c.args.port c.queue_index-at.result c.index.result.now index c.index.ensures c.self.inside.stale c.self.invariant.0

pub invariant_of-self-2 : goal.invariant_of-self-2
invariant_of-self-2 g c =
    let index = subst (λ f. IsQueueIndex f c.args.s c.args.port c.queue_index-at.result) (sym c.self.view_is) c.queue_index-at.ensures.index in (
      keeps_emptied c.self.inside.k (map g.S.SwitchFacts.view c.self.inside.devices.items) c.self.inside.out c.self.inside.counts.items c.self.invariant.1
          c.args.s c.args.port c.queue_index-at.result c.index.result.now index c.index.ensures
          c.self.inside.stale c.clear_into.new.self c.self.invariant.0 c.in_ok-clear_into.ensures.left,
      each_emptied c.self.inside.k (map g.S.SwitchFacts.view c.self.inside.devices.items) c.self.inside.out c.self.inside.counts.items c.self.invariant.1
          c.args.s c.args.port c.queue_index-at.result c.index.result.now index c.index.ensures
          c.clear_into.new.self c.in_ok-clear_into.ensures.left,
    )
