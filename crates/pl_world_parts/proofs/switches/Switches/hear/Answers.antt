use Rattle.std.proofs.Common.{◌≡◌, ◌∙◌, ap, length, map, sym, arith}
use Rattle.pl_queues.specs.Counts.{counted_in}
use Rattle.pl_world.specs.Pending.{is_control_item}
use Rattle.pl_world_parts.proofs.StaleCounts.{hear_each, hear_first, hear_known, hear_last, hear_queues, none_each_still, none_still}
use Rattle.pl_world_parts.proofs.Switching.{first_le, keeps_step, step_fits}
use Rattle.pl_world_parts.proofs.switches.Switches.hear.Goals as goal

pub invariant_of-self : goal.invariant_of-self
invariant_of-self g c =
    let bound : c.counted-waiting.result ≡ counted_in is_control_item c.self.inside.out = c.counted-waiting.ensures.counted in
    let none = sym bound ∙ c.if-waiting-eq0.true in (
      none_still c.self.inside.k (map g.S.SwitchFacts.view c.self.inside.devices.items) (map g.S.SwitchFacts.view c.hear_at.new.switches.items) c.self.inside.out none c.hear_at.ensures.kept
          c.args.s c.self.inside.stale (let seen = ap (λ a. length a.switches) c.self.view_is in let r = c.requires.within in omega (arith, seen, r)) c.self.invariant.0,
      none_each_still c.self.inside.k (map g.S.SwitchFacts.view c.self.inside.devices.items) (map g.S.SwitchFacts.view c.hear_at.new.switches.items) c.self.inside.out none c.hear_at.ensures.kept
          c.self.inside.counts.items c.self.invariant.1,
    )

pub count_again-before-requires-clause-queues : goal.count_again-before-requires-clause-queues
count_again-before-requires-clause-queues g c = hear_queues g.S.SwitchFacts.view c.self.inside.k c.self.inside.devices.items c.hear_at-done.new.switches.items c.self.inside.out c.self.inside.counts.items c.args.s
    c.self.inside.stale c.index.result.now c.index-2.result.now c.self.invariant.0 c.self.invariant.1
    (let seen = ap (λ a. length a.switches) c.self.view_is in let r = c.requires.within in omega (arith, seen, r)) c.index.ensures c.hear_at-done.ensures.kept c.index-2.ensures

pub count_again-before-requires-clause-known : goal.count_again-before-requires-clause-known
count_again-before-requires-clause-known g c = hear_known g.S.SwitchFacts.view c.self.inside.k c.self.inside.devices.items c.hear_at-done.new.switches.items c.self.inside.out c.self.inside.counts.items c.args.s
    c.self.inside.stale c.index.result.now c.index-2.result.now c.self.invariant.0 c.self.invariant.1
    (let seen = ap (λ a. length a.switches) c.self.view_is in let r = c.requires.within in omega (arith, seen, r)) c.index.ensures c.hear_at-done.ensures.kept c.index-2.ensures
    c.all_said-said.result c.all_said-said.ensures

pub overflow_sub-self : goal.overflow_sub-self
overflow_sub-self g c = first_le c.self.inside.k (map g.S.SwitchFacts.view c.self.inside.devices.items) c.self.inside.out c.args.s c.self.inside.stale c.count_again-before.result.0 c.count_again-before.result.1 (map g.S.SwitchFacts.view c.hear_at-done.new.switches.items) c.self.invariant.0
    (let seen = ap (λ a. length a.switches) c.self.view_is in let r = c.requires.within in omega (arith, seen, r)) c.hear_at-done.ensures.kept
    (hear_first g.S.SwitchFacts.view c.self.inside.k c.self.inside.devices.items c.hear_at-done.new.switches.items c.self.inside.out c.self.inside.counts.items c.args.s
    c.self.inside.stale c.index.result.now c.index-2.result.now c.self.invariant.0 c.self.invariant.1
    (let seen = ap (λ a. length a.switches) c.self.view_is in let r = c.requires.within in omega (arith, seen, r)) c.index.ensures c.hear_at-done.ensures.kept c.index-2.ensures c.count_again-before.result.0 c.count_again-before.ensures.before)

pub overflow_add-self : goal.overflow_add-self
overflow_add-self g c =
    let fits = step_fits c.self.inside.k (map g.S.SwitchFacts.view c.self.inside.devices.items) c.self.inside.out c.args.s c.self.inside.stale c.count_again-before.result.0 c.count_again-before.result.1 (map g.S.SwitchFacts.view c.hear_at-done.new.switches.items) c.self.invariant.0
    (let seen = ap (λ a. length a.switches) c.self.view_is in let r = c.requires.within in omega (arith, seen, r)) c.hear_at-done.ensures.kept
    c.hear_at-done.ensures.others (hear_first g.S.SwitchFacts.view c.self.inside.k c.self.inside.devices.items c.hear_at-done.new.switches.items c.self.inside.out c.self.inside.counts.items c.args.s
    c.self.inside.stale c.index.result.now c.index-2.result.now c.self.invariant.0 c.self.invariant.1
    (let seen = ap (λ a. length a.switches) c.self.view_is in let r = c.requires.within in omega (arith, seen, r)) c.index.ensures c.hear_at-done.ensures.kept c.index-2.ensures c.count_again-before.result.0 c.count_again-before.ensures.before)
    (hear_last g.S.SwitchFacts.view c.self.inside.k c.self.inside.devices.items c.hear_at-done.new.switches.items c.self.inside.out c.self.inside.counts.items c.args.s
    c.self.inside.stale c.index.result.now c.index-2.result.now c.self.invariant.0 c.self.invariant.1
    (let seen = ap (λ a. length a.switches) c.self.view_is in let r = c.requires.within in omega (arith, seen, r)) c.index.ensures c.hear_at-done.ensures.kept c.index-2.ensures c.count_again-before.result.1 c.count_again-before.ensures.after) in
    let bound : c.counted-waiting.result ≡ counted_in is_control_item c.self.inside.out = c.counted-waiting.ensures.counted in
    omega (arith, fits, bound, c.counted-waiting.ensures.within)

pub invariant_of-self-2 : goal.invariant_of-self-2
invariant_of-self-2 g c = (
  keeps_step c.self.inside.k (map g.S.SwitchFacts.view c.self.inside.devices.items) c.self.inside.out c.args.s c.self.inside.stale c.count_again-before.result.0 c.count_again-before.result.1 (map g.S.SwitchFacts.view c.hear_at-done.new.switches.items) c.self.invariant.0
      (let seen = ap (λ a. length a.switches) c.self.view_is in let r = c.requires.within in omega (arith, seen, r)) c.hear_at-done.ensures.kept
      c.hear_at-done.ensures.others (hear_first g.S.SwitchFacts.view c.self.inside.k c.self.inside.devices.items c.hear_at-done.new.switches.items c.self.inside.out c.self.inside.counts.items c.args.s
      c.self.inside.stale c.index.result.now c.index-2.result.now c.self.invariant.0 c.self.invariant.1
      (let seen = ap (λ a. length a.switches) c.self.view_is in let r = c.requires.within in omega (arith, seen, r)) c.index.ensures c.hear_at-done.ensures.kept c.index-2.ensures c.count_again-before.result.0 c.count_again-before.ensures.before)
      (hear_last g.S.SwitchFacts.view c.self.inside.k c.self.inside.devices.items c.hear_at-done.new.switches.items c.self.inside.out c.self.inside.counts.items c.args.s
      c.self.inside.stale c.index.result.now c.index-2.result.now c.self.invariant.0 c.self.invariant.1
      (let seen = ap (λ a. length a.switches) c.self.view_is in let r = c.requires.within in omega (arith, seen, r)) c.index.ensures c.hear_at-done.ensures.kept c.index-2.ensures c.count_again-before.result.1 c.count_again-before.ensures.after),
  hear_each g.S.SwitchFacts.view c.self.inside.k c.self.inside.devices.items c.hear_at-done.new.switches.items c.self.inside.out c.self.inside.counts.items c.args.s
      c.self.inside.stale c.index.result.now c.index-2.result.now c.self.invariant.0 c.self.invariant.1
      (let seen = ap (λ a. length a.switches) c.self.view_is in let r = c.requires.within in omega (arith, seen, r)) c.index.ensures c.hear_at-done.ensures.kept c.index-2.ensures
      c.count_again-before.new.counts.items c.hear_at-done.ensures.others (let many = c.count_again-before.ensures.many in let ok = c.count_again-before.new.counts.ok in omega (arith, many, ok))
      c.count_again-before.ensures.each c.count_again-before.ensures.others,
)
