use Rattle.std.proofs.Common.{◌*◌, ◌∙◌, ℕ, ap, length, map, replicate, arith}
use Rattle.std.proofs.Math.ListN.{length-map}
use Rattle.pl_world_parts.proofs.Switching.{none_stale_yet}
use Rattle.pl_world_parts.proofs.StaleCounts.{none_each}
use Rattle.pl_world_parts.proofs.switches.Switches.new.Goals as goal

pub invariant_of-result : goal.invariant_of-result
invariant_of-result g c = (
  none_stale_yet c.args.k (map g.S.SwitchFacts.view c.args.devices.items) c.args.out (c.args.devices.len * c.args.k) c.requires.ports
      (let many = length-map c.args.devices.items g.S.SwitchFacts.view in let ok = c.args.devices.ok in ap (λ n. n * c.args.k) (omega (arith, many, ok))) c.requires.queues,
  none_each c.args.k _ (map g.S.SwitchFacts.view c.args.devices.items) c.args.out c.in_ok-counts.counts.items c.requires.queues
      (c.in_ok-counts.ensures ∙ ap (λ n. replicate {A = ℕ} n 0) (c.len.ensures ∙ ap length c.queues.ensures)),
)
