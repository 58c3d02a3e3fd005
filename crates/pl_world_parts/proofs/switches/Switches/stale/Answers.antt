use Rattle.std.proofs.Common.{◌≡◌, map, arith}
use Rattle.pl_queues.specs.Counts.{counted_in}
use Rattle.pl_world.specs.Pending.{is_control_item}
use Rattle.pl_world_parts.proofs.Switching.{kept_fits}
use Rattle.pl_world_parts.proofs.switches.Switches.stale.Goals as goal

pub returns-clause-within : goal.returns-clause-within
returns-clause-within g c =
    let fits = kept_fits c.self.inside.k (map g.S.SwitchFacts.view c.self.inside.devices.items) c.self.inside.out c.self.inside.stale c.self.invariant.0 in
    let bound : c.counted-bound.result ≡ counted_in is_control_item c.self.inside.out = c.counted-bound.ensures.counted in
    omega (arith, fits, bound, c.counted-bound.ensures.within)
