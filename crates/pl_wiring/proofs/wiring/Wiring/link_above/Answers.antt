use Rattle.std.proofs.Common.{◌/◌, ◌+◌, ◌*◌, arith, sym, ◌∙◌}
use Rattle.std.proofs.lemmas.List.{get_or_default}
use Rattle.pl_wiring.specs.Wired.{plan_of}
use Rattle.pl_wiring.proofs.Climbing.{number_within}
use Rattle.pl_wiring.proofs.wiring.Wiring.link_above.Goals as goal

pub index-requires : goal.index-requires
index-requires c =
    let within = number_within (plan_of c.self.inside) c.args.lower.0 c.args.uplink c.self.invariant.plan
    (rw (← c.self.view_is) at c.requires.lower) (rw (← c.self.view_is) at c.requires.uplink) in
    let ok = c.self.inside.links.ok in rw c.half.ensures (omega (arith, within))

pub returns-clause-link : goal.returns-clause-link
returns-clause-link c =
    let within = number_within (plan_of c.self.inside) c.args.lower.0 c.args.uplink c.self.invariant.plan
    (rw (← c.self.view_is) at c.requires.lower) (rw (← c.self.view_is) at c.requires.uplink) in
    let is = (rw c.half.ensures at c.index.ensures) in
    rw (← c.self.view_is) (λ d. get_or_default c.self.inside.links.items (c.args.lower.0 * (c.self.inside.k / 2) + c.args.uplink) d _ within ∙ sym is)
