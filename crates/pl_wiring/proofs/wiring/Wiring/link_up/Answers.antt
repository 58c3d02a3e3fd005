use Rattle.std.proofs.Common.{◌<◌, ◌/◌, arith}
use Rattle.pl_wiring.proofs.LabelOrder.{half_at_least}
use Rattle.pl_wiring.proofs.Ends.{none_joins}
use Rattle.pl_wiring.proofs.wiring.Wiring.link_up.Goals as goal

pub returns-else-joins_at-clause-none : goal.returns-else-joins_at-clause-none
returns-else-joins_at-clause-none c =
    let two = half_at_least c.self.inside.k c.self.invariant.plan.arity in
    let some : 0 < c.self.inside.k / 2 = omega (arith, two) in
    rw (← c.self.view_is) (none_joins c.self.inside.k c.self.inside.links.items c.args.lower c.args.upper some c.self.invariant.plan.in_order
    (λ there. (let yes = c.if-joins_at.ensures.1 (rw (c.deref.ensures.value, c.link_number-number.ensures) there) in cc)))
