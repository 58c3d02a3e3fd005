use Rattle.std.proofs.Common.{◌<◌, ◌/◌, arith}
use Rattle.pl_wiring.proofs.LabelOrder.{half_at_least, label_of-IsLabel}
use Rattle.pl_wiring.proofs.wiring.Wiring.label.Goals as goal

pub returns-clause-in_range : goal.returns-clause-in_range
returns-clause-in_range c =
    let two = half_at_least c.self.inside.k c.self.invariant.plan.arity in
    let some : 0 < c.self.inside.k / 2 = omega (arith, two) in
    rw (← c.self.view_is, c.label_at.ensures)
    (label_of-IsLabel c.self.inside.k c.args.switch.0 some (rw (← c.self.view_is) at c.requires))
