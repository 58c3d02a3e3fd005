use Rattle.std.proofs.Common.{◌∙◌, ap}
use Rattle.pl_faults.specs.Kept.{changed_lists}
use Rattle.pl_faults.proofs.Changed.{found_are_changed}
use Rattle.pl_faults.proofs.matrix.Matrix.changed.Goals as goal

pub returns-clause-changed : goal.returns-clause-changed
returns-clause-changed c =
    c.in_ok-list.ensures.list
    ∙ found_are_changed c.self.inside.tables.reports c.self.inside.tables.lists.entries c.self.inside.tables.before.entries c.self.invariant.listed c.differing.ensures.rising
    ∙ ap changed_lists c.self.view_is
