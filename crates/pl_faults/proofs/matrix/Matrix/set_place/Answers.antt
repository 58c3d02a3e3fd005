use Rattle.std.proofs.Common.{◌∙◌, ap, sym}
use Rattle.pl_faults.specs.Kept.{MatrixView, handed}
use Rattle.pl_faults.proofs.Anew.{handed_of}
use Rattle.pl_faults.proofs.matrix.Matrix.set_place.Goals as goal

pub returns-in-Ok-clause-handed : goal.returns-in-Ok-clause-handed
returns-in-Ok-clause-handed c s =
    sym (handed_of c.keep_place.new.self.reports c.keep_place.new.self.lists.entries c.keep_place.new.self.before.entries c.in-Ok.ensures.kept.listed s)
    ∙ c.in-Ok.ensures.handed s
    ∙ handed_of c.self.inside.tables.reports c.self.inside.tables.lists.entries c.self.inside.tables.before.entries c.self.invariant.listed s
    ∙ ap (λ (v : MatrixView). handed v s) c.self.view_is
