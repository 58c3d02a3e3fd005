use Rattle.std.proofs.Common.{◌∙◌, sym}
use Rattle.pl_groups.proofs.Beside.{none_beside}
use Rattle.pl_groups.proofs.tree.Parts.is_empty.Goals as goal

pub returns : goal.returns
returns c h = λ s.
    none_beside c.args.self.now.switches c.args.self.now.parts.items s (sym c.as_slice.ensures.value ∙ c.is_none.ensures h)
