use Rattle.std.proofs.Common.{◌∙◌, [], ap, List, Option}
use Rattle.std.specs.Prelude.{unwrap_or}
use Rattle.pl_node.specs.AvoidLists.{avoid_list}
use Rattle.pl_faults.specs.Kept.{MatrixView}
use Rattle.pl_faults.specs.Making.{Avoided}
use Rattle.pl_faults.proofs.Anew.{avoid_of}
use Rattle.pl_faults.proofs.matrix.Matrix.avoid_for.Goals as goal

pub returns : goal.returns
returns c =
    c.in_ok-list.ensures
    ∙ ap (λ (o : Option (List Avoided)). unwrap_or o []) (c.self.invariant.listed.current c.args.switch)
    ∙ avoid_of c.self.inside.tables.reports c.args.switch
    ∙ ap (λ (v : MatrixView). avoid_list v.told c.args.switch) c.self.view_is
