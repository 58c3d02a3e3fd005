use Rattle.std.proofs.Common.{◌∙◌, sym}
use Rattle.std.proofs.lemmas.Bool.{eqb-true}
use Rattle.std.specs.Ordering.{ordering_index}
use Rattle.pl_groups.proofs.Standing.{none_above_last}
use Rattle.pl_groups.proofs.positions.ends_below.Goals as goal

pub returns-in-Some : goal.returns-in-Some
returns-in-Some c below =
    none_above_last c.args.switch c.in-Some.last.now c.args.list.now c.cmp.result c.requires c.in-Some.ensures.value c.cmp.ensures
    (eqb-true (ordering_index c.cmp.result) 0 (sym c.eq.ensures ∙ below))
