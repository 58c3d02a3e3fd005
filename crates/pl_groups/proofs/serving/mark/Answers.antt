use Rattle.std.proofs.Common.{◌∙◌, ap, slice_set, sym, true}
use Rattle.pl_groups.proofs.Marked.{marked, unmarked}
use Rattle.pl_groups.proofs.serving.mark.Goals as goal

pub returns-in-Some : goal.returns-in-Some
returns-in-Some c test was =
    c.set.ensures ∙ ap (λ row. slice_set row c.in-Some.at true) was
    ∙ sym (marked test c.args.switch c.args.needed.now c.in-Some.at c.requires c.in-Some.ensures.some)

pub returns-in-None : goal.returns-in-None
returns-in-None c test was = was ∙ sym (unmarked test c.args.switch c.args.needed.now c.in-None.ensures.none)
