use Rattle.std.proofs.Common.{◌∙◌, sym, ap}
use Rattle.std.specs.Prelude.{fold}
use Rattle.pl_faults.specs.Kept.{with_differing}
use Rattle.pl_faults.proofs.lists.differing.Goals as goal

pub returns-clause-list : goal.returns-clause-list
returns-clause-list c =
    let lists = c.args.lists.now.entries in
    ap (λ es. fold (with_differing lists) c.loop-switch.list es) (sym c.in-None.ensures.steps.0)
    ∙ c.loop-switch.invariant
    ∙ ap (λ es. fold (with_differing lists) c.new-list.result es) (c.into_iter-switch-iterator.ensures.into_iter_gives ∙ c.iter-switch-items.ensures.rest)
    ∙ ap (λ list. fold (with_differing lists) list c.args.before.now.entries) c.new-list.ensures
