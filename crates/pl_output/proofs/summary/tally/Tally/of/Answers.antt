use Rattle.std.proofs.Common.{[], ◌∷◌, ◌++◌, take, ◌∙◌, ap, subst, sym}
use Rattle.std.proofs.lemmas.List.{take_more}
use Rattle.pl_output.specs.Tallied.{IsTallyOf}
use Rattle.pl_output.proofs.summary.tally.Tally.of.Goals as goal

pub loop-entry-preserved : goal.loop-entry-preserved
loop-entry-preserved c =
    let entries = c.args.entries.now in
    let i = c.loop-entry.entry-index in
    let front = take_more entries i c.entry-item.result c.loop-entry-test.true ∙ ap (λ e. take i entries ++ e ∷ []) (sym c.entry-item.is) in
    subst (IsTallyOf c.count.new.self c.args.hosts) (sym front) (c.in_ok-count.ensures c.args.hosts _ c.loop-entry.invariant)
