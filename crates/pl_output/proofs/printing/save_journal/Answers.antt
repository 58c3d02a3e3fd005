use Rattle.std.proofs.Common.{◌∙◌, inr}
use Rattle.std.proofs.lemmas.Result.{on_err_weaker}
use Rattle.pl_output.proofs.PrintedLaws.{cut_after}
use Rattle.pl_journal.specs.Text.{journal_text}
use Rattle.pl_shelf.specs.Held.{created}
use Rattle.pl_output.proofs.Fitting.{cut_unfit}
use Rattle.pl_output.proofs.printing.save_journal.Goals as goal

pub returns-clause-err : goal.returns-clause-err
returns-clause-err g c =
    on_err_weaker c.append_entries.result (λ cut. inr (cut_after _ _ _ _ _ _ c.in_ok-create.ensures.ok cut))
    (rw c.as_slice.ensures at c.append_entries.ensures.err)

pub returns-clause-unfit : goal.returns-clause-unfit
returns-clause-unfit g c =
    let S = g.S.Shelf in
    let name = c.args.name.now in
    let old = (S.moment c.args.shelf.now).held in
    cut_unfit c.append_entries.result (S.capacity c.args.shelf.now) _ old _ name (created name (old name)) (journal_text c.args.wiring.now c.args.journal.now)
    (c.append_entries.ensures.capacity ∙ c.in_ok-create.ensures.capacity)
    (on_err_weaker c.append_entries.result (λ cut. cut_after _ _ _ _ _ _ c.in_ok-create.ensures.ok cut)
    (rw c.as_slice.ensures at c.append_entries.ensures.err))
    c.append_entries.ensures.full
