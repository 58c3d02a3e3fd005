use Rattle.std.proofs.Common.{◌∙◌, inr}
use Rattle.std.proofs.lemmas.Result.{on_err_weaker}
use Rattle.pl_capture.specs.Spelling.{saved_bytes}
use Rattle.pl_shelf.specs.Held.{created}
use Rattle.pl_output.specs.Mail.{packets_at}
use Rattle.pl_output.proofs.Fitting.{cut_unfit}
use Rattle.pl_output.proofs.PrintedLaws.{cut_after}
use Rattle.pl_output.proofs.saving.captures.save_capture.Goals as goal

pub returns-clause-err : goal.returns-clause-err
returns-clause-err g c =
    on_err_weaker c.append_capture.result (λ cut. inr (cut_after _ _ _ _ _ _ c.in_ok-create.ensures.ok cut)) c.append_capture.ensures.err

pub returns-clause-unfit : goal.returns-clause-unfit
returns-clause-unfit g c =
    let S = g.S.Shelf in
    let name = c.args.name.now in
    let old = (S.moment c.args.shelf.now).held in
    cut_unfit c.append_capture.result (S.capacity c.args.shelf.now) _ old _ name (created name (old name))
    (saved_bytes (packets_at c.args.journal.now c.args.receipts.now))
    (c.append_capture.ensures.capacity ∙ c.in_ok-create.ensures.capacity)
    (on_err_weaker c.append_capture.result (λ cut. cut_after _ _ _ _ _ _ c.in_ok-create.ensures.ok cut) c.append_capture.ensures.err)
    c.append_capture.ensures.full
