use Rattle.std.proofs.lemmas.Result.{on_err_weaker, on_ok_weaker}
use Rattle.pl_output.proofs.PrintedLaws.{broken_last, printed_all}
use Rattle.pl_output.proofs.saving.captures.append_capture.Goals as goal

pub returns-clause-err : goal.returns-clause-err
returns-clause-err g c =
    let printed = rw c.clear.ensures at c.in_ok-print_capture.ensures.ok in
    on_err_weaker c.send.result (broken_last _ _ _ _ _ _ printed) c.send.ensures.err

pub returns-clause-ok : goal.returns-clause-ok
returns-clause-ok g c =
    let printed = rw c.clear.ensures at c.in_ok-print_capture.ensures.ok in
    on_ok_weaker c.send.result (printed_all _ _ _ _ _ _ printed) c.send.ensures.ok
