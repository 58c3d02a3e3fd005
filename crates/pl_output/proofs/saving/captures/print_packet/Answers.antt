use Rattle.std.proofs.Common.{length}
use Rattle.std.proofs.lemmas.Result.{err_from_is_err_and, on_err_weaker, on_ok_weaker}
use Rattle.pl_capture.specs.Spelling.{saved_head}
use Rattle.pl_output.proofs.PrintedLaws.{broken_first, broken_then, printed_then}
use Rattle.pl_output.proofs.saving.captures.print_packet.Goals as goal

pub returns-in_err-print-clause-err : goal.returns-in_err-print-clause-err
returns-in_err-print-clause-err g c =
    let p = err_from_is_err_and c.from_residual.result c.from_residual.ensures.1 in
    let cut = rw c.write_record_head-head.ensures at c.in_err-print.ensures.err in
    rw p.1 (broken_first _ _ c.args.name.now _ (saved_head c.args.receipt.seconds c.args.receipt.micros (length c.args.frame.now)) c.args.frame.now cut)

pub returns-clause-ok : goal.returns-clause-ok
returns-clause-ok g c =
    let head = rw c.write_record_head-head.ensures at c.in_ok-print.ensures.ok in
    on_ok_weaker c.print-2.result (printed_then _ _ _ c.args.name.now _ _ _
    (saved_head c.args.receipt.seconds c.args.receipt.micros (length c.args.frame.now)) c.args.frame.now head) c.print-2.ensures.ok

pub returns-clause-err : goal.returns-clause-err
returns-clause-err g c =
    let head = rw c.write_record_head-head.ensures at c.in_ok-print.ensures.ok in
    on_err_weaker c.print-2.result (broken_then _ _ _ c.args.name.now _ _
    (saved_head c.args.receipt.seconds c.args.receipt.micros (length c.args.frame.now)) c.args.frame.now head) c.print-2.ensures.err
