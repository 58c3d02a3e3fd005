use Rattle.std.proofs.Common.{sym}
use Rattle.std.proofs.lemmas.Result.{err_from_is_err_and}
use Rattle.pl_capture.proofs.Reading.{reading_of-refused}
use Rattle.pl_capture.proofs.records.Records.begin.Goals as goal

pub returns-in_err-order-clause-err : goal.returns-in_err-order-clause-err
returns-in_err-order-clause-err c =
    let p = err_from_is_err_and c.from_residual.result c.from_residual.ensures.1 in
    rw (p.1, p.2)
    (reading_of-refused c.args.file.now c.in_err-order.field-0.0 (sym c.in_err-order.ensures))
