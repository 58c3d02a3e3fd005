use Rattle.std.proofs.Common.{sym, ◌∙◌, ap, arith}
use Rattle.std.proofs.lemmas.Result.{err_from_is_err_and}
use Rattle.pl_capture.proofs.Standing.{read_as}
use Rattle.pl_capture.proofs.Cursors.{HasReadRecords-push, HasReadRecords-ended, HasReadRecords-refused, record_at-room}
use Rattle.pl_capture.proofs.records.Records.next.Goals as goal

pub returns-in_err-found-clause-refused : goal.returns-in_err-found-clause-refused
returns-in_err-found-clause-refused c = λ records read.
    let p = err_from_is_err_and c.from_residual.result c.from_residual.ensures.1 in
    rw (p.1, p.2)
    (HasReadRecords-refused c.args.file.now records c.args.self.now c.in_err-found.field-0.0 (sym c.in_err-found.ensures.exact) read)

pub returns-in-Some-clause-same_file : goal.returns-in-Some-clause-same_file
returns-in-Some-clause-same_file c =
    let is = sym c.in_ok-found.ensures.exact ∙ ap read_as c.in-Some.is in
    (_, HasReadRecords-push c.args.file.now c.requires.0 c.args.self.now c.in-Some.captured is c.requires.1)

pub returns-in-Some-clause-found : goal.returns-in-Some-clause-found
returns-in-Some-clause-found c = λ records read.
    let is = sym c.in_ok-found.ensures.exact ∙ ap read_as c.in-Some.is in
    rw c.in-Some.is (HasReadRecords-push c.args.file.now records c.args.self.now c.in-Some.captured is read)

pub returns-in-Some-clause-nearer : goal.returns-in-Some-clause-nearer
returns-in-Some-clause-nearer c =
    let is = sym c.in_ok-found.ensures.exact ∙ ap read_as c.in-Some.is in
    let room = record_at-room c.args.file.now c.args.self.now c.in-Some.captured is in
    rw c.in-Some.is (omega (arith, room.0, room.1))

pub returns-in_default-clause-ended : goal.returns-in_default-clause-ended
returns-in_default-clause-ended c = λ records read.
    let is = sym c.in_ok-found.ensures.exact ∙ ap read_as c.in_default.is in
    rw c.in_default.is (HasReadRecords-ended c.args.file.now records c.args.self.now is read)
