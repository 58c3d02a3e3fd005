use Rattle.std.proofs.Common.{rules}
use Rattle.pl_playing.specs.Outcomes.{records_of, run_limits}
use Rattle.pl_shelf.specs.Held.{ShelfMoment}
use Rattle.pl_playing.specs.Plays.{answer_of}
use Rattle.pl_inputs.specs.Met.{task}
use Rattle.pl_inputs.specs.Words.{Verify}
use Rattle.pl_run.proofs.Asking.{task_is, verify_answers}
use Rattle.pl_run.specs.Answers.{Answers}
use Rattle.pl_run.proofs.CompleteAnswers.{OneEnd, one_end}
use Rattle.pl_run.proofs.CompleteStops.{is_complete}
use Rattle.pl_run.proofs.CompleteVerify.{verify_complete}
use Rattle.pl_run.proofs.FaultAnswers.{task_tells}
use Rattle.pl_run.proofs.program.portland.Goals as goal

pub returns-clause-complete : goal.returns-clause-complete
returns-clause-complete g c asked is =
    let S = g.S.Shelf in
    let old : ShelfMoment = S.moment c.args.shelf.now in
    let new : ShelfMoment = S.moment c.perform.new.shelf in
    let one : OneEnd = one_end
    (λ i end other scene another plays also. (c.one_script_one_end.ensures i.plan run_limits (records_of i) i.lines end other scene another plays also).0)
    (λ i end other scene another plays also. (c.one_script_one_end_of_bridges.ensures i.plan run_limits (records_of i) i.lines end other scene another plays also).0) in
    let answers : Answers old new asked c.status_of.result = search rules in
    is_complete one old new asked c.status_of.result answers

pub returns-clause-verified : goal.returns-clause-verified
returns-clause-verified g c topology journal is =
    let S = g.S.Shelf in
    let asks = task_is c.task_of.result c.in-Some.task _ (Verify topology journal) c.in-Some.is c.task_of.ensures.exact is in
    verify_answers (S.moment c.args.shelf.now) (S.moment c.perform.new.shelf) (task c.in-Some.task) topology journal (answer_of c.perform.result)
    c.status_of.result asks c.status_of.ensures c.perform.ensures.answers

pub returns-clause-complete_verify : goal.returns-clause-complete_verify
returns-clause-complete_verify g c topology journal is =
    let S = g.S.Shelf in
    let old : ShelfMoment = S.moment c.args.shelf.now in
    let new : ShelfMoment = S.moment c.perform.new.shelf in
    let one = c.a_text_has_one_verdict.ensures in
    let asks = task_is c.task_of.result c.in-Some.task _ (Verify topology journal) c.in-Some.is c.task_of.ensures.exact is in
    let answers = verify_answers old new (task c.in-Some.task) topology journal (answer_of c.perform.result) c.status_of.result asks c.status_of.ensures
    c.perform.ensures.answers in
    verify_complete old new topology journal c.status_of.result answers (record {
      illegal = one.illegal;
      bad_line = one.bad_line;
      legal_or_illegal = one.legal_or_illegal;
      legal_or_bad_line = one.legal_or_bad_line;
      illegal_or_bad_line = one.illegal_or_bad_line;
    })

pub returns-clause-faults : goal.returns-clause-faults
returns-clause-faults g c =
    let S = g.S.Shelf in
    let old : ShelfMoment = S.moment c.args.shelf.now in
    let new : ShelfMoment = S.moment c.perform.new.shelf in
    rw c.status_of.ensures (task_tells old new _ (answer_of c.perform.result) c.perform.ensures.answers)
