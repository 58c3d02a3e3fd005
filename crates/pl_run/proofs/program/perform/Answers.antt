use Rattle.std.proofs.Common.{subst, sym}
use Rattle.pl_playing.specs.Plays.{answer_of}
use Rattle.pl_inputs.specs.declared.words.Task.{Task as Told}
use Rattle.pl_inputs.specs.Met.{task}
use Rattle.pl_run.specs.Tasks.{AnswersTask}
use Rattle.pl_run.proofs.program.perform.Goals as goal

pub returns-in-Verify-clause-answers : goal.returns-in-Verify-clause-answers
returns-in-Verify-clause-answers g c =
    let S = g.S.Shelf in
    subst (λ (t : Told). AnswersTask (S.moment c.args.shelf.now) (S.moment c.verify.new.shelf) (task t) (answer_of c.verify.result)) (sym c.in-Verify.is)
    c.verify.ensures.answers
