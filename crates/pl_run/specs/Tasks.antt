-- What is answered for each command.
use Rattle.pl_inputs.specs.declared.status.Status.{Status}
use Rattle.pl_inputs.specs.Words.{Task, Run, Check, Generate, Verify}
use Rattle.pl_shelf.specs.Held.{ShelfMoment}
use Rattle.pl_run.specs.Answers.{Answers}
use Rattle.pl_run.specs.Checks.{AnswersCheck}
use Rattle.pl_run.specs.Generated.{AnswersGenerated}
use Rattle.pl_run.specs.Verified.{AnswersVerify}

abbrev pub AnswersTask : ShelfMoment → ShelfMoment → Task → Status → Type 0
AnswersTask old new (Run asked) e = Answers old new asked e
AnswersTask old new (Check topology) e = AnswersCheck old new topology e
AnswersTask old new (Generate g) e = AnswersGenerated old new g.k g.number g.frames e
AnswersTask old new (Verify topology journal) e = AnswersVerify old new topology journal e
