-- What is answered of a command is answered of what the words ask for.
use Rattle.std.proofs.Common.{◌≡◌, ℕ, List, Option, Some, option_map, sym, ap, subst, ◌∙◌}
use Rattle.std.proofs.lemmas.Option.{same_Some}
use Rattle.pl_shelf.specs.Held.{ShelfMoment}
use Rattle.pl_inputs.specs.declared.status.Status.{Status}
use Rattle.pl_inputs.specs.declared.words.Task.{Task as Told}
use Rattle.pl_inputs.specs.Met.{task}
use Rattle.pl_inputs.specs.Words.{Task, Verify}
use Rattle.pl_run.specs.Tasks.{AnswersTask}
use Rattle.pl_run.specs.Verified.{AnswersVerify}

pub task_is : (read : Option Told) (told : Told) (asks : Option Task) (t : Task) → read ≡ Some told → option_map task read ≡ asks → asks ≡ Some t → task told ≡ t
task_is read told asks t is exact asked = same_Some (task told) t (sym (ap (option_map task) is) ∙ exact ∙ asked)

pub verify_answers : (old new : ShelfMoment) (asks : Task) (topology journal : List ℕ) (e f : Status) → asks ≡ Verify topology journal → f ≡ e →
    AnswersTask old new asks e → AnswersVerify old new topology journal f
verify_answers old new asks topology journal e f is same a =
    subst (λ x. AnswersVerify old new topology journal x) (sym same) (subst (λ (t : Task). AnswersTask old new t e) is a)
