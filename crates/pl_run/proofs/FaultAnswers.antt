-- A count of failed calls that rose is told by the answer.
use Rattle.std.proofs.Common.{◌≡◌, ℕ, ◌<◌, List, refl, inl, inr, arith}
use Rattle.pl_shelf.specs.Held.{Held, ShelfMoment}
use Rattle.pl_wiring.specs.Plan.{Plan}
use Rattle.pl_inputs.specs.declared.status.Status.{Status}
use Rattle.pl_inputs.specs.Inputs.{Inputs, journal_limit}
use Rattle.pl_inputs.specs.Loads.{IsUnloaded, IsUnplanned}
use Rattle.pl_inputs.specs.declared.words.Network.{Network}
use Rattle.pl_inputs.specs.declared.words.Network.TheVariants.{Fabric}
use Rattle.pl_inputs.specs.Words.{Asked, Check, Generate, Run, Task, Verify}
use Rattle.pl_output.specs.Saved.{Saving}
use Rattle.pl_inputs.specs.declared.status.Status.TheVariants as status
use Rattle.pl_playing.specs.Outcomes.{EndsSaving, IsUntouched, ReadFails, Saves, SavingFails}
use Rattle.pl_run.specs.Answers.{Answers, IsRun}
use Rattle.pl_run.specs.Checks.{AnswersCheck, line_of}
use Rattle.pl_run.specs.Faults.{TellsFaults}
use Rattle.pl_run.specs.Generated.{AnswersGenerated, AnswersOver, IsGeneratedRun}
use Rattle.pl_run.specs.Tasks.{AnswersTask}
use Rattle.pl_run.specs.Verified.{AnswersJournal, AnswersVerify, IsNotRead, told_of}
use Rattle.pl_run.specs.Fabric.{Comes, IsPlayed, fits_of, nothing_of, printed_of, texts_of}

-- a count that stands did not rise
no_rise : (old new : ℕ) → new ≡ old → old < new → ⊥
no_rise old new same more = omega (arith, same, more)

pub untouched_tells : (old new : ShelfMoment) (e : Status) → IsUntouched old new → TellsFaults old new e
untouched_tells old new e is = record {
  reads = λ more. absurd (no_rise old.read_faults new.read_faults is.reads more);
  writes = λ more. absurd (no_rise old.write_faults new.write_faults is.writes more);
}

saves_tells : (old new : ShelfMoment) (savings : List Saving) (e : Status) → Saves old new savings → TellsFaults old new e
saves_tells old new savings e is = record {
  reads = λ more. absurd (no_rise old.read_faults new.read_faults is.reads more);
  writes = λ more. absurd (no_rise old.write_faults new.write_faults is.writes more);
}

read_tells : (old new : ShelfMoment) (name : List ℕ) → ReadFails old new → TellsFaults old new (status.ReadFault name)
read_tells old new name is = record {
  reads = λ more. (name, refl);
  writes = λ more. absurd (no_rise old.write_faults new.write_faults is.writes more);
}

write_tells : (old new : ShelfMoment) (savings : List Saving) (name : List ℕ) → SavingFails old new savings name → TellsFaults old new (status.WriteFault name)
write_tells old new savings name is = record {
  reads = λ more. absurd (no_rise old.read_faults new.read_faults is.reads more);
  writes = λ more. (name, refl);
}

comes_tells : (network : Network) (old new : ShelfMoment) (i : Inputs) (known : IsPlayed network i → Type 0) (texts : IsPlayed network i → List Saving) (e : Status) →
    Comes network old new i known texts e → TellsFaults old new e
comes_tells network old new i known texts status.Done c = saves_tells old new (texts c.0) status.Done c.1
comes_tells network old new i known texts (status.WriteFault name) c = write_tells old new (texts c.0) name c.1
comes_tells network old new i known texts status.OutOfMemory c = untouched_tells old new status.OutOfMemory c
comes_tells network old new i known texts status.Usage c = untouched_tells old new status.Usage c.1
comes_tells network old new i known texts (status.NotLegal entry) c = untouched_tells old new (status.NotLegal entry) c.1
comes_tells network old new i known texts (status.BadJournal line) c = untouched_tells old new (status.BadJournal line) c.1
comes_tells network old new i known texts (status.ReadFault name) c = untouched_tells old new (status.ReadFault name) c.1
comes_tells network old new i known texts (status.TooLong name) c = untouched_tells old new (status.TooLong name) c.1
comes_tells network old new i known texts (status.BadTopology reason) c = untouched_tells old new (status.BadTopology reason) c.1
comes_tells network old new i known texts (status.BadScript line reason) c = untouched_tells old new (status.BadScript line reason) c.1
comes_tells network old new i known texts (status.BadCapture host e at) c = untouched_tells old new (status.BadCapture host e at) c.1
comes_tells network old new i known texts (status.BadSection host e) c = untouched_tells old new (status.BadSection host e) c.1
comes_tells network old new i known texts (status.ExpectFailed line) c = untouched_tells old new (status.ExpectFailed line) c.1
comes_tells network old new i known texts (status.Refused line reason) c = untouched_tells old new (status.Refused line reason) c.1
comes_tells network old new i known texts (status.StepsSpent line) c = untouched_tells old new (status.StepsSpent line) c.1
comes_tells network old new i known texts (status.JournalFull line) c = untouched_tells old new (status.JournalFull line) c.1

run_tells : (old new : ShelfMoment) (asked : Asked) (e : Status) → IsRun old new asked e → TellsFaults old new e
run_tells old new asked e a = comes_tells asked.network old new a.0 (fits_of asked.network a.0) (texts_of asked.network asked.out a.0) e a.2

answers_tells : (old new : ShelfMoment) (asked : Asked) (e : Status) → Answers old new asked e → TellsFaults old new e
answers_tells old new asked status.Done a = run_tells old new asked status.Done a
answers_tells old new asked (status.WriteFault name) a = run_tells old new asked (status.WriteFault name) a
answers_tells old new asked (status.ExpectFailed line) a = run_tells old new asked (status.ExpectFailed line) a
answers_tells old new asked (status.Refused line reason) a = run_tells old new asked (status.Refused line reason) a
answers_tells old new asked (status.StepsSpent line) a = run_tells old new asked (status.StepsSpent line) a
answers_tells old new asked (status.JournalFull line) a = run_tells old new asked (status.JournalFull line) a
answers_tells old new asked (status.ReadFault name) a = read_tells old new name a.1
answers_tells old new asked status.OutOfMemory a = untouched_tells old new status.OutOfMemory a.1
answers_tells old new asked status.Usage a = untouched_tells old new status.Usage a.1
answers_tells old new asked (status.NotLegal entry) a = untouched_tells old new (status.NotLegal entry) a.1
answers_tells old new asked (status.BadJournal line) a = untouched_tells old new (status.BadJournal line) a.1
answers_tells old new asked (status.TooLong name) a = untouched_tells old new (status.TooLong name) a.1
answers_tells old new asked (status.BadTopology reason) a = untouched_tells old new (status.BadTopology reason) a.1
answers_tells old new asked (status.BadScript line reason) a = untouched_tells old new (status.BadScript line reason) a.1
answers_tells old new asked (status.BadCapture host e at) a = untouched_tells old new (status.BadCapture host e at) a.1
answers_tells old new asked (status.BadSection host e) a = untouched_tells old new (status.BadSection host e) a.1

check_tells : (old new : ShelfMoment) (topology : List ℕ) (e : Status) → AnswersCheck old new topology e → TellsFaults old new e
check_tells old new topology status.Done a = saves_tells old new (line_of a.0) status.Done a.2
check_tells old new topology (status.WriteFault name) a = write_tells old new (line_of a.0) name a.2
check_tells old new topology (status.ReadFault name) a = read_tells old new name a.1
check_tells old new topology status.OutOfMemory a = untouched_tells old new status.OutOfMemory a.1
check_tells old new topology status.Usage a = untouched_tells old new status.Usage a.1
check_tells old new topology (status.NotLegal entry) a = untouched_tells old new (status.NotLegal entry) a.1
check_tells old new topology (status.BadJournal line) a = untouched_tells old new (status.BadJournal line) a.1
check_tells old new topology (status.TooLong name) a = untouched_tells old new (status.TooLong name) a.1
check_tells old new topology (status.BadTopology reason) a = untouched_tells old new (status.BadTopology reason) a.1
check_tells old new topology (status.BadScript line reason) a = untouched_tells old new (status.BadScript line reason) a.1
check_tells old new topology (status.BadCapture host e at) a = untouched_tells old new (status.BadCapture host e at) a.1
check_tells old new topology (status.BadSection host e) a = untouched_tells old new (status.BadSection host e) a.1
check_tells old new topology (status.ExpectFailed line) a = untouched_tells old new (status.ExpectFailed line) a.1
check_tells old new topology (status.Refused line reason) a = untouched_tells old new (status.Refused line reason) a.1
check_tells old new topology (status.StepsSpent line) a = untouched_tells old new (status.StepsSpent line) a.1
check_tells old new topology (status.JournalFull line) a = untouched_tells old new (status.JournalFull line) a.1

-- a run over generated files
made_tells : (old new : ShelfMoment) (held : List ℕ → Held) (e : Status) → IsGeneratedRun old new held e → TellsFaults old new e
made_tells old new held e a = comes_tells Fabric old new a.0 (nothing_of Fabric a.0) (printed_of Fabric a.0) e a.2

over_tells : (old new : ShelfMoment) (held : List ℕ → Held) (e : Status) → AnswersOver old new held e → TellsFaults old new e
over_tells old new held status.Done a = made_tells old new held status.Done a
over_tells old new held (status.WriteFault name) a = made_tells old new held (status.WriteFault name) a
over_tells old new held (status.ExpectFailed line) a = made_tells old new held (status.ExpectFailed line) a
over_tells old new held (status.Refused line reason) a = made_tells old new held (status.Refused line reason) a
over_tells old new held (status.StepsSpent line) a = made_tells old new held (status.StepsSpent line) a
over_tells old new held (status.JournalFull line) a = made_tells old new held (status.JournalFull line) a
over_tells old new held (status.ReadFault name) a = absurd a
over_tells old new held status.OutOfMemory a = untouched_tells old new status.OutOfMemory a.1
over_tells old new held status.Usage a = untouched_tells old new status.Usage a.1
over_tells old new held (status.NotLegal entry) a = untouched_tells old new (status.NotLegal entry) a.1
over_tells old new held (status.BadJournal line) a = untouched_tells old new (status.BadJournal line) a.1
over_tells old new held (status.TooLong name) a = untouched_tells old new (status.TooLong name) a.1
over_tells old new held (status.BadTopology reason) a = untouched_tells old new (status.BadTopology reason) a.1
over_tells old new held (status.BadScript line reason) a = untouched_tells old new (status.BadScript line reason) a.1
over_tells old new held (status.BadCapture host e at) a = untouched_tells old new (status.BadCapture host e at) a.1
over_tells old new held (status.BadSection host e) a = untouched_tells old new (status.BadSection host e) a.1

generated_tells : (old new : ShelfMoment) (k number frames : ℕ) (e : Status) → AnswersGenerated old new k number frames e → TellsFaults old new e
generated_tells old new k number frames status.OutOfMemory a = untouched_tells old new status.OutOfMemory a
generated_tells old new k number frames status.Done a = over_tells old new a.0 status.Done a.2
generated_tells old new k number frames (status.WriteFault name) a = over_tells old new a.0 (status.WriteFault name) a.2
generated_tells old new k number frames (status.ExpectFailed line) a = over_tells old new a.0 (status.ExpectFailed line) a.2
generated_tells old new k number frames (status.Refused line reason) a = over_tells old new a.0 (status.Refused line reason) a.2
generated_tells old new k number frames (status.StepsSpent line) a = over_tells old new a.0 (status.StepsSpent line) a.2
generated_tells old new k number frames (status.JournalFull line) a = over_tells old new a.0 (status.JournalFull line) a.2
generated_tells old new k number frames (status.ReadFault name) a = absurd a.2
generated_tells old new k number frames status.Usage a = over_tells old new a.0 status.Usage a.2
generated_tells old new k number frames (status.NotLegal entry) a = over_tells old new a.0 (status.NotLegal entry) a.2
generated_tells old new k number frames (status.BadJournal line) a = over_tells old new a.0 (status.BadJournal line) a.2
generated_tells old new k number frames (status.TooLong name) a = over_tells old new a.0 (status.TooLong name) a.2
generated_tells old new k number frames (status.BadTopology reason) a = over_tells old new a.0 (status.BadTopology reason) a.2
generated_tells old new k number frames (status.BadScript line reason) a = over_tells old new a.0 (status.BadScript line reason) a.2
generated_tells old new k number frames (status.BadCapture host e at) a = over_tells old new a.0 (status.BadCapture host e at) a.2
generated_tells old new k number frames (status.BadSection host e) a = over_tells old new a.0 (status.BadSection host e) a.2

-- a journal that is checked
saving_tells : (old new : ShelfMoment) (savings : List Saving) (e : Status) → EndsSaving old new savings e → TellsFaults old new e
saving_tells old new savings status.Done c = saves_tells old new savings status.Done c
saving_tells old new savings (status.WriteFault name) c = write_tells old new savings name c
saving_tells old new savings status.OutOfMemory c = untouched_tells old new status.OutOfMemory c
saving_tells old new savings status.Usage c = absurd c
saving_tells old new savings (status.ReadFault name) c = absurd c
saving_tells old new savings (status.BadTopology reason) c = absurd c
saving_tells old new savings (status.BadScript line reason) c = absurd c
saving_tells old new savings (status.BadCapture host e at) c = absurd c
saving_tells old new savings (status.ExpectFailed line) c = absurd c
saving_tells old new savings (status.Refused line reason) c = absurd c
saving_tells old new savings (status.TooLong name) c = absurd c
saving_tells old new savings (status.StepsSpent line) c = absurd c
saving_tells old new savings (status.JournalFull line) c = absurd c
saving_tells old new savings (status.NotLegal entry) c = absurd c
saving_tells old new savings (status.BadJournal line) c = absurd c
saving_tells old new savings (status.BadSection host e) c = absurd c

missed_tells : (why : Status → Type 0) (old new : ShelfMoment) (e : Status) → IsNotRead why old new e → TellsFaults old new e
missed_tells why old new (status.ReadFault name) a = read_tells old new name a.1
missed_tells why old new status.Done a = untouched_tells old new status.Done a.1
missed_tells why old new status.Usage a = untouched_tells old new status.Usage a.1
missed_tells why old new (status.BadTopology reason) a = untouched_tells old new (status.BadTopology reason) a.1
missed_tells why old new (status.BadScript line reason) a = untouched_tells old new (status.BadScript line reason) a.1
missed_tells why old new (status.BadCapture host e at) a = untouched_tells old new (status.BadCapture host e at) a.1
missed_tells why old new (status.WriteFault name) a = untouched_tells old new (status.WriteFault name) a.1
missed_tells why old new (status.ExpectFailed line) a = untouched_tells old new (status.ExpectFailed line) a.1
missed_tells why old new (status.Refused line reason) a = untouched_tells old new (status.Refused line reason) a.1
missed_tells why old new (status.TooLong name) a = untouched_tells old new (status.TooLong name) a.1
missed_tells why old new (status.StepsSpent line) a = untouched_tells old new (status.StepsSpent line) a.1
missed_tells why old new (status.JournalFull line) a = untouched_tells old new (status.JournalFull line) a.1
missed_tells why old new status.OutOfMemory a = untouched_tells old new status.OutOfMemory a.1
missed_tells why old new (status.NotLegal entry) a = untouched_tells old new (status.NotLegal entry) a.1
missed_tells why old new (status.BadJournal line) a = untouched_tells old new (status.BadJournal line) a.1
missed_tells why old new (status.BadSection host e) a = untouched_tells old new (status.BadSection host e) a.1

journal_tells : (old new : ShelfMoment) (plan : Plan) (journal : List ℕ) (e : Status) → AnswersJournal old new plan journal e → TellsFaults old new e
journal_tells old new plan journal e (inl a) = missed_tells (IsUnloaded old.held journal journal_limit) old new e a
journal_tells old new plan journal e (inr (text, loaded, inl a)) = saving_tells old new (told_of a.0) e a.2
journal_tells old new plan journal e (inr (text, loaded, inr a)) = untouched_tells old new e a.1

verify_tells : (old new : ShelfMoment) (topology journal : List ℕ) (e : Status) → AnswersVerify old new topology journal e → TellsFaults old new e
verify_tells old new topology journal e (inl a) = missed_tells (IsUnplanned old.held topology) old new e a
verify_tells old new topology journal e (inr a) = journal_tells old new a.0 journal e a.3

pub task_tells : (old new : ShelfMoment) (task : Task) (e : Status) → AnswersTask old new task e → TellsFaults old new e
task_tells old new (Run asked) e a = answers_tells old new asked e a
task_tells old new (Check topology) e a = check_tells old new topology e a
task_tells old new (Generate g) e a = generated_tells old new g.k g.number g.frames e a
task_tells old new (Verify topology journal) e a = verify_tells old new topology journal e a
