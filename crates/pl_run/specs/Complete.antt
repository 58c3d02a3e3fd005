-- What is answered where the shelf tells what is read, and no call fails: what the bytes ask for.
use Rattle.std.specs.Prelude.{◌≡◌, ◌⊎◌, ℕ, ◌+◌, ◌-◌, ◌^◌, ◌<◌, List, All, take, Option, None, Some, Err}
use Rattle.pl_shelf.specs.Held.{Held, IsLonger, ShelfMoment, holds}
use Rattle.pl_capture.specs.CaptureError.{offset_of}
use Rattle.pl_wiring.specs.declared.host.Host.{Host}
use Rattle.pl_wiring.specs.declared.host.HostNo.{HostNo}
use Rattle.pl_wiring.specs.Plan.{Plan}
use Rattle.pl_verdict.specs.Verdicts.{IsBadLine, IsIllegal, IsLegal}
use Rattle.pl_script.specs.declared.error.ScriptError.TheVariants.{Line}
use Rattle.pl_script.specs.declared.error.ScriptReason.{ScriptReason}
use Rattle.pl_topology.specs.declared.error.TopologyError.{TopologyError}
use Rattle.pl_topology.specs.Meaning.{topology_of}
use Rattle.pl_inputs.specs.declared.fault.CaptureFault.{CaptureFault}
use Rattle.pl_inputs.specs.declared.fault.CaptureFault.TheVariants.{OfRecords, OfSections}
use Rattle.pl_inputs.specs.declared.status.Status.{Status}
use Rattle.pl_inputs.specs.Folders.{in_folder}
use Rattle.pl_inputs.specs.Inputs.{AreRead, HasPlan, Inputs, IsLoaded, journal_limit, script_for, text_limit}
use Rattle.pl_inputs.specs.Unread.{AreTextsRead, IsRefusedCapture, IsTooMuch}
use Rattle.pl_inputs.specs.Words.{Asked}
use Rattle.pl_script_rule.specs.declared.stop.Stop.{Stop}
use Rattle.pl_script_rule.specs.Scenes.{Scene}
use Rattle.pl_inputs.specs.declared.status.Status.TheVariants as status
use Rattle.pl_playing.specs.Outcomes.{outcome}
use Rattle.pl_run.specs.Fabric.{PlaysTo}

-- the shelf tells what this name holds
abbrev pub IsShown : (List ℕ → Held) → List ℕ → Type 0
IsShown held name = (bytes : List ℕ) × (held name ≡ holds bytes)

-- the same of a host's capture, where it names one
abbrev pub IsCaptureShown : (List ℕ → Held) → List ℕ → Option (List ℕ) → Type 0
IsCaptureShown held folder None = Unit {0}
IsCaptureShown held folder (Some name) = IsShown held (in_folder folder name)

abbrev pub AreCapturesShown : (List ℕ → Held) → List ℕ → List Host → Type 0
AreCapturesShown held folder hosts = All (λ h. IsCaptureShown held folder h.capture) hosts

-- the shelf tells the topology, the script, and the captures of these hosts
pub record AreShown (held : List ℕ → Held) (asked : Asked) (hosts : List Host) : Type 0 where
  pub topology : IsShown held asked.topology
  pub script : IsShown held asked.script
  pub captures : AreCapturesShown held asked.captures hosts

-- No call failed. A count that stands at the last value of its type could not show it.
pub record NoFaults (old new : ShelfMoment) : Type 0 where
  pub reads : new.read_faults ≡ old.read_faults
  pub writes : new.write_faults ≡ old.write_faults
  pub reads_show : old.read_faults < 2 ^ 64 - 1
  pub writes_show : old.write_faults < 2 ^ 64 - 1

-- this is the answer, unless memory ran out
abbrev pub AnswersButForMemory : Status → Status → Type 0
AnswersButForMemory result e = (result ≡ e) ⊎ (result ≡ status.OutOfMemory)

-- Inputs that are all accepted are played, and what they come to is the answer.
abbrev pub AnswersByPlaying : ShelfMoment → ShelfMoment → Asked → Status → Type 0
AnswersByPlaying old new asked result =
    (i : Inputs) → AreRead old.held asked i → AreShown old.held asked i.plan.hosts → NoFaults old new
    → ((end : Option (ℕ × Stop)) × (scene : Scene) × PlaysTo asked.network i end scene × (result ≡ outcome end)) ⊎ (result ≡ status.OutOfMemory)

-- whatever they come to by being played, that is the answer
abbrev pub AnswersInputs : ShelfMoment → ShelfMoment → Asked → Status → Type 0
AnswersInputs old new asked result =
    (i : Inputs) (end : Option (ℕ × Stop)) (scene : Scene) → AreRead old.held asked i → AreShown old.held asked i.plan.hosts
    → NoFaults old new → PlaysTo asked.network i end scene → AnswersButForMemory result (outcome end)

-- a topology of this name that is accepted is enough for its wiring to be told
abbrev pub AnswersTopology : ShelfMoment → ShelfMoment → List ℕ → Status → Type 0
AnswersTopology old new topology result =
    (plan : Plan) → IsShown old.held topology → HasPlan old.held topology plan → NoFaults old new → AnswersButForMemory result status.Done

-- one that is refused is answered with the reason
abbrev pub AnswersBadTopology : ShelfMoment → ShelfMoment → List ℕ → Status → Type 0
AnswersBadTopology old new topology result =
    (file : List ℕ) (reason : TopologyError) → IsShown old.held topology → IsLoaded old.held topology text_limit file
    → topology_of file ≡ Err reason → NoFaults old new → AnswersButForMemory result (status.BadTopology reason)

-- one that is longer than is allowed is answered with its name
abbrev pub AnswersLongTopology : ShelfMoment → ShelfMoment → List ℕ → Status → Type 0
AnswersLongTopology old new topology result =
    IsShown old.held topology → IsLonger (old.held topology) text_limit → NoFaults old new → AnswersButForMemory result (status.TooLong topology)

-- a script that is refused is answered with its first refused line
abbrev pub AnswersBadScript : ShelfMoment → ShelfMoment → Asked → Status → Type 0
AnswersBadScript old new asked result =
    (plan : Plan) (file : List ℕ) (line : ℕ) (reason : ScriptReason) → IsShown old.held asked.topology → IsShown old.held asked.script
    → HasPlan old.held asked.topology plan → IsLoaded old.held asked.script text_limit file → script_for asked.network plan file ≡ Err (Line line reason)
    → NoFaults old new → AnswersButForMemory result (status.BadScript line reason)

-- a script that is longer than is allowed is answered with its name
abbrev pub AnswersLongScript : ShelfMoment → ShelfMoment → Asked → Status → Type 0
AnswersLongScript old new asked result =
    (plan : Plan) → IsShown old.held asked.topology → IsShown old.held asked.script
    → HasPlan old.held asked.topology plan → IsLonger (old.held asked.script) text_limit
    → NoFaults old new → AnswersButForMemory result (status.TooLong asked.script)

-- the answer to a capture that is refused: its host, the reason and the offset, by the grammar of its kind of file
abbrev pub refusal : HostNo → CaptureFault → Status
refusal n (OfRecords e) = status.BadCapture n e (offset_of e)
refusal n (OfSections e) = status.BadSection n e

-- the first capture that is refused is answered so
abbrev pub AnswersBadCapture : ShelfMoment → ShelfMoment → Asked → Status → Type 0
AnswersBadCapture old new asked result =
    (plan : Plan) (n : HostNo) (e : CaptureFault) → AreShown old.held asked (take (n.0 + 1) plan.hosts)
    → AreTextsRead old.held asked plan → IsRefusedCapture old.held asked.captures plan.hosts n.0 e
    → NoFaults old new → AnswersButForMemory result (refusal n e)

-- the first capture with which all are longer than is allowed is answered with its name
abbrev pub AnswersLongCapture : ShelfMoment → ShelfMoment → Asked → Status → Type 0
AnswersLongCapture old new asked result =
    (plan : Plan) (name : List ℕ) → AreTextsRead old.held asked plan
    → (much : IsTooMuch old.held asked.captures plan.hosts name) → AreShown old.held asked (take (much.n + 1) plan.hosts)
    → NoFaults old new → AnswersButForMemory result (status.TooLong name)

-- all of it, of a run
pub record IsComplete (old new : ShelfMoment) (asked : Asked) (result : Status) : Type 0 where
  pub played : AnswersByPlaying old new asked result
  pub inputs : AnswersInputs old new asked result
  pub bad_topology : AnswersBadTopology old new asked.topology result
  pub long_topology : AnswersLongTopology old new asked.topology result
  pub bad_script : AnswersBadScript old new asked result
  pub long_script : AnswersLongScript old new asked result
  pub bad_capture : AnswersBadCapture old new asked result
  pub long_capture : AnswersLongCapture old new asked result

-- and of a topology that is checked
pub record IsCompleteCheck (old new : ShelfMoment) (topology : List ℕ) (result : Status) : Type 0 where
  pub accepted : AnswersTopology old new topology result
  pub bad_topology : AnswersBadTopology old new topology result
  pub long_topology : AnswersLongTopology old new topology result

-- a journal of which this is true is answered so
abbrev pub AnswersVerdict : ShelfMoment → ShelfMoment → List ℕ → List ℕ → (Plan → List ℕ → Type 0) → Status → Status → Type 0
AnswersVerdict old new topology journal Holds answer result =
    (plan : Plan) (text : List ℕ) → IsShown old.held topology → IsShown old.held journal → HasPlan old.held topology plan
    → IsLoaded old.held journal journal_limit text → Holds plan text → NoFaults old new → AnswersButForMemory result answer

-- one that is longer than is allowed is answered with its name
abbrev pub AnswersLongJournal : ShelfMoment → ShelfMoment → List ℕ → List ℕ → Status → Type 0
AnswersLongJournal old new topology journal result =
    (plan : Plan) → IsShown old.held topology → IsShown old.held journal → HasPlan old.held topology plan
    → IsLonger (old.held journal) journal_limit → NoFaults old new → AnswersButForMemory result (status.TooLong journal)

-- and of a journal that is checked
pub record IsCompleteVerify (old new : ShelfMoment) (topology journal : List ℕ) (result : Status) : Type 0 where
  pub legal : (n : ℕ) → AnswersVerdict old new topology journal (λ plan text. IsLegal plan text n) status.Done result
  pub illegal : (n : ℕ) → AnswersVerdict old new topology journal (λ plan text. IsIllegal plan text n) (status.NotLegal n) result
  pub bad_line : (n : ℕ) → AnswersVerdict old new topology journal (λ plan text. IsBadLine plan text n) (status.BadJournal n) result
  pub long_journal : AnswersLongJournal old new topology journal result
  pub bad_topology : AnswersBadTopology old new topology result
  pub long_topology : AnswersLongTopology old new topology result
