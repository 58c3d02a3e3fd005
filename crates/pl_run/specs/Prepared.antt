-- A shelf that is prepared for a command: what is read of it can be read, and it has room for what is saved.
use Rattle.std.specs.Prelude.{ℕ, List, Option}
use Rattle.pl_shelf.specs.Capacity.{IsReadable}
use Rattle.pl_shelf.specs.Held.{Held}
use Rattle.pl_wiring.specs.Plan.{Plan}
use Rattle.pl_inputs.specs.declared.words.Generation.{Generation}
use Rattle.pl_inputs.specs.declared.words.Network.TheVariants.{Fabric}
use Rattle.pl_inputs.specs.Inputs.{AreRead, HasPlan, Inputs, IsLoaded, journal_limit}
use Rattle.pl_inputs.specs.Unread.{IsReadName}
use Rattle.pl_inputs.specs.Words.{Asked, Check, Generate, Run, Task, Verify}
use Rattle.pl_output.specs.Room.{HaveRoom}
use Rattle.pl_verdict.specs.Verdicts.{IsLegal}
use Rattle.pl_run.specs.Checks.{line_of}
use Rattle.pl_run.specs.Generated.{ReadsGenerated}
use Rattle.pl_run.specs.Fabric.{HasRoomFor, printed_of, texts_of}
use Rattle.pl_run.specs.Verified.{told_of}

-- for a run: each name that it reads, and whatever it then saves
pub record IsPreparedRun (capacity : List ℕ → Option ℕ) (held : List ℕ → Held) (asked : Asked) : Type 0 where
  pub reads : (name : List ℕ) → IsReadName held asked name → IsReadable (capacity name) (held name)
  pub saves : (i : Inputs) → AreRead held asked i → HasRoomFor asked.network capacity held i (texts_of asked.network asked.out i)

-- for a topology that is checked
pub record IsPreparedCheck (capacity : List ℕ → Option ℕ) (held : List ℕ → Held) (topology : List ℕ) : Type 0 where
  pub reads : IsReadable (capacity topology) (held topology)
  pub prints : (plan : Plan) → HasPlan held topology plan → HaveRoom capacity held (line_of plan)

-- for the line of a journal that is legal
abbrev pub HasRoomForLegal : (List ℕ → Option ℕ) → (List ℕ → Held) → Plan → List ℕ → Type 0
HasRoomForLegal capacity held plan text = (n : ℕ) → IsLegal plan text n → HaveRoom capacity held (told_of n)

-- for a journal that is checked, once its topology was read
pub record IsPreparedJournal (capacity : List ℕ → Option ℕ) (held : List ℕ → Held) (plan : Plan) (journal : List ℕ) : Type 0 where
  pub reads : IsReadable (capacity journal) (held journal)
  pub prints : (text : List ℕ) → IsLoaded held journal journal_limit text → HasRoomForLegal capacity held plan text

pub record IsPreparedVerify (capacity : List ℕ → Option ℕ) (held : List ℕ → Held) (topology journal : List ℕ) : Type 0 where
  pub reads : IsReadable (capacity topology) (held topology)
  pub of_journal : (plan : Plan) → HasPlan held topology plan → IsPreparedJournal capacity held plan journal

-- for a run that is generated
abbrev pub IsPreparedGenerated : (List ℕ → Option ℕ) → (List ℕ → Held) → Generation → Type 0
IsPreparedGenerated capacity held g = (i : Inputs) → ReadsGenerated g i → HasRoomFor Fabric capacity held i (printed_of Fabric i)

abbrev pub IsPrepared : (List ℕ → Option ℕ) → (List ℕ → Held) → Task → Type 0
IsPrepared capacity held (Run asked) = IsPreparedRun capacity held asked
IsPrepared capacity held (Check topology) = IsPreparedCheck capacity held topology
IsPrepared capacity held (Generate g) = IsPreparedGenerated capacity held g
IsPrepared capacity held (Verify topology journal) = IsPreparedVerify capacity held topology journal
