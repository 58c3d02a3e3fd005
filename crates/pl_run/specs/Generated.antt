-- What is answered where a run is generated.
use Rattle.std.specs.Prelude.{ℕ, List, [], codes}
use Rattle.pl_shelf.specs.Held.{Held, ShelfMoment}
use Rattle.pl_inputs.specs.declared.status.Status.{Status}
use Rattle.pl_inputs.specs.Inputs.{AreRead, Inputs}
use Rattle.pl_inputs.specs.Unread.{IsUnread}
use Rattle.pl_inputs.specs.Words.{Asked}
use Rattle.pl_inputs.specs.declared.words.Generation.{Generation}
use Rattle.pl_inputs.specs.declared.words.Network.TheVariants.{Fabric}
use Rattle.pl_generator.specs.Generated.{AreGenerated}
use Rattle.pl_inputs.specs.declared.status.Status.TheVariants as status
use Rattle.pl_playing.specs.Outcomes.{IsUntouched}
use Rattle.pl_run.specs.Fabric.{Comes, nothing_of, printed_of}

-- the names of the generated files; nothing is saved
abbrev pub generated_files : Asked
generated_files = record { network = Fabric; topology = codes "topology.toml"; script = codes "script"; captures = codes "captures"; out = [] }

-- the generated files were read, and something came of them, of which the summary alone is printed
abbrev pub IsGeneratedRun : ShelfMoment → ShelfMoment → (List ℕ → Held) → Status → Type 0
IsGeneratedRun old new held e = (i : Inputs) × AreRead held generated_files i × Comes Fabric old new i (nothing_of Fabric i) (printed_of Fabric i) e

-- A run over generated files is answered as a run over files is, but no read of them fails.
abbrev pub AnswersOver : ShelfMoment → ShelfMoment → (List ℕ → Held) → Status → Type 0
AnswersOver old new held status.Done = IsGeneratedRun old new held status.Done
AnswersOver old new held (status.WriteFault name) = IsGeneratedRun old new held (status.WriteFault name)
AnswersOver old new held (status.ExpectFailed line) = IsGeneratedRun old new held (status.ExpectFailed line)
AnswersOver old new held (status.Refused line reason) = IsGeneratedRun old new held (status.Refused line reason)
AnswersOver old new held (status.StepsSpent line) = IsGeneratedRun old new held (status.StepsSpent line)
AnswersOver old new held (status.JournalFull line) = IsGeneratedRun old new held (status.JournalFull line)
AnswersOver old new held (status.ReadFault name) = ⊥
AnswersOver old new held e = IsUnread held generated_files e × IsUntouched old new

-- What is answered for a fabric of this k, and this number and so many frames.
abbrev pub AnswersGenerated : ShelfMoment → ShelfMoment → ℕ → ℕ → ℕ → Status → Type 0
AnswersGenerated old new k number frames status.OutOfMemory = IsUntouched old new
AnswersGenerated old new k number frames e =
    (held : List ℕ → Held) × AreGenerated held k number frames × AnswersOver old new held e

-- The generated files were read; or they were not, for want of memory or by what they hold.
abbrev pub ReadsGenerated : Generation → Inputs → Type 0
ReadsGenerated g i = (held : List ℕ → Held) × AreGenerated held g.k g.number g.frames × AreRead held generated_files i

abbrev pub IsUngenerated : Generation → Status → Type 0
IsUngenerated g status.OutOfMemory = Unit {0}
IsUngenerated g (status.ReadFault name) = ⊥
IsUngenerated g e = (held : List ℕ → Held) × AreGenerated held g.k g.number g.frames × IsUnread held generated_files e

-- a read of what was just made can only fail for want of memory
abbrev pub without_read_fault : Status → Status
without_read_fault (status.ReadFault name) = status.OutOfMemory
without_read_fault e = e
