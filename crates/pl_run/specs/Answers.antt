-- What the program's answers say.
use Rattle.pl_inputs.specs.declared.status.Status.{Status}
use Rattle.pl_inputs.specs.Inputs.{AreRead, Inputs}
use Rattle.pl_inputs.specs.Unread.{IsUnread}
use Rattle.pl_inputs.specs.Words.{Asked}
use Rattle.pl_inputs.specs.declared.status.Status.TheVariants as status
use Rattle.pl_playing.specs.Outcomes.{IsUntouched, ReadFails}
use Rattle.pl_shelf.specs.Held.{ShelfMoment}
use Rattle.pl_run.specs.Fabric.{Comes, fits_of, texts_of}

-- What each answer says of a run whose inputs are read from the shelf: they were read and something came of them; or they were not.
abbrev pub IsRun : ShelfMoment → ShelfMoment → Asked → Status → Type 0
IsRun old new asked e = (i : Inputs) × AreRead old.held asked i × Comes asked.network old new i (fits_of asked.network i) (texts_of asked.network asked.out i) e

abbrev pub Answers : ShelfMoment → ShelfMoment → Asked → Status → Type 0
Answers old new asked status.Done = IsRun old new asked status.Done
Answers old new asked (status.WriteFault name) = IsRun old new asked (status.WriteFault name)
Answers old new asked (status.ExpectFailed line) = IsRun old new asked (status.ExpectFailed line)
Answers old new asked (status.Refused line reason) = IsRun old new asked (status.Refused line reason)
Answers old new asked (status.StepsSpent line) = IsRun old new asked (status.StepsSpent line)
Answers old new asked (status.JournalFull line) = IsRun old new asked (status.JournalFull line)
Answers old new asked (status.ReadFault name) = IsUnread old.held asked (status.ReadFault name) × ReadFails old new
Answers old new asked e = IsUnread old.held asked e × IsUntouched old new
