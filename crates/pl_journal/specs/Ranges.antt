-- Entries that the types of their parts can hold.
use Rattle.std.specs.Prelude.{◌<◌, ◌≤◌, ◌^◌, ℕ, List, length, Option, Some, None}
use Rattle.hex.specs.Hex.{IsBytes}
use Rattle.pl_pmac.specs.Pmac.{PmacFits}
use Rattle.pl_journal.specs.declared.entry.Entry.{Entry}
use Rattle.pl_journal.specs.declared.entry.Entry.TheVariants.{Line, Sent, Skipped, Made, Crossed, Redirected, Copied, Arrived, Taken, Dropped, Granted, Registered, Freed, Placed, LinkDown, LinkUp, Moved, Restarted, Settled, Unsettled}

-- numbers of 64, 32 and 8 bits
abbrev pub IsLong : ℕ → Type 0
IsLong n = n < 2 ^ 64

abbrev pub IsCount : ℕ → Type 0
IsCount n = n < 2 ^ 32

abbrev pub IsByte : ℕ → Type 0
IsByte n = n < 2 ^ 8

-- a frame has 14 to 65,553 bytes
abbrev pub IsFrame : List ℕ → Type 0
IsFrame frame = (14 ≤ length frame) × (length frame ≤ 65553) × IsBytes frame

-- a part of a place, below this, where it is known
abbrev pub IsPart : ℕ → Option ℕ → Type 0
IsPart limit None = Unit {0}
IsPart limit (Some n) = n < limit

-- its numbers, addresses and places, and the bytes of its frame
abbrev pub Fits : Entry → Type 0
Fits (Line number) = IsCount number
Fits (Sent id host frame) = IsLong id × IsBytes frame
Fits (Skipped host skip) = Unit {0}
Fits (Made id switch frame) = IsLong id × IsBytes frame
Fits (Crossed id switch) = IsLong id
Fits (Redirected id old new) = IsLong id × (PmacFits old × PmacFits new)
Fits (Copied id new) = IsLong id × IsLong new
Fits (Arrived id host frame) = IsLong id × IsBytes frame
Fits (Taken id switch) = IsLong id
Fits (Dropped id cause) = IsLong id
Fits (Granted pmac host edge port) = PmacFits pmac × IsByte port
Fits (Registered pmac number) = PmacFits pmac × IsLong number
Fits (Freed pmac) = PmacFits pmac
Fits (Placed switch place) = IsPart (2 ^ 8) place.level × (IsPart (2 ^ 8) place.position × IsPart (2 ^ 16) place.pod)
Fits (LinkDown a b) = Unit {0}
Fits (LinkUp a b) = Unit {0}
Fits (Moved host edge port) = IsByte port
Fits (Restarted number) = IsCount number
Fits (Settled rounds) = IsCount rounds
Fits (Unsettled pending) = IsLong pending
