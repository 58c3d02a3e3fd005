-- Of which entries a line can be: those that the types of an entry's parts can hold, whose hosts and switches are there. A link is named
-- by its first end in label order.
use Rattle.std.specs.Prelude.{◌≡◌, ℕ, ◌<◌, ◌≤◌, ◌^◌, List, length, Option, Some, None, All}
use Rattle.hex.specs.Hex.{IsBytes}
use Rattle.pl_pmac.specs.Pmac.{PmacFits}
use Rattle.pl_wiring.specs.Plan.{Plan}
use Rattle.pl_journal.specs.Ranges.{IsByte, IsCount, IsFrame, IsLong, IsPart}
use Rattle.pl_journal.specs.Text.{IsHost, IsSwitch, journal_text}
use Rattle.pl_journal.specs.declared.entry.Entry.{Entry}
use Rattle.pl_journal.specs.declared.entry.Entry.TheVariants.{Line, Sent, Skipped, Made, Crossed, Redirected, Copied, Arrived, Taken, Dropped, Granted, Registered, Freed, Placed, LinkDown, LinkUp, Moved, Restarted, Settled, Unsettled}

abbrev pub AreEnds : Plan → ℕ → ℕ → Type 0
AreEnds plan a b = IsSwitch plan a × IsSwitch plan b × (a < b)

abbrev pub IsWritable : Plan → Entry → Type 0
IsWritable plan (Line number) = IsCount number
IsWritable plan (Sent id host frame) = IsLong id × (IsHost plan host.0 × IsFrame frame)
IsWritable plan (Skipped host skip) = IsHost plan host.0
IsWritable plan (Made id switch frame) = IsLong id × (IsSwitch plan switch.0 × IsFrame frame)
IsWritable plan (Crossed id switch) = IsLong id × IsSwitch plan switch.0
IsWritable plan (Redirected id old new) = IsLong id × (PmacFits old × PmacFits new)
IsWritable plan (Copied id new) = IsLong id × IsLong new
IsWritable plan (Arrived id host frame) = IsLong id × (IsHost plan host.0 × IsFrame frame)
IsWritable plan (Taken id switch) = IsLong id × IsSwitch plan switch.0
IsWritable plan (Dropped id cause) = IsLong id
IsWritable plan (Granted pmac host edge port) = PmacFits pmac × (IsHost plan host.0 × (IsSwitch plan edge.0 × IsByte port))
IsWritable plan (Registered pmac number) = PmacFits pmac × IsLong number
IsWritable plan (Freed pmac) = PmacFits pmac
IsWritable plan (Placed switch place) = IsSwitch plan switch.0 × (IsPart (2 ^ 8) place.level × (IsPart (2 ^ 8) place.position × IsPart (2 ^ 16) place.pod))
IsWritable plan (LinkDown a b) = AreEnds plan a.0 b.0
IsWritable plan (LinkUp a b) = AreEnds plan a.0 b.0
IsWritable plan (Moved host edge port) = IsHost plan host.0 × (IsSwitch plan edge.0 × IsByte port)
IsWritable plan (Restarted number) = IsCount number
IsWritable plan (Settled rounds) = IsCount rounds
IsWritable plan (Unsettled pending) = IsLong pending

-- the text of a journal, with its oldest entry first
pub record IsJournalText (plan : Plan) (text : List ℕ) (entries : List Entry) : Type 0 where
  pub writable : All (IsWritable plan) entries
  pub written : text ≡ journal_text plan entries
