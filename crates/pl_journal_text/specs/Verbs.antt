-- The words that lines begin with, and the causes and reasons by their names.
use Rattle.std.specs.Prelude.{ℕ, List, [], ◌∷◌, codes}
use Rattle.pl_journal.specs.declared.cause.Cause.{Cause}
use Rattle.pl_journal.specs.declared.cause.Cause.TheVariants as causes
use Rattle.pl_journal.specs.declared.cause.Skip.{Skip}
use Rattle.pl_journal.specs.declared.cause.Skip.TheVariants as skips
use Rattle.pl_journal.specs.declared.entry.Entry.{Entry}
use Rattle.pl_journal.specs.declared.entry.Entry.TheVariants as entries
use Rattle.pl_journal_text.specs.declared.verb.Verb.{Verb}
use Rattle.pl_journal_text.specs.declared.verb.Verb.TheVariants.{Line, Sent, Skipped, Made, Crossed, Redirected, Copied, Arrived, Taken, Dropped, Granted, Registered, Freed, Placed, LinkDown, LinkUp, Moved, Restarted, Settled, Unsettled}

abbrev pub verb_text : Verb → List ℕ
verb_text Line = codes "line"
verb_text Sent = codes "sent"
verb_text Skipped = codes "skipped"
verb_text Made = codes "made"
verb_text Crossed = codes "crossed"
verb_text Redirected = codes "redirected"
verb_text Copied = codes "copied"
verb_text Arrived = codes "arrived"
verb_text Taken = codes "taken"
verb_text Dropped = codes "dropped"
verb_text Granted = codes "granted"
verb_text Registered = codes "registered"
verb_text Freed = codes "freed"
verb_text Placed = codes "placed"
verb_text LinkDown = codes "linkdown"
verb_text LinkUp = codes "linkup"
verb_text Moved = codes "moved"
verb_text Restarted = codes "restarted"
verb_text Settled = codes "settled"
verb_text Unsettled = codes "unsettled"

-- the word that the entry's line begins with
abbrev pub verb_of : Entry → Verb
verb_of (entries.Line number) = Line
verb_of (entries.Sent id host frame) = Sent
verb_of (entries.Skipped host skip) = Skipped
verb_of (entries.Made id switch frame) = Made
verb_of (entries.Crossed id switch) = Crossed
verb_of (entries.Redirected id old new) = Redirected
verb_of (entries.Copied id new) = Copied
verb_of (entries.Arrived id host frame) = Arrived
verb_of (entries.Taken id switch) = Taken
verb_of (entries.Dropped id cause) = Dropped
verb_of (entries.Granted pmac host edge port) = Granted
verb_of (entries.Registered pmac number) = Registered
verb_of (entries.Freed pmac) = Freed
verb_of (entries.Placed switch place) = Placed
verb_of (entries.LinkDown a b) = LinkDown
verb_of (entries.LinkUp a b) = LinkUp
verb_of (entries.Moved host edge port) = Moved
verb_of (entries.Restarted number) = Restarted
verb_of (entries.Settled rounds) = Settled
verb_of (entries.Unsettled pending) = Unsettled

-- all that there are, in the order of their declarations
abbrev pub all_verbs : List Verb
all_verbs =
    Line ∷ Sent ∷ Skipped ∷ Made ∷ Crossed ∷ Redirected ∷ Copied ∷ Arrived ∷ Taken ∷ Dropped ∷ Granted ∷ Registered ∷ Freed ∷ Placed ∷ LinkDown ∷ LinkUp
    ∷ Moved ∷ Restarted ∷ Settled ∷ Unsettled ∷ []

abbrev pub all_causes : List Cause
all_causes =
    causes.NotPlaced ∷ causes.NoNextHop ∷ causes.NoAddress ∷ causes.HostGone ∷ causes.LinkDown ∷ causes.Lost ∷ causes.Spent ∷ causes.BadArp
    ∷ causes.NoMember ∷ []

abbrev pub all_skips : List Skip
all_skips =
    skips.CutRecord ∷ skips.Short ∷ skips.Long ∷ skips.ForeignSource ∷ skips.ControlType ∷ skips.RecordedArp ∷ skips.NoOwner ∷ skips.HoldFull ∷ []
