-- The text of an entry's fields, behind the first word of its line.
use Rattle.std.specs.Prelude.{◌≡◌, ℕ, List, ◌∷◌, ◌++◌, decimal}
use Rattle.hex.specs.Hex.{encode_lower}
use Rattle.pl_wiring.specs.declared.label.SwitchNo.{SwitchNo}
use Rattle.pl_wiring.specs.Plan.{Plan}
use Rattle.pl_journal.specs.Text.{address_text, cause_text, host_text, part_text, skip_text, switch_text}
use Rattle.pl_journal.specs.declared.entry.Entry.{Entry}
use Rattle.pl_journal.specs.declared.entry.Entry.TheVariants.{Line, Sent, Skipped, Made, Crossed, Redirected, Copied, Arrived, Taken, Dropped, Granted, Registered, Freed, Placed, LinkDown, LinkUp, Moved, Restarted, Settled, Unsettled}
use Rattle.pl_journal_text.specs.declared.verb.Verb.{Verb}
use Rattle.pl_journal_text.specs.Verbs.{verb_of}
use Rattle.pl_journal_text.specs.Writable.{AreEnds, IsWritable}

abbrev pub fields_text : Plan → Entry → List ℕ
fields_text plan (Line number) = decimal number
fields_text plan (Sent id host frame) = decimal id ++ 32 ∷ (host_text plan host.0 ++ 32 ∷ encode_lower frame)
fields_text plan (Skipped host skip) = host_text plan host.0 ++ 32 ∷ skip_text skip
fields_text plan (Made id switch frame) = decimal id ++ 32 ∷ (switch_text plan switch.0 ++ 32 ∷ encode_lower frame)
fields_text plan (Crossed id switch) = decimal id ++ 32 ∷ switch_text plan switch.0
fields_text plan (Redirected id old new) = decimal id ++ 32 ∷ (address_text old ++ 32 ∷ address_text new)
fields_text plan (Copied id new) = decimal id ++ 32 ∷ decimal new
fields_text plan (Arrived id host frame) = decimal id ++ 32 ∷ (host_text plan host.0 ++ 32 ∷ encode_lower frame)
fields_text plan (Taken id switch) = decimal id ++ 32 ∷ switch_text plan switch.0
fields_text plan (Dropped id cause) = decimal id ++ 32 ∷ cause_text cause
fields_text plan (Granted pmac host edge port) =
    address_text pmac ++ 32 ∷ (host_text plan host.0 ++ 32 ∷ (switch_text plan edge.0 ++ 32 ∷ decimal port))
fields_text plan (Registered pmac number) = address_text pmac ++ 32 ∷ decimal number
fields_text plan (Freed pmac) = address_text pmac
fields_text plan (Placed switch place) =
    switch_text plan switch.0 ++ 32 ∷ (part_text place.level ++ 32 ∷ (part_text place.position ++ 32 ∷ part_text place.pod))
fields_text plan (LinkDown a b) = switch_text plan a.0 ++ 32 ∷ switch_text plan b.0
fields_text plan (LinkUp a b) = switch_text plan a.0 ++ 32 ∷ switch_text plan b.0
fields_text plan (Moved host edge port) = host_text plan host.0 ++ 32 ∷ (switch_text plan edge.0 ++ 32 ∷ decimal port)
fields_text plan (Restarted number) = decimal number
fields_text plan (Settled rounds) = decimal rounds
fields_text plan (Unsettled pending) = decimal pending

-- an entry whose line begins with this word
abbrev pub IsOfVerb : Plan → Verb → Entry → Type 0
IsOfVerb plan verb entry = IsWritable plan entry × (verb_of entry ≡ verb)

-- the ends of a link, and how they are written
abbrev pub ends_text : Plan → SwitchNo × SwitchNo → List ℕ
ends_text plan x = switch_text plan x.0.0 ++ 32 ∷ switch_text plan x.1.0

abbrev pub AreEndsOf : Plan → SwitchNo × SwitchNo → Type 0
AreEndsOf plan x = AreEnds plan x.0.0 x.1.0
