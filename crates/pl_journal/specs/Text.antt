-- How a journal is printed: a line for each entry, of words that are parted by blanks.
use Rattle.std.specs.Prelude.{ℕ, ◌<◌, List, [], ◌∷◌, ◌++◌, length, codes, decimal, Option, Some, None, slice_get}
use Rattle.std.specs.List.{filter_map, flat_map}
use Rattle.std.specs.Option.{option_map, option_map_or}
use Rattle.hex.specs.Hex.{encode_lower}
use Rattle.pl_frame.specs.Address.{mac_text}
use Rattle.pl_pmac.specs.declared.pmac.Pmac.{Pmac}
use Rattle.pl_pmac.specs.Pmac.{mac_of}
use Rattle.pl_wiring.specs.Labels.{label_of, label_text, switch_count}
use Rattle.pl_wiring.specs.Plan.{Plan}
use Rattle.pl_journal.specs.declared.cause.Cause.{Cause}
use Rattle.pl_journal.specs.declared.cause.Cause.TheVariants as causes
use Rattle.pl_journal.specs.declared.cause.Skip.{Skip}
use Rattle.pl_journal.specs.declared.cause.Skip.TheVariants as skips
use Rattle.pl_layouts.specs.declared.place.Place.{Place}
use Rattle.pl_journal.specs.declared.entry.Entry.{Entry}
use Rattle.pl_journal.specs.declared.entry.Entry.TheVariants.{Line, Sent, Skipped, Made, Crossed, Redirected, Copied, Arrived, Taken, Dropped, Granted, Registered, Freed, Placed, LinkDown, LinkUp, Moved, Restarted, Settled, Unsettled}
use Rattle.pl_journal.specs.declared.words.Field.{Field}
use Rattle.pl_journal.specs.declared.words.Field.TheVariants.{Number, Unknown, Address, Switch, Text, Bytes}
use Rattle.pl_journal.specs.declared.words.Words.{Words}

abbrev pub cause_text : Cause → List ℕ
cause_text causes.NotPlaced = codes "NotPlaced"
cause_text causes.NoNextHop = codes "NoNextHop"
cause_text causes.NoAddress = codes "NoAddress"
cause_text causes.HostGone = codes "HostGone"
cause_text causes.LinkDown = codes "LinkDown"
cause_text causes.Lost = codes "Lost"
cause_text causes.Spent = codes "Spent"
cause_text causes.BadArp = codes "BadArp"
cause_text causes.NoMember = codes "NoMember"

abbrev pub skip_text : Skip → List ℕ
skip_text skips.CutRecord = codes "CutRecord"
skip_text skips.Short = codes "Short"
skip_text skips.Long = codes "Long"
skip_text skips.ForeignSource = codes "ForeignSource"
skip_text skips.ControlType = codes "ControlType"
skip_text skips.RecordedArp = codes "RecordedArp"
skip_text skips.NoOwner = codes "NoOwner"
skip_text skips.HoldFull = codes "HoldFull"

-- a pseudo address is printed as the MAC address that it is
abbrev pub address_text : Pmac → List ℕ
address_text pmac = mac_text (mac_of pmac)

-- a part of a place, `-` where it is not known
abbrev pub part_text : Option ℕ → List ℕ
part_text part = option_map_or decimal part (codes "-")

abbrev pub place_texts : Place → List (List ℕ)
place_texts place = part_text place.level ∷ part_text place.position ∷ part_text place.pod ∷ []

-- a switch by its label
abbrev pub switch_text : Plan → ℕ → List ℕ
switch_text plan switch = label_text (label_of plan.k switch)

-- a host by its name
abbrev pub host_text : Plan → ℕ → List ℕ
host_text plan host = option_map_or (λ h. h.name) (slice_get plan.hosts host) []

abbrev pub words_of : Plan → Entry → List (List ℕ)
words_of plan (Line number) = codes "line" ∷ decimal number ∷ []
words_of plan (Sent id host frame) = codes "sent" ∷ decimal id ∷ host_text plan host.0 ∷ encode_lower frame ∷ []
words_of plan (Skipped host skip) = codes "skipped" ∷ host_text plan host.0 ∷ skip_text skip ∷ []
words_of plan (Made id switch frame) = codes "made" ∷ decimal id ∷ switch_text plan switch.0 ∷ encode_lower frame ∷ []
words_of plan (Crossed id switch) = codes "crossed" ∷ decimal id ∷ switch_text plan switch.0 ∷ []
words_of plan (Redirected id old new) = codes "redirected" ∷ decimal id ∷ address_text old ∷ address_text new ∷ []
words_of plan (Copied id new) = codes "copied" ∷ decimal id ∷ decimal new ∷ []
words_of plan (Arrived id host frame) = codes "arrived" ∷ decimal id ∷ host_text plan host.0 ∷ encode_lower frame ∷ []
words_of plan (Taken id switch) = codes "taken" ∷ decimal id ∷ switch_text plan switch.0 ∷ []
words_of plan (Dropped id cause) = codes "dropped" ∷ decimal id ∷ cause_text cause ∷ []
words_of plan (Granted pmac host edge port) =
    codes "granted" ∷ address_text pmac ∷ host_text plan host.0 ∷ switch_text plan edge.0 ∷ decimal port ∷ []
words_of plan (Registered pmac number) = codes "registered" ∷ address_text pmac ∷ decimal number ∷ []
words_of plan (Freed pmac) = codes "freed" ∷ address_text pmac ∷ []
words_of plan (Placed switch place) = codes "placed" ∷ switch_text plan switch.0 ∷ place_texts place
words_of plan (LinkDown a b) = codes "linkdown" ∷ switch_text plan a.0 ∷ switch_text plan b.0 ∷ []
words_of plan (LinkUp a b) = codes "linkup" ∷ switch_text plan a.0 ∷ switch_text plan b.0 ∷ []
words_of plan (Moved host edge port) = codes "moved" ∷ host_text plan host.0 ∷ switch_text plan edge.0 ∷ decimal port ∷ []
words_of plan (Restarted number) = codes "restarted" ∷ decimal number ∷ []
words_of plan (Settled rounds) = codes "settled" ∷ decimal rounds ∷ []
words_of plan (Unsettled pending) = codes "unsettled" ∷ decimal pending ∷ []

abbrev pub with_blank : List ℕ → List ℕ
with_blank word = codes " " ++ word

-- the words, parted by blanks
abbrev pub parted : List (List ℕ) → List ℕ
parted [] = []
parted (word ∷ words) = word ++ flat_map with_blank words

-- the entry's line, with its newline
abbrev pub line_of : Plan → Entry → List ℕ
line_of plan entry = parted (words_of plan entry) ++ codes "\n"

-- a journal with its oldest entry first
abbrev pub journal_text : Plan → List Entry → List ℕ
journal_text plan entries = flat_map (line_of plan) entries

abbrev pub IsHost : Plan → ℕ → Type 0
IsHost plan host = host < length plan.hosts

abbrev pub IsSwitch : Plan → ℕ → Type 0
IsSwitch plan switch = switch < switch_count plan.k

-- the hosts and the switches that the entry names are there
abbrev pub IsNamed : Plan → Entry → Type 0
IsNamed plan (Sent id host frame) = IsHost plan host.0
IsNamed plan (Skipped host skip) = IsHost plan host.0
IsNamed plan (Made id switch frame) = IsSwitch plan switch.0
IsNamed plan (Crossed id switch) = IsSwitch plan switch.0
IsNamed plan (Arrived id host frame) = IsHost plan host.0
IsNamed plan (Taken id switch) = IsSwitch plan switch.0
IsNamed plan (Granted pmac host edge port) = IsHost plan host.0 × IsSwitch plan edge.0
IsNamed plan (Placed switch place) = IsSwitch plan switch.0
IsNamed plan (LinkDown a b) = IsSwitch plan a.0 × IsSwitch plan b.0
IsNamed plan (LinkUp a b) = IsSwitch plan a.0 × IsSwitch plan b.0
IsNamed plan (Moved host edge port) = IsHost plan host.0 × IsSwitch plan edge.0
IsNamed plan _ = Unit {0}

-- what a field of a line prints
abbrev pub field_text : Field → List ℕ
field_text (Number n) = decimal n
field_text Unknown = codes "-"
field_text (Address mac) = mac_text mac
field_text (Switch label) = label_text label
field_text (Text text) = text.now
field_text (Bytes bytes) = encode_lower bytes.now

-- a field that is there, behind a blank
abbrev pub text_after_blank : Option Field → List ℕ
text_after_blank None = []
text_after_blank (Some field) = with_blank (field_text field)

abbrev pub field_texts : List (Option Field) → List (List ℕ)
field_texts fields = filter_map (option_map field_text) fields

-- the texts of a line's words
abbrev pub texts : Words → List (List ℕ)
texts words = words.word.now ∷ field_texts words.fields
