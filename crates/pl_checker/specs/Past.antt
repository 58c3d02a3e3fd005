-- What is kept of the past, as a whole.
use Rattle.std.specs.Prelude.{◌≡◌, ℕ, ◌*◌, ◌<◌, ◌≤◌, ◌&&◌, Bool, true, List, length, take, drop, Option, Some, None}
use Rattle.hex.specs.Hex.{IsBytes, encode_lower}
use Rattle.pl_wiring.specs.Plan.{Plan}
use Rattle.pl_journal.specs.declared.entry.Entry.{Entry}
use Rattle.pl_journal.specs.declared.entry.Entry.TheVariants.{Arrived, Line, Made, Placed, Sent, Settled, Skipped, Unsettled}
use Rattle.pl_journal.specs.Places.{is_adjacent, restarts}
use Rattle.pl_journal.specs.Flights.{has_just_crossed, is_frame}
use Rattle.pl_journal.specs.Lossy.{CrossesWell, Needs, RunTo}
use Rattle.pl_past.specs.Links.{is_live_since, live_since}
use Rattle.pl_checker.specs.declared.past.Past.{Past}
use Rattle.pl_past_tables.specs.Addresses.{KeepsAddresses}
use Rattle.pl_past_tables.specs.Frames.{KeepsFrames}
use Rattle.pl_past_tables.specs.Groups.{KeepsGroups}
use Rattle.pl_past_tables.specs.Holders.{AreFit, KeepsHolders}
use Rattle.pl_past_tables.specs.Hosts.{KeepsHosts}
use Rattle.pl_past_tables.specs.Links.{KeepsLinks}

-- the entry may follow those that are past, the newest first
abbrev pub MayFollow : Plan → List Entry → Entry → Type 0
MayFollow plan past entry = Needs plan past entry × CrossesWell plan past entry

-- the tables are kept of these entries, which are a run; the digits of frames stand in the text
pub record Keeps (plan : Plan) (text : List ℕ) (past : List Entry) (kept : Past) : Type 0 where
  pub run : RunTo plan past
  pub just : (id : ℕ) → has_just_crossed past id ≡ is_frame kept.just id
  pub frames : KeepsFrames plan text past kept.frames.rows.items
  pub addresses : KeepsAddresses past kept.addresses
  pub fits : AreFit past
  pub holders : KeepsHolders past kept.holders
  pub hosts : KeepsHosts plan past kept.hosts
  pub links : KeepsLinks past kept.links
  pub groups : KeepsGroups plan past kept.groups
  pub restarts : kept.restarts ≡ restarts past

-- the digits of the frame that an entry begins stand in the text from this place on
abbrev pub HasDigits : List ℕ → ℕ → Entry → Type 0
HasDigits text from (Sent id h f) = take (2 * length f) (drop from text) ≡ encode_lower f
HasDigits text from (Made id s f) = take (2 * length f) (drop from text) ≡ encode_lower f
HasDigits text from entry = Unit {0}

-- whether the link from the switch before, if there is one, was live from this entry on
abbrev pub leads_from : Plan → List Entry → Option ℕ → ℕ → ℕ → Bool
leads_from plan past None s crossed = true
leads_from plan past (Some t) s crossed = is_adjacent plan t s && is_live_since (live_since past t s) crossed

-- a frame of 14 to 65,553 bytes
abbrev pub IsCarriedFrame : List ℕ → Type 0
IsCarriedFrame frame = (14 ≤ length frame) × (length frame ≤ 65553) × IsBytes frame

-- the entry's frame has such a length, and the host at which it arrives is there
abbrev pub IsCheckable : Plan → Entry → Type 0
IsCheckable plan (Sent id h f) = IsCarriedFrame f
IsCheckable plan (Made id s f) = IsCarriedFrame f
IsCheckable plan (Arrived id h f) = (h.0 < length plan.hosts) × IsCarriedFrame f
IsCheckable plan entry = Unit {0}

-- an entry that says nothing of frames, addresses, hosts and links
abbrev pub IsQuiet : Entry → Type 0
IsQuiet (Line n) = Unit {0}
IsQuiet (Skipped h skip) = Unit {0}
IsQuiet (Placed s place) = Unit {0}
IsQuiet (Settled n) = Unit {0}
IsQuiet (Unsettled n) = Unit {0}
IsQuiet entry = ⊥
