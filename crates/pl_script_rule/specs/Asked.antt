-- What a script and the captures ask of a host, and what a journal shows of it.
use Rattle.std.specs.Prelude.{◌≡◌, ℕ, ◌==◌, Bool, true, false, if◌then◌else◌, List, [], ◌∷◌, ◌++◌, map, take, drop, Option, Some, None, slice_get, slice_index_or, refl}
use Rattle.std.specs.List.{filter, filter_map}
use Rattle.pl_wiring.specs.declared.host.Host.{Host}
use Rattle.pl_wiring.specs.Plan.{Plan}
use Rattle.pl_journal.specs.declared.cause.Skip.{Skip}
use Rattle.pl_journal.specs.declared.entry.Entry.{Entry}
use Rattle.pl_journal.specs.declared.entry.Entry.TheVariants.{Arrived, Sent, Skipped}
use Rattle.pl_script.specs.declared.command.Command.{Command}
use Rattle.pl_script.specs.declared.command.Command.TheVariants as command
use Rattle.pl_script.specs.declared.command.Count.{Count}
use Rattle.pl_script.specs.declared.command.Count.TheVariants as count
use Rattle.pl_script.specs.declared.command.Count.TheVariants.{N}
use Rattle.pl_script.specs.declared.command.Who.{Who}
use Rattle.pl_script.specs.declared.command.Who.TheVariants as who
use Rattle.pl_script.specs.declared.command.Who.TheVariants.{One}
use Rattle.pl_script.specs.declared.script.ScriptLine.{ScriptLine}
use Rattle.pl_inputs.specs.Records.{Recorded}
use Rattle.pl_node.specs.declared.acts.HostAct.{HostAct}
use Rattle.pl_node.specs.declared.acts.HostAct.TheVariants.{Send}
use Rattle.pl_node.specs.declared.reception.Reception.TheVariants.{Kept}
use Rattle.pl_node.specs.HostInputs.{HostAnswer, HostInput, HostRule}
use Rattle.pl_node.specs.HostInputs.HostAnswer.{Played, Received}
use Rattle.pl_node.specs.HostInputs.HostInput.{HasMoved, Joins, Leaves, Plays, PlaysRaw, Receives, Retries, Starts}
use Rattle.pl_node.specs.HostViews.{HostView, boot_host}
use Rattle.pl_world.specs.Booting.{host_table, me_of}
use Rattle.pl_world.specs.Worlds.{WorldView}

-- a frame arrives at a host, the host sends one, or it passes over a record for this reason
pub data Behaviour : Type 0 where
  Gets : (frame : List ℕ) → Behaviour
  Gives : (frame : List ℕ) → Behaviour
  PassesOver : (skip : Skip) → Behaviour

-- what an entry shows of a host, by its number; the frame's number is left out
abbrev pub behaviour_by : ℕ → Entry → Option Behaviour
behaviour_by n (Arrived id host frame) = if host.0 == n then Some (Gets frame) else None
behaviour_by n (Sent id host frame) = if host.0 == n then Some (Gives frame) else None
behaviour_by n (Skipped host skip) = if host.0 == n then Some (PassesOver skip) else None
behaviour_by n _ = None

-- what a journal shows of it, in order
abbrev pub behaviour_in : ℕ → List Entry → List Behaviour
behaviour_in n journal = filter_map (behaviour_by n) journal

-- what is seen of a host's step: the frame that arrived, if it was kept, or why a record was passed over, and then the frames that it sends
abbrev pub given : HostAct → Behaviour
given (Send frame) = Gives frame

abbrev pub seen : HostInput → HostAnswer → List HostAct → List Behaviour
seen (Receives frame) (Received Kept) acts = Gets frame ∷ map given acts
seen input (Played (Some skip)) acts = PassesOver skip ∷ map given acts
seen input answer acts = map given acts

-- A host goes through what it is told and hears, step by step by its rule, and this is seen of it.
abbrev pub Lives : HostRule → HostView → List HostInput → List Behaviour → HostView → Type 0
Lives rule old [] behaviour new = (behaviour ≡ []) × (new ≡ old)
Lives rule old (input ∷ inputs) behaviour new =
    (next : HostView) × (acts : List HostAct) × (answer : HostAnswer) × (more : List Behaviour)
    × rule old input next acts answer × Lives rule next inputs more new × (behaviour ≡ seen input answer acts ++ more)

-- what a script asks of it, and not the frames that arrive
abbrev pub is_asked : HostInput → Bool
is_asked (Receives frame) = false
is_asked input = true

abbrev pub is_meant : ℕ → Who → Bool
is_meant n (One h) = h.0 == n
is_meant n who.All = true

abbrev pub played_as : Bool → Recorded → HostInput
played_as false r = Plays r.frame r.original
played_as true r = PlaysRaw r.frame r.original

-- its next records, of those that are left
abbrev pub next_records : Count → List Recorded → List Recorded
next_records (N times) left = take times left
next_records count.All left = left

abbrev pub later_records : Count → List Recorded → List Recorded
later_records (N times) left = drop times left
later_records count.All left = []

-- what a command asks of a host that has these records left
abbrev pub asked_by : ℕ → List Recorded → Command → List HostInput
asked_by n left (command.Start who) = if is_meant n who then Starts ∷ [] else []
asked_by n left (command.Send h count) = if h.0 == n then map (played_as false) (next_records count left) else []
asked_by n left (command.Raw h count) = if h.0 == n then map (played_as true) (next_records count left) else []
asked_by n left (command.Retry who) = if is_meant n who then Retries ∷ [] else []
asked_by n left (command.Join h group) = if h.0 == n then Joins group ∷ [] else []
asked_by n left (command.Leave h group) = if h.0 == n then Leaves group ∷ [] else []
asked_by n left (command.Move h s port) = if h.0 == n then HasMoved ∷ [] else []
asked_by n left _ = []

-- the records that are left then
abbrev pub left_by : ℕ → List Recorded → Command → List Recorded
left_by n left (command.Send h count) = if h.0 == n then later_records count left else left
left_by n left (command.Raw h count) = if h.0 == n then later_records count left else left
left_by n left _ = left

abbrev pub asked_along : ℕ → List Recorded → List ScriptLine → List HostInput
asked_along n left [] = []
asked_along n left (line ∷ lines) = asked_by n left line.command ++ asked_along n (left_by n left line.command) lines

-- what a script asks of the host with this number: each record once, in order
unfoldable pub asked_of_host : List (List Recorded) → ℕ → List ScriptLine → List HostInput
asked_of_host records n lines = asked_along n (slice_index_or records n []) lines

-- From its beginning on the host goes, by its rule, through just what the script asks of it and the frames that arrive; and the journal
-- shows just what is seen of that, in order.
pub record DoesAsAsked (rule : HostRule) (plan : Plan) (records : List (List Recorded)) (lines : List ScriptLine) (n : ℕ) (host : Host) (w : WorldView) : Type 0 where
  pub inputs : List HostInput
  pub last : HostView
  pub lives : Lives rule (boot_host (me_of host) (host_table plan)) inputs (behaviour_in n w.journal) last
  pub asked : filter is_asked inputs ≡ asked_of_host records n lines
  pub now : slice_get w.hosts n ≡ Some last

-- a start, and then two of three records
abbrev a_record : ℕ → Recorded
a_record n = record { frame = n ∷ []; original = 1 }

asked_of_one
    : asked_of_host ((a_record 1 ∷ a_record 2 ∷ a_record 3 ∷ []) ∷ []) 0
    (record { number = 1; command = command.Start who.All } ∷ record { number = 3; command = command.Send (record { 0 = 0 }) (N 1) }
    ∷ record { number = 4; command = command.Raw (record { 0 = 0 }) (N 1) } ∷ [])
    ≡ Starts ∷ Plays (1 ∷ []) 1 ∷ PlaysRaw (2 ∷ []) 1 ∷ []
unfolding asked_of_host
asked_of_one = refl
