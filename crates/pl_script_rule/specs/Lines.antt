-- What the lines of a script do.
use Rattle.std.specs.Prelude.{◌≡◌, ◌⊎◌, ℕ, ◌-◌, Bool, true, false, IsTrue, List, [], ◌∷◌, length, map, Option, None, Some, slice_get, slice_index_or}
use Rattle.std.specs.List.{range_with_len}
use Rattle.pl_wiring.specs.declared.host.HostNo.{HostNo}
use Rattle.pl_wiring.specs.Plan.{Plan}
use Rattle.pl_journal.specs.declared.entry.Entry.{Entry}
use Rattle.pl_journal.specs.declared.entry.Entry.TheVariants as entry
use Rattle.pl_script.specs.declared.command.Command.{Command}
use Rattle.pl_script.specs.declared.command.Command.TheVariants.{Deliver, Drain, ExpectAddress, ExpectArrived, ExpectDropped, ExpectSettled, Fail, Join, Leave, Lose, Move, Random, Raw, Repair, Restart, Retry, Send, Settle, Start, Sweep, Tick}
use Rattle.pl_script.specs.declared.command.Count.{Count}
use Rattle.pl_script.specs.declared.command.Count.TheVariants as count
use Rattle.pl_script.specs.declared.command.Count.TheVariants.{N}
use Rattle.pl_script.specs.declared.command.Who.{Who}
use Rattle.pl_script.specs.declared.command.Who.TheVariants as who
use Rattle.pl_script.specs.declared.command.Who.TheVariants.{One}
use Rattle.pl_script.specs.declared.script.ScriptLine.{ScriptLine}
use Rattle.pl_inputs.specs.Records.{Recorded}
use Rattle.pl_node.specs.HostInputs.{HostRule}
use Rattle.pl_node.specs.ManagerDuties.{ManagerRule}
use Rattle.pl_node.specs.SwitchInputs.{SwitchRule}
use Rattle.pl_world.specs.declared.error.StepError.{StepError}
use Rattle.pl_world.specs.declared.error.StepError.TheVariants.{NothingThere}
use Rattle.pl_world.specs.declared.event.Event.{Event}
use Rattle.pl_world.specs.declared.event.Event.TheVariants as event
use Rattle.pl_world.specs.declared.limits.Limits.{Limits}
use Rattle.pl_world.specs.Changes.{host_no, noted}
use Rattle.pl_world.specs.Worlds.{WorldView}
use Rattle.pl_fabric.specs.declared.settling.Settling.{Settling}
use Rattle.pl_fabric.specs.declared.settling.Settling.TheVariants.{NotSettled, Settled}
use Rattle.pl_fabric.specs.Executions.{Makes, MakesAll, Times}
use Rattle.pl_fabric.specs.Drains.{Drains, GoesSweeps}
use Rattle.pl_fabric.specs.Draws.{Draws}
use Rattle.pl_fabric.specs.Rounds.{Sweeps, TicksAll}
use Rattle.pl_fabric.specs.Settlings.{GoesRounds, Settles}
use Rattle.pl_script_rule.specs.declared.stop.Stop.{Stop}
use Rattle.pl_script_rule.specs.declared.stop.Stop.TheVariants.{ExpectFailed, Refused}
use Rattle.pl_script_rule.specs.Expecting.{IsNewest, arrivals, ended_settled, endings}
use Rattle.pl_script_rule.specs.Queues.{delivery, loss, port_towards, queue_between}
use Rattle.pl_script_rule.specs.Scenes.{SceneExecution, OfWorld, Often, Scene, asked_more, asked_of, begun, first_scene}

-- one host, or each in the order of the wiring
abbrev pub hosts_meant : Plan → Who → List HostNo
hosts_meant plan (One h) = h ∷ []
hosts_meant plan who.All = map host_no (range_with_len 0 (length plan.hosts))

-- the records of a host's capture, and how many of them were not asked for
abbrev pub records_at : List (List Recorded) → HostNo → List Recorded
records_at records h = slice_index_or records h.0 []

abbrev pub left_of : List (List Recorded) → Scene → HostNo → ℕ
left_of records scene h = length (records_at records h) - asked_of scene h.0

-- the entry that says how a settling ended
abbrev pub outcome : Settling → Entry
outcome (Settled rounds) = entry.Settled rounds
outcome (NotSettled pending) = entry.Unsettled pending

-- Nothing changes, and the line is stopped where this is not so.
abbrev pub Expects : Type 0 → SceneExecution
Expects P old end new = (new ≡ old) × (((end ≡ None) × P) ⊎ ((end ≡ Some ExpectFailed) × (P → ⊥)))

module _ (switch : SwitchRule) (manager : ManagerRule) (host : HostRule) where
  -- these events happen, one after the other
  abbrev pub Happen : List Event → SceneExecution
  Happen events = OfWorld (MakesAll switch manager host events)

  -- a host plays a record; past the last there is none
  abbrev pub PlaysRecord : HostNo → Bool → Option Recorded → SceneExecution
  PlaysRecord h raw None old end new = (end ≡ Some (Refused NothingThere)) × (new ≡ old)
  PlaysRecord h raw (Some r) old end new =
      OfWorld (Makes switch manager host (event.Play h r.frame r.original raw)) (asked_more old h.0) end new

  -- a host is asked for its next record
  abbrev pub AsksNext : List (List Recorded) → HostNo → Bool → SceneExecution
  AsksNext records h raw old = PlaysRecord h raw (slice_get (records_at records h) (asked_of old h.0)) old

  -- for so many records, or for all that are left
  abbrev pub Asks : List (List Recorded) → HostNo → Bool → Count → SceneExecution
  Asks records h raw (N times) = Often times (AsksNext records h raw)
  Asks records h raw count.All = λ old. Often (left_of records old h) (AsksNext records h raw) old

  -- rounds until the fabric is settled, and how that ended; or a step of them is refused
  abbrev pub SettlesAsAsked : ℕ → SceneExecution
  SettlesAsAsked rounds old end new =
      ((answer : Settling) × (between : WorldView) × Settles switch manager host rounds old.world answer between
      × (end ≡ None) × (new ≡ record old { world = noted between (outcome answer) }))
      ⊎ ((reason : StepError) × GoesRounds switch manager host rounds old.world (Some reason) new.world
      × (end ≡ Some (Refused reason)) × (new.asked ≡ old.asked))

  -- sweeps until no queue has items, and how that ended; or a step of them is refused
  abbrev pub DrainsAsAsked : ℕ → SceneExecution
  DrainsAsAsked sweeps old end new =
      ((answer : Settling) × (between : WorldView) × Drains switch manager host sweeps old.world answer between
      × (end ≡ None) × (new ≡ record old { world = noted between (outcome answer) }))
      ⊎ ((reason : StepError) × GoesSweeps switch manager host sweeps old.world (Some reason) new.world
      × (end ≡ Some (Refused reason)) × (new.asked ≡ old.asked))

  -- what a command asks for
  abbrev pub Does : List (List Recorded) → Command → SceneExecution
  Does records (Start who) = λ old. Happen (map event.Start (hosts_meant old.world.plan who)) old
  Does records (Send h count) = Asks records h false count
  Does records (Raw h count) = Asks records h true count
  Does records (Retry who) = λ old. Happen (map event.Retry (hosts_meant old.world.plan who)) old
  Does records (Join h group) = Happen (event.Join h group ∷ [])
  Does records (Leave h group) = Happen (event.Leave h group ∷ [])
  Does records (Move h s port) = Happen (event.Move h s port ∷ [])
  Does records (Fail a b) = Happen (event.Fail a b ∷ [])
  Does records (Repair a b) = Happen (event.Repair a b ∷ [])
  Does records (Lose a b) = λ old. Happen (loss a (port_towards old.world.plan a.0 b.0) ∷ []) old
  Does records (Deliver from to) = λ old. Happen (delivery (queue_between old.world from to) ∷ []) old
  Does records (Tick (Some s)) = Happen (event.Tick s ∷ [])
  Does records (Tick None) = OfWorld (TicksAll switch manager host)
  Does records (Sweep times) = OfWorld (Times times (Sweeps switch manager host))
  Does records (Settle rounds) = SettlesAsAsked rounds
  Does records (Drain sweeps) = DrainsAsAsked sweeps
  Does records Restart = Happen (event.Restart ∷ [])
  Does records (Random number steps) = OfWorld (Draws switch manager host steps number)
  Does records (ExpectArrived h many) = λ old. Expects (arrivals old.world.journal h ≡ many) old
  Does records (ExpectDropped cause many) = λ old. Expects (endings old.world.journal cause ≡ many) old
  Does records (ExpectAddress h pmac) = λ old. Expects (IsNewest old.world.journal h pmac) old
  Does records ExpectSettled = λ old. Expects (IsTrue (ended_settled old.world.journal)) old

  -- a line begins, and its command is done
  abbrev pub DoesLine : List (List Recorded) → ScriptLine → SceneExecution
  DoesLine records line old = Does records line.command (begun old line.number)

  -- Why a script was stopped at which line, if it was, and what was come to then.
  abbrev pub GoesOn : ℕ → (Option (ℕ × Stop) → Scene → Type 0) → Option Stop → Scene → Option (ℕ × Stop) → Scene → Type 0
  GoesOn number rest None between end new = rest end new
  GoesOn number rest (Some stop) between end new = (end ≡ Some (number, stop)) × (new ≡ between)

  -- lines one after the other, up to the first that is stopped
  abbrev pub DoesLines : List (List Recorded) → List ScriptLine → Scene → Option (ℕ × Stop) → Scene → Type 0
  DoesLines records [] old end new = (end ≡ None) × (new ≡ old)
  DoesLines records (line ∷ lines) old end new =
      (stop : Option Stop) × (between : Scene) × DoesLine records line old stop between
      × GoesOn line.number (DoesLines records lines between) stop between end new

  -- A script is played from the beginning of a fabric on.
  abbrev pub Plays : Plan → Limits → List (List Recorded) → List ScriptLine → Option (ℕ × Stop) → Scene → Type 0
  Plays plan limits records lines end new = DoesLines records lines (first_scene plan limits) end new
