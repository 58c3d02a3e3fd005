-- What a script does is a run: steps, none of which is refused, and marks.
use Rattle.std.proofs.Common.{◌≡◌, ℕ, zero, suc, Bool, true, false, List, [], ◌∷◌, map, Option, Some, None, inl, inr, refl, sym, ap, subst}
use Rattle.pl_wiring.specs.declared.host.HostNo.{HostNo}
use Rattle.pl_wiring.specs.Plan.{Plan}
use Rattle.std.specs.List.{AllByRecursion}
use Rattle.pl_frame.specs.declared.address.Ip4.{Ip4}
use Rattle.pl_wiring.specs.declared.label.SwitchNo.{SwitchNo}
use Rattle.pl_journal.specs.declared.entry.Entry.{Entry}
use Rattle.pl_journal.specs.declared.entry.Entry.TheVariants.{Line}
use Rattle.pl_script.specs.declared.command.Command.{Command}
use Rattle.pl_script.specs.declared.command.Command.TheVariants.{Deliver, Drain, ExpectAddress, ExpectArrived, ExpectDropped, ExpectSettled, Fail, Join, Leave, Lose, Move, Random, Raw, Repair, Restart, Retry, Send, Settle, Start, Sweep, Tick}
use Rattle.pl_script.specs.declared.command.Count.{Count}
use Rattle.pl_script.specs.declared.command.Count.TheVariants as count
use Rattle.pl_script.specs.declared.command.Count.TheVariants.{N}
use Rattle.pl_script.specs.declared.script.ScriptLine.{ScriptLine}
use Rattle.pl_inputs.specs.Records.{Recorded}
use Rattle.pl_node.specs.HostInputs.{HostRule}
use Rattle.pl_node.specs.ManagerDuties.{ManagerRule}
use Rattle.pl_node.specs.SwitchInputs.{SwitchRule}
use Rattle.pl_world.specs.declared.event.Event.{Event}
use Rattle.pl_world.specs.declared.event.Event.TheVariants as event
use Rattle.pl_world.specs.declared.event.QueueName.{QueueName}
use Rattle.pl_world.specs.declared.event.QueueName.TheVariants as queue
use Rattle.pl_world.specs.declared.limits.Limits.{Limits}
use Rattle.pl_world.specs.Booting.{booted}
use Rattle.pl_world.specs.Changes.{noted, switch_no}
use Rattle.pl_world.specs.Runs.{IsMark, Moment, WorldRun}
use Rattle.pl_world.specs.Runs.Moment.{Mark, Step}
use Rattle.pl_world.specs.Worlds.{WorldView}
use Rattle.pl_fabric.specs.declared.settling.Settling.{Settling}
use Rattle.pl_fabric.specs.declared.settling.Settling.TheVariants.{NotSettled, Settled}
use Rattle.pl_fabric.specs.Executions.{Execution, Makes, MakesAll, Times}
use Rattle.pl_fabric.specs.Draws.{Draws}
use Rattle.pl_fabric.specs.Rounds.{Sweeps, TicksAll}
use Rattle.pl_fabric.proofs.Exports.{IsRun}
use Rattle.pl_script_rule.specs.declared.stop.Stop.{Stop}
use Rattle.pl_script_rule.specs.Lines.{AsksNext, Asks, Does, DoesLine, DoesLines, DrainsAsAsked, GoesOn, Happen, PlaysRecord, Plays, SettlesAsAsked, hosts_meant, left_of, outcome}
use Rattle.pl_script_rule.specs.Queues.{delivery, loss, port_towards, queue_between}
use Rattle.pl_script_rule.specs.Scenes.{SceneExecution, GoesOnFrom, OfWorld, Often, Scene, asked_more, begun, first_scene}
use Rattle.pl_script_rule.proofs.Along.{Along, Holds, HoldsOfAll, drains_along, draws_along, makes_along, makes_all_along, rounds_along, same, sweeps_along, ticks_along, times_along}

-- how a settling ended is a mark
pub outcome_is_mark : (answer : Settling) → IsMark (outcome answer)
outcome_is_mark (Settled rounds) = tt
outcome_is_mark (NotSettled pending) = tt

-- a property of events, of which marks have nothing
abbrev pub OfMoment : (Event → Type 0) → Moment → Type 0
OfMoment P (Step event) = P event
OfMoment P (Mark entry) = Unit {0}

-- What a script makes happen has a property: each event has it but repairs, and these where the command has another one.
pub record LetsHappen (P : Event → Type 0) (Q : Command → Type 0) : Type 0 where
  pub starts : (h : HostNo) → P (event.Start h)
  pub plays : (h : HostNo) (frame : List ℕ) (original : ℕ) (raw : Bool) → P (event.Play h frame original raw)
  pub retries : (h : HostNo) → P (event.Retry h)
  pub joins : (h : HostNo) (group : Ip4) → P (event.Join h group)
  pub leaves : (h : HostNo) (group : Ip4) → P (event.Leave h group)
  pub moves : (h : HostNo) (s : SwitchNo) (port : ℕ) → P (event.Move h s port)
  pub fails : (a b : SwitchNo) → P (event.Fail a b)
  pub repairs : (a b : SwitchNo) → Q (Repair a b) → P (event.Repair a b)
  pub loses : (s : SwitchNo) (port : ℕ) → P (event.Lose s port)
  pub delivers : (name : QueueName) → P (event.Deliver name)
  pub ticks : (s : SwitchNo) → P (event.Tick s)
  pub restarts : P event.Restart

-- a run of such moments
abbrev pub RunOf : (Event → Type 0) → SwitchRule → ManagerRule → HostRule → WorldView → WorldView → Type 0
RunOf P switch manager host old new = (moments : List Moment) × AllByRecursion (OfMoment P) moments × WorldRun switch manager host old moments new

module _ (switch : SwitchRule) (manager : ManagerRule) (host : HostRule) (P : Event → Type 0) (Q : Command → Type 0) (lets : LetsHappen P Q) where
  abbrev Run : WorldView → WorldView → Type 0
  Run = RunOf P switch manager host

  rests : (w : WorldView) → Run w w
  rests w = ([], tt, refl)

  appended : (old between new : WorldView) (moments : List Moment) → AllByRecursion (OfMoment P) moments → WorldRun switch manager host old moments between →
      Run between new → Run old new
  appended old between new [] all run rest = subst (λ (w : WorldView). Run w new) run rest
  appended old between new (m ∷ moments) all run rest =
      let more = appended run.0 between new moments all.1 run.2 rest in
      (m ∷ more.0, (all.0, more.1), (run.0, run.1, more.2))

  joined : (old between new : WorldView) → Run old between → Run between new → Run old new
  joined old between new run rest = appended old between new run.0 run.1 run.2 rest

  steps : (event : Event) → P event → Holds switch manager host Run event
  steps event may = λ old new is step. (Step event ∷ [], (may, tt), (new, (is, step), refl))

  all_step : (events : List Event) → AllByRecursion P events → HoldsOfAll switch manager host Run events
  all_step [] may = tt
  all_step (event ∷ events) may = (steps event may.0, all_step events may.1)

  all_start : (hosts : List HostNo) → AllByRecursion P (map event.Start hosts)
  all_start [] = tt
  all_start (h ∷ hosts) = (lets.starts h, all_start hosts)

  all_retry : (hosts : List HostNo) → AllByRecursion P (map event.Retry hosts)
  all_retry [] = tt
  all_retry (h ∷ hosts) = (lets.retries h, all_retry hosts)

  lost : (s : SwitchNo) (port : Option ℕ) → P (loss s port)
  lost s None = lets.loses (switch_no 0) 255
  lost s (Some port) = lets.loses s port

  delivers_named : (name : Option QueueName) → P (delivery name)
  delivers_named None = lets.delivers (queue.Port (switch_no 0) 255)
  delivers_named (Some name) = lets.delivers name

  marked : (w : WorldView) (entry : Entry) → IsMark entry → Run w (noted w entry)
  marked w entry is = (Mark entry ∷ [], (tt, tt), (noted w entry, (is, refl), refl))

  delivered : (name : QueueName) → Holds switch manager host Run (event.Deliver name)
  delivered name = steps (event.Deliver name) (lets.delivers name)

  ticked : (s : ℕ) → Holds switch manager host Run (event.Tick (switch_no s))
  ticked s = steps (event.Tick (switch_no s)) (lets.ticks (switch_no s))

  happened : (events : List Event) → AllByRecursion P events → Along Run (MakesAll switch manager host events)
  happened events may = makes_all_along switch manager host Run rests joined events (all_step events may)

  -- what is done to a scene is a run of its world
  abbrev RunsOn : SceneExecution → Type 0
  RunsOn doing = (old : Scene) (end : Option Stop) (new : Scene) → doing old end new → Run old.world new.world

  unchanged : (old new : Scene) → new ≡ old → Run old.world new.world
  unchanged old new is = same switch manager host Run rests joined old.world new.world (ap (λ (s : Scene). s.world) is)

  of_world : (execution : Execution) → Along Run execution → RunsOn (OfWorld execution)
  of_world execution way = λ old end new done. way old.world done.0 new.world done.1

  follows : (next : SceneExecution) → RunsOn next → (stop : Option Stop) (between : Scene) (end : Option Stop) (new : Scene) → GoesOnFrom next stop between end new →
      Run between.world new.world
  follows next way None between end new done = way between end new done
  follows next way (Some stop) between end new done = unchanged between new done.1

  often : (n : ℕ) (doing : SceneExecution) → RunsOn doing → RunsOn (Often n doing)
  often zero doing way = λ old end new done. unchanged old new done.1
  often (suc n) doing way = λ old end new done.
      joined old.world done.1.world new.world (way old done.0 done.1 done.2) (follows (Often n doing) (often n doing way) done.0 done.1 end new done.3)

  plays_record : (h : HostNo) (raw : Bool) (record_ : Option Recorded) (old : Scene) (end : Option Stop) (new : Scene) →
      PlaysRecord switch manager host h raw record_ old end new → Run old.world new.world
  plays_record h raw None old end new done = unchanged old new done.1
  plays_record h raw (Some r) old end new done =
      of_world (Makes switch manager host (event.Play h r.frame r.original raw))
      (makes_along switch manager host Run rests joined (event.Play h r.frame r.original raw) (steps (event.Play h r.frame r.original raw) (lets.plays h r.frame r.original raw)))
      (asked_more old h.0) end new done

  asks_next : (records : List (List Recorded)) (h : HostNo) (raw : Bool) → RunsOn (AsksNext switch manager host records h raw)
  asks_next records h raw = λ old end new done. plays_record h raw _ old end new done

  asks : (records : List (List Recorded)) (h : HostNo) (raw : Bool) (count : Count) → RunsOn (Asks switch manager host records h raw count)
  asks records h raw (N times) = often times (AsksNext switch manager host records h raw) (asks_next records h raw)
  asks records h raw count.All = λ old end new done.
      often (left_of records old h) (AsksNext switch manager host records h raw) (asks_next records h raw) old end new done

  settles : (rounds : ℕ) → RunsOn (SettlesAsAsked switch manager host rounds)
  settles rounds old end new (inl done) =
      subst (λ (s : Scene). Run old.world s.world) (sym done.4)
      (joined old.world done.1 (noted done.1 (outcome done.0))
      (rounds_along switch manager host Run rests joined delivered ticked done.2.used old.world None done.1 done.2.rounds)
      (marked done.1 (outcome done.0) (outcome_is_mark done.0)))
  settles rounds old end new (inr done) =
      rounds_along switch manager host Run rests joined delivered ticked rounds old.world (Some done.0) new.world done.1

  drains : (sweeps : ℕ) → RunsOn (DrainsAsAsked switch manager host sweeps)
  drains sweeps old end new (inl done) =
      subst (λ (s : Scene). Run old.world s.world) (sym done.4)
      (joined old.world done.1 (noted done.1 (outcome done.0))
      (drains_along switch manager host Run rests joined delivered ticked done.2.used old.world None done.1 done.2.sweeps)
      (marked done.1 (outcome done.0) (outcome_is_mark done.0)))
  drains sweeps old end new (inr done) =
      drains_along switch manager host Run rests joined delivered ticked sweeps old.world (Some done.0) new.world done.1

  happen : (events : List Event) → AllByRecursion P events → RunsOn (Happen switch manager host events)
  happen events may = of_world (MakesAll switch manager host events) (happened events may)

  one : (event : Event) → P event → RunsOn (Happen switch manager host (event ∷ []))
  one event may = happen (event ∷ []) (may, tt)

  does : (records : List (List Recorded)) (command : Command) → Q command → RunsOn (Does switch manager host records command)
  does records (Start who) may = λ old end new done. happen (map event.Start (hosts_meant old.world.plan who)) (all_start (hosts_meant old.world.plan who)) old end new done
  does records (Send h count) may = asks records h false count
  does records (Raw h count) may = asks records h true count
  does records (Retry who) may = λ old end new done. happen (map event.Retry (hosts_meant old.world.plan who)) (all_retry (hosts_meant old.world.plan who)) old end new done
  does records (Join h group) may = one (event.Join h group) (lets.joins h group)
  does records (Leave h group) may = one (event.Leave h group) (lets.leaves h group)
  does records (Move h s port) may = one (event.Move h s port) (lets.moves h s port)
  does records (Fail a b) may = one (event.Fail a b) (lets.fails a b)
  does records (Repair a b) may = one (event.Repair a b) (lets.repairs a b may)
  does records (Lose a b) may = λ old end new done. one (loss a (port_towards old.world.plan a.0 b.0)) (lost a (port_towards old.world.plan a.0 b.0)) old end new done
  does records (Deliver from to) may = λ old end new done. one (delivery (queue_between old.world from to)) (delivers_named (queue_between old.world from to)) old end new done
  does records (Tick (Some s)) may = one (event.Tick s) (lets.ticks s)
  does records (Tick None) may = of_world (TicksAll switch manager host) (ticks_along switch manager host Run rests joined delivered ticked)
  does records (Sweep times) may =
      of_world (Times times (Sweeps switch manager host))
      (times_along switch manager host Run rests joined times (Sweeps switch manager host) (sweeps_along switch manager host Run rests joined delivered ticked))
  does records (Settle rounds) may = settles rounds
  does records (Drain sweeps) may = drains sweeps
  does records Restart may = one event.Restart lets.restarts
  does records (Random number steps) may = of_world (Draws switch manager host steps number) (draws_along switch manager host Run rests joined delivered ticked steps number)
  does records (ExpectArrived h many) may = λ old end new done. unchanged old new done.0
  does records (ExpectDropped cause many) may = λ old end new done. unchanged old new done.0
  does records (ExpectAddress h pmac) may = λ old end new done. unchanged old new done.0
  does records ExpectSettled may = λ old end new done. unchanged old new done.0

  does_line : (records : List (List Recorded)) (line : ScriptLine) → Q line.command → RunsOn (DoesLine switch manager host records line)
  does_line records line may = λ old end new done.
      joined old.world (noted old.world (Line line.number)) new.world (marked old.world (Line line.number) tt)
      (does records line.command may (begun old line.number) end new done)

  goes_on : (number : ℕ) (rest : Option (ℕ × Stop) → Scene → Type 0) (stop : Option Stop) (between : Scene) (end : Option (ℕ × Stop)) (new : Scene) →
      (rest end new → Run between.world new.world) → GoesOn switch manager host number rest stop between end new → Run between.world new.world
  goes_on number rest None between end new way done = way done
  goes_on number rest (Some stop) between end new way done = unchanged between new done.1

  pub does_lines : (records : List (List Recorded)) (lines : List ScriptLine) → AllByRecursion (λ (line : ScriptLine). Q line.command) lines →
      (old : Scene) (end : Option (ℕ × Stop)) (new : Scene) → DoesLines switch manager host records lines old end new → Run old.world new.world
  does_lines records [] may old end new done = unchanged old new done.1
  does_lines records (line ∷ lines) may old end new done =
      joined old.world done.1.world new.world (does_line records line may.0 old done.0 done.1 done.2)
      (goes_on line.number (DoesLines switch manager host records lines done.1) done.0 done.1 end new (does_lines records lines may.1 done.1 end new) done.3)

-- any event may happen, and any line do it
abbrev any_event : Event → Type 0
any_event event = Unit {0}

abbrev any_command : Command → Type 0
any_command command = Unit {0}

all_may : (lines : List ScriptLine) → AllByRecursion (λ (line : ScriptLine). any_command line.command) lines
all_may [] = tt
all_may (line ∷ lines) = (tt, all_may lines)

all_let : LetsHappen any_event any_command
all_let = record {
  starts = λ h. tt;
  plays = λ h frame original raw. tt;
  retries = λ h. tt;
  joins = λ h group. tt;
  leaves = λ h group. tt;
  moves = λ h s port. tt;
  fails = λ a b. tt;
  repairs = λ a b may. tt;
  loses = λ s port. tt;
  delivers = λ name. tt;
  ticks = λ s. tt;
  restarts = tt;
}

-- lines lead from a scene to another by a run
pub lines_are_run : (switch : SwitchRule) (manager : ManagerRule) (host : HostRule) (records : List (List Recorded)) (lines : List ScriptLine) (old : Scene)
    (end : Option (ℕ × Stop)) (new : Scene) → DoesLines switch manager host records lines old end new → IsRun switch manager host old.world new.world
lines_are_run switch manager host records lines old end new done =
    let run = does_lines switch manager host any_event any_command all_let records lines (all_may lines) old end new done in
    (run.0, run.2)

-- a run, and another one behind it
pub run_on : (switch : SwitchRule) (manager : ManagerRule) (host : HostRule) (old between new : WorldView) (moments : List Moment) →
    WorldRun switch manager host old moments between → IsRun switch manager host between new → IsRun switch manager host old new
run_on switch manager host old between new [] run rest = subst (λ (w : WorldView). IsRun switch manager host w new) run rest
run_on switch manager host old between new (m ∷ moments) run rest =
    let more = run_on switch manager host run.0 between new moments run.2 rest in
    (m ∷ more.0, (run.0, run.1, more.1))

pub plays_is_run : (switch : SwitchRule) (manager : ManagerRule) (host : HostRule) (plan : Plan) (limits : Limits) (records : List (List Recorded)) (lines : List ScriptLine)
    (end : Option (ℕ × Stop)) (scene : Scene) → Plays switch manager host plan limits records lines end scene → IsRun switch manager host (booted plan limits) scene.world
plays_is_run switch manager host plan limits records lines end scene done =
    lines_are_run switch manager host records lines (first_scene plan limits) end scene done
