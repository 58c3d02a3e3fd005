-- With rules that leave no choice all that a script does goes one way.
use Rattle.std.proofs.Common.{◌≡◌, ◌⊎◌, ℕ, zero, suc, Bool, true, false, IsTrue, List, [], ◌∷◌, map, Option, Some, None, option_map, slice_get, inl, inr, sym, ◌∙◌, ap, subst}
use Rattle.pl_wiring.specs.declared.host.HostNo.{HostNo}
use Rattle.pl_wiring.specs.Plan.{Plan}
use Rattle.pl_script.specs.declared.command.Command.{Command}
use Rattle.pl_script.specs.declared.command.Command.TheVariants.{Deliver, Drain, ExpectAddress, ExpectArrived, ExpectDropped, ExpectSettled, Fail, Join, Leave, Lose, Move, Random, Raw, Repair, Restart, Retry, Send, Settle, Start, Sweep, Tick}
use Rattle.pl_script.specs.declared.command.Count.{Count}
use Rattle.pl_script.specs.declared.command.Count.TheVariants as count
use Rattle.pl_script.specs.declared.command.Count.TheVariants.{N}
use Rattle.pl_script.specs.declared.script.ScriptLine.{ScriptLine}
use Rattle.pl_inputs.specs.Records.{Recorded}
use Rattle.pl_node.specs.HostInputs.{HostRule}
use Rattle.pl_node.specs.ManagerDuties.{ManagerRule}
use Rattle.pl_node.specs.SwitchInputs.{SwitchRule}
use Rattle.pl_world.specs.declared.error.StepError.{StepError}
use Rattle.pl_world.specs.declared.event.Event.{Event}
use Rattle.pl_world.specs.declared.event.Event.TheVariants as event
use Rattle.pl_world.specs.declared.limits.Limits.{Limits}
use Rattle.pl_world.specs.Changes.{noted}
use Rattle.pl_world.specs.Worlds.{WorldView}
use Rattle.pl_law_runs.specs.NoChoice.{LeavesHostNoChoice, LeavesManagerNoChoice, LeavesSwitchNoChoice}
use Rattle.pl_fabric.specs.declared.settling.Settling.{Settling}
use Rattle.pl_fabric.specs.Executions.{Execution, Makes, MakesAll, Times}
use Rattle.pl_fabric.specs.Draws.{Draws}
use Rattle.pl_fabric.specs.Rounds.{Sweeps, TicksAll}
use Rattle.pl_law_executions.specs.OneWay.{GoesOneWayFrom}
use Rattle.pl_law_executions.proofs.OneWayOfExecutions.{draws_one_way, goes_rounds_one_way, goes_sweeps_one_way, makes_all_one_way, makes_one_way, sweeps_one_way, ticks_all_one_way, times_one_way}
use Rattle.pl_law_executions.proofs.Rests.{drains_one_way, drains_unrefused, settles_one_way, settles_unrefused}
use Rattle.pl_script_rule.specs.declared.stop.Stop.{Stop}
use Rattle.pl_script_rule.specs.declared.stop.Stop.TheVariants.{ExpectFailed, Refused}
use Rattle.pl_script_rule.specs.Expecting.{IsNewest, arrivals, ended_settled, endings}
use Rattle.pl_script_rule.specs.Lines.{Asks, AsksNext, Does, DoesLine, DoesLines, DrainsAsAsked, Expects, GoesOn, Happen, PlaysRecord, Plays, SettlesAsAsked, hosts_meant, left_of, outcome, records_at}
use Rattle.pl_script_rule.specs.Queues.{delivery, loss, port_towards, queue_between}
use Rattle.pl_script_rule.specs.Scenes.{SceneExecution, GoesOnFrom, OfWorld, Often, SceneStays, Scene, asked_more, asked_of, begun, first_scene}

abbrev made : WorldView → List ℕ → Scene
made world asked = record { world = world; asked = asked }

same_scene : (a b : Scene) → a.world ≡ b.world → a.asked ≡ b.asked → a ≡ b
same_scene a b worlds asked = ap (λ (w : WorldView). made w a.asked) worlds ∙ ap (λ (xs : List ℕ). made b.world xs) asked

-- from this scene it comes to one end, and to one scene
abbrev OneEndFrom : SceneExecution → Scene → Type 0
OneEndFrom doing old = (end stop : Option Stop) (one other : Scene) → doing old end one → doing old stop other → (end ≡ stop) × (one ≡ other)

abbrev OneEnd : SceneExecution → Type 0
OneEnd doing = (old : Scene) → OneEndFrom doing old

rests_once : OneEnd SceneStays
rests_once = λ old end stop one other first second. (first.0 ∙ sym second.0, first.1 ∙ sym second.1)

follows_once : (next : SceneExecution) → OneEnd next → (before : Option Stop) (between : Scene) (end stop : Option Stop) (one other : Scene) →
    GoesOnFrom next before between end one → GoesOnFrom next before between stop other → (end ≡ stop) × (one ≡ other)
follows_once next way None between end stop one other first second = way between end stop one other first second
follows_once next way (Some reason) between end stop one other first second = (first.0 ∙ sym second.0, first.1 ∙ sym second.1)

often_once : (n : ℕ) (doing : SceneExecution) → OneEnd doing → OneEnd (Often n doing)
often_once zero doing way = rests_once
often_once (suc n) doing way = λ old end stop one other a b.
    let same = way old b.0 a.0 b.1 a.1 b.2 a.2 in
    follows_once (Often n doing) (often_once n doing way) a.0 a.1 end stop one other a.3
    (subst (λ (s : Scene). GoesOnFrom (Often n doing) a.0 s stop other) same.1
    (subst (λ (before : Option Stop). GoesOnFrom (Often n doing) before b.1 stop other) same.0 b.3))

of_world_once : (execution : Execution) (old : Scene) → GoesOneWayFrom execution old.world → OneEndFrom (OfWorld execution) old
of_world_once execution old way = λ end stop one other a b.
    let same = way a.0 b.0 one.world other.world a.1 b.1 in
    (a.2 ∙ ap (λ (reason : Option StepError). option_map Refused reason) same.0 ∙ sym b.2, same_scene one other same.1 (a.3 ∙ sym b.3))

expects_once : (P : Type 0) → OneEnd (Expects P)
expects_once P = λ old end stop one other a b. (by_either end stop a.1 b.1, a.0 ∙ sym b.0)
  where
    by_either : (end stop : Option Stop) → ((end ≡ None) × P) ⊎ ((end ≡ Some ExpectFailed) × (P → ⊥)) → ((stop ≡ None) × P) ⊎ ((stop ≡ Some ExpectFailed) × (P → ⊥)) →
        end ≡ stop
    by_either end stop (inl a) (inl b) = a.0 ∙ sym b.0
    by_either end stop (inl a) (inr b) = absurd (b.1 a.1)
    by_either end stop (inr a) (inl b) = absurd (a.1 b.1)
    by_either end stop (inr a) (inr b) = a.0 ∙ sym b.0

module _ (switch : SwitchRule) (manager : ManagerRule) (host : HostRule) (switches : LeavesSwitchNoChoice switch) (managers : LeavesManagerNoChoice manager)
    (hosts : LeavesHostNoChoice host) where
  happens_once : (events : List Event) → OneEnd (Happen switch manager host events)
  happens_once events = λ old.
      of_world_once (MakesAll switch manager host events) old (makes_all_one_way switch manager host switches managers hosts events old.world)

  plays_once : (h : HostNo) (raw : Bool) (o : Option Recorded) → OneEnd (PlaysRecord switch manager host h raw o)
  plays_once h raw None = λ old end stop one other a b. (a.0 ∙ sym b.0, a.1 ∙ sym b.1)
  plays_once h raw (Some r) = λ old.
      of_world_once (Makes switch manager host (event.Play h r.frame r.original raw)) (asked_more old h.0)
      (makes_one_way switch manager host switches managers hosts (event.Play h r.frame r.original raw) old.world)

  next_once : (records : List (List Recorded)) (h : HostNo) (raw : Bool) → OneEnd (AsksNext switch manager host records h raw)
  next_once records h raw = λ old. plays_once h raw (slice_get (records_at records h) (asked_of old h.0)) old

  asks_once : (records : List (List Recorded)) (h : HostNo) (raw : Bool) (count : Count) → OneEnd (Asks switch manager host records h raw count)
  asks_once records h raw (N times) = often_once times (AsksNext switch manager host records h raw) (next_once records h raw)
  asks_once records h raw count.All = λ old. often_once (left_of records old h) (AsksNext switch manager host records h raw) (next_once records h raw) old

  settles_once : (rounds : ℕ) → OneEnd (SettlesAsAsked switch manager host rounds)
  settles_once rounds old end stop one other (inl a) (inl b) =
      let same = settles_one_way switch manager host switches managers hosts rounds old.world a.1 b.1 a.0 b.0 a.2 b.2 in (
        a.3 ∙ sym b.3,
        a.4 ∙ ap (λ (answer : Settling). made (noted a.1 (outcome answer)) old.asked) same.0 ∙ ap (λ (w : WorldView). made (noted w (outcome b.0)) old.asked) same.1
            ∙ sym b.4,
      )
  settles_once rounds old end stop one other (inl a) (inr b) =
      absurd (settles_unrefused switch manager host switches managers hosts rounds old.world a.1 other.world a.0 b.0 a.2 b.1)
  settles_once rounds old end stop one other (inr a) (inl b) =
      absurd (settles_unrefused switch manager host switches managers hosts rounds old.world b.1 one.world b.0 a.0 b.2 a.1)
  settles_once rounds old end stop one other (inr a) (inr b) =
      let same = goes_rounds_one_way switch manager host switches managers hosts rounds old.world (Some a.0) (Some b.0) one.world other.world a.1 b.1 in
      (a.2 ∙ ap (λ (reason : Option StepError). option_map Refused reason) same.0 ∙ sym b.2, same_scene one other same.1 (a.3 ∙ sym b.3))

  drains_once : (sweeps : ℕ) → OneEnd (DrainsAsAsked switch manager host sweeps)
  drains_once sweeps old end stop one other (inl a) (inl b) =
      let same = drains_one_way switch manager host switches managers hosts sweeps old.world a.1 b.1 a.0 b.0 a.2 b.2 in (
        a.3 ∙ sym b.3,
        a.4 ∙ ap (λ (answer : Settling). made (noted a.1 (outcome answer)) old.asked) same.0 ∙ ap (λ (w : WorldView). made (noted w (outcome b.0)) old.asked) same.1
            ∙ sym b.4,
      )
  drains_once sweeps old end stop one other (inl a) (inr b) =
      absurd (drains_unrefused switch manager host switches managers hosts sweeps old.world a.1 other.world a.0 b.0 a.2 b.1)
  drains_once sweeps old end stop one other (inr a) (inl b) =
      absurd (drains_unrefused switch manager host switches managers hosts sweeps old.world b.1 one.world b.0 a.0 b.2 a.1)
  drains_once sweeps old end stop one other (inr a) (inr b) =
      let same = goes_sweeps_one_way switch manager host switches managers hosts sweeps old.world (Some a.0) (Some b.0) one.world other.world a.1 b.1 in
      (a.2 ∙ ap (λ (reason : Option StepError). option_map Refused reason) same.0 ∙ sym b.2, same_scene one other same.1 (a.3 ∙ sym b.3))

  does_once : (records : List (List Recorded)) (command : Command) → OneEnd (Does switch manager host records command)
  does_once records (Start who) = λ old. happens_once (map event.Start (hosts_meant old.world.plan who)) old
  does_once records (Send h count) = asks_once records h false count
  does_once records (Raw h count) = asks_once records h true count
  does_once records (Retry who) = λ old. happens_once (map event.Retry (hosts_meant old.world.plan who)) old
  does_once records (Join h group) = happens_once (event.Join h group ∷ [])
  does_once records (Leave h group) = happens_once (event.Leave h group ∷ [])
  does_once records (Move h s port) = happens_once (event.Move h s port ∷ [])
  does_once records (Fail a b) = happens_once (event.Fail a b ∷ [])
  does_once records (Repair a b) = happens_once (event.Repair a b ∷ [])
  does_once records (Lose a b) = λ old. happens_once (loss a (port_towards old.world.plan a.0 b.0) ∷ []) old
  does_once records (Deliver from to) = λ old. happens_once (delivery (queue_between old.world from to) ∷ []) old
  does_once records (Tick (Some s)) = happens_once (event.Tick s ∷ [])
  does_once records (Tick None) = λ old. of_world_once (TicksAll switch manager host) old (ticks_all_one_way switch manager host switches managers hosts old.world)
  does_once records (Sweep times) = λ old.
      of_world_once (Times times (Sweeps switch manager host)) old
      (times_one_way times (Sweeps switch manager host) (sweeps_one_way switch manager host switches managers hosts) old.world)
  does_once records (Settle rounds) = settles_once rounds
  does_once records (Drain sweeps) = drains_once sweeps
  does_once records Restart = happens_once (event.Restart ∷ [])
  does_once records (Random number steps) = λ old.
      of_world_once (Draws switch manager host steps number) old (draws_one_way switch manager host switches managers hosts steps number old.world)
  does_once records (ExpectArrived h many) = λ old. expects_once (arrivals old.world.journal h ≡ many) old
  does_once records (ExpectDropped cause many) = λ old. expects_once (endings old.world.journal cause ≡ many) old
  does_once records (ExpectAddress h pmac) = λ old. expects_once (IsNewest old.world.journal h pmac) old
  does_once records ExpectSettled = λ old. expects_once (IsTrue (ended_settled old.world.journal)) old

  line_once : (records : List (List Recorded)) (line : ScriptLine) → OneEnd (DoesLine switch manager host records line)
  line_once records line = λ old. does_once records line.command (begun old line.number)

  goes_on_once : (number : ℕ) (rest : Option (ℕ × Stop) → Scene → Type 0) (stop : Option Stop) (between : Scene) (end last : Option (ℕ × Stop)) (one other : Scene) →
      (rest end one → rest last other → (end ≡ last) × (one ≡ other)) → GoesOn switch manager host number rest stop between end one →
      GoesOn switch manager host number rest stop between last other → (end ≡ last) × (one ≡ other)
  goes_on_once number rest None between end last one other way a b = way a b
  goes_on_once number rest (Some stop) between end last one other way a b = (a.0 ∙ sym b.0, a.1 ∙ sym b.1)

  pub lines_once : (records : List (List Recorded)) (lines : List ScriptLine) (old : Scene) (end last : Option (ℕ × Stop)) (one other : Scene) →
      DoesLines switch manager host records lines old end one → DoesLines switch manager host records lines old last other → (end ≡ last) × (one ≡ other)
  lines_once records [] old end last one other a b = (a.0 ∙ sym b.0, a.1 ∙ sym b.1)
  lines_once records (line ∷ lines) old end last one other a b =
      let same = line_once records line old b.0 a.0 b.1 a.1 b.2 a.2 in
      goes_on_once line.number (DoesLines switch manager host records lines a.1) a.0 a.1 end last one other (lines_once records lines a.1 end last one other) a.3
      (subst (λ (s : Scene). GoesOn switch manager host line.number (DoesLines switch manager host records lines s) a.0 s last other) same.1
      (subst (λ (stop : Option Stop). GoesOn switch manager host line.number (DoesLines switch manager host records lines b.1) stop b.1 last other) same.0 b.3))

  pub plays_one_way : (plan : Plan) (limits : Limits) (records : List (List Recorded)) (lines : List ScriptLine) (end other : Option (ℕ × Stop)) (scene another : Scene) →
      Plays switch manager host plan limits records lines end scene → Plays switch manager host plan limits records lines other another →
      (end ≡ other) × (scene ≡ another)
  plays_one_way plan limits records lines end other scene another a b = lines_once records lines (first_scene plan limits) end other scene another a b
