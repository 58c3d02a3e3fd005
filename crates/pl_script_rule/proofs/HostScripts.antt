-- What a script that is played to its end asks of a host.
use Rattle.std.proofs.Common.{◌≡◌, ◌≢◌, ℕ, zero, suc, ◌+◌, ◌-◌, ◌<◌, ◌≤◌, ◌==◌, Bool, true, false, if◌then◌else◌, List, [], ◌∷◌, ◌++◌, length, map, replicate, take, drop, MatchOption, Option, Some, None, option_map, set, slice_get, slice_index_or, inl, inr, refl, sym, ◌∙◌, ap, subst, arith}
use Rattle.std.specs.List.{flat_map, range_with_len}
use Rattle.std.proofs.Math.Numerals.{add-one}
use Rattle.std.proofs.lemmas.Bool.{cases_lt, eqb-false, eqb-true}
use Rattle.std.proofs.lemmas.Bool.Decides.{eqb_tells}
use Rattle.std.proofs.lemmas.List.{append-nil, get_or-replicate, get_or-set_other, get_or-set_same, length-drop, length-replicate, length-set, take_all}
use Rattle.std.proofs.lemmas.Option.{slice_get-map, slice_get_within}
use Rattle.std.proofs.Math.ListN.{drop_of_length-le}
use Rattle.pl_wiring.specs.declared.host.Host.{Host}
use Rattle.pl_wiring.specs.declared.host.HostNo.{HostNo}
use Rattle.pl_wiring.specs.declared.label.SwitchNo.{SwitchNo}
use Rattle.pl_wiring.specs.declared.link.Link.{Link}
use Rattle.pl_wiring.specs.Plan.{Plan}
use Rattle.pl_journal.specs.declared.entry.Entry.{Entry}
use Rattle.pl_journal.specs.declared.entry.Entry.TheVariants.{Line}
use Rattle.pl_script.specs.declared.command.Command.{Command}
use Rattle.pl_script.specs.declared.command.Command.TheVariants.{Deliver, Drain, ExpectAddress, ExpectArrived, ExpectDropped, ExpectSettled, Fail, Join, Leave, Lose, Move, Random, Raw, Repair, Restart, Retry, Send, Settle, Start, Sweep, Tick}
use Rattle.pl_script.specs.declared.command.Count.{Count}
use Rattle.pl_script.specs.declared.command.Count.TheVariants as count
use Rattle.pl_script.specs.declared.command.Count.TheVariants.{N}
use Rattle.pl_script.specs.declared.command.Who.{Who}
use Rattle.pl_script.specs.declared.command.Who.TheVariants as who
use Rattle.pl_script.specs.declared.command.Who.TheVariants.{One}
use Rattle.pl_script.specs.declared.script.ScriptLine.{ScriptLine}
use Rattle.pl_inputs.specs.Records.{Recorded}
use Rattle.pl_node.specs.HostInputs.{HostInput, HostRule}
use Rattle.pl_node.specs.HostInputs.HostInput.{Retries, Starts}
use Rattle.pl_node.specs.HostViews.{boot_host}
use Rattle.pl_node.specs.ManagerDuties.{ManagerRule}
use Rattle.pl_node.specs.SwitchInputs.{SwitchRule}
use Rattle.pl_world.specs.declared.error.StepError.{StepError}
use Rattle.pl_world.specs.declared.error.StepError.TheVariants.{NothingThere}
use Rattle.pl_world.specs.declared.event.Event.{Event}
use Rattle.pl_world.specs.declared.event.Event.TheVariants as event
use Rattle.pl_world.specs.declared.event.QueueName.{QueueName}
use Rattle.pl_world.specs.declared.limits.Limits.{Limits}
use Rattle.pl_world.specs.Booting.{booted, host_table, me_of}
use Rattle.pl_world.specs.Changes.{host_no, noted, switch_no}
use Rattle.pl_world.specs.Refusals.{refusal}
use Rattle.pl_world.specs.Runs.{WorldRun}
use Rattle.pl_world.specs.Runs.Moment.{Step}
use Rattle.pl_world.specs.WorldRule.{WorldStep, played_as as played_in}
use Rattle.pl_world.specs.Worlds.{WorldView}
use Rattle.pl_fabric.specs.declared.settling.Settling.{Settling}
use Rattle.pl_fabric.specs.declared.settling.Settling.TheVariants.{NotSettled, Settled}
use Rattle.pl_fabric.specs.Executions.{Execution, GoesOnBehind as StepsOn, Makes, MakesAll, Then, Times}
use Rattle.pl_fabric.specs.Draws.{Draws}
use Rattle.pl_fabric.specs.Rounds.{Sweeps, TicksAll}
use Rattle.pl_law_bridge.specs.TreeWorld.{failures_of, is_off_tree}
use Rattle.pl_script_rule.specs.declared.stop.Stop.{Stop}
use Rattle.pl_script_rule.specs.declared.stop.Stop.TheVariants.{Refused}
use Rattle.pl_script_rule.specs.Asked.{Behaviour, DoesAsAsked, Lives, asked_along, asked_by, asked_of_host, behaviour_in, is_meant, later_records, left_by, next_records, played_as}
use Rattle.pl_script_rule.specs.Lines.{Asks as AsksFor, AsksNext, Does, DoesLine, DoesLines, DrainsAsAsked, GoesOn, Happen, Plays as Played, PlaysRecord, SettlesAsAsked, hosts_meant, left_of, outcome, records_at}
use Rattle.pl_script_rule.specs.Queues.{delivery, loss, port_towards, queue_between}
use Rattle.pl_script_rule.specs.Scenes.{SceneExecution, GoesOnFrom, OfWorld, Often, Scene, asked_more, asked_of, begun, first_scene}
use Rattle.pl_script_rule.proofs.Along.{Along, Holds, drains_along, draws_along, rounds_along, sweeps_along, ticks_along, times_along}
use Rattle.pl_script_rule.proofs.HostSteps.{Asks, asks_more, asks_nothing, notes}
use Rattle.pl_script_rule.proofs.HostTurns.{asked_in, step_asks, unseen}

-- what is left from a place on begins with what stands there
drop_at : {T : Type 0} (xs : List T) (n : ℕ) (x : T) → slice_get xs n ≡ Some x → drop n xs ≡ x ∷ drop (suc n) xs
drop_at [] n x there = absurd (cc)
drop_at (y ∷ xs) zero x there = let e : y ≡ x = cc in ap (λ z. z ∷ xs) e
drop_at (y ∷ xs) (suc n) x there = drop_at xs n x there

below : (a b : ℕ) → a ≤ b → a ≢ b → a < b
below a b most other = elim (cases_lt a b) [
  | inl less ↦ less
  | inr least ↦ absurd (other (omega arith))
]

same_play : (raw : Bool) (r : Recorded) → played_in raw r.frame r.original ≡ played_as raw r
same_play true r = refl
same_play false r = refl

loss_asks : (n : ℕ) (s : SwitchNo) (port : Option ℕ) → asked_in n (loss s port) ++ [] ≡ []
loss_asks n s None = refl
loss_asks n s (Some port) = refl

delivery_asks : (n : ℕ) (name : Option QueueName) → asked_in n (delivery name) ++ [] ≡ []
delivery_asks n None = refl
delivery_asks n (Some name) = refl

-- ---- an event for each host that is meant asks each of them once
module _ (n : ℕ) (happens : HostNo → Event) (input : HostInput) (is : (h : HostNo) → asked_in n (happens h) ≡ (if h.0 == n then input ∷ [] else [])) where
  abbrev for_hosts : ℕ → ℕ → List HostInput
  for_hosts from many = flat_map (asked_in n) (map happens (map host_no (range_with_len from many)))

  not_of_another : (h : ℕ) → (h == n) ≡ false → asked_in n (happens (host_no h)) ≡ []
  not_of_another h test = is (host_no h) ∙ ap (λ (b : Bool). if b then input ∷ [] else []) test

  of_itself : (h : ℕ) → (h == n) ≡ true → asked_in n (happens (host_no h)) ≡ input ∷ []
  of_itself h test = is (host_no h) ∙ ap (λ (b : Bool). if b then input ∷ [] else []) test

  past : (from many : ℕ) → n < from → for_hosts from many ≡ []
  past from zero less = refl
  past from (suc many) less = elim (eqb_tells from n) [
    | inl same ↦ let e = same.1 in absurd (omega arith)
    | inr other ↦
        ap (λ (xs : List HostInput). xs ++ for_hosts (from + 1) many) (not_of_another from other.0) ∙ past (from + 1) many (omega arith)
  ]

  within : (from many : ℕ) → from ≤ n → n < from + many → for_hosts from many ≡ input ∷ []
  within from zero low high = absurd (omega arith)
  within from (suc many) low high = elim (eqb_tells from n) [
    | inl same ↦
        ap (λ (xs : List HostInput). xs ++ for_hosts (from + 1) many) (of_itself from same.0)
        ∙ ap (λ (xs : List HostInput). input ∷ xs) (past (from + 1) many (let e = same.1 in omega arith))
    | inr other ↦
        ap (λ (xs : List HostInput). xs ++ for_hosts (from + 1) many) (not_of_another from other.0)
        ∙ within (from + 1) many (let less : from < n = below from n low other.1 in omega arith) (omega arith)
  ]

  pub each_meant : (who : Who) (plan : Plan) → n < length plan.hosts → flat_map (asked_in n) (map happens (hosts_meant plan who)) ≡ (if is_meant n who then input ∷ [] else [])
  each_meant (One h) plan there = append-nil (asked_in n (happens h)) ∙ is h
  each_meant who.All plan there = within 0 (length plan.hosts) (omega arith) (omega (arith, there))

module _ (switch : SwitchRule) (manager : ManagerRule) (rule : HostRule) (n : ℕ) where
  -- ---- executions that come to their end
  abbrev AsksIn : Execution → List HostInput → Type 0
  AsksIn execution asks = (old new : WorldView) → execution old None new → Asks rule n old asks new

  by_refusal : (e : Event) (old new : WorldView) (o : Option StepError) →
      MatchOption o ((◌≡◌ {A = Option StepError} None None) × WorldStep switch manager rule old e new) (λ reason. (None ≡ Some reason) × (new ≡ old)) →
      Asks rule n old (asked_in n e) new
  by_refusal e old new None done = step_asks n switch manager rule old e new done.1
  by_refusal e old new (Some reason) done = let refused : None ≡ Some reason = done.0 in absurd (cc)

  makes_ask : (e : Event) → AsksIn (Makes switch manager rule e) (asked_in n e)
  makes_ask e = λ old new done. by_refusal e old new (refusal old e) done

  at_stop : (next : Execution) (asks more : List HostInput) → AsksIn next more → (stop : Option StepError) (old between new : WorldView) →
      (stop ≡ None → Asks rule n old asks between) → StepsOn next stop between None new → Asks rule n old (asks ++ more) new
  at_stop next asks more further None old between new first done =
      asks_more rule n old between new asks more (first refl) (further between new done)
  at_stop next asks more further (Some reason) old between new first done = let refused : None ≡ Some reason = done.0 in absurd (cc)

  then_asks : (first next : Execution) (asks more : List HostInput) → AsksIn first asks → AsksIn next more → AsksIn (Then first next) (asks ++ more)
  then_asks first next asks more way further = λ old new done.
      at_stop next asks more further done.0 old done.1 new
      (λ none. way old done.1 (subst (λ (stop : Option StepError). first old stop done.1) none done.2)) done.3

  all_ask : (events : List Event) → AsksIn (MakesAll switch manager rule events) (flat_map (asked_in n) events)
  all_ask [] = λ old new done. subst (λ (w : WorldView). Asks rule n old [] w) (sym done.1) (asks_nothing rule n old)
  all_ask (e ∷ events) =
      then_asks (Makes switch manager rule e) (MakesAll switch manager rule events) (asked_in n e) (flat_map (asked_in n) events) (makes_ask e) (all_ask events)

  -- ---- deliveries and ticks ask nothing
  abbrev AsksNothing : WorldView → WorldView → Type 0
  AsksNothing old new = Asks rule n old [] new

  quiet : (w : WorldView) → AsksNothing w w
  quiet w = asks_nothing rule n w

  quiet_on : (a b c : WorldView) → AsksNothing a b → AsksNothing b c → AsksNothing a c
  quiet_on a b c first next = asks_more rule n a b c [] [] first next

  delivered : (name : QueueName) → Holds switch manager rule AsksNothing (event.Deliver name)
  delivered name = λ old new is step. step_asks n switch manager rule old (event.Deliver name) new step

  ticked : (s : ℕ) → Holds switch manager rule AsksNothing (event.Tick (switch_no s))
  ticked s = λ old new is step. step_asks n switch manager rule old (event.Tick (switch_no s)) new step

  writes : (w : WorldView) (e : Entry) → behaviour_in n (e ∷ []) ≡ [] → AsksNothing w (noted w e)
  writes w e none = unseen n rule w (noted w e)
      (notes n w.plan (slice_get w.hosts n) w e (behaviour_in n w.journal) none (record { same = refl; there = refl; shown = refl }))

  outcome_shows : (answer : Settling) → behaviour_in n (outcome answer ∷ []) ≡ []
  outcome_shows (Settled rounds) = refl
  outcome_shows (NotSettled pending) = refl

  -- ---- scenes
  -- of the wiring; so many records of the host were asked for, and these are left
  pub record Stage (records : List (List Recorded)) (plan : Plan) (left : List Recorded) (now : Plan) (asked : List ℕ) : Type 0 where
    pub planned : now ≡ plan
    pub counted : length asked ≡ length plan.hosts
    pub left_are : left ≡ drop (slice_index_or asked n 0) (slice_index_or records n [])

  record Did (records : List (List Recorded)) (plan : Plan) (asks : List HostInput) (later : List Recorded) (old new : Scene) : Type 0 where
    asks_of : Asks rule n old.world asks new.world
    stage : Stage records plan later new.world.plan new.asked

  module _ (records : List (List Recorded)) (plan : Plan) (there : n < length plan.hosts) where
    abbrev At : List Recorded → Scene → Type 0
    At left s = Stage records plan left s.world.plan s.asked

    abbrev So : List HostInput → List Recorded → Scene → Scene → Type 0
    So asks later old new = Did records plan asks later old new

    did_nothing : (left : List Recorded) (old new : Scene) → At left old → new ≡ old → So [] left old new
    did_nothing left old new at is = subst (λ (s : Scene). So [] left old s) (sym is) (record { asks_of = asks_nothing rule n old.world; stage = at })

    -- at its end an execution has done this, and of no more records was asked
    by_end : (execution : Execution) (asks : List HostInput) → AsksIn execution asks → (old new : Scene) (stop : Option StepError) → execution old.world stop new.world →
        None ≡ option_map Refused stop → Asks rule n old.world asks new.world
    by_end execution asks way old new None done end = way old.world new.world done
    by_end execution asks way old new (Some reason) done end = let refused : None ≡ Some (Refused reason) = end in absurd (cc)

    of_world : (execution : Execution) (asks : List HostInput) → AsksIn execution asks → (left : List Recorded) (old new : Scene) → At left old →
        OfWorld execution old None new → So asks left old new
    of_world execution asks way left old new at done =
        let asked : Asks rule n old.world asks new.world = by_end execution asks way old new done.0 done.1 done.2 in
        record {
          asks_of = asked;
          stage = record {
            planned = asked.same ∙ at.planned;
            counted = ap (λ (xs : List ℕ). length xs) done.3 ∙ at.counted;
            left_are = at.left_are ∙ ap (λ (xs : List ℕ). drop (slice_index_or xs n 0) (slice_index_or records n [])) (sym done.3);
          };
        }

    happen : (events : List Event) (asks : List HostInput) → flat_map (asked_in n) events ≡ asks → (left : List Recorded) (old new : Scene) → At left old →
        Happen switch manager rule events old None new → So asks left old new
    happen events asks are left old new at done =
        subst (λ (xs : List HostInput). So xs left old new) are
        (of_world (MakesAll switch manager rule events) (flat_map (asked_in n) events) (all_ask events) left old new at done)

    happens : (e : Event) → (left : List Recorded) (old new : Scene) → At left old → Happen switch manager rule (e ∷ []) old None new → So (asked_in n e) left old new
    happens e left old new at done = happen (e ∷ []) (asked_in n e) (append-nil (asked_in n e)) left old new at done

    of_quiet : (execution : Execution) → Along AsksNothing execution → (left : List Recorded) (old new : Scene) → At left old → OfWorld execution old None new → So [] left old new
    of_quiet execution way left old new at done = of_world execution [] (λ w v is. way w None v is) left old new at done

    settles : (rounds : ℕ) (left : List Recorded) (old new : Scene) → At left old → SettlesAsAsked switch manager rule rounds old None new → So [] left old new
    settles rounds left old new at (inl done) =
        let asks : AsksNothing old.world (noted done.1 (outcome done.0)) =
        quiet_on old.world done.1 (noted done.1 (outcome done.0))
        (rounds_along switch manager rule AsksNothing quiet quiet_on delivered ticked done.2.used old.world None done.1 done.2.rounds)
        (writes done.1 (outcome done.0) (outcome_shows done.0)) in
        subst (λ (s : Scene). So [] left old s) (sym done.4) (record {
          asks_of = asks;
          stage = record { planned = asks.same ∙ at.planned; counted = at.counted; left_are = at.left_are };
        })
    settles rounds left old new at (inr done) = let refused : None ≡ Some (Refused done.0) = done.2 in absurd (cc)

    drains : (sweeps : ℕ) (left : List Recorded) (old new : Scene) → At left old → DrainsAsAsked switch manager rule sweeps old None new → So [] left old new
    drains sweeps left old new at (inl done) =
        let asks : AsksNothing old.world (noted done.1 (outcome done.0)) =
        quiet_on old.world done.1 (noted done.1 (outcome done.0))
        (drains_along switch manager rule AsksNothing quiet quiet_on delivered ticked done.2.used old.world None done.1 done.2.sweeps)
        (writes done.1 (outcome done.0) (outcome_shows done.0)) in
        subst (λ (s : Scene). So [] left old s) (sym done.4) (record {
          asks_of = asks;
          stage = record { planned = asks.same ∙ at.planned; counted = at.counted; left_are = at.left_are };
        })
    drains sweeps left old new at (inr done) = let refused : None ≡ Some (Refused done.0) = done.2 in absurd (cc)

    -- ---- records
    -- the record that was asked for, and those that are left then
    record Next (raw : Bool) (left : List Recorded) (old new : Scene) : Type 0 where
      first : Recorded
      rest : List Recorded
      are : left ≡ first ∷ rest
      did : So (played_as raw first ∷ []) rest old new

    asks_own : (h : HostNo) (raw : Bool) (left : List Recorded) (old new : Scene) → (h.0 == n) ≡ true → At left old → (o : Option Recorded) →
        slice_get (records_at records h) (asked_of old h.0) ≡ o → PlaysRecord switch manager rule h raw o old None new → Next raw left old new
    asks_own h raw left old new own at None found done = let refused : None ≡ Some (Refused NothingThere) = done.0 in absurd (cc)
    asks_own h raw left old new own at (Some r) found done =
        let same : h.0 ≡ n = eqb-true h.0 n own in
        let found_here : slice_get (slice_index_or records n []) (slice_index_or old.asked n 0) ≡ Some r =
        subst (λ (i : ℕ). slice_get (slice_index_or records i []) (slice_index_or old.asked i 0) ≡ Some r) same found in
        let asked : new.asked ≡ set old.asked n (slice_index_or old.asked n 0 + 1) =
        done.3 ∙ ap (λ (i : ℕ). set old.asked i (slice_index_or old.asked i 0 + 1)) same in
        let next : slice_index_or new.asked n 0 ≡ suc (slice_index_or old.asked n 0) =
        ap (λ (xs : List ℕ). slice_index_or xs n 0) asked
        ∙ get_or-set_same old.asked n (slice_index_or old.asked n 0 + 1) 0 (let e = at.counted in omega (arith, there))
        ∙ add-one (slice_index_or old.asked n 0) in
        let play : Asks rule n old.world (if h.0 == n then played_in raw r.frame r.original ∷ [] else []) new.world =
        by_end (Makes switch manager rule (event.Play h r.frame r.original raw)) (asked_in n (event.Play h r.frame r.original raw))
        (makes_ask (event.Play h r.frame r.original raw)) (asked_more old h.0) new done.0 done.1 done.2 in
        record {
          first = r;
          rest = drop (suc (slice_index_or old.asked n 0)) (slice_index_or records n []);
          are = at.left_are ∙ drop_at (slice_index_or records n []) (slice_index_or old.asked n 0) r found_here;
          did = record {
            asks_of = subst (λ (asks : List HostInput). Asks rule n old.world asks new.world)
                (ap (λ (b : Bool). if b then played_in raw r.frame r.original ∷ [] else []) own ∙ ap (λ (i : HostInput). i ∷ []) (same_play raw r)) play;
            stage = record {
              planned = play.same ∙ at.planned;
              counted = ap (λ (xs : List ℕ). length xs) asked ∙ length-set old.asked n (slice_index_or old.asked n 0 + 1) ∙ at.counted;
              left_are = ap (λ (i : ℕ). drop i (slice_index_or records n [])) (sym next);
            };
          };
        }

    asks_another : (h : HostNo) (raw : Bool) (left : List Recorded) (old new : Scene) → (h.0 == n) ≡ false → At left old → (o : Option Recorded) →
        PlaysRecord switch manager rule h raw o old None new → So [] left old new
    asks_another h raw left old new other at None done = let refused : None ≡ Some (Refused NothingThere) = done.0 in absurd (cc)
    asks_another h raw left old new other at (Some r) done =
        let same : slice_index_or new.asked n 0 ≡ slice_index_or old.asked n 0 =
        ap (λ (xs : List ℕ). slice_index_or xs n 0) done.3
        ∙ get_or-set_other old.asked h.0 n (asked_of old h.0 + 1) 0 (λ e. eqb-false h.0 n other (sym e)) in
        let play : Asks rule n old.world (if h.0 == n then played_in raw r.frame r.original ∷ [] else []) new.world =
        by_end (Makes switch manager rule (event.Play h r.frame r.original raw)) (asked_in n (event.Play h r.frame r.original raw))
        (makes_ask (event.Play h r.frame r.original raw)) (asked_more old h.0) new done.0 done.1 done.2 in
        record {
          asks_of = subst (λ (asks : List HostInput). Asks rule n old.world asks new.world)
              (ap (λ (b : Bool). if b then played_in raw r.frame r.original ∷ [] else []) other) play;
          stage = record {
            planned = play.same ∙ at.planned;
            counted = ap (λ (xs : List ℕ). length xs) done.3 ∙ length-set old.asked h.0 (asked_of old h.0 + 1) ∙ at.counted;
            left_are = at.left_are ∙ ap (λ (i : ℕ). drop i (slice_index_or records n [])) (sym same);
          };
        }

    did_more : (asks more : List HostInput) (later last : List Recorded) (old between new : Scene) → So asks later old between → So more last between new →
        So (asks ++ more) last old new
    did_more asks more later last old between new first next =
        record { asks_of = asks_more rule n old.world between.world new.world asks more first.asks_of next.asks_of; stage = next.stage }

    -- where nothing was stopped, what comes next was done too
    through : (next : SceneExecution) (stop : Option Stop) (between new : Scene) → GoesOnFrom next stop between None new → (stop ≡ None) × next between None new
    through next None between new done = (refl, done)
    through next (Some stop) between new done = let stopped : None ≡ Some stop = done.0 in absurd (cc)

    own_times : (times : ℕ) (h : HostNo) (raw : Bool) (left : List Recorded) (old new : Scene) → (h.0 == n) ≡ true → At left old →
        Often times (AsksNext switch manager rule records h raw) old None new → So (map (played_as raw) (take times left)) (drop times left) old new
    own_times zero h raw left old new own at done = did_nothing left old new at done.1
    own_times (suc times) h raw left old new own at done =
        let on = through (Often times (AsksNext switch manager rule records h raw)) done.0 done.1 new done.3 in
        let first : Next raw left old done.1 =
        asks_own h raw left old done.1 own at (slice_get (records_at records h) (asked_of old h.0)) refl
        (subst (λ (stop : Option Stop). AsksNext switch manager rule records h raw old stop done.1) on.0 done.2) in
        subst (λ (xs : List Recorded). So (map (played_as raw) (take (suc times) xs)) (drop (suc times) xs) old new) (sym first.are)
        (did_more (played_as raw first.first ∷ []) (map (played_as raw) (take times first.rest)) first.rest (drop times first.rest) old done.1 new first.did
        (own_times times h raw first.rest done.1 new own first.did.stage on.1))

    others_times : (times : ℕ) (h : HostNo) (raw : Bool) (left : List Recorded) (old new : Scene) → (h.0 == n) ≡ false → At left old →
        Often times (AsksNext switch manager rule records h raw) old None new → So [] left old new
    others_times zero h raw left old new other at done = did_nothing left old new at done.1
    others_times (suc times) h raw left old new other at done =
        let on = through (Often times (AsksNext switch manager rule records h raw)) done.0 done.1 new done.3 in
        let first : So [] left old done.1 =
        asks_another h raw left old done.1 other at (slice_get (records_at records h) (asked_of old h.0))
        (subst (λ (stop : Option Stop). AsksNext switch manager rule records h raw old stop done.1) on.0 done.2) in
        did_more [] [] left left old done.1 new first (others_times times h raw left done.1 new other first.stage on.1)

    -- as many as are left are all that are left
    own_count : (count : Count) (h : HostNo) (raw : Bool) (left : List Recorded) (old new : Scene) → (h.0 == n) ≡ true → At left old →
        AsksFor switch manager rule records h raw count old None new → So (map (played_as raw) (next_records count left)) (later_records count left) old new
    own_count (N times) h raw left old new own at done = own_times times h raw left old new own at done
    own_count count.All h raw left old new own at done =
        let same : h.0 ≡ n = eqb-true h.0 n own in
        let many : length left ≡ left_of records old h =
        ap (λ (xs : List Recorded). length xs) at.left_are ∙ length-drop (slice_index_or old.asked n 0) (slice_index_or records n [])
        ∙ ap (λ (i : ℕ). length (slice_index_or records i []) - slice_index_or old.asked i 0) (sym same) in
        let did : So (map (played_as raw) (take (left_of records old h) left)) (drop (left_of records old h) left) old new =
        own_times (left_of records old h) h raw left old new own at done in
        subst (λ (xs : List Recorded). So (map (played_as raw) left) xs old new) (drop_of_length-le left (let e = many in omega arith))
        (subst (λ (xs : List Recorded). So (map (played_as raw) xs) (drop (left_of records old h) left) old new)
        (take_all (left_of records old h) left (let e = many in omega arith)) did)

    others_count : (count : Count) (h : HostNo) (raw : Bool) (left : List Recorded) (old new : Scene) → (h.0 == n) ≡ false → At left old →
        AsksFor switch manager rule records h raw count old None new → So [] left old new
    others_count (N times) h raw left old new other at done = others_times times h raw left old new other at done
    others_count count.All h raw left old new other at done = others_times (left_of records old h) h raw left old new other at done

    by_host : (own : Bool) (h : HostNo) (raw : Bool) (count : Count) (left : List Recorded) (old new : Scene) → (h.0 == n) ≡ own → At left old →
        AsksFor switch manager rule records h raw count old None new →
        So (if own then map (played_as raw) (next_records count left) else []) (if own then later_records count left else left) old new
    by_host true h raw count left old new own at done = own_count count h raw left old new own at done
    by_host false h raw count left old new other at done = others_count count h raw left old new other at done

    -- ---- commands and lines
    each : (happens : HostNo → Event) (input : HostInput) → ((h : HostNo) → asked_in n (happens h) ≡ (if h.0 == n then input ∷ [] else [])) → (who : Who) →
        (left : List Recorded) (old new : Scene) → At left old → Happen switch manager rule (map happens (hosts_meant old.world.plan who)) old None new →
        So (if is_meant n who then input ∷ [] else []) left old new
    each happens input is who left old new at done =
        happen (map happens (hosts_meant old.world.plan who)) (if is_meant n who then input ∷ [] else [])
        (each_meant n happens input is who old.world.plan (subst (λ (p : Plan). n < length p.hosts) (sym at.planned) there)) left old new at done

    does : (command : Command) (left : List Recorded) (old new : Scene) → At left old → Does switch manager rule records command old None new →
        So (asked_by n left command) (left_by n left command) old new
    does (Start who) left old new at done = each event.Start Starts (λ h. refl) who left old new at done
    does (Send h count) left old new at done = by_host (h.0 == n) h false count left old new refl at done
    does (Raw h count) left old new at done = by_host (h.0 == n) h true count left old new refl at done
    does (Retry who) left old new at done = each event.Retry Retries (λ h. refl) who left old new at done
    does (Join h group) left old new at done = happens (event.Join h group) left old new at done
    does (Leave h group) left old new at done = happens (event.Leave h group) left old new at done
    does (Move h s port) left old new at done = happens (event.Move h s port) left old new at done
    does (Fail a b) left old new at done = happens (event.Fail a b) left old new at done
    does (Repair a b) left old new at done = happens (event.Repair a b) left old new at done
    does (Lose a b) left old new at done =
        happen (loss a (port_towards old.world.plan a.0 b.0) ∷ []) [] (loss_asks n a (port_towards old.world.plan a.0 b.0)) left old new at done
    does (Deliver from to) left old new at done =
        happen (delivery (queue_between old.world from to) ∷ []) [] (delivery_asks n (queue_between old.world from to)) left old new at done
    does (Tick (Some s)) left old new at done = happens (event.Tick s) left old new at done
    does (Tick None) left old new at done =
        of_quiet (TicksAll switch manager rule) (ticks_along switch manager rule AsksNothing quiet quiet_on delivered ticked) left old new at done
    does (Sweep times) left old new at done =
        of_quiet (Times times (Sweeps switch manager rule))
        (times_along switch manager rule AsksNothing quiet quiet_on times (Sweeps switch manager rule) (sweeps_along switch manager rule AsksNothing quiet quiet_on delivered ticked))
        left old new at done
    does (Settle rounds) left old new at done = settles rounds left old new at done
    does (Drain sweeps) left old new at done = drains sweeps left old new at done
    does Restart left old new at done = happens event.Restart left old new at done
    does (Random number steps) left old new at done =
        of_quiet (Draws switch manager rule steps number) (draws_along switch manager rule AsksNothing quiet quiet_on delivered ticked steps number) left old new at done
    does (ExpectArrived h many) left old new at done = did_nothing left old new at done.0
    does (ExpectDropped cause many) left old new at done = did_nothing left old new at done.0
    does (ExpectAddress h pmac) left old new at done = did_nothing left old new at done.0
    does ExpectSettled left old new at done = did_nothing left old new at done.0

    does_line : (line : ScriptLine) (left : List Recorded) (old new : Scene) → At left old → DoesLine switch manager rule records line old None new →
        So (asked_by n left line.command) (left_by n left line.command) old new
    does_line line left old new at done =
        let begins : AsksNothing old.world (noted old.world (Line line.number)) = writes old.world (Line line.number) refl in
        did_more [] (asked_by n left line.command) left (left_by n left line.command) old (begun old line.number) new
        (record { asks_of = begins; stage = record { planned = at.planned; counted = at.counted; left_are = at.left_are } })
        (does line.command left (begun old line.number) new (record { planned = at.planned; counted = at.counted; left_are = at.left_are }) done)

    went_on : (number : ℕ) (rest : Option (ℕ × Stop) → Scene → Type 0) (stop : Option Stop) (between new : Scene) →
        GoesOn switch manager rule number rest stop between None new → (stop ≡ None) × rest None new
    went_on number rest None between new done = (refl, done)
    went_on number rest (Some stop) between new done = let stopped : ◌≡◌ {A = Option (ℕ × Stop)} None (Some (number, stop)) = done.0 in absurd (cc)

    pub does_lines : (lines : List ScriptLine) (left : List Recorded) (old new : Scene) → At left old → DoesLines switch manager rule records lines old None new →
        Asks rule n old.world (asked_along n left lines) new.world
    does_lines [] left old new at done = subst (λ (s : Scene). Asks rule n old.world [] s.world) (sym done.1) (asks_nothing rule n old.world)
    does_lines (line ∷ lines) left old new at done =
        let on = went_on line.number (DoesLines switch manager rule records lines done.1) done.0 done.1 new done.3 in
        let first : So (asked_by n left line.command) (left_by n left line.command) old done.1 =
        does_line line left old done.1 at (subst (λ (stop : Option Stop). DoesLine switch manager rule records line old stop done.1) on.0 done.2) in
        asks_more rule n old.world done.1.world new.world (asked_by n left line.command) (asked_along n (left_by n left line.command) lines) first.asks_of
        (does_lines lines (left_by n left line.command) done.1 new first.stage on.1)

  -- from a scene on in which nothing was asked of any host
  pub does_as_asked_from : (plan : Plan) (limits : Limits) (records : List (List Recorded)) (lines : List ScriptLine) (first : WorldView) (scene : Scene) (host : Host) →
      slice_get plan.hosts n ≡ Some host → Asks rule n (booted plan limits) [] first →
      DoesLines switch manager rule records lines (record { world = first; asked = replicate (length plan.hosts) 0 }) None scene →
      DoesAsAsked rule plan records lines n host scene.world
  unfolding asked_of_host
  does_as_asked_from plan limits records lines first scene host found begins done =
      let there : n < length plan.hosts = slice_get_within plan.hosts n host found in
      let on : Asks rule n first (asked_along n (slice_index_or records n []) lines) scene.world =
      does_lines records plan there lines (slice_index_or records n []) (record { world = first; asked = replicate (length plan.hosts) 0 }) scene (record {
        planned = begins.same;
        counted = length-replicate (length plan.hosts) 0;
        left_are = ap (λ (i : ℕ). drop i (slice_index_or records n [])) (sym (get_or-replicate (length plan.hosts) n 0 0 there));
      }) done in
      let asks : Asks rule n (booted plan limits) (asked_along n (slice_index_or records n []) lines) scene.world =
      asks_more rule n (booted plan limits) first scene.world [] (asked_along n (slice_index_or records n []) lines) begins on in
      let boots : slice_get (booted plan limits).hosts n ≡ Some (boot_host (me_of host) (host_table plan)) =
      slice_get-map (λ (h : Host). boot_host (me_of h) (host_table plan)) plan.hosts n ∙ ap (option_map (λ (h : Host). boot_host (me_of h) (host_table plan))) found in
      let lived = asks.lives (boot_host (me_of host) (host_table plan)) boots in
      record {
        inputs = lived.inputs;
        last = lived.last;
        lives = subst (λ (ds : List Behaviour). Lives rule (boot_host (me_of host) (host_table plan)) lived.inputs ds lived.last) (sym lived.shown) lived.lives;
        asked = lived.asked;
        now = lived.now;
      }

  pub does_as_asked : (plan : Plan) (limits : Limits) (records : List (List Recorded)) (lines : List ScriptLine) (scene : Scene) (host : Host) →
      slice_get plan.hosts n ≡ Some host → Played switch manager rule plan limits records lines None scene → DoesAsAsked rule plan records lines n host scene.world
  does_as_asked plan limits records lines scene host found done =
      does_as_asked_from plan limits records lines (booted plan limits) scene host found (quiet (booted plan limits)) done

  -- failing links ask nothing
  pub failures_ask_nothing : (k : ℕ) (links : List Link) (old new : WorldView) → WorldRun switch manager rule old (failures_of k links) new → Asks rule n old [] new
  failures_ask_nothing k [] old new run = subst (λ (w : WorldView). Asks rule n old [] w) (sym run) (quiet old)
  failures_ask_nothing k (link ∷ links) old new run = by (is_off_tree k link) (λ first rest. failures_ask_nothing k links first new rest) run
    where
      by : (b : Bool) → ((first : WorldView) → WorldRun switch manager rule first (failures_of k links) new → Asks rule n first [] new) →
          WorldRun switch manager rule old (if b then Step (event.Fail link.lower link.upper) ∷ failures_of k links else failures_of k links) new → Asks rule n old [] new
      by true next fails =
          quiet_on old fails.0 new (step_asks n switch manager rule old (event.Fail link.lower link.upper) fails.0 fails.1.1) (next fails.0 fails.2)
      by false next stays = next old stays
