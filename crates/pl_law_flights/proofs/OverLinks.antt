-- A data frame comes over a link.
use Rattle.std.proofs.Common.{◌≡◌, ℕ, zero, suc, ◌+◌, ◌<◌, ◌==◌, true, false, Contains, List, [], ◌∷◌, Some, reverse, set, slice_get, refl, sym, ◌∙◌, ap, subst, arith}
use Rattle.std.specs.List.{AllByRecursion}
use Rattle.std.proofs.lemmas.Bool.{cond-false, cond-true, eq-eqb}
use Rattle.pl_frame.specs.Ethernet.{destination_of}
use Rattle.pl_wiring.specs.declared.label.SwitchNo.{SwitchNo}
use Rattle.pl_wiring.specs.declared.link.Peer.{Peer}
use Rattle.pl_wiring.specs.declared.link.Peer.TheVariants.{Switch}
use Rattle.pl_wiring.specs.Index.{port_index}
use Rattle.pl_wiring.specs.Peers.{IsPort, peer_of}
use Rattle.pl_layouts.specs.declared.place.Place.{Place}
use Rattle.pl_layouts.specs.Control.{is_control}
use Rattle.pl_layouts.specs.Memberships.{is_group}
use Rattle.pl_journal.specs.declared.entry.Entry.{Entry}
use Rattle.pl_journal.specs.declared.entry.Entry.TheVariants.{Crossed}
use Rattle.pl_journal.specs.Flights.{Flight, flight_of, is_empty, trail, was_live}
use Rattle.pl_node.specs.Accounting.{AccountsForFrames}
use Rattle.pl_node.specs.PortRecords.{is_open_to_hosts, port_of}
use Rattle.pl_node.specs.SwitchInputs.SwitchInput.{Comes}
use Rattle.pl_node.specs.SwitchViews.{SwitchView}
use Rattle.pl_steps.specs.Steps.{SwitchStep}
use Rattle.pl_switch_rule.specs.Delivering.{addresses, arrives_home, destination}
use Rattle.pl_switch_rule.specs.Forwarding.{Choice}
use Rattle.pl_switch_rule.specs.Granting.{is_local}
use Rattle.pl_switch_rule.specs.Intake.{comes_from_host}
use Rattle.pl_switch_rule.specs.SwitchRule.{IsChoice, Loose, comes_from_switch, control_comes, data_comes, switch_step}
use Rattle.pl_world.specs.declared.item.Item.{Item}
use Rattle.pl_world.specs.declared.item.Item.TheVariants.{Data}
use Rattle.pl_world.specs.declared.spoken_frame.SpokenFrame.TheVariants.{Waiting}
use Rattle.pl_world.specs.Changes.{noted, out_of}
use Rattle.pl_world.specs.Flying.{IsCounted, IsFrame, times_in}
use Rattle.pl_world.specs.WorldRule.{SwitchTurn}
use Rattle.pl_world.specs.Worlds.{WorldView}
use Rattle.pl_world.proofs.Exports.{head_is_item, noted_owes, one, Owes, peer_is_port, sound, times_in-data, took_out_balance}
use Rattle.pl_law_flights.specs.OnTheWay.{IsBetweenSwitches, IsGoing, IsOut, IsJournaled, JournalSays, history_of, place_in}
use Rattle.pl_law_copies.specs.Standing.{KnowTrees}
use Rattle.pl_law_counts.proofs.Exports.{peer_back}
use Rattle.pl_law_flights.specs.Standing.{StandsOn}
use Rattle.pl_law_flights.proofs.Counting.{IsNowhere, IsOwed, counts, owed}
use Rattle.pl_law_flights.proofs.Crossing.{crosses_well}
use Rattle.pl_law_flights.proofs.ForwardActs.{crossed_at, forward_good}
use Rattle.pl_law_flights.proofs.Hands.{GoodActs, InHand, IsAmid}
use Rattle.pl_law_flights.proofs.Hands.Hand.{Waits}
use Rattle.pl_law_flights.proofs.HandSteps.{crossed_first}
use Rattle.pl_law_flights.proofs.KeepingFlights.{between_kept, kept, same_history}
use Rattle.pl_law_flights.proofs.EntriesOfFlights.{note, reverse_noted}
use Rattle.pl_law_flights.proofs.Queues.{set_out}
use Rattle.pl_law_flights.proofs.Rungs.{adjacent}
use Rattle.pl_law_flights.proofs.SwitchTurns.{turn_switches, turn_journaled}
use Rattle.pl_switch_rule.proofs.Exports.{switch_frame_stays}

set_found : {T : Type 0} (xs : List T) (n : ℕ) (x : T) → slice_get xs n ≡ Some x → set xs n x ≡ xs
set_found [] n x is = refl
set_found (y ∷ xs) zero x is = let same : y ≡ x = cc in ap (λ z. z ∷ xs) (sym same)
set_found (y ∷ xs) (suc n) x is = ap (λ zs. y ∷ zs) (set_found xs n x is)

abbrev pub taken_out : WorldView → ℕ → ℕ → List Item → WorldView
taken_out w s port items = record w { out = set w.out (port_index w.plan.k s port) items }

module _ (w : WorldView) (counted : IsCounted w) (told : IsJournaled w) (s port id : ℕ) (frame : List ℕ) (items : List Item)
    (within : port < w.plan.k) (head : out_of w s port ≡ Data id frame ∷ items) where
  -- once the head is taken, the rest is told, and the head is owed
  pub record IsTaken : Type 0 where
    pub tells : JournalSays w.plan (place_in w.switches) (reverse w.journal) w.links w.attachments w.from_hosts (taken_out w s port items).out
    pub going : IsGoing w.plan (place_in w.switches) (reverse w.journal) s port (peer_of w.plan s port) id frame
    pub owes : Owes (taken_out w s port items) (λ i. times_in i (Data id frame ∷ []))
    pub flies : IsOwed (reverse w.journal) w.from_hosts (taken_out w s port items).out id 0
    pub is_frame : IsFrame false frame

  pub taken : IsTaken
  taken =
      let all : AllByRecursion (IsOut w.plan (place_in w.switches) (reverse w.journal) s port) (Data id frame ∷ items) =
      subst (λ l. AllByRecursion (IsOut w.plan (place_in w.switches) (reverse w.journal) s port) l) head (told.flying.going s port within) in
      let so = sound w counted in
      let owes = took_out_balance w.plan w.from_hosts w.out w.journal w.begun (λ i. 0) (λ i. times_in i (Data id frame ∷ [])) (port_index w.plan.k s port)
      (Data id frame) items head (λ i. omega arith) so.balance in
      let here : times_in id (Data id frame ∷ []) ≡ 1 + 0 = times_in-data id id frame [] ∙ ap (λ n. n + 0) (cond-true (id == id) 1 0 (eq-eqb id id refl)) in
      record {
        tells = record {
          run = told.run;
          trail = told.trail;
          links_agree = told.links_agree;
          attachments_agree = told.attachments_agree;
          flying = set_out w.plan (place_in w.switches) (reverse w.journal) w.from_hosts w.out s port items within all.1 told.flying;
        };
        going = all.0;
        owes = owes;
        flies = owed w.plan (reverse w.journal) w.from_hosts (taken_out w s port items).out _ id 0 told.run
            (counts (taken_out w s port items) (reverse w.journal) _ refl owes) here;
        is_frame = head_is_item w.out (port_index w.plan.k s port) (Data id frame) items head so.balance.port_items;
      }

-- what is done with a unicast frame for the hosts of the switch where it comes is good
abbrev pub IsGoodAtHome : WorldView → ℕ → ℕ → List ℕ → Type 0
IsGoodAtHome w t id frame = (v : SwitchView) (choose : Choice) → slice_get w.switches t ≡ Some v → IsChoice choose → is_group (destination_of frame) ≡ false →
    is_local v (destination frame) ≡ true → GoodActs w.plan (place_in w.switches) (history_of (reverse w.journal)) t (arrives_home choose v frame).acts
    (Waits (crossed_at t (flight_of w.plan (reverse w.journal) id)) false)

module _ (w : WorldView) (counted : IsCounted w) (told : IsJournaled w) (on : StandsOn w) (s port id : ℕ) (frame : List ℕ) (items : List Item)
    (within : port < w.plan.k) (head : out_of w s port ≡ Data id frame ∷ items) (t : SwitchNo) (q : ℕ) (peer : peer_of w.plan s port ≡ Switch t q)
    (accounts : AccountsForFrames Loose) (trees : KnowTrees w) (home : IsGoodAtHome w t.0 id frame) where
  pub comes_journaled : (new : WorldView) → SwitchTurn Loose (noted (taken_out w s port items) (Crossed id t)) t.0 (Comes q frame) (Waiting id false) new →
      IsJournaled new
  comes_journaled new turn =
      let past : List Entry = reverse w.journal in
      let place : ℕ → Place = place_in w.switches in
      let w1 : WorldView = taken_out w s port items in
      let now : List Entry = Crossed id t ∷ past in
      let took = taken w counted told s port id frame items within head in
      let so = sound w counted in
      let is_plan = so.rest.is_plan in
      let f : Flight = flight_of w.plan past id in
      let b : IsBetweenSwitches w.plan place (history_of past) f (was_live past id s t.0) frame s t.0 =
      subst (λ (p : Peer). IsGoing w.plan place past s port p id frame) peer took.going in
      let live : IsBetweenSwitches w.plan place (history_of past) f true frame s t.0 =
      between_kept w.plan place (history_of past) (history_of past) f f (was_live past id s t.0) true frame s t.0 refl (λ h. refl) (same_history (history_of past)) b in
      let away : IsNowhere w.from_hosts w1.out id = record { not_at_hosts = took.flies.not_at_hosts; not_out = took.flies.not_out } in
      let t1 = note w.plan place past w.links w.attachments w.from_hosts w1.out (Crossed id t) id away (λ g other. kept w.plan past (Crossed id t) g other)
      (same_history (history_of past)) (took.flies.flies)
      (crosses_well w.plan place past id s port t q frame is_plan peer (adjacent w.plan s port t q is_plan peer) b) took.tells.links_agree took.tells.attachments_agree took.tells in
      let e = eq-eqb id id refl in
      let some : is_empty (trail past id) ≡ false = crossed_first (trail past id) s b.last in
      let in_hand : InHand w.plan t.0 (crossed_at t.0 f) now id = record {
        flight = rw (e, some) refl;
        live = λ u. rw e refl;
        last = refl;
        to = rw e refl;
      } in
      let amid : IsAmid place t.0 (Waits (crossed_at t.0 f) false) now (noted w1 (Crossed id t)) (Waiting id false) [] = record {
        is = reverse_noted w.journal past (Crossed id t) refl;
        tells = t1;
        holds = (refl, record { in_hand = in_hand; turned = tt });
        puts_off = tt;
      } in
      let v : SwitchView = turn.before in
      let loose = turn.ruled in
      let back = peer_back w.plan s port t q is_plan peer in
      let there : Contains (out_of w s port) (Data id frame) = subst (λ l. Contains l (Data id frame)) (sym head) (zero, omega arith, refl) in
      let closed : is_open_to_hosts (port_of v q) ≡ false = on.evidence s port t q id frame v peer there turn.found in
      let step : switch_step loose.choose v (Comes q frame) ≡ comes_from_switch loose.choose v q frame =
      cond-false (is_control frame) (control_comes v q frame) (data_comes loose.choose v q frame) took.is_frame.kind
      ∙ cond-false (is_open_to_hosts (port_of v q)) (comes_from_host loose.choose v q frame) (comes_from_switch loose.choose v q frame) closed in
      let same_view : turn.after ≡ v = loose.steps.view ∙ ap (λ (x : SwitchStep). x.view) step ∙ switch_frame_stays loose.choose v q frame in
      let same : w.switches ≡ new.switches = sym (turn_switches Loose accounts _ t.0 _ _ new turn
      ∙ ap (λ x. set w.switches t.0 x) same_view ∙ set_found w.switches t.0 v turn.found) in
      let good : GoodActs w.plan place (history_of past) t.0 (comes_from_switch loose.choose v q frame).acts (Waits (crossed_at t.0 f) false) =
      forward_good w.plan place (history_of past) t.0 v is_plan on.places (on.neighbours t.0 v turn.found) (on.addresses t.0 v turn.found) s q port back f frame live (trees.each t.0 v turn.found)
      loose.choose loose.is_choice
      (home v loose.choose turn.found loose.is_choice) in
      let acts : turn.acts ≡ (comes_from_switch loose.choose v q frame).acts = loose.steps.done ∙ ap (λ (x : SwitchStep). x.acts) step in
      let good_there : GoodActs w.plan place (history_of now) t.0 turn.acts (Waits (crossed_at t.0 f) false) =
      subst (λ a. GoodActs w.plan place (history_of past) t.0 a (Waits (crossed_at t.0 f) false)) (sym acts) good in
      let P : List SwitchView → Type 0 = λ vs. IsAmid (place_in vs) t.0 (Waits (crossed_at t.0 f) false) now (noted w1 (Crossed id t)) (Waiting id false) []
      × GoodActs w.plan (place_in vs) (history_of now) t.0 turn.acts (Waits (crossed_at t.0 f) false) in
      let all : P new.switches = subst P same (amid, good_there) in
      let port_there = subst (λ (p : Peer). IsPort w.plan.k p) peer (peer_is_port w.plan s port is_plan) in
      turn_journaled Loose accounts (noted w1 (Crossed id t)) t.0 (Comes q frame) (Waiting id false) new turn
      (rw (took.is_frame.kind) refl) (λ u size. record { within = subst (λ n. q < n) (sym size) port_there.1; whole = took.is_frame.whole })
      (noted_owes w1 (λ i. times_in i (Data id frame ∷ [])) (λ i. one id i + 0) (Crossed id t ∷ []) refl (λ i. omega (arith, times_in-data i id frame [])) took.owes)
      so.rest (Waits (crossed_at t.0 f) false) now all.0 all.1
