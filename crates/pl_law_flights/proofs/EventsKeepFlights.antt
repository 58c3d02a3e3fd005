-- Each event keeps what is told, and so each step.
use Rattle.std.proofs.Common.{inl, inr, ◌≡◌, ℕ, ◌+◌, ◌<◌, ◌==◌, ◌&&◌, not, nat_lt, Bool, true, false, if◌then◌else◌, List, [], ◌∷◌, Option, None, Some, reverse, set, slice_get, refl, sym, ◌∙◌, ap, subst}
use Rattle.std.proofs.lemmas.Bool.{and_parts, cases_Bool, cond-true, ltb-true}
use Rattle.std.proofs.lemmas.Option.{slice_get_within}
use Rattle.pl_lemmas.proofs.Exports.{set_get}
use Rattle.pl_wiring.specs.declared.label.SwitchNo.{SwitchNo}
use Rattle.pl_wiring.specs.declared.link.Link.{Link}
use Rattle.pl_wiring.specs.declared.link.Peer.{Peer}
use Rattle.pl_wiring.specs.declared.link.Peer.TheVariants.{HostPort, Switch}
use Rattle.pl_wiring.specs.Index.{port_index}
use Rattle.pl_wiring.specs.LiveLinks.{is_live}
use Rattle.pl_wiring.specs.Peers.{peer_of}
use Rattle.pl_journal.specs.Places.{are_alike, is_host_port}
use Rattle.pl_node.specs.declared.messages.ToSwitch.{ToSwitch}
use Rattle.pl_node.specs.declared.messages.ToSwitch.TheVariants.{Answer, Avoid, Flood, Hello, Invalidate, Pod, Release, Tree}
use Rattle.pl_node.specs.Accounting.{AccountsForFrames, IsShaped}
use Rattle.pl_node.specs.HostDuties.{HostsKeepFrames, HostsSendData}
use Rattle.pl_node.specs.HostInputs.{HostRule}
use Rattle.pl_node.specs.ManagerDuties.{ManagerRule}
use Rattle.pl_node.specs.SwitchInputs.{SwitchInput}
use Rattle.pl_node.specs.SwitchInputs.SwitchInput.{Comes, Says}
use Rattle.pl_frame.specs.Ethernet.{payload_of}
use Rattle.pl_layouts.specs.Control.{control_in, is_control}
use Rattle.pl_node.specs.SwitchViews.{SwitchView}
use Rattle.pl_steps.specs.Steps.{SwitchStep}
use Rattle.pl_switch_rule.specs.Levels.{has_become_placed, with_pod}
use Rattle.pl_switch_rule.proofs.Exports.{loose_steps_are_accounted}
use Rattle.pl_switch_rule.specs.SwitchRule.{Loose, control_comes, data_comes, switch_step}
use Rattle.pl_world.specs.declared.error.StepError.TheVariants.{AlreadySo, NoSuch, Occupied}
use Rattle.pl_world.specs.declared.event.Event.{Event}
use Rattle.pl_world.specs.declared.event.Event.TheVariants as event
use Rattle.pl_world.specs.declared.event.QueueName.TheVariants as queue
use Rattle.pl_world.specs.declared.item.Item.{Item}
use Rattle.pl_world.specs.declared.item.Item.TheVariants.{Control, Data}
use Rattle.pl_world.specs.declared.spoken_frame.SpokenFrame.TheVariants.{Silent}
use Rattle.pl_world.specs.declared.attachment.AttachmentPoint.{AttachmentPoint}
use Rattle.pl_world.specs.Changes.{host_at, out_of, receiver}
use Rattle.pl_world.specs.Flying.{IsCounted, IsFrame}
use Rattle.pl_world.specs.LinksAndMoves.{joins, link_failed}
use Rattle.pl_world.specs.Refusals.{refusal, has_host, has_port, has_switch, is_for_hosts, is_linked, refusal_of_event, refusal_of_link, refusal_of_place}
use Rattle.pl_world.specs.WorldRule.{ComesIn, ComesOver, DeliversFromHost, DeliversFromManager, Happens, SwitchTurn, WorldStep}
use Rattle.pl_world.specs.Worlds.{WorldView}
use Rattle.pl_world.proofs.Exports.{all_found, counted as to_counted, event_is_not_refused, fails, found_contained, Happened, happened, head_is_item, live_before, same_refusal, sound, there_is}
use Rattle.pl_world.proofs.Exports.Happened.{Asked, BeganAnew, Departed, Failed, FromHost, Lost, Ordered, OutOfPort, OverLink, PlayedFrame, Repaired, Reported, Ticked}
use Rattle.pl_law_flights.specs.Given.{IsGroundForStep}
use Rattle.pl_law_flights.specs.OnTheWay.{IsJournaled}
use Rattle.pl_law_flights.specs.Standing.{StandsOn, StandsOnHosts}
use Rattle.pl_law_flights.proofs.Arriving.{comes_out_journaled}
use Rattle.pl_law_flights.proofs.AtHome.{over_link_journaled}
use Rattle.pl_law_flights.proofs.NoFlightAtFirst.{lost_journaled}
use Rattle.pl_law_flights.proofs.Failing.{fails_journaled, repaired_journaled}
use Rattle.pl_law_flights.proofs.BecomingPlaced.{control_well, pod_well, unplaced_before, was_unplaced}
use Rattle.pl_law_flights.proofs.ControlFrames.{control_journaled, pod_journaled, settles_by}
use Rattle.pl_law_flights.proofs.Freeing.{frees_journaled}
use Rattle.pl_law_flights.proofs.FromHosts.{from_host_journaled}
use Rattle.pl_law_flights.proofs.FromManager.{says_journaled}
use Rattle.pl_law_flights.proofs.HostTurns.{host_journaled, plays_journaled}
use Rattle.pl_law_flights.proofs.Moving.{goes_journaled}
use Rattle.pl_law_flights.proofs.NoneJustIn.{none_just_in}
use Rattle.pl_law_flights.proofs.Numbering.{anew_journaled, manager_journaled}
use Rattle.pl_law_flights.proofs.OverLinks.{taken_out}
use Rattle.pl_law_flights.proofs.Settling.{GrantsWell}
use Rattle.pl_law_flights.proofs.Probing.{ticks_journaled}
use Rattle.pl_law_flights.proofs.SwitchTurns.{turn_switches}

dead_before : (b : Bool) → (if are_alike b true then Some AlreadySo else None) ≡ None → b ≡ false
dead_before true fine = absurd (cc)
dead_before false fine = refl

always_refused : (b : Bool) → (if b then Some AlreadySo else Some Occupied) ≡ None → ⊥
always_refused true fine = absurd (cc)
always_refused false fine = absurd (cc)

move_fine : (a b : Bool) (h : ℕ) (o : Option ℕ) → (if a && b then refusal_of_place h o else Some NoSuch) ≡ None → (a ≡ true) × (b ≡ true) × (o ≡ None)
move_fine true true h None fine = (refl, refl, refl)
move_fine true true h (Some other) fine = absurd (always_refused (other == h) fine)
move_fine true false h o fine = absurd (cc)
move_fine false b h o fine = absurd (cc)

module _ (manager : ManagerRule) (host : HostRule) (accounts : AccountsForFrames Loose) (sends : HostsSendData host) (keeps : HostsKeepFrames host)
    (w : WorldView) (counted : IsCounted w) (told : IsJournaled w) (new : WorldView) (given : IsGroundForStep manager host w new) where
  abbrev on : StandsOn w
  on = given.on

  abbrev hosts : StandsOnHosts w
  hosts = given.hosts

  -- what a switch grants where it becomes placed
  size_at : (t : ℕ) (v : SwitchView) → slice_get w.switches t ≡ Some v → v.k ≡ w.plan.k
  size_at t v found = all_found (λ (x : SwitchView). x.k ≡ w.plan.k) w.switches t v found counted.formed.ports

  shaped_at : (t : ℕ) (v : SwitchView) → slice_get w.switches t ≡ Some v → IsShaped v
  shaped_at t v found = all_found IsShaped w.switches t v found counted.shaped

  after_there : (u : WorldView) (t : ℕ) (input : SwitchInput) (turn : SwitchTurn Loose u t input Silent new) → slice_get new.switches t ≡ Some turn.after
  after_there u t input turn =
      ap (λ vs. slice_get vs t) (turn_switches Loose accounts u t input Silent new turn) ∙ set_get u.switches t turn.after (slice_get_within u.switches t turn.before turn.found)

  settled_grants : (s port : ℕ) (t : SwitchNo) (q : ℕ) (frame : List ℕ) (items : List Item) → out_of w s port ≡ Control frame ∷ items →
      peer_of w.plan s port ≡ Switch t q → (turn : SwitchTurn Loose (taken_out w s port items) t.0 (Comes q frame) Silent new) →
      settles_by turn.before q (control_in (payload_of frame)) ≡ true → GrantsWell w.plan t.0 turn.acts (reverse w.journal)
  settled_grants s port t q frame items head peer turn settles =
      let v : SwitchView = turn.before in
      let item : IsFrame true frame =
      head_is_item w.out (port_index w.plan.k s port) (Control frame) items head (sound w counted).balance.port_items in
      let step : switch_step turn.ruled.choose v (Comes q frame) ≡ control_comes v q frame =
      cond-true (is_control frame) (control_comes v q frame) (data_comes turn.ruled.choose v q frame) item.kind in
      subst (λ acts. GrantsWell w.plan t.0 acts (reverse w.journal)) (sym (turn.ruled.steps.done ∙ ap (λ (x : SwitchStep). x.acts) step))
      (control_well w new t.0 v turn.found (size_at t.0 v turn.found) (hosts.hosts t.0 v turn.found) (shaped_at t.0 v turn.found) given.first q frame settles
      (after_there (taken_out w s port items) t.0 (Comes q frame) turn ∙ ap Some (turn.ruled.steps.view ∙ ap (λ (x : SwitchStep). x.view) step)))

  pod_grants : (t pod : ℕ) (rest : List ToSwitch) (turn : SwitchTurn Loose (record w { from_manager = set w.from_manager t rest }) t (Says (Pod pod)) Silent new) →
      has_become_placed turn.before.place (with_pod turn.before (Some pod)).place ≡ true → GrantsWell w.plan t turn.acts (reverse w.journal)
  pod_grants t pod rest turn settles =
      let v : SwitchView = turn.before in
      subst (λ acts. GrantsWell w.plan t acts (reverse w.journal)) (sym turn.ruled.steps.done)
      (pod_well w new t v turn.found (size_at t v turn.found) (hosts.hosts t v turn.found) (shaped_at t v turn.found) given.first pod settles
      (after_there (record w { from_manager = set w.from_manager t rest }) t (Says (Pod pod)) turn ∙ ap Some turn.ruled.steps.view))

  -- an item comes to the other end
  over_journaled : (s port : ℕ) (item : Item) (items : List Item) (peer : Peer) → port < w.plan.k → out_of w s port ≡ item ∷ items → peer_of w.plan s port ≡ peer →
      ComesOver Loose host (taken_out w s port items) s port item peer new → IsJournaled new
  over_journaled s port (Control frame) items (Switch t q) within head peer turn =
      control_journaled w s port frame items t q new accounts counted told within head peer turn
      (elim (cases_Bool (settles_by turn.before q (control_in (payload_of frame)))) [
        | inl settles ↦ inr (record {
          grants = settled_grants s port t q frame items head peer turn settles;
          none_just_in = none_just_in w counted told t.0 turn.before turn.found (unplaced_before turn.before q (control_in (payload_of frame)) settles);
        })
        | inr stays ↦ inl stays
      ]) given.more
  over_journaled s port (Data id frame) items (Switch t q) within head peer turn =
      over_link_journaled w counted told on given.trees accounts s port id frame items within head t q peer new turn
  over_journaled s port (Control frame) items HostPort within head peer is = subst IsJournaled (sym is) (lost_journaled w s port (Control frame) items counted told within head)
  over_journaled s port (Data id frame) items HostPort within head peer comes =
      comes_out_journaled w counted told s port id frame items within head peer host keeps sends (given.come_first s port id frame items within peer head) given.members (receiver w s port frame) refl new comes

  from_manager_journaled : (t : ℕ) (items : List ToSwitch) → DeliversFromManager Loose w t items new → IsJournaled new
  from_manager_journaled t [] comes = absurd comes
  from_manager_journaled t (Pod pod ∷ items) turn = pod_journaled w t pod items new accounts counted told turn
      (elim (cases_Bool (has_become_placed turn.before.place (with_pod turn.before (Some pod)).place)) [
        | inl settles ↦ inr (record {
          grants = pod_grants t pod items turn settles;
          none_just_in = none_just_in w counted told t turn.before turn.found
              (was_unplaced turn.before.place (with_pod turn.before (Some pod)).place settles);
        })
        | inr stays ↦ inl stays
      ]) given.more
  from_manager_journaled t (Avoid list ∷ items) turn = says_journaled w t (Avoid list) items new accounts counted told on tt turn
  from_manager_journaled t (Hello epoch ∷ items) turn = says_journaled w t (Hello epoch) items new accounts counted told on tt turn
  from_manager_journaled t (Tree group part ∷ items) turn = says_journaled w t (Tree group part) items new accounts counted told on tt turn
  from_manager_journaled t (Answer asker asker_ip ip pmac ∷ items) turn = says_journaled w t (Answer asker asker_ip ip pmac) items new accounts counted told on tt turn
  from_manager_journaled t (Flood asker asker_ip ip ∷ items) turn = says_journaled w t (Flood asker asker_ip ip) items new accounts counted told on tt turn
  from_manager_journaled t (Invalidate old to number ip ∷ items) turn = says_journaled w t (Invalidate old to number ip) items new accounts counted told on tt turn
  from_manager_journaled t (Release address ∷ items) turn = frees_journaled w t address items new accounts counted told on turn

  module _ (happens : Event) (fine : refusal_of_event w happens ≡ None) where
    free : (e : Event) → happens ≡ e → refusal_of_event w e ≡ None
    free e is = subst (λ (x : Event). refusal_of_event w x ≡ None) is fine

    within_port : (s : SwitchNo) (port : ℕ) → happens ≡ event.Deliver (queue.Port s port) → port < w.plan.k
    within_port s port is =
        let there = and_parts (has_switch w.plan s.0) (nat_lt port w.plan.k)
        (there_is (has_port w.plan s.0 port) _ (free (event.Deliver (queue.Port s port)) is)) in
        ltb-true port w.plan.k there.1

    by_case : Happened Loose manager host w happens new → IsJournaled new
    by_case (FromHost h item items attachment is head at comes) =
        from_host_journaled w counted told on hosts accounts h.0 new given.more
        (subst (λ (xs : List Item). DeliversFromHost Loose w h.0 xs new) (sym head)
        (subst (λ (o : Option AttachmentPoint). ComesIn Loose (record w { from_hosts = set w.from_hosts h.0 items }) h.0 item o new) (sym at) comes))
    by_case (OverLink s port item items t q is head adjacent comes) = over_journaled s.0 port item items (Switch t q) (within_port s port is) head adjacent comes
    by_case (OutOfPort s port item items is head adjacent comes) = over_journaled s.0 port item items HostPort (within_port s port is) head adjacent comes
    by_case (Reported s says items is head turn) =
        manager_journaled manager w s.0 says items new counted told turn (given.numbers s.0 says items turn.id turn.after turn.acts head turn.found turn.ruled)
    by_case (Ordered s says items is head turn) = from_manager_journaled s.0 (says ∷ items) turn
    by_case (Ticked s is turn) = ticks_journaled w s.0 new accounts counted told on turn given.more
    by_case (Failed a b link is found failed) =
        let live = live_before (is_live w.links link) (subst (λ (o : Option Link). refusal_of_link w false o ≡ None) found (free (event.Fail a b) is)) in
        subst IsJournaled (sym failed)
        (fails_journaled w link counted told (found_contained (joins a.0 b.0) w.plan.links link found) live
        (to_counted (link_failed w link) (fails w a.0 b.0 (Some link) (link_failed w link) found (sound w counted) refl)))
    by_case (Repaired a b link is found repaired) =
        let dead = dead_before (is_live w.links link) (subst (λ (o : Option Link). refusal_of_link w true o ≡ None) found (free (event.Repair a b) is)) in
        subst IsJournaled (sym repaired) (repaired_journaled w link counted told (found_contained (joins a.0 b.0) w.plan.links link found) dead)
    by_case (Lost s port item items is head gone) =
        let linked = and_parts (has_port w.plan s.0 port) (not (is_host_port (peer_of w.plan s.0 port)))
        (there_is (is_linked w.plan s.0 port) _ (free (event.Lose s port) is)) in
        let there = and_parts (has_switch w.plan s.0) (nat_lt port w.plan.k) linked.0 in
        subst IsJournaled (sym gone) (lost_journaled w s.0 port item items counted told (ltb-true port w.plan.k there.1) head)
    by_case (Departed h s port from is at turn) =
        let may = move_fine (has_host w.plan h.0) (is_for_hosts w.plan s.0 port) h.0 (host_at w s.0 port) (free (event.Move h s port) is) in
        goes_journaled w counted told h.0 (record { edge = s; port = port }) from at may.0 may.1 may.2 host sends new turn
    by_case (PlayedFrame h input skip is turn) = plays_journaled host sends w h.0 input new (sound w counted) told (record { skip = skip; turn = turn })
    by_case (Asked h input is turn) = host_journaled host sends w h.0 _ _ new (sound w counted) told turn
    by_case (BeganAnew is anew) = subst IsJournaled (sym anew) (anew_journaled w counted told given.epochs)

    pub happens_journaled : Happens Loose manager host w happens new → IsJournaled new
    happens_journaled does = by_case (happened Loose manager host w happens new does)

-- the same, once the step is counted
stepped_given : (manager : ManagerRule) (host : HostRule) (old new : WorldView) (n : ℕ) → IsGroundForStep manager host old new → IsGroundForStep manager host (record old { steps = n }) new
stepped_given manager host old new n given = record {
  on = record {
    places = given.on.places;
    neighbours = given.on.neighbours;
    addresses = given.on.addresses;
    evidence = given.on.evidence;
  };
  hosts = record { hosts = given.hosts.hosts; at_ports = given.hosts.at_ports; own = given.hosts.own };
  more = given.more;
  first = given.first;
  numbers = given.numbers;
  come_first = given.come_first;
  members = given.members;
  trees = record { free = given.trees.free; each = given.trees.each; closed = given.trees.closed };
  epochs = given.epochs;
}

-- each step
pub step_journaled : (manager : ManagerRule) (host : HostRule) → HostsSendData host → HostsKeepFrames host → (old : WorldView) (happens : Event) (new : WorldView) →
    IsCounted old → IsGroundForStep manager host old new → refusal old happens ≡ None → WorldStep Loose manager host old happens new → IsJournaled old → IsJournaled new
step_journaled manager host sends keeps old happens new counted given none step told =
    let so = sound old counted in
    let w : WorldView = record old { steps = old.steps + 1 } in
    happens_journaled manager host loose_steps_are_accounted sends keeps w (to_counted w (record { balance = so.balance; rest = so.rest })) told new
    (stepped_given manager host old new (old.steps + 1) given) happens (same_refusal old happens ∙ event_is_not_refused old happens none) step
