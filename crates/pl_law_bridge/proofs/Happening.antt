-- Each event keeps what is kept.
use Rattle.std.proofs.Common.{◌≡◌, ℕ, ◌+◌, ◌≤◌, ◌<◌, ◌==◌, Bool, true, false, if◌then◌else◌, List, [], ◌∷◌, map, Option, None, Some, reverse, set, slice_get, refl, sym, ap, ◌∙◌, subst, arith}
use Rattle.std.specs.List.{AllByRecursion}
use Rattle.std.proofs.lemmas.Bool.{cond-false, cond-true, cond_both, eq-eqb}
use Rattle.std.proofs.lemmas.Option.{none-some, same_Some}
use Rattle.pl_frame.specs.Ethernet.{destination_of}
use Rattle.pl_wiring.specs.declared.label.SwitchNo.{SwitchNo}
use Rattle.pl_wiring.specs.declared.link.Peer.TheVariants.{HostPort, Switch}
use Rattle.pl_wiring.specs.Index.{port_index}
use Rattle.pl_wiring.specs.Labels.{label_of}
use Rattle.pl_wiring.specs.Peers.{peer_of}
use Rattle.pl_wiring.specs.Plan.{IsPlan}
use Rattle.pl_layouts.specs.Control.{is_control}
use Rattle.pl_journal.specs.declared.cause.Cause.TheVariants as cause
use Rattle.pl_journal.specs.declared.cause.Cause.TheVariants.{NoNextHop}
use Rattle.pl_journal.specs.declared.entry.Entry.{Entry}
use Rattle.pl_journal.specs.declared.entry.Entry.TheVariants.{Arrived, Crossed, Dropped, Moved}
use Rattle.pl_journal.specs.Places.{at_port, edge_port_of, same_edge_port}
use Rattle.pl_journal.proofs.Exports.{past_more}
use Rattle.pl_node.specs.declared.acts.Act.{Act}
use Rattle.pl_node.specs.declared.acts.Act.TheVariants as act
use Rattle.pl_node.specs.declared.messages.ToSwitch.{ToSwitch}
use Rattle.pl_node.specs.declared.reception.Reception.{Reception}
use Rattle.pl_node.specs.declared.reception.Reception.TheVariants.{Kept, NotMember}
use Rattle.pl_node.specs.Accounting.{AccountsForFrames}
use Rattle.pl_node.specs.HostInputs.{HostRule}
use Rattle.pl_node.specs.HostInputs.HostAnswer.{Nothing}
use Rattle.pl_node.specs.HostInputs.HostInput.{HasMoved}
use Rattle.pl_node.specs.ManagerDuties.{ManagerRule}
use Rattle.pl_node.specs.SwitchInputs.SwitchInput.{Comes, Says}
use Rattle.pl_node.specs.SwitchViews.{SwitchView}
use Rattle.pl_queues.specs.Queues.{items_at}
use Rattle.pl_steps.specs.Steps.{SwitchStep, rests}
use Rattle.pl_world.specs.declared.event.Event.{Event}
use Rattle.pl_world.specs.declared.event.Event.TheVariants as event
use Rattle.pl_world.specs.declared.event.QueueName.TheVariants as queue
use Rattle.pl_world.specs.declared.item.Item.{Item}
use Rattle.pl_world.specs.declared.item.Item.TheVariants.{Control, Data}
use Rattle.pl_world.specs.declared.spoken_frame.SpokenFrame.TheVariants.{Over, Silent, Waiting}
use Rattle.pl_world.specs.declared.attachment.AttachmentPoint.{AttachmentPoint}
use Rattle.pl_world.specs.Changes.{host_at, host_no, if_for, noted, out_of, receiver, switch_no}
use Rattle.pl_world.specs.Flying.{IsTreePort, IsCounted, IsDataItem, IsFrame, times_in, times_in_all}
use Rattle.pl_world.specs.LinksAndMoves.{host_moved}
use Rattle.pl_world.specs.OtherActs.{reception_noted, skip_noted}
use Rattle.pl_world.specs.Refusals.{has_port, refusal_of_event}
use Rattle.pl_world.specs.WorldRule.{ComesAtHost, ComesAtSwitch, ComesOut, Happens, HostReceives, HostTurn, SwitchTurn, Ticks, heard_item}
use Rattle.pl_world.specs.Worlds.{WorldView}
use Rattle.pl_world.proofs.Exports.{all_at, all_found, anew_left, born_once, failed_left, Happened, happened, head_is_item, lost_left, manager_acts_left, one, Owes, port_within, repaired_left, sent_is_item, skip_left, Sound, sound, there_is, times_in-data, took_host_balance, took_out_balance}
use Rattle.pl_world.proofs.Exports.Happened.{Asked, BeganAnew, Departed, Failed, FromHost, Lost, Ordered, OutOfPort, OverLink, PlayedFrame, Repaired, Reported, Ticked}
use Rattle.pl_bridge_rule.specs.BridgeRule.{Bridges, bridge_step, bridges, goes_on, other_ports, port_for, with_source}
use Rattle.pl_bridge_rule.specs.Tree.{is_tree_link}
use Rattle.pl_bridge_rule.proofs.Exports.{either_way}
use Rattle.pl_law_counts.proofs.Exports.{control_keeps, empty_host, empty_out, frame_keeps, host_frame_keeps, move_keeps, move_one, of_root, of_root_less, order_keeps, peer_back, receiver_stands, take_any, take_host, take_out, taken_out, tick_keeps, used, weaker}
use Rattle.pl_law_bridge.specs.GoingOut.{heads}
use Rattle.pl_law_bridge.specs.Reaching.{Target, may_reach_with, to_targets}
use Rattle.pl_law_bridge.specs.Reaching.Target.{Arrival, Crossing, Departure}
use Rattle.pl_law_bridge.specs.TreeWorld.{LiveIsTree}
use Rattle.pl_law_bridge.specs.Travelling.{is_for_host, IsUnderWay, Travel}
use Rattle.pl_law_bridge.proofs.Acting.{acts_keep, host_keeps, IsAmid, IsKeptIn, IsKeptOwing, IsOnward, Keeps, keeps_writes, noted_kept}
use Rattle.pl_law_bridge.proofs.Changing.{IsIdle, arrive_one, arrives_at, cross_one, depart_one, departs_at, less_unsaid}
use Rattle.pl_law_bridge.proofs.GoingOut.{gone_by, gone_by_port, none_asked, none_gone, none_over_link}
use Rattle.pl_law_bridge.proofs.Spreading.{claim, from_host_few, here, over_link_few}
use Rattle.pl_law_bridge.proofs.TravelChanges.{port_held, set_host, set_port, take_from_host, take_port, travel_arrived, travel_crossed, travel_moved}

-- fewer have gone out than that
pub fewer : (more : ℕ → Target → ℕ) (u : WorldView) (less : ℕ → Target → ℕ) → ((r : ℕ) (there : Target) → less r there ≤ more r there) → IsKeptIn more u → IsKeptIn less u
fewer more u less le c = record {
  once = less_unsaid more less u le c.once;
  travels = c.travels;
}

-- ---- who gets a frame
is_for_it : (w : WorldView) (s port h : ℕ) (frame : List ℕ) → receiver w s port frame ≡ Some h → is_for_host w.plan h frame ≡ true
is_for_it w s port h frame is = by_host (host_at w s port) is
  where
    if_some : (b : Bool) (g : ℕ) → (if b then Some g else None) ≡ Some h → (g ≡ h) × (b ≡ true)
    if_some true g e = (same_Some g h e, refl)
    if_some false g e = absurd (none-some h e)

    by_host : (o : Option ℕ) → if_for w.plan frame o ≡ Some h → is_for_host w.plan h frame ≡ true
    by_host None e = absurd (none-some h e)
    by_host (Some g) e = (let both = if_some (is_for_host w.plan g frame) g e in subst (λ n. is_for_host w.plan n frame ≡ true) both.0 both.1)

-- ---- the acts of a bridge
pub comes_acts : (v : SwitchView) (port : ℕ) (frame : List ℕ) → is_control frame ≡ false →
    (bridge_step v (Comes port frame)).acts ≡ goes_on v.k port frame (port_for (with_source v port frame) (destination_of frame))
comes_acts v port frame kind = ap (λ (x : SwitchStep). x.acts) (cond-false (is_control frame) (rests v) (bridges v port frame) kind)

pub control_acts : (v : SwitchView) (port : ℕ) (frame : List ℕ) → is_control frame ≡ true → (bridge_step v (Comes port frame)).acts ≡ []
control_acts v port frame kind = ap (λ (x : SwitchStep). x.acts) (cond-true (is_control frame) (rests v) (bridges v port frame) kind)

passes_onward : (frame ports : List ℕ) → AllByRecursion (IsOnward frame) (map (λ p. act.Pass p frame) ports)
passes_onward frame [] = tt
passes_onward frame (p ∷ ports) = (refl, passes_onward frame ports)

pub all_onward : (k port : ℕ) (frame : List ℕ) (o : Option ℕ) → AllByRecursion (IsOnward frame) (goes_on k port frame o)
all_onward k port frame None = passes_onward frame (other_ports k port)
all_onward k port frame (Some out) =
    cond_both (out == port) (act.Drop NoNextHop ∷ []) (act.Pass out frame ∷ []) (AllByRecursion (IsOnward frame)) (λ back. (tt, tt)) (λ on. (refl, tt))

-- a frame that is owed waits nowhere
pub record IsNowhere (id : ℕ) (from_hosts out : List (List Item)) : Type 0 where
  pub at_hosts : times_in_all id from_hosts ≡ 0
  pub at_ports : times_in_all id out ≡ 0

pub owed_is_nowhere : (w : WorldView) (id : ℕ) (frame : List ℕ) → Owes w (λ i. times_in i (Data id frame ∷ [])) → IsNowhere id w.from_hosts w.out
owed_is_nowhere w id frame owes =
    let all = owes.flights id in
    let most = born_once id w.begun in
    let itself : one id id ≡ 1 = cond-true (id == id) 1 0 (eq-eqb id id refl) in
    let own = times_in-data id id frame [] in
    record { at_hosts = omega arith; at_ports = omega arith }

module _ (unsaid : ℕ → Target → ℕ) (accounts : AccountsForFrames Bridges) (w : WorldView) (counted : IsCounted w) (kept : IsKeptIn unsaid w) (live : LiveIsTree w.plan w.links) (new : WorldView) where
  so : Sound w
  so = sound w counted

  is_plan : IsPlan w.plan
  is_plan = so.rest.is_plan

  abbrev past : List Entry
  past = reverse w.journal

  at_last : (s : ℕ) (frame : List ℕ) → IsAmid unsaid s frame [] Over new → IsKeptIn unsaid new
  at_last s frame m = record { once = m.once; travels = m.travels }

  -- ---- a tick, a message of the manager and a control frame
  none_onward : (acts : List Act) → acts ≡ [] → AllByRecursion (IsOnward []) acts
  none_onward acts none = subst (AllByRecursion (IsOnward [])) (sym none) tt

  ticks_keep : (s : SwitchNo) → Ticks Bridges w s.0 new → IsKeptIn unsaid new
  ticks_keep s turn = at_last s.0 [] (tick_keeps Bridges accounts w so new s IsIdle (IsAmid unsaid s.0 []) (acts_keep unsaid s.0 []) turn
      (record { once = kept.once; travels = kept.travels; held = tt; onward = none_onward turn.acts turn.ruled.done; fresh = tt; live = live }))

  says_keep : (s : SwitchNo) (says : ToSwitch) (items : List ToSwitch) → SwitchTurn Bridges (record w { from_manager = set w.from_manager s.0 items }) s.0 (Says says) Silent new → IsKeptIn unsaid new
  says_keep s says items turn = at_last s.0 [] (order_keeps Bridges accounts w so new s IsIdle (IsAmid unsaid s.0 []) (acts_keep unsaid s.0 []) says items turn
      (record { once = kept.once; travels = kept.travels; held = tt; onward = none_onward turn.acts turn.ruled.done; fresh = tt; live = live }))

  -- whatever is taken from a port is gone
  taken_kept : (n : ℕ) (item : Item) (items : List Item) → items_at w.out n ≡ item ∷ items → IsKeptIn unsaid (record w { out = set w.out n items })
  taken_kept n item items head = record {
    once = take_any (to_targets unsaid) w n item items head kept.once;
    travels = (take_port w.plan past w.from_hosts w.out w.begun n item items head kept.travels).0;
  }

  control_comes_over : (s port : ℕ) (frame : List ℕ) (items : List Item) (t : SwitchNo) (q : ℕ) → out_of w s port ≡ Control frame ∷ items →
      peer_of w.plan s port ≡ Switch t q → SwitchTurn Bridges (taken_out w s port items) t.0 (Comes q frame) Silent new → IsKeptIn unsaid new
  control_comes_over s port frame items t q head peer turn =
      let is_frame : IsFrame true frame = head_is_item w.out (port_index w.plan.k s port) (Control frame) items head so.balance.port_items in
      let taken = taken_kept (port_index w.plan.k s port) (Control frame) items head in
      at_last t.0 [] (control_keeps Bridges accounts w so new t IsIdle (IsAmid unsaid t.0 []) (acts_keep unsaid t.0 []) s port q items peer frame head turn (record {
        once = taken.once;
        travels = taken.travels;
        held = tt;
        onward = none_onward turn.acts (turn.ruled.done ∙ control_acts turn.before q frame is_frame.kind);
        fresh = tt;
        live = live;
      }))

  -- ---- a data frame crosses a switch, and goes on
  crosses : (u : WorldView) (t : SwitchNo) (from : Option ℕ) (id : ℕ) (frame : List ℕ) (acts : List Act) (bound : Target → ℕ) →
      ((x : Target) → here t.0 x + used may_reach_with u.plan t.0 x acts ≤ bound x) → IsNowhere id u.from_hosts u.out →
      ((n : ℕ) → from ≡ Some n → is_tree_link (label_of u.plan.k t.0) (label_of u.plan.k n) ≡ true) → IsUnderWay (reverse u.journal) u.begun from id frame →
      LiveIsTree u.plan u.links → AllByRecursion (IsOnward frame) acts → IsKeptOwing unsaid u (λ r there. of_root (reverse u.journal) id (bound there) r) →
      IsAmid unsaid t.0 frame acts (Waiting id false) (noted u (Crossed id t))
  crosses u t from id frame acts bound few nowhere adjacent under lives onward c =
      let moves = travel_crossed u.plan (reverse u.journal) u.from_hosts u.out u.begun id t from frame nowhere.at_hosts nowhere.at_ports adjacent under c.travels in
      let later = subst (λ p. Travel u.plan p u.from_hosts u.out u.begun × IsUnderWay p u.begun (Some t.0) id frame) (sym (past_more u.journal (Crossed id t))) moves in
      record {
        once = cross_one unsaid u id t (λ there. used may_reach_with u.plan t.0 there acts)
            (weaker (to_targets unsaid) u _ _ (λ r there. of_root_less (reverse u.journal) id (here t.0 there + used may_reach_with u.plan t.0 there acts) (bound there) r (few there)) c.once);
        travels = later.0;
        held = later.1;
        onward = onward;
        fresh = refl;
        live = lives;
      }

  joined_back : (s t : ℕ) → is_tree_link (label_of w.plan.k s) (label_of w.plan.k t) ≡ true → (u : ℕ) → Some s ≡ Some u →
      is_tree_link (label_of w.plan.k t) (label_of w.plan.k u) ≡ true
  joined_back s t is u same =
      subst (λ n. is_tree_link (label_of w.plan.k t) (label_of w.plan.k n) ≡ true) (same_Some s u same) (either_way (label_of w.plan.k s) (label_of w.plan.k t) is)

  -- and the switch has stepped
  steps_on : (t : SwitchNo) (frame : List ℕ) (acts : List Act) (id : ℕ) (u : WorldView) (after : SwitchView) → IsAmid unsaid t.0 frame acts (Waiting id false) u →
      IsAmid unsaid t.0 frame acts (Waiting id false) (record u { switches = set u.switches t.0 after })
  steps_on t frame acts id u after m = record { once = m.once; travels = m.travels; held = m.held; onward = m.onward; fresh = m.fresh; live = m.live }

  -- it comes over a link
  data_comes_over : (s port id : ℕ) (frame : List ℕ) (items : List Item) (t : SwitchNo) (q : ℕ) → port < w.plan.k → out_of w s port ≡ Data id frame ∷ items →
      peer_of w.plan s port ≡ Switch t q → SwitchTurn Bridges (noted (taken_out w s port items) (Crossed id t)) t.0 (Comes q frame) (Waiting id false) new → IsKeptIn unsaid new
  data_comes_over s port id frame items t q within head peer turn =
      let n : ℕ = port_index w.plan.k s port in
      let is_frame : IsFrame false frame = head_is_item w.out n (Data id frame) items head so.balance.port_items in
      let v : SwitchView = turn.before in
      let size : v.k ≡ w.plan.k = all_found (λ (u : SwitchView). u.k ≡ w.plan.k) w.switches t.0 v turn.found so.rest.ports in
      let taken = take_port w.plan past w.from_hosts w.out w.begun n (Data id frame) items head kept.travels in
      let held = port_held w.plan past w.begun s port id frame within taken.1 in
      let adjacent : is_tree_link (label_of w.plan.k s) (label_of w.plan.k t.0) ≡ true = held.0 t q peer in
      let way : Option ℕ = port_for (with_source v q frame) (destination_of frame) in
      let acts : goes_on w.plan.k q frame way ≡ turn.acts = sym (turn.ruled.done ∙ comes_acts v q frame is_frame.kind ∙ ap (λ m. goes_on m q frame way) size) in
      let few : (x : Target) → here t.0 x + used may_reach_with w.plan t.0 x turn.acts ≤ claim w.plan s port x =
      λ x. subst (λ a. here t.0 x + used may_reach_with w.plan t.0 x a ≤ claim w.plan s port x) acts
      (over_link_few w.plan is_plan s port t (switch_no s) q frame way x refl peer (peer_back w.plan s port t q is_plan peer) adjacent) in
      let owes = took_out_balance w.plan w.from_hosts w.out w.journal w.begun (λ i. 0) (λ i. times_in i (Data id frame ∷ [])) n (Data id frame) items head (λ i. omega arith) so.balance in
      let w1 : WorldView = taken_out w s port items in
      let onward : AllByRecursion (IsOnward frame) turn.acts = subst (AllByRecursion (IsOnward frame)) acts (all_onward w.plan.k q frame way) in
      let on = crosses w1 t (Some s) id frame turn.acts (claim w.plan s port) few (owed_is_nowhere w1 id frame owes) (joined_back s t.0 adjacent) held.1 live onward (record {
        once = take_out (to_targets unsaid) w s port id frame items within head kept.once;
        travels = taken.0;
      }) in
      at_last t.0 frame (frame_keeps Bridges accounts w so new t IsIdle (IsAmid unsaid t.0 frame) (acts_keep unsaid t.0 frame) s port q items peer id frame head turn (steps_on t frame turn.acts id (noted w1 (Crossed id t)) turn.after on))

  -- it comes from a host
  of_host_comes : (h id : ℕ) (frame : List ℕ) (items : List Item) (attachment : AttachmentPoint) → items_at w.from_hosts h ≡ Data id frame ∷ items →
      slice_get w.attachments h ≡ Some attachment →
      SwitchTurn Bridges (noted (heard_item (record w { from_hosts = set w.from_hosts h items }) h (Data id frame)) (Crossed id (switch_no attachment.edge.0)))
      attachment.edge.0 (Comes attachment.port frame) (Waiting id false) new → IsKeptIn unsaid new
  of_host_comes h id frame items attachment head found turn =
      let is_frame : IsFrame false frame = sent_is_item w.from_hosts h (Data id frame) items head so.balance.host_items in
      let at_its_port : IsTreePort w.plan.k attachment = all_found (IsTreePort w.plan.k) w.attachments h attachment found so.rest.at_ports in
      let t : SwitchNo = switch_no attachment.edge.0 in
      let q : ℕ = attachment.port in
      let v : SwitchView = turn.before in
      let size : v.k ≡ w.plan.k = all_found (λ (u : SwitchView). u.k ≡ w.plan.k) w.switches t.0 v turn.found so.rest.ports in
      let taken = take_from_host w.plan past w.from_hosts w.out w.begun h (Data id frame) items head kept.travels in
      let way : Option ℕ = port_for (with_source v q frame) (destination_of frame) in
      let acts : goes_on w.plan.k q frame way ≡ turn.acts = sym (turn.ruled.done ∙ comes_acts v q frame is_frame.kind ∙ ap (λ m. goes_on m q frame way) size) in
      let few : (x : Target) → here t.0 x + used may_reach_with w.plan t.0 x turn.acts ≤ 1 =
      λ x. subst (λ a. here t.0 x + used may_reach_with w.plan t.0 x a ≤ 1) acts (from_host_few w.plan is_plan t.0 q frame way x) in
      let owes = took_host_balance w.plan w.from_hosts w.out w.journal w.begun (λ i. 0) (λ i. times_in i (Data id frame ∷ [])) h (Data id frame) items head
      (λ i. omega arith) so.balance in
      let w0 : WorldView = record w { from_hosts = set w.from_hosts h items } in
      let w1 : WorldView = heard_item w0 h (Data id frame) in
      let onward : AllByRecursion (IsOnward frame) turn.acts = subst (AllByRecursion (IsOnward frame)) acts (all_onward w.plan.k q frame way) in
      let on = crosses w1 t None id frame turn.acts (λ x. 1) few (owed_is_nowhere w0 id frame owes) (λ u e. absurd (none-some u e)) taken.1 live onward (record {
        once = take_host (to_targets unsaid) w h id frame items head kept.once;
        travels = taken.0;
      }) in
      at_last t.0 frame (host_frame_keeps Bridges accounts w so new t IsIdle (IsAmid unsaid t.0 frame) (acts_keep unsaid t.0 frame) h q id frame items head at_its_port.port turn
      (steps_on t frame turn.acts id (noted w1 (Crossed id t)) turn.after on))

  -- ---- a frame comes out of a port for hosts: where a host stands there it may arrive
  -- this many more have gone out of the port by then
  abbrev beyond : ℕ → ℕ → List Item → ℕ → Target → ℕ
  beyond s port queued r there = departs_at s port there (heads past r queued) + unsaid r there

  departed : (s port id : ℕ) (frame : List ℕ) (items : List Item) → port < w.plan.k → out_of w s port ≡ Data id frame ∷ items → peer_of w.plan s port ≡ HostPort →
      IsKeptOwing (beyond s port (Data id frame ∷ items)) (taken_out w s port items) (λ r there. of_root past id (arrives_at s port there) r) × IsUnderWay past w.begun (Some s) id frame
  departed s port id frame items within head peer =
      let taken = take_port w.plan past w.from_hosts w.out w.begun (port_index w.plan.k s port) (Data id frame) items head kept.travels in (
        record {
          once = depart_one unsaid (taken_out w s port items) s port id frame items peer (take_out (to_targets unsaid) w s port id frame items within head kept.once);
          travels = taken.0;
        },
        (port_held w.plan past w.begun s port id frame within taken.1).1,
      )

  -- it goes out, and arrives nowhere
  gone : (s port id : ℕ) (frame : List ℕ) (items : List Item) → port < w.plan.k → out_of w s port ≡ Data id frame ∷ items → peer_of w.plan s port ≡ HostPort →
      IsKeptIn (beyond s port (Data id frame ∷ items)) (taken_out w s port items)
  gone s port id frame items within head peer =
      let all = departed s port id frame items within head peer in
      record {
        once = weaker (to_targets (beyond s port (Data id frame ∷ items))) (taken_out w s port items) _ (λ r there. 0) (λ r there. omega arith) all.0.once;
        travels = all.0.travels;
      }

  receives_keep : (rule : HostRule) (s port id : ℕ) (frame : List ℕ) (items : List Item) (h : ℕ) → port < w.plan.k → out_of w s port ≡ Data id frame ∷ items →
      peer_of w.plan s port ≡ HostPort → edge_port_of w.plan past h ≡ Some (at_port s port) → is_for_host w.plan h frame ≡ true →
      HostReceives rule (taken_out w s port items) h id frame new → IsKeptIn (beyond s port (Data id frame ∷ items)) new
  receives_keep rule s port id frame items h within head peer stands meant receives =
      host_keeps more rule (reception_noted (taken_out w s port items) h id frame receives.reception) h _ _ new (received receives.reception) receives.turn
    where
      more : ℕ → Target → ℕ
      more = beyond s port (Data id frame ∷ items)

      received : (reception : Reception) → IsKeptIn more (reception_noted (taken_out w s port items) h id frame reception)
      received Kept =
          let all = departed s port id frame items within head peer in
          record {
            once = arrive_one more (taken_out w s port items) s port id frame (host_no h) stands all.0.once;
            travels = subst (λ p. Travel w.plan p w.from_hosts (set w.out (port_index w.plan.k s port) items) w.begun) (sym (past_more w.journal (Arrived id (host_no h) frame)))
                (travel_arrived w.plan past w.from_hosts (set w.out (port_index w.plan.k s port) items) w.begun id (host_no h) frame (record { bytes = all.1.bytes; host = meant }) all.0.travels);
          }
      received NotMember =
          noted_kept more (taken_out w s port items) (Dropped id cause.NoMember) tt (gone s port id frame items within head peer)

  comes_out_of : (rule : HostRule) (s port id : ℕ) (frame : List ℕ) (items : List Item) → port < w.plan.k → out_of w s port ≡ Data id frame ∷ items →
      peer_of w.plan s port ≡ HostPort → (to : Option ℕ) → receiver w s port frame ≡ to → ComesAtHost rule (taken_out w s port items) id frame to new →
      IsKeptIn (beyond s port (Data id frame ∷ items)) new
  comes_out_of rule s port id frame items within head peer None found is =
      subst (IsKeptIn (beyond s port (Data id frame ∷ items))) (sym is)
      (noted_kept (beyond s port (Data id frame ∷ items)) (taken_out w s port items) (Dropped id cause.HostGone) tt (gone s port id frame items within head peer))
  comes_out_of rule s port id frame items within head peer (Some h) found is =
      receives_keep rule s port id frame items h within head peer (receiver_stands w kept.once.standing s port h frame found) (is_for_it w s port h frame found) is

  over_link : (s port : ℕ) (item : Item) (items : List Item) (t : SwitchNo) (q : ℕ) → port < w.plan.k → out_of w s port ≡ item ∷ items →
      peer_of w.plan s port ≡ Switch t q → ComesAtSwitch Bridges (taken_out w s port items) t.0 q item new → IsKeptIn unsaid new
  over_link s port (Control frame) items t q within head peer turn = control_comes_over s port frame items t q head peer turn
  over_link s port (Data id frame) items t q within head peer turn = data_comes_over s port id frame items t q within head peer turn

  out_of_port : (rule : HostRule) (s port : ℕ) (item : Item) (items : List Item) → port < w.plan.k → out_of w s port ≡ item ∷ items →
      peer_of w.plan s port ≡ HostPort → ComesOut rule (taken_out w s port items) s port item new → IsKeptIn (beyond s port (item ∷ items)) new
  out_of_port rule s port (Control frame) items within head peer is =
      fewer unsaid new (beyond s port (Control frame ∷ items)) none
      (subst (IsKeptIn unsaid) (sym is) (taken_kept (port_index w.plan.k s port) (Control frame) items head))
    where
      none_of : (b : Bool) (n : ℕ) → (if b then 0 else 0) + n ≤ n
      none_of true n = omega arith
      none_of false n = omega arith

      none : (r : ℕ) (there : Target) → departs_at s port there 0 + unsaid r there ≤ unsaid r there
      none r (Crossing x) = omega arith
      none r (Arrival place) = omega arith
      none r (Departure place) = none_of (same_edge_port (at_port s port) place) (unsaid r (Departure place))
  out_of_port rule s port (Data id frame) items within head peer comes = comes_out_of rule s port id frame items within head peer (receiver w s port frame) refl comes

  from_host : (h : ℕ) (item : Item) (items : List Item) (attachment : AttachmentPoint) → items_at w.from_hosts h ≡ item ∷ items → slice_get w.attachments h ≡ Some attachment →
      ComesAtSwitch Bridges (heard_item (record w { from_hosts = set w.from_hosts h items }) h item) attachment.edge.0 attachment.port item new → IsKeptIn unsaid new
  from_host h (Control frame) items attachment head found comes =
      let all : AllByRecursion IsDataItem (Control frame ∷ items) = subst (AllByRecursion IsDataItem) head
      (all_at (AllByRecursion IsDataItem) w.from_hosts h [] tt so.balance.host_items) in
      absurd all.0
  from_host h (Data id frame) items attachment head found comes = of_host_comes h id frame items attachment head found comes

  -- ---- what is idle
  empties_out : (u : WorldView) (i : ℕ) → Keeps unsaid u (record u { out = set u.out i [] })
  empties_out u i c = record {
    once = empty_out (to_targets unsaid) u i c.once;
    travels = set_port u.plan (reverse u.journal) u.from_hosts u.out u.begun i [] tt c.travels;
  }

  empties_host : (u : WorldView) (h : ℕ) → Keeps unsaid u (record u { from_hosts = set u.from_hosts h [] })
  empties_host u h c = record {
    once = empty_host (to_targets unsaid) u h c.once;
    travels = set_host u.plan (reverse u.journal) u.from_hosts u.out u.begun h [] tt c.travels;
  }

  -- a host moves
  moves_keep : (rule : HostRule) (h : ℕ) (to from : AttachmentPoint) → slice_get w.attachments h ≡ Some from → HostTurn rule (host_moved w h from to) h HasMoved Nothing new → IsKeptIn unsaid new
  moves_keep rule h to from found turn =
      let moved : Entry = Moved (host_no h) to.edge to.port in
      host_keeps unsaid rule (host_moved w h from to) h _ _ new
      (move_keeps (IsKeptIn unsaid) IsIdle (keeps_writes unsaid) empties_out empties_host w h from to (record {
        once = move_one (to_targets unsaid) w h from to found (λ r there. omega arith) kept.once;
        travels = subst (λ p. Travel w.plan p w.from_hosts w.out w.begun) (sym (past_more w.journal moved))
            (travel_moved w.plan past w.from_hosts w.out w.begun (host_no h) to.edge to.port kept.travels);
      })) turn

  module _ (manager : ManagerRule) (rule : HostRule) (happens : Event) (fine : refusal_of_event w happens ≡ None) where
    within_port : (s : SwitchNo) (port : ℕ) → happens ≡ event.Deliver (queue.Port s port) → port < w.plan.k
    within_port s port is =
        port_within w.plan s.0 port (there_is (has_port w.plan s.0 port) _ (subst (λ e. refusal_of_event w e ≡ None) is fine))

    -- with all that went out in the event
    abbrev by_then : ℕ → Target → ℕ
    by_then r there = gone_by w happens r there + unsaid r there

    quietly : ((r : ℕ) (there : Target) → gone_by w happens r there ≡ 0) → IsKeptIn unsaid new → IsKeptIn by_then new
    quietly none = fewer unsaid new by_then (λ r there. let nothing = none r there in omega arith)

    is_quiet : (e : Event) → happens ≡ e → ((r : ℕ) (there : Target) → gone_by w e r there ≡ 0) → IsKeptIn unsaid new → IsKeptIn by_then new
    is_quiet e is none = quietly (λ r there. subst (λ x. gone_by w x r there ≡ 0) (sym is) (none r there))

    by_case : Happened Bridges manager rule w happens new → IsKeptIn by_then new
    by_case (FromHost h item items attachment is head found comes) =
        is_quiet (event.Deliver (queue.FromHost h)) is (none_gone w (event.Deliver (queue.FromHost h)) (λ r there. refl)) (from_host h.0 item items attachment head found comes)
    by_case (OverLink s port item items t q is head adjacent comes) =
        is_quiet (event.Deliver (queue.Port s port)) is (none_over_link w s port t q adjacent) (over_link s.0 port item items t q (within_port s port is) head adjacent comes)
    by_case (OutOfPort s port item items is head adjacent comes) =
        fewer (beyond s.0 port (item ∷ items)) new by_then
        (λ r there. let same = gone_by_port w s port (item ∷ items) adjacent head r there in let this = ap (λ x. gone_by w x r there) is in omega arith)
        (out_of_port rule s.0 port item items (within_port s port is) head adjacent comes)
    by_case (Reported s told items is head turn) =
        is_quiet (event.Deliver (queue.ToManager s)) is (none_gone w (event.Deliver (queue.ToManager s)) (λ r there. refl))
        (manager_acts_left (Keeps unsaid) IsIdle (keeps_writes unsaid) (λ pmac n. tt) (λ u t says c. record { once = c.once; travels = c.travels }) manager (record w { to_manager = set w.to_manager s.0 items }) s.0 told new turn kept)
    by_case (Ordered s says items is head turn) = is_quiet (event.Deliver (queue.FromManager s)) is (none_gone w (event.Deliver (queue.FromManager s)) (λ r there. refl)) (says_keep s says items turn)
    by_case (Ticked s is turn) = is_quiet (event.Tick s) is (none_gone w (event.Tick s) (λ r there. refl)) (ticks_keep s turn)
    by_case (Failed a b link is found fails) =
        is_quiet (event.Fail a b) is (none_gone w (event.Fail a b) (λ r there. refl)) (subst (IsKeptIn unsaid) (sym fails) (failed_left (Keeps unsaid) IsIdle (keeps_writes unsaid) empties_out w link tt (λ u links c. c) kept))
    by_case (Repaired a b link is found repairs) =
        is_quiet (event.Repair a b) is (none_gone w (event.Repair a b) (λ r there. refl)) (subst (IsKeptIn unsaid) (sym repairs) (repaired_left (Keeps unsaid) IsIdle (keeps_writes unsaid) w link tt (λ u links c. c) kept))
    by_case (Lost s port item items is head loses) =
        is_quiet (event.Lose s port) is (none_gone w (event.Lose s port) (λ r there. refl))
        (subst (IsKeptIn unsaid) (sym loses) (lost_left (Keeps unsaid) IsIdle (keeps_writes unsaid) (taken_out w s.0 port items) item (taken_kept (port_index w.plan.k s.0 port) item items head)))
    by_case (Departed h s port from is found turn) = is_quiet (event.Move h s port) is (none_gone w (event.Move h s port) (λ r there. refl)) (moves_keep rule h.0 (record { edge = s; port = port }) from found turn)
    by_case (PlayedFrame h input skip is turn) =
        quietly (none_asked w happens (h.0, input) is) (host_keeps unsaid rule (skip_noted w h.0 skip) h.0 input _ new (skip_left (Keeps unsaid) IsIdle (keeps_writes unsaid) (λ g why. tt) w h.0 skip kept) turn)
    by_case (Asked h input is turn) = quietly (none_asked w happens (h.0, input) is) (host_keeps unsaid rule w h.0 _ _ new kept turn)
    by_case (BeganAnew is anew) =
        is_quiet event.Restart is (none_gone w event.Restart (λ r there. refl))
        (subst (IsKeptIn unsaid) (sym anew) (anew_left (Keeps unsaid) IsIdle (keeps_writes unsaid) w tt (λ u n c. record { once = c.once; travels = c.travels }) kept))

    pub happens_kept : Happens Bridges manager rule w happens new → IsKeptIn by_then new
    happens_kept does = by_case (happened Bridges manager rule w happens new does)
