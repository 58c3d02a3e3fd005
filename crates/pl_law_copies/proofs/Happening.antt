-- Each event keeps it that at each port at most one frame of each root comes.
use Rattle.std.proofs.Common.{◌≡◌, ℕ, zero, suc, ◌+◌, ◌≤◌, ◌<◌, ◌==◌, ◌&&◌, ◌||◌, not, Bool, true, false, if◌then◌else◌, Contains, List, [], ◌∷◌, Option, None, Some, is_none, reverse, set, slice_get, refl, sym, ap, ◌∙◌, subst, arith}
use Rattle.std.specs.List.{AllByRecursion}
use Rattle.std.proofs.lemmas.Bool.{cond-false, cond-true, or_right}
use Rattle.pl_frame.specs.Ethernet.{destination_of}
use Rattle.pl_wiring.specs.declared.label.SwitchNo.{SwitchNo}
use Rattle.pl_wiring.specs.declared.link.Peer.{Peer}
use Rattle.pl_wiring.specs.declared.link.Peer.TheVariants.{HostPort, Switch}
use Rattle.pl_wiring.specs.Index.{port_index}
use Rattle.pl_wiring.specs.Peers.{IsPort, peer_of}
use Rattle.pl_wiring.specs.Plan.{IsPlan}
use Rattle.pl_layouts.specs.Control.{is_control}
use Rattle.pl_layouts.specs.Memberships.{is_group}
use Rattle.pl_journal.specs.declared.cause.Cause.TheVariants as cause
use Rattle.pl_journal.specs.declared.entry.Entry.{Entry}
use Rattle.pl_journal.specs.declared.entry.Entry.TheVariants.{Arrived, Crossed, Dropped}
use Rattle.pl_journal.specs.Flights.{root}
use Rattle.pl_journal.specs.Places.{EdgePort, at_port, edge_port_of, is_at}
use Rattle.pl_node.specs.declared.acts.Act.{Act}
use Rattle.pl_node.specs.declared.messages.ToSwitch.{ToSwitch}
use Rattle.pl_node.specs.declared.reception.Reception.{Reception}
use Rattle.pl_node.specs.declared.reception.Reception.TheVariants.{Kept, NotMember}
use Rattle.pl_node.specs.Accounting.{AccountsForFrames, IsShaped}
use Rattle.pl_node.specs.HostInputs.{HostRule}
use Rattle.pl_node.specs.HostInputs.HostAnswer.{Nothing}
use Rattle.pl_node.specs.HostInputs.HostInput.{HasMoved}
use Rattle.pl_node.specs.ManagerDuties.{ManagerRule}
use Rattle.pl_node.specs.PortRecords.{is_open_to_hosts, port_of}
use Rattle.pl_node.specs.SwitchInputs.SwitchInput.{Comes, Says}
use Rattle.pl_node.specs.SwitchViews.{SwitchView}
use Rattle.pl_queues.specs.Queues.{items_at}
use Rattle.pl_steps.specs.Steps.{SwitchStep}
use Rattle.pl_switch_rule.specs.Announcing.{ticks}
use Rattle.pl_switch_rule.specs.Intake.{comes_from_host}
use Rattle.pl_switch_rule.specs.SwitchRule.{Loose, comes_from_switch, control_comes, data_comes, switch_step}
use Rattle.pl_switch_rule.proofs.Exports.{quiet_control_comes}
use Rattle.pl_world.specs.declared.event.Event.{Event}
use Rattle.pl_world.specs.declared.event.Event.TheVariants as event
use Rattle.pl_world.specs.declared.event.QueueName.TheVariants as queue
use Rattle.pl_world.specs.declared.item.Item.{Item}
use Rattle.pl_world.specs.declared.item.Item.TheVariants.{Control, Data}
use Rattle.pl_world.specs.declared.spoken_frame.SpokenFrame.TheVariants.{Silent, Waiting}
use Rattle.pl_world.specs.declared.attachment.AttachmentPoint.{AttachmentPoint}
use Rattle.pl_world.specs.Changes.{host_no, noted, out_of, receiver, switch_no}
use Rattle.pl_world.specs.Flying.{IsTreePort, IsCounted, IsDataItem, IsFrame}
use Rattle.pl_world.specs.LinksAndMoves.{host_moved}
use Rattle.pl_world.specs.OtherActs.{reception_noted, skip_noted}
use Rattle.pl_world.specs.Refusals.{has_port, refusal_of_event}
use Rattle.pl_world.specs.WorldRule.{ComesAtHost, ComesAtSwitch, ComesOut, Happens, HostReceives, HostTurn, SwitchTurn, Ticks, heard_item}
use Rattle.pl_world.specs.Worlds.{WorldView}
use Rattle.pl_world.proofs.Exports.{all_at, all_found, anew_left, failed_left, Happened, happened, head_is_item, lost_left, manager_acts_left, peer_is_port, port_within, repaired_left, sent_is_item, skip_left, Sound, sound, there_is}
use Rattle.pl_world.proofs.Exports.Happened.{Asked, BeganAnew, Departed, Failed, FromHost, Lost, Ordered, OutOfPort, OverLink, PlayedFrame, Repaired, Reported, Ticked}
use Rattle.pl_law_counts.specs.Counting.{OnceIn}
use Rattle.pl_law_counts.proofs.Exports.{claim, control_keeps, empty_host, empty_out, frame_keeps, host_frame_keeps, move_keeps, move_one, note, of_root, of_root_less, once_noted, OnceAmid, order_keeps, peer_back, receiver_stands, take_any, take_host, take_out, taken_out, tick_keeps, used, weaker}
use Rattle.pl_law_copies.specs.Copies.{came_to, ComesOnce, may_come, may_come_by, to_ports}
use Rattle.pl_law_copies.specs.Standing.{KnowTrees}
use Rattle.pl_law_copies.proofs.ActsKeepOneCopy.{acts_keep, IsKeptBy, IsNoCopyEntry}
use Rattle.pl_law_copies.proofs.SinglePasses.{AreSingle, hears_single, host_single, quiet_still, single_few, single_used, still_is_single, ticks_single}
use Rattle.pl_law_copies.proofs.TurnsKeepOneCopy.{host_comes, Keeps, keeps_writes, LetsFew, noted_once, over_link_few}

module _ (accounts : AccountsForFrames Loose) (w : WorldView) (counted : IsCounted w) (come : ComesOnce w) (new : WorldView) where
  so : Sound w
  so = sound w counted

  is_plan : IsPlan w.plan
  is_plan = so.rest.is_plan

  -- a tick, and a message of the manager
  ticks_come : (s : SwitchNo) → Ticks Loose w s.0 new → ComesOnce new
  ticks_come s turn =
      let shaped : IsShaped turn.before = all_found IsShaped w.switches s.0 turn.before turn.found so.rest.shaped in
      let step : turn.acts ≡ (ticks turn.before).acts = turn.ruled.steps.done in
      let few = single_few w.plan s.0 false turn.acts (subst (λ a. AreSingle false a) (sym step) (ticks_single turn.before shaped)) in
      (tick_keeps Loose accounts w so new s IsNoCopyEntry (IsKeptBy s.0) (acts_keep s.0) turn (come, few)).0

  says_come : (s : SwitchNo) (says : ToSwitch) (items : List ToSwitch) → SwitchTurn Loose (record w { from_manager = set w.from_manager s.0 items }) s.0 (Says says) Silent new →
      ComesOnce new
  says_come s says items turn =
      let shaped : IsShaped turn.before = all_found IsShaped w.switches s.0 turn.before turn.found so.rest.shaped in
      let loose = turn.ruled in
      let few = single_few w.plan s.0 false turn.acts (subst (λ a. AreSingle false a) (sym loose.steps.done) (hears_single loose.choose turn.before says shaped)) in
      (order_keeps Loose accounts w so new s IsNoCopyEntry (IsKeptBy s.0) (acts_keep s.0) says items turn (come, few)).0

  -- a control frame comes over a link
  control_comes_over : (s port : ℕ) (frame : List ℕ) (items : List Item) (t : SwitchNo) (q : ℕ) → out_of w s port ≡ Control frame ∷ items →
      peer_of w.plan s port ≡ Switch t q → SwitchTurn Loose (taken_out w s port items) t.0 (Comes q frame) Silent new → ComesOnce new
  control_comes_over s port frame items t q head peer turn =
      let is_frame : IsFrame true frame = head_is_item w.out (port_index w.plan.k s port) (Control frame) items head so.balance.port_items in
      let port_there = subst (λ (p : Peer). IsPort w.plan.k p) peer (peer_is_port w.plan s port is_plan) in
      let v : SwitchView = turn.before in
      let shaped : IsShaped v = all_found IsShaped w.switches t.0 v turn.found so.rest.shaped in
      let size : v.k ≡ w.plan.k = all_found (λ (u : SwitchView). u.k ≡ w.plan.k) w.switches t.0 v turn.found so.rest.ports in
      let loose = turn.ruled in
      let step : switch_step loose.choose v (Comes q frame) ≡ control_comes v q frame =
      cond-true (is_control frame) (control_comes v q frame) (data_comes loose.choose v q frame) is_frame.kind in
      let acts : turn.acts ≡ (control_comes v q frame).acts = loose.steps.done ∙ ap (λ (x : SwitchStep). x.acts) step in
      let few = single_few w.plan t.0 false turn.acts (subst (λ a. AreSingle false a) (sym acts)
      (still_is_single false (control_comes v q frame).acts (quiet_still v (control_comes v q frame) (quiet_control_comes v q frame shaped (subst (λ n. q < n) (sym size) port_there.1))))) in
      let taken = take_any to_ports w (port_index w.plan.k s port) (Control frame) items head come in
      (control_keeps Loose accounts w so new t IsNoCopyEntry (IsKeptBy t.0) (acts_keep t.0) s port q items peer frame head turn (taken, few)).0

  -- a data frame in hand, of which no more may be let go than is owed, crosses the switch
  crosses : (u : WorldView) (t : SwitchNo) (id : ℕ) (acts : List Act) (bound : EdgePort → ℕ) → ((there : EdgePort) → used may_come_by u.plan t.0 there acts ≤ bound there) →
      OnceIn to_ports u (λ r there. of_root (reverse u.journal) id (bound there) r) → OnceAmid to_ports t.0 acts (Waiting id false) (noted u (Crossed id t))
  crosses u t id acts bound few c =
      once_noted to_ports t.0 u acts (Waiting id false) (Crossed id t) tt (λ r there. omega arith)
      (weaker to_ports u _ _ (λ r there. of_root_less (reverse u.journal) id (used may_come_by u.plan t.0 there acts) (bound there) r (few there)) c)

  -- it comes over a link
  data_comes_over : KnowTrees w → (s port id : ℕ) (frame : List ℕ) (items : List Item) (t : SwitchNo) (q : ℕ) → port < w.plan.k →
      out_of w s port ≡ Data id frame ∷ items → peer_of w.plan s port ≡ Switch t q →
      SwitchTurn Loose (noted (taken_out w s port items) (Crossed id t)) t.0 (Comes q frame) (Waiting id false) new → ComesOnce new
  data_comes_over trees s port id frame items t q within head peer turn =
      let is_frame : IsFrame false frame = head_is_item w.out (port_index w.plan.k s port) (Data id frame) items head so.balance.port_items in
      let v : SwitchView = turn.before in
      let loose = turn.ruled in
      let there : Contains (out_of w s port) (Data id frame) = subst (λ l. Contains l (Data id frame)) (sym head) (zero, omega arith, refl) in
      let step : switch_step loose.choose v (Comes q frame) ≡ comes_from_switch loose.choose v q frame =
      cond-false (is_control frame) (control_comes v q frame) (data_comes loose.choose v q frame) is_frame.kind
      ∙ cond-false (is_open_to_hosts (port_of v q)) (comes_from_host loose.choose v q frame) (comes_from_switch loose.choose v q frame)
      (trees.closed s port t q id frame v peer there turn.found) in
      let acts : (comes_from_switch loose.choose v q frame).acts ≡ turn.acts = sym (loose.steps.done ∙ ap (λ (x : SwitchStep). x.acts) step) in
      let lets : LetsFew w.plan t.0 s port frame turn.acts = subst (LetsFew w.plan t.0 s port frame) acts
      (over_link_few w.plan is_plan t v (trees.each t.0 v turn.found) s port q frame loose.choose peer (peer_back w.plan s port t q is_plan peer)) in
      let on = crosses (taken_out w s port items) t id turn.acts (λ there. claim may_come_by w.plan s port there frame) lets.0 (take_out to_ports w s port id frame items within head come) in
      (frame_keeps Loose accounts w so new t IsNoCopyEntry (IsKeptBy t.0) (acts_keep t.0) s port q items peer id frame head turn (on, lets.1)).0

  -- it comes from a host
  of_host_comes : KnowTrees w → (h id : ℕ) (frame : List ℕ) (items : List Item) (attachment : AttachmentPoint) → items_at w.from_hosts h ≡ Data id frame ∷ items →
      slice_get w.attachments h ≡ Some attachment →
      SwitchTurn Loose (noted (heard_item (record w { from_hosts = set w.from_hosts h items }) h (Data id frame)) (Crossed id (switch_no attachment.edge.0)))
      attachment.edge.0 (Comes attachment.port frame) (Waiting id false) new → ComesOnce new
  of_host_comes trees h id frame items attachment head found turn =
      let is_frame : IsFrame false frame = sent_is_item w.from_hosts h (Data id frame) items head so.balance.host_items in
      let at : IsTreePort w.plan.k attachment = all_found (IsTreePort w.plan.k) w.attachments h attachment found so.rest.at_ports in
      let t : SwitchNo = switch_no attachment.edge.0 in
      let v : SwitchView = turn.before in
      let shaped : IsShaped v = all_found IsShaped w.switches t.0 v turn.found so.rest.shaped in
      let size : v.k ≡ w.plan.k = all_found (λ (u : SwitchView). u.k ≡ w.plan.k) w.switches t.0 v turn.found so.rest.ports in
      let loose = turn.ruled in
      let opens : is_open_to_hosts (port_of v attachment.port) ≡ true =
      or_right (port_of v attachment.port).host _ (ap is_none ((trees.each t.0 v turn.found).strangers attachment.port (trees.free h attachment found))) in
      let step : switch_step loose.choose v (Comes attachment.port frame) ≡ comes_from_host loose.choose v attachment.port frame =
      cond-false (is_control frame) (control_comes v attachment.port frame) (data_comes loose.choose v attachment.port frame) is_frame.kind
      ∙ cond-true (is_open_to_hosts (port_of v attachment.port)) (comes_from_host loose.choose v attachment.port frame) (comes_from_switch loose.choose v attachment.port frame) opens in
      let acts : (comes_from_host loose.choose v attachment.port frame).acts ≡ turn.acts = sym (loose.steps.done ∙ ap (λ (x : SwitchStep). x.acts) step) in
      let single : AreSingle true turn.acts = subst (λ a. AreSingle true a) acts
      (host_single loose.choose v attachment.port frame shaped (subst (λ n. attachment.port < n) (sym size) at.port) is_frame.whole.low) in
      let on = crosses (record w { from_hosts = set w.from_hosts h items }) t id turn.acts (λ there. 1) (λ there. single_used w.plan t.0 there true turn.acts single)
      (take_host to_ports w h id frame items head come) in
      (host_frame_keeps Loose accounts w so new t IsNoCopyEntry (IsKeptBy t.0) (acts_keep t.0) h attachment.port id frame items head at.port turn
      (on, single_few w.plan t.0 true turn.acts single)).0

  -- a frame comes out of a port for hosts: where a host stands there it may arrive
  receives_come : (rule : HostRule) (s port id : ℕ) (frame : List ℕ) (items : List Item) (h : ℕ) → port < w.plan.k → out_of w s port ≡ Data id frame ∷ items →
      peer_of w.plan s port ≡ HostPort → edge_port_of w.plan (reverse w.journal) h ≡ Some (at_port s port) →
      HostReceives rule (taken_out w s port items) h id frame new → ComesOnce new
  receives_come rule s port id frame items h within head peer stands receives =
      host_comes rule (reception_noted (taken_out w s port items) h id frame receives.reception) h _ _ new
      (received receives.reception (take_out to_ports w s port id frame items within head come)) receives.turn
    where
      past : List Entry
      past = reverse w.journal

      arrives : (own at group may : Bool) (before : ℕ) → may ≡ at →
          0 + (if own && at then suc before else before) ≤ (if own then (if not group || may then 1 else 0) else 0) + before
      arrives true true true may before is = rw is (omega arith)
      arrives true true false may before is = omega arith
      arrives true false true may before is = omega arith
      arrives true false false may before is = omega arith
      arrives false at group may before is = omega arith

      at_its_port : (there : EdgePort) → may_come w.plan.k s port (peer_of w.plan s port) there ≡ is_at (edge_port_of w.plan past h) there
      at_its_port there = ap (λ p. may_come w.plan.k s port p there) peer ∙ sym (ap (λ o. is_at o there) stands)

      received : (reception : Reception) → OnceIn to_ports (taken_out w s port items) (λ r there. of_root past id (claim may_come_by w.plan s port there frame) r) →
          ComesOnce (reception_noted (taken_out w s port items) h id frame reception)
      received Kept c =
          note to_ports (taken_out w s port items) (Arrived id (host_no h) frame) _ (λ p r there. 0) tt
          (λ r there. arrives (root past id == r) (is_at (edge_port_of w.plan past h) there) (is_group (destination_of frame)) (may_come w.plan.k s port (peer_of w.plan s port) there)
          (came_to w.plan past r there) (at_its_port there)) c
      received NotMember c = noted_once (taken_out w s port items) (Dropped id cause.NoMember) tt (weaker to_ports (taken_out w s port items) _ (λ r there. 0) (λ r there. omega arith) c)

  comes_out_of : (rule : HostRule) (s port id : ℕ) (frame : List ℕ) (items : List Item) → port < w.plan.k → out_of w s port ≡ Data id frame ∷ items →
      peer_of w.plan s port ≡ HostPort → (to : Option ℕ) → receiver w s port frame ≡ to → ComesAtHost rule (taken_out w s port items) id frame to new → ComesOnce new
  comes_out_of rule s port id frame items within head peer None gets is =
      subst ComesOnce (sym is) (noted_once (taken_out w s port items) (Dropped id cause.HostGone) tt (take_any to_ports w (port_index w.plan.k s port) (Data id frame) items head come))
  comes_out_of rule s port id frame items within head peer (Some h) gets is =
      receives_come rule s port id frame items h within head peer (receiver_stands w come.standing s port h frame gets) is

  over_link : KnowTrees w → (s port : ℕ) (item : Item) (items : List Item) (t : SwitchNo) (q : ℕ) → port < w.plan.k → out_of w s port ≡ item ∷ items →
      peer_of w.plan s port ≡ Switch t q → ComesAtSwitch Loose (taken_out w s port items) t.0 q item new → ComesOnce new
  over_link trees s port (Control frame) items t q within head peer turn = control_comes_over s port frame items t q head peer turn
  over_link trees s port (Data id frame) items t q within head peer turn = data_comes_over trees s port id frame items t q within head peer turn

  out_of_port : (rule : HostRule) (s port : ℕ) (item : Item) (items : List Item) → port < w.plan.k → out_of w s port ≡ item ∷ items →
      peer_of w.plan s port ≡ HostPort → ComesOut rule (taken_out w s port items) s port item new → ComesOnce new
  out_of_port rule s port (Control frame) items within head peer is = subst ComesOnce (sym is)
      (take_any to_ports w (port_index w.plan.k s port) (Control frame) items head come)
  out_of_port rule s port (Data id frame) items within head peer comes =
      comes_out_of rule s port id frame items within head peer (receiver w s port frame) refl comes

  from_host : KnowTrees w → (h : ℕ) (item : Item) (items : List Item) (attachment : AttachmentPoint) → items_at w.from_hosts h ≡ item ∷ items →
      slice_get w.attachments h ≡ Some attachment →
      ComesAtSwitch Loose (heard_item (record w { from_hosts = set w.from_hosts h items }) h item) attachment.edge.0 attachment.port item new → ComesOnce new
  from_host trees h (Control frame) items attachment head found comes =
      let all : AllByRecursion IsDataItem (Control frame ∷ items) = subst (AllByRecursion IsDataItem) head
      (all_at (AllByRecursion IsDataItem) w.from_hosts h [] tt so.balance.host_items) in
      absurd all.0
  from_host trees h (Data id frame) items attachment head found comes = of_host_comes trees h id frame items attachment head found comes

  -- ---- what says nothing of copies
  empties_out : (u : WorldView) (i : ℕ) → Keeps u (record u { out = set u.out i [] })
  empties_out u i c = empty_out to_ports u i c

  -- a host moves
  moves_come : (rule : HostRule) (h : ℕ) (to from : AttachmentPoint) → slice_get w.attachments h ≡ Some from → HostTurn rule (host_moved w h from to) h HasMoved Nothing new →
      ComesOnce new
  moves_come rule h to from found turn =
      host_comes rule (host_moved w h from to) h _ _ new
      (move_keeps ComesOnce IsNoCopyEntry keeps_writes empties_out (λ u i c. empty_host to_ports u i c) w h from to (move_one to_ports w h from to found (λ r there. omega arith) come)) turn

  module _ (trees : KnowTrees w) (manager : ManagerRule) (rule : HostRule) (happens : Event) (fine : refusal_of_event w happens ≡ None) where
    within_port : (s : SwitchNo) (port : ℕ) → happens ≡ event.Deliver (queue.Port s port) → port < w.plan.k
    within_port s port is =
        port_within w.plan s.0 port (there_is (has_port w.plan s.0 port) _ (subst (λ e. refusal_of_event w e ≡ None) is fine))

    by_case : Happened Loose manager rule w happens new → ComesOnce new
    by_case (FromHost h item items attachment is head at comes) = from_host trees h.0 item items attachment head at comes
    by_case (OverLink s port item items t q is head joined comes) = over_link trees s.0 port item items t q (within_port s port is) head joined comes
    by_case (OutOfPort s port item items is head joined comes) = out_of_port rule s.0 port item items (within_port s port is) head joined comes
    by_case (Reported s told items is head turn) =
        manager_acts_left Keeps IsNoCopyEntry keeps_writes (λ pmac n. tt) (λ u t says c. c) manager
        (record w { to_manager = set w.to_manager s.0 items }) s.0 told new turn come
    by_case (Ordered s says items is head turn) = says_come s says items turn
    by_case (Ticked s is turn) = ticks_come s turn
    by_case (Failed a b link is found fails) = subst ComesOnce (sym fails) (failed_left Keeps IsNoCopyEntry keeps_writes empties_out w link tt (λ u links c. c) come)
    by_case (Repaired a b link is found repairs) = subst ComesOnce (sym repairs) (repaired_left Keeps IsNoCopyEntry keeps_writes w link tt (λ u links c. c) come)
    by_case (Lost s port item items is head loses) =
        subst ComesOnce (sym loses) (lost_left Keeps IsNoCopyEntry keeps_writes (taken_out w s.0 port items) item
        (take_any to_ports w (port_index w.plan.k s.0 port) item items head come))
    by_case (Departed h s port from is at turn) = moves_come rule h.0 (record { edge = s; port = port }) from at turn
    by_case (PlayedFrame h input skip is turn) =
        host_comes rule (skip_noted w h.0 skip) h.0 input _ new (skip_left Keeps IsNoCopyEntry keeps_writes (λ g why. tt) w h.0 skip come) turn
    by_case (Asked h input is turn) = host_comes rule w h.0 _ _ new come turn
    by_case (BeganAnew is anew) = subst ComesOnce (sym anew) (anew_left Keeps IsNoCopyEntry keeps_writes w tt (λ u n c. c) come)

    pub happens_once : Happens Loose manager rule w happens new → ComesOnce new
    happens_once does = by_case (happened Loose manager rule w happens new does)
