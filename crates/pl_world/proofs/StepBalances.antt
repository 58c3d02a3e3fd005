-- Each step keeps the balance of the world.
use Rattle.std.proofs.Common.{◌≡◌, ℕ, zero, suc, ◌+◌, ◌<◌, ◌==◌, ◌&&◌, not, nat_le, nat_lt, Bool, true, false, if◌then◌else◌, List, [], ◌∷◌, ◌++◌, length, map, Option, Some, None, IsTrue, Contains, set, slice_get, refl, sym, ◌∙◌, subst, arith}
use Rattle.std.specs.List.{find, fold}
use Rattle.std.proofs.Math.ListN.{length-set}
use Rattle.std.proofs.lemmas.List.{length-replicate}
use Rattle.std.proofs.lemmas.Bool.{and_parts, leb-true, ltb-true, not-true}
use Rattle.std.proofs.lemmas.Option.{slice_get_within}
use Rattle.pl_wiring.specs.declared.label.SwitchNo.{SwitchNo}
use Rattle.pl_wiring.specs.declared.link.Link.{Link}
use Rattle.pl_wiring.specs.declared.link.Peer.TheVariants.{Switch}
use Rattle.pl_wiring.specs.FatTree.{IsTreeLink}
use Rattle.pl_wiring.specs.Index.{port_index}
use Rattle.pl_wiring.specs.Labels.{switch_count}
use Rattle.pl_wiring.specs.LiveLinks.{IsFor, LivePorts}
use Rattle.pl_wiring.specs.Peers.{IsPort, peer_among, peer_of}
use Rattle.pl_wiring.specs.Plan.{IsPlan, Plan}
use Rattle.pl_wiring.proofs.Exports.{at_contained, made_for_changed, tree_ends}
use Rattle.pl_node.specs.declared.acts.HostAct.{HostAct}
use Rattle.pl_node.specs.declared.acts.HostAct.TheVariants.{Send}
use Rattle.pl_node.specs.declared.acts.ManagerAct.{ManagerAct}
use Rattle.pl_node.specs.declared.acts.ManagerAct.TheVariants.{Number, Say}
use Rattle.pl_journal.specs.declared.cause.Cause.TheVariants as cause
use Rattle.pl_journal.specs.declared.cause.Skip.{Skip}
use Rattle.pl_journal.specs.declared.entry.Entry.{Entry}
use Rattle.pl_journal.specs.declared.entry.Entry.TheVariants.{Arrived, Crossed, Dropped, LinkDown, LinkUp, Moved, Registered, Restarted, Sent, Skipped}
use Rattle.pl_world.specs.declared.event.Event.{Event}
use Rattle.pl_world.specs.declared.event.Event.TheVariants as event
use Rattle.pl_world.specs.declared.event.QueueName.TheVariants as queue
use Rattle.pl_node.specs.declared.messages.ToManager.{ToManager}
use Rattle.pl_node.specs.declared.messages.ToSwitch.{ToSwitch}
use Rattle.pl_node.specs.declared.reception.Reception.{Reception}
use Rattle.pl_node.specs.declared.reception.Reception.TheVariants.{Kept, NotMember}
use Rattle.pl_node.specs.Accounting.{AccountsForFrames, CanCome, IsShaped, first_frame_state, is_said, frame_state_after, state_of_frame}
use Rattle.pl_node.specs.Accounting.FrameState.{Silent as SaidNone, Waiting as SaidWaiting}
use Rattle.pl_layouts.specs.Control.{is_control}
use Rattle.pl_journal.specs.Flights.{begun, ends}
use Rattle.pl_node.specs.HostDuties.{HoldsData, HostsSendData, are_data, is_data, sent_by}
use Rattle.pl_node.specs.HostInputs.{HostAnswer, HostInput, HostRule}
use Rattle.pl_node.specs.HostInputs.HostAnswer.{Nothing}
use Rattle.pl_node.specs.HostInputs.HostInput.{HasMoved}
use Rattle.pl_node.specs.HostViews.{HostView}
use Rattle.pl_node.specs.ManagerDuties.{ManagerRule}
use Rattle.pl_journal.specs.Places.{is_host_port}
use Rattle.pl_node.specs.SwitchInputs.{SwitchInput, SwitchRule}
use Rattle.pl_node.specs.SwitchInputs.SwitchInput.{Comes, Says, Tick}
use Rattle.pl_node.specs.SwitchViews.{SwitchView}
use Rattle.pl_world.specs.declared.error.StepError.{StepError}
use Rattle.pl_world.specs.declared.error.StepError.TheVariants.{JournalFull, NoSuch, StepsSpent}
use Rattle.pl_world.specs.declared.item.Item.{Item}
use Rattle.pl_world.specs.declared.item.Item.TheVariants.{Control, Data}
use Rattle.pl_world.specs.declared.spoken_frame.SpokenFrame.{SpokenFrame}
use Rattle.pl_world.specs.declared.spoken_frame.SpokenFrame.TheVariants.{Silent, Waiting}
use Rattle.pl_world.specs.declared.attachment.AttachmentPoint.{AttachmentPoint}
use Rattle.pl_world.specs.Changes.{all_noted, host_no, noted, out_of, receiver, said_to, switch_no}
use Rattle.pl_world.specs.Flying.{IsTreePort, IsCounted, IsFrame, IsItem, times_in}
use Rattle.pl_queues.specs.Queues.{items_at}
use Rattle.pl_world.specs.LinksAndMoves.{host_moved, item_lost, joins, link_between, with_link}
use Rattle.pl_world.specs.OtherActs.{heard_after_tick, host_act_done, manager_act_done, reception_noted, skip_noted}
use Rattle.pl_world.specs.Restarting.{in_epoch, manager_restarted}
use Rattle.pl_world.specs.Refusals.{has_host, has_port, has_switch, is_full, is_for_hosts, refusal, refusal_of_event, refusal_of_link, refusal_of_move}
use Rattle.pl_world.specs.WorldRule.{ComesAtHost, ComesAtSwitch, ComesOut, LinkFails, HostTurn, HostPlays, HostReceives, ManagerTurn, SwitchTurn, WorldStep, heard_item}
use Rattle.pl_world.specs.Worlds.{WorldView}
use Rattle.pl_world.proofs.Happenings.{Happened, happened}
use Rattle.pl_world.proofs.Happenings.Happened.{Asked, BeganAnew, Departed, Failed, FromHost, Lost, Ordered, OutOfPort, OverLink, PlayedFrame, Repaired, Reported, Ticked}
use Rattle.pl_world.proofs.Balances.{Owes, begun_balance, emptied_host_balance, emptied_out_balance, head_is_item, noted_balance, put_host_balance, sent_is_item, took_host_balance, took_out_balance}
use Rattle.pl_world.proofs.Counts.{all_found, all_set, one, times_in-data}
use Rattle.pl_world.proofs.SwitchActBalances.{HasRest, Steady, all_acts_steady, owed_by, said_by, says_rest, told_rest}
use Rattle.pl_world.proofs.Stands.{ticked_heard}

pub record Sound (w : WorldView) : Type 0 where
  pub balance : Owes w (λ id. 0)
  pub rest : HasRest w

pub sound : (w : WorldView) → IsCounted w → Sound w
sound w c = let f = c.formed in record {
  balance = record {
    hosts = f.from_hosts;
    ports = f.out;
    host_items = c.in_host_queues;
    port_items = c.in_port_queues;
    begins = c.begun;
    flights = λ id. omega (arith, c.flights id);
  };
  rest = record {
    is_plan = f.plan;
    made_for = f.links;
    attachments_many = f.attachments;
    at_ports = f.at_ports;
    heard_many = f.heard;
    switches_many = f.switches;
    ports = f.ports;
    hosts_many = f.hosts;
    to_many = f.to_manager;
    from_many = f.from_manager;
    shaped = c.shaped;
    holding = c.holding;
  };
}

pub counted : (w : WorldView) → Sound w → IsCounted w
counted w s = record {
  formed = record {
    plan = s.rest.is_plan;
    links = s.rest.made_for;
    attachments = s.rest.attachments_many;
    at_ports = s.rest.at_ports;
    heard = s.rest.heard_many;
    switches = s.rest.switches_many;
    ports = s.rest.ports;
    hosts = s.rest.hosts_many;
    from_hosts = s.balance.hosts;
    out = s.balance.ports;
    to_manager = s.rest.to_many;
    from_manager = s.rest.from_many;
  };
  shaped = s.rest.shaped;
  holding = s.rest.holding;
  in_host_queues = s.balance.host_items;
  in_port_queues = s.balance.port_items;
  begun = s.balance.begins;
  flights = λ id. omega (arith, s.balance.flights id);
}

-- another view of a switch, or of a host
pub switches_rest : (w : WorldView) (s : ℕ) (v : SwitchView) → v.k ≡ w.plan.k → IsShaped v → HasRest w → HasRest (record w { switches = set w.switches s v })
switches_rest w s v size is r = record {
  is_plan = r.is_plan;
  made_for = r.made_for;
  attachments_many = r.attachments_many;
  at_ports = r.at_ports;
  heard_many = r.heard_many;
  switches_many = length-set w.switches s v ∙ r.switches_many;
  ports = all_set (λ (u : SwitchView). u.k ≡ w.plan.k) w.switches s v size r.ports;
  hosts_many = r.hosts_many;
  to_many = r.to_many;
  from_many = r.from_many;
  shaped = all_set IsShaped w.switches s v is r.shaped;
  holding = r.holding;
}

pub hosts_rest : (w : WorldView) (h : ℕ) (v : HostView) → HoldsData v → HasRest w → HasRest (record w { hosts = set w.hosts h v })
hosts_rest w h v is r = record {
  is_plan = r.is_plan;
  made_for = r.made_for;
  attachments_many = r.attachments_many;
  at_ports = r.at_ports;
  heard_many = r.heard_many;
  switches_many = r.switches_many;
  ports = r.ports;
  hosts_many = length-set w.hosts h v ∙ r.hosts_many;
  to_many = r.to_many;
  from_many = r.from_many;
  shaped = r.shaped;
  holding = all_set HoldsData w.hosts h v is r.holding;
}

pub heard_rest : (w : WorldView) (heard : List (Option ℕ)) → length heard ≡ length w.heard → HasRest w → HasRest (record w { heard = heard })
heard_rest w heard same r = record {
  is_plan = r.is_plan;
  made_for = r.made_for;
  attachments_many = r.attachments_many;
  at_ports = r.at_ports;
  heard_many = same ∙ r.heard_many;
  switches_many = r.switches_many;
  ports = r.ports;
  hosts_many = r.hosts_many;
  to_many = r.to_many;
  from_many = r.from_many;
  shaped = r.shaped;
  holding = r.holding;
}

pub attachments_rest : (w : WorldView) (h : ℕ) (attachment : AttachmentPoint) → IsTreePort w.plan.k attachment → HasRest w → HasRest (record w { attachments = set w.attachments h attachment })
attachments_rest w h attachment is r = record {
  is_plan = r.is_plan;
  made_for = r.made_for;
  attachments_many = length-set w.attachments h attachment ∙ r.attachments_many;
  at_ports = all_set (IsTreePort w.plan.k) w.attachments h attachment is r.at_ports;
  heard_many = r.heard_many;
  switches_many = r.switches_many;
  ports = r.ports;
  hosts_many = r.hosts_many;
  to_many = r.to_many;
  from_many = r.from_many;
  shaped = r.shaped;
  holding = r.holding;
}

links_rest : (w : WorldView) (links : LivePorts) → IsFor w.plan links → HasRest w → HasRest (record w { links = links })
links_rest w links is r = record {
  is_plan = r.is_plan;
  made_for = is;
  attachments_many = r.attachments_many;
  at_ports = r.at_ports;
  heard_many = r.heard_many;
  switches_many = r.switches_many;
  ports = r.ports;
  hosts_many = r.hosts_many;
  to_many = r.to_many;
  from_many = r.from_many;
  shaped = r.shaped;
  holding = r.holding;
}

-- entries that begin no frame, and end just the frames that are owed
pub noted_owes : (w : WorldView) (f g : ℕ → ℕ) (entries : List Entry) → begun entries ≡ 0 → ((id : ℕ) → f id ≡ ends entries id + g id) → Owes w f → Owes (all_noted w entries) g
noted_owes w f g entries begins ends b = noted_balance w.plan w.from_hosts w.out w.journal w.begun f g entries begins ends b

-- a switch steps
switch_turn : (rule : SwitchRule) → AccountsForFrames rule → (w : WorldView) (s : ℕ) (input : SwitchInput) (speech : SpokenFrame) (new : WorldView) →
    said_by speech ≡ first_frame_state input → ((v : SwitchView) → v.k ≡ w.plan.k → CanCome v input) →
    Owes w (λ id. owed_by speech id + 0) → HasRest w → SwitchTurn rule w s input speech new → Sound new
switch_turn rule accounts w s input speech new same can owes r turn =
    let size : turn.before.k ≡ w.plan.k = all_found (λ (u : SwitchView). u.k ≡ w.plan.k) w.switches s turn.before turn.found r.ports in
    let shaped : IsShaped turn.before = all_found IsShaped w.switches s turn.before turn.found r.shaped in
    let within : s < length w.switches = slice_get_within w.switches s turn.before turn.found in
    let kept = accounts turn.before input turn.after turn.acts shaped (can turn.before size) turn.ruled in
    let k : ℕ = turn.before.k in
    let w1 : WorldView = record w { switches = set w.switches s turn.after } in
    let start : Steady s k w1 speech [] = record {
      size = sym size;
      switch = rw size (let many = r.switches_many in omega arith);
      none = refl;
      balance = owes;
      rest = switches_rest w s turn.after (kept.k ∙ size) kept.shaped r;
    } in
    let said : is_said (fold frame_state_after (said_by speech) turn.acts) ≡ true = rw same kept.said in
    let done = all_acts_steady s k w1 speech turn.before.place turn.after.place turn.acts kept.fit said start in
    subst Sound (sym turn.changed) (record { balance = done.balance; rest = done.rest })

-- a data frame of a host
pub data_is_frame : (frame : List ℕ) → IsTrue (is_data frame) → IsFrame false frame
data_is_frame frame is =
    let outer = and_parts (nat_le 14 (length frame) && nat_le (length frame) 65553) (not (is_control frame)) is in
    let inner = and_parts (nat_le 14 (length frame)) (nat_le (length frame) 65553) outer.0 in
    record {
      kind = not-true (is_control frame) outer.1;
      whole = record { low = leb-true 14 (length frame) inner.0; high = leb-true (length frame) 65553 inner.1 };
    }

pub host_act : (w : WorldView) (h : ℕ) (a : HostAct) → h < length w.from_hosts → IsTrue (is_data (sent_by a)) → Sound w → Sound (host_act_done h w a)
host_act w h (Send frame) within is s = record {
  balance =
      put_host_balance w.plan w.from_hosts w.out (w.journal ++ Sent (w.begun + 1) (host_no h) frame ∷ []) (w.begun + 1) (one (w.begun + 1)) (λ id. 0) h
      (Data (w.begun + 1) frame) within (data_is_frame frame is) (λ id. omega (arith, times_in-data id (w.begun + 1) frame []))
      (begun_balance w.plan w.from_hosts w.out w.journal w.begun (λ id. 0) (one (w.begun + 1)) (Sent (w.begun + 1) (host_no h) frame) refl (λ id. refl)
      (λ id. omega arith) s.balance);
  rest = s.rest;
}

pub hosts_within : (w : WorldView) (h : ℕ) (a : HostAct) → h < length w.from_hosts → h < length (host_act_done h w a).from_hosts
hosts_within w h (Send frame) within = rw length-set within

host_acts : (w : WorldView) (h : ℕ) (acts : List HostAct) → h < length w.from_hosts → IsTrue (are_data (map sent_by acts)) → Sound w → Sound (fold (host_act_done h) w acts)
host_acts w h [] within are s = s
host_acts w h (a ∷ acts) within are s =
    let both = and_parts (is_data (sent_by a)) (are_data (map sent_by acts)) are in
    host_acts (host_act_done h w a) h acts (hosts_within w h a within) both.1 (host_act w h a within both.0 s)

host_turn : (rule : HostRule) → HostsSendData rule → (w : WorldView) (h : ℕ) (input : HostInput) (answer : HostAnswer) (new : WorldView) →
    Sound w → HostTurn rule w h input answer new → Sound new
host_turn rule sends w h input answer new s turn =
    let holds : HoldsData turn.before = all_found HoldsData w.hosts h turn.before turn.found s.rest.holding in
    let owed = sends turn.before input turn.after turn.acts answer holds turn.ruled in
    let within : h < length w.hosts = slice_get_within w.hosts h turn.before turn.found in
    let in_queues : h < length w.from_hosts = let e = s.rest.hosts_many in let e2 = s.balance.hosts in omega arith in
    subst Sound (sym turn.changed)
    (host_acts (record w { hosts = set w.hosts h turn.after }) h turn.acts in_queues owed.sends
    (record { balance = s.balance; rest = hosts_rest w h turn.after owed.holds s.rest }))

host_plays : (rule : HostRule) → HostsSendData rule → (w : WorldView) (h : ℕ) (input : HostInput) (new : WorldView) → Sound w → HostPlays rule w h input new → Sound new
host_plays rule sends w h input new s plays = host_turn rule sends (skip_noted w h plays.skip) h input _ new (noted_skip plays.skip) plays.turn
  where
    noted_skip : (skip : Option Skip) → Sound (skip_noted w h skip)
    noted_skip None = s
    noted_skip (Some skip) = record {
      balance = noted_owes w (λ id. 0) (λ id. 0) (Skipped (host_no h) skip ∷ []) refl (λ id. refl) s.balance;
      rest = s.rest;
    }

host_receives : (rule : HostRule) → HostsSendData rule → (w : WorldView) (h id : ℕ) (frame : List ℕ) (new : WorldView) → Owes w (one id) → HasRest w →
    HostReceives rule w h id frame new → Sound new
host_receives rule sends w h id frame new owes r receives =
    host_turn rule sends (reception_noted w h id frame receives.reception) h _ _ new (noted_reception receives.reception) receives.turn
  where
    noted_reception : (reception : Reception) → Sound (reception_noted w h id frame reception)
    noted_reception Kept = record { balance = noted_owes w (one id) (λ i. 0) (Arrived id (host_no h) frame ∷ []) refl (λ i. omega arith) owes; rest = r }
    noted_reception NotMember = record { balance = noted_owes w (one id) (λ i. 0) (Dropped id cause.NoMember ∷ []) refl (λ i. omega arith) owes; rest = r }

-- the manager steps
pub said_sound : (w : WorldView) (says : ToSwitch) (to : Option ℕ) → Sound w → Sound (said_to w says to)
said_sound w says None s = s
said_sound w says (Some t) s = record { balance = s.balance; rest = says_rest w.from_manager _ (length-set w.from_manager t _) s.rest }

manager_act : (w : WorldView) (a : ManagerAct) → Sound w → Sound (manager_act_done w a)
manager_act w (Say to says) s = said_sound w says _ s
manager_act w (Number pmac n) s = record {
  balance = noted_owes w (λ id. 0) (λ id. 0) (Registered pmac n ∷ []) refl (λ id. refl) s.balance;
  rest = s.rest;
}

-- it begins anew, and no frame is touched
began_anew : (w : WorldView) → Sound w → Sound (manager_restarted w)
began_anew w s =
    let n : ℕ = w.manager.epoch + 1 in
    record {
      balance = noted_owes w (λ id. 0) (λ id. 0) (Restarted n ∷ []) refl (λ id. refl) s.balance;
      rest = says_rest w.from_manager (in_epoch w n).from_manager (length-replicate (switch_count w.plan.k) _ ∙ sym s.rest.from_many)
          (told_rest w.to_manager (in_epoch w n).to_manager (length-replicate (switch_count w.plan.k) _ ∙ sym s.rest.to_many) s.rest);
    }

manager_acts : (w : WorldView) (acts : List ManagerAct) → Sound w → Sound (fold manager_act_done w acts)
manager_acts w [] s = s
manager_acts w (a ∷ acts) s = manager_acts (manager_act_done w a) acts (manager_act w a s)

manager_turn : (rule : ManagerRule) (w : WorldView) (s : ℕ) (told : ToManager) (new : WorldView) → Sound w → ManagerTurn rule w s told new → Sound new
manager_turn rule w s told new is turn =
    subst Sound (sym turn.changed) (manager_acts (record w { manager = turn.after }) turn.acts (record { balance = is.balance; rest = is.rest }))

-- an item comes at a switch
comes_control : (frame : List ℕ) → is_control frame ≡ true → SaidNone ≡ state_of_frame frame
comes_control frame kind = rw kind refl

comes_data : (frame : List ℕ) → is_control frame ≡ false → SaidWaiting ≡ state_of_frame frame
comes_data frame kind = rw kind refl

comes_at_switch : (rule : SwitchRule) → AccountsForFrames rule → (w : WorldView) (s port : ℕ) (item : Item) (new : WorldView) → port < w.plan.k → IsItem item →
    Owes w (λ id. times_in id (item ∷ [])) → HasRest w → ComesAtSwitch rule w s port item new → Sound new
comes_at_switch rule accounts w s port (Control frame) new within is owes r turn =
    switch_turn rule accounts w s (Comes port frame) Silent new (comes_control frame is.kind)
    (λ v size. record { within = rw size within; whole = is.whole }) owes r turn
comes_at_switch rule accounts w s port (Data id frame) new within is owes r turn =
    switch_turn rule accounts (noted w (Crossed id (switch_no s))) s (Comes port frame) (Waiting id false) new (comes_data frame is.kind)
    (λ v size. record { within = rw size within; whole = is.whole })
    (noted_owes w (λ i. times_in i (Data id frame ∷ [])) (λ i. one id i + 0) (Crossed id (switch_no s) ∷ []) refl (λ i. omega (arith, times_in-data i id frame [])) owes)
    r turn

-- and at a host port
comes_at_host : (rule : HostRule) → HostsSendData rule → (w : WorldView) (id : ℕ) (frame : List ℕ) (to : Option ℕ) (new : WorldView) → Owes w (one id) → HasRest w →
    ComesAtHost rule w id frame to new → Sound new
comes_at_host rule sends w id frame None new owes r is =
    subst Sound (sym is) (record { balance = noted_owes w (one id) (λ i. 0) (Dropped id cause.HostGone ∷ []) refl (λ i. omega arith) owes; rest = r })
comes_at_host rule sends w id frame (Some h) new owes r receives = host_receives rule sends w h id frame new owes r receives

comes_out : (rule : HostRule) → HostsSendData rule → (w : WorldView) (s port : ℕ) (item : Item) (new : WorldView) →
    Owes w (λ id. times_in id (item ∷ [])) → HasRest w → ComesOut rule w s port item new → Sound new
comes_out rule sends w s port (Control frame) new owes r is = subst Sound (sym is) (record { balance = owes; rest = r })
comes_out rule sends w s port (Data id frame) new owes r comes = comes_at_host rule sends w id frame (receiver w s port frame) new owes r comes

-- the other end of a link is a port that is there
by_test : {T : Type 0} (P : T → Type 0) (b : Bool) (x y : T) → P x → P y → P (if b then x else y)
by_test P true x y px py = px
by_test P false x y px py = py

AreInTree : ℕ → List Link → Type 0
AreInTree k links = (link : Link) → Contains links link →
    ((link.lower.0 < switch_count k) × (link.lower_port < k)) × ((link.upper.0 < switch_count k) × (link.upper_port < k))

peer_in_tree : (k : ℕ) (links : List Link) (s p : ℕ) → AreInTree k links → IsPort k (peer_among links s p)
unfolding AreInTree
peer_in_tree k [] s p are = tt
peer_in_tree k (link ∷ links) s p are =
    let here = are link (zero, omega arith, refl) in
    by_test (IsPort k) ((link.lower.0 == s) && (link.lower_port == p)) (Switch link.upper link.upper_port) _ here.1
    (by_test (IsPort k) ((link.upper.0 == s) && (link.upper_port == p)) (Switch link.lower link.lower_port) _ here.0
    (peer_in_tree k links s p (λ other there. are other (suc there.0, omega (arith, there.1), there.2))))

in_tree : (plan : Plan) → IsPlan plan → AreInTree plan.k plan.links
unfolding AreInTree
in_tree plan is link there =
    let ends = tree_ends plan.k link (at_contained (IsTreeLink plan.k) plan.links link is.tree.no_other there) in
    let ports = at_contained (λ l. (l.lower_port < plan.k) × (l.upper_port < plan.k)) plan.links link is.tree.ports_in_range there in
    ((ends.0, ports.0), (ends.1, ports.1))

pub peer_is_port : (plan : Plan) (s p : ℕ) → IsPlan plan → IsPort plan.k (peer_of plan s p)
peer_is_port plan s p is = peer_in_tree plan.k plan.links s p (in_tree plan is)

took_out : (w : WorldView) (t port : ℕ) (item : Item) (items : List Item) → out_of w t port ≡ item ∷ items → Sound w →
    Owes (record w { out = set w.out (port_index w.plan.k t port) items }) (λ id. times_in id (item ∷ []))
took_out w t port item items head s =
    took_out_balance w.plan w.from_hosts w.out w.journal w.begun (λ id. 0) (λ id. times_in id (item ∷ [])) (port_index w.plan.k t port) item items head
    (λ id. omega arith) s.balance

module _ (switch : SwitchRule) (host : HostRule) (accounts : AccountsForFrames switch) (sends : HostsSendData host) where
  heard_sound : (w : WorldView) (h : ℕ) (item : Item) (f : ℕ → ℕ) → Owes w f → HasRest w → Owes (heard_item w h item) f × HasRest (heard_item w h item)
  heard_sound w h (Control frame) f owes r = (owes, r)
  heard_sound w h (Data id frame) f owes r = (owes, heard_rest w _ (length-set w.heard h _) r)

  heard_plan : (w : WorldView) (h : ℕ) (item : Item) → (heard_item w h item).plan ≡ w.plan
  heard_plan w h (Control frame) = refl
  heard_plan w h (Data id frame) = refl

  from_host : (w : WorldView) (h : ℕ) (item : Item) (items : List Item) (attachment : AttachmentPoint) (new : WorldView) → items_at w.from_hosts h ≡ item ∷ items →
      slice_get w.attachments h ≡ Some attachment → Sound w →
      ComesAtSwitch switch (heard_item (record w { from_hosts = set w.from_hosts h items }) h item) attachment.edge.0 attachment.port item new → Sound new
  from_host w h item items attachment new head at s comes =
      let taken : WorldView = record w { from_hosts = set w.from_hosts h items } in
      let there : IsTreePort w.plan.k attachment = all_found (IsTreePort w.plan.k) w.attachments h attachment at s.rest.at_ports in
      let owes = took_host_balance w.plan w.from_hosts w.out w.journal w.begun (λ id. 0) (λ id. times_in id (item ∷ [])) h item items head
      (λ id. omega arith) s.balance in
      let heard = heard_sound taken h item (λ id. times_in id (item ∷ [])) owes s.rest in
      comes_at_switch switch accounts (heard_item taken h item) attachment.edge.0 attachment.port item new (rw (heard_plan taken h item) there.port)
      (sent_is_item w.from_hosts h item items head s.balance.host_items) heard.0 heard.1 comes

  goes : (w : WorldView) (h : ℕ) (to from : AttachmentPoint) (new : WorldView) → IsTreePort w.plan.k to → Sound w →
      HostTurn host (host_moved w h from to) h HasMoved Nothing new → Sound new
  goes w h to from new there s turn =
      host_turn host sends (host_moved w h from to) h _ _ new (record {
        balance = emptied_out_balance w.plan (set w.from_hosts h []) w.out _ w.begun (λ id. 0) cause.HostGone (port_index w.plan.k from.edge.0 from.port)
            (emptied_host_balance w.plan w.from_hosts w.out _ w.begun (λ id. 0) cause.HostGone h
            (noted_owes w (λ id. 0) (λ id. 0) (Moved (host_no h) to.edge to.port ∷ []) refl (λ id. refl) s.balance));
        rest = heard_rest (record w { attachments = set w.attachments h to }) _ (length-set w.heard h _) (attachments_rest w h to there s.rest);
      }) turn

pub found_contained : (p : Link → Bool) (links : List Link) (link : Link) → find p links ≡ Some link → Contains links link
found_contained p [] link is = absurd (cc)
found_contained p (l ∷ links) link is = by_first (p l) (found_contained p links link) is
  where
    by_first : (b : Bool) → (find p links ≡ Some link → Contains links link) → (if b then Some l else find p links) ≡ Some link → Contains (l ∷ links) link
    by_first true later e = (zero, omega arith, cc)
    by_first false later e = let there = later e in (suc there.0, omega (arith, there.1), there.2)

pub link_set : (w : WorldView) (link : Link) (live : Bool) → Contains w.plan.links link → HasRest w → HasRest (record w { links = with_link w.links link live })
link_set w link live there r = links_rest w (with_link w.links link live) (made_for_changed w.plan w.links link live r.is_plan.tree r.made_for there) r

pub fails : (w : WorldView) (a b : ℕ) (link : Option Link) (new : WorldView) → link_between w.plan a b ≡ link → Sound w → LinkFails w link new → Sound new
fails w a b None new found s is = absurd is
fails w a b (Some link) new found s is = subst Sound (sym is) (record {
  balance = emptied_out_balance w.plan w.from_hosts _ _ w.begun (λ id. 0) cause.LinkDown (port_index w.plan.k link.upper.0 link.upper_port)
      (emptied_out_balance w.plan w.from_hosts w.out _ w.begun (λ id. 0) cause.LinkDown (port_index w.plan.k link.lower.0 link.lower_port)
      (noted_owes w (λ id. 0) (λ id. 0) (LinkDown link.lower link.upper ∷ []) refl (λ id. refl) s.balance));
  rest = link_set w link false (found_contained (joins a b) w.plan.links link found) s.rest;
})

lost : (w : WorldView) (item : Item) → Owes w (λ id. times_in id (item ∷ [])) → HasRest w → Sound (item_lost w item)
lost w (Control frame) owes r = record { balance = owes; rest = r }
lost w (Data id frame) owes r = record {
  balance = noted_owes w (λ i. times_in i (Data id frame ∷ [])) (λ i. 0) (Dropped id cause.Lost ∷ []) refl (λ i. omega arith) owes;
  rest = r;
}

-- what a step that is not refused may rely on
passed_over : (b : Bool) (e : StepError) (rest : Option StepError) → (if b then Some e else rest) ≡ None → rest ≡ None
passed_over true e rest h = absurd (cc)
passed_over false e rest h = h

pub event_is_not_refused : (w : WorldView) (happens : Event) → refusal w happens ≡ None → refusal_of_event w happens ≡ None
event_is_not_refused w happens h =
    passed_over (is_full w) JournalFull (refusal_of_event w happens)
    (passed_over (nat_le w.limits.steps w.steps) StepsSpent (if is_full w then Some JournalFull else refusal_of_event w happens) h)

pub tested : (b : Bool) (x y : Option StepError) (e : StepError) → y ≡ Some e → (if b then x else y) ≡ None → b ≡ true
tested true x y e other h = refl
tested false x y e other h = absurd (cc)

moves_to_a_port : (w : WorldView) (h s port : ℕ) (edge : SwitchNo) → edge.0 ≡ s → refusal_of_move w h s port ≡ None → IsTreePort w.plan.k (record { edge = edge; port = port })
moves_to_a_port w h s port edge is none =
    let both = and_parts (has_host w.plan h) (is_for_hosts w.plan s port) (tested (has_host w.plan h && is_for_hosts w.plan s port) _ _ NoSuch refl none) in
    let there = and_parts (has_port w.plan s port) (is_host_port (peer_of w.plan s port)) both.1 in
    let parts = and_parts (has_switch w.plan s) (nat_lt port w.plan.k) there.0 in
    record { edge = rw is (ltb-true s (switch_count w.plan.k) parts.0); port = ltb-true port w.plan.k parts.1 }

-- a refusal of an event looks at no count of steps
pub same_refusal : (w : WorldView) (happens : Event) → refusal_of_event (record w { steps = w.steps + 1 }) happens ≡ refusal_of_event w happens
same_refusal w (event.Deliver (queue.FromHost h)) = refl
same_refusal w (event.Deliver (queue.Port s port)) = refl
same_refusal w (event.Deliver (queue.ToManager s)) = refl
same_refusal w (event.Deliver (queue.FromManager s)) = refl
same_refusal w (event.Tick s) = refl
same_refusal w (event.Fail a b) = refusal_of_same_link (link_between w.plan a.0 b.0)
  where
    refusal_of_same_link : (link : Option Link) → refusal_of_link (record w { steps = w.steps + 1 }) false link ≡ refusal_of_link w false link
    refusal_of_same_link None = refl
    refusal_of_same_link (Some link) = refl
same_refusal w (event.Repair a b) = refusal_of_same_link (link_between w.plan a.0 b.0)
  where
    refusal_of_same_link : (link : Option Link) → refusal_of_link (record w { steps = w.steps + 1 }) true link ≡ refusal_of_link w true link
    refusal_of_same_link None = refl
    refusal_of_same_link (Some link) = refl
same_refusal w happens = refl

module _ (switch : SwitchRule) (manager : ManagerRule) (host : HostRule) (accounts : AccountsForFrames switch) (sends : HostsSendData host) where
  by_case : (w : WorldView) (happens : Event) (new : WorldView) → refusal_of_event w happens ≡ None → Sound w → Happened switch manager host w happens new →
      Sound new
  by_case w happens new none s (FromHost h item items attachment is head at comes) = from_host switch host accounts sends w h.0 item items attachment new head at s comes
  by_case w happens new none s (OverLink t port item items u q is head joined comes) =
      comes_at_switch switch accounts (record w { out = set w.out (port_index w.plan.k t.0 port) items }) u.0 q item new
      (subst (IsPort w.plan.k) joined (peer_is_port w.plan t.0 port s.rest.is_plan)).1
      (head_is_item w.out (port_index w.plan.k t.0 port) item items head s.balance.port_items) (took_out w t.0 port item items head s) s.rest comes
  by_case w happens new none s (OutOfPort t port item items is head joined comes) =
      comes_out host sends (record w { out = set w.out (port_index w.plan.k t.0 port) items }) t.0 port item new
      (took_out w t.0 port item items head s) s.rest comes
  by_case w happens new none s (Reported t told items is head turn) =
      manager_turn manager (record w { to_manager = set w.to_manager t.0 items }) t.0 told new
      (record { balance = s.balance; rest = told_rest w.to_manager _ (length-set w.to_manager t.0 _) s.rest }) turn
  by_case w happens new none s (Ordered t says items is head turn) =
      switch_turn switch accounts (record w { from_manager = set w.from_manager t.0 items }) t.0 (Says says) Silent new refl (λ v size. tt)
      s.balance (says_rest w.from_manager _ (length-set w.from_manager t.0 _) s.rest) turn
  by_case w happens new none s (Ticked t is turn) =
      switch_turn switch accounts (record w { heard = heard_after_tick t.0 w.attachments w.heard }) t.0 Tick Silent new refl (λ v size. tt)
      s.balance (heard_rest w _ (ticked_heard t.0 w.attachments w.heard) s.rest) turn
  by_case w happens new none s (Failed a b link is found failed) = fails w a.0 b.0 (Some link) new found s failed
  by_case w happens new none s (Repaired a b link is found repaired) = subst Sound (sym repaired) (record {
    balance = noted_owes w (λ id. 0) (λ id. 0) (LinkUp link.lower link.upper ∷ []) refl (λ id. refl) s.balance;
    rest = link_set w link true (found_contained (joins a.0 b.0) w.plan.links link found) s.rest;
  })
  by_case w happens new none s (Lost t port item items is head gone) =
      subst Sound (sym gone) (lost (record w { out = set w.out (port_index w.plan.k t.0 port) items }) item (took_out w t.0 port item items head s) s.rest)
  by_case w happens new none s (Departed h t port from is at turn) =
      goes switch host accounts sends w h.0 (record { edge = t; port = port }) from new
      (moves_to_a_port w h.0 t.0 port t refl (subst (λ e. refusal_of_event w e ≡ None) is none)) s turn
  by_case w happens new none s (PlayedFrame h input skip is turn) = host_plays host sends w h.0 input new s (record { skip = skip; turn = turn })
  by_case w happens new none s (Asked h input is turn) = host_turn host sends w h.0 input _ new s turn
  by_case w happens new none s (BeganAnew is anew) = subst Sound (sym anew) (began_anew w s)

  -- a step keeps the count
  pub step_is_counted : (old : WorldView) (happens : Event) (new : WorldView) → IsCounted old → refusal old happens ≡ None →
      WorldStep switch manager host old happens new → IsCounted new
  step_is_counted old happens new is none step =
      let s = sound old is in
      counted new (by_case (record old { steps = old.steps + 1 }) happens new (same_refusal old happens ∙ event_is_not_refused old happens none)
      (record { balance = s.balance; rest = s.rest }) (happened switch manager host (record old { steps = old.steps + 1 }) happens new step))
