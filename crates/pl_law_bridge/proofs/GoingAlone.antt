-- A frame for an address that a bridge has learnt goes on by one port.
use Rattle.std.proofs.Common.{◌≡◌, ℕ, ◌+◌, ◌==◌, ◌&&◌, true, false, if◌then◌else◌, List, [], ◌∷◌, ◌++◌, Option, None, Some, set, slice_get, refl, sym, ap, ◌∙◌, subst, append-nil}
use Rattle.std.proofs.lemmas.Bool.{and_from, cond-false, eq-eqb, ne_eqb}
use Rattle.pl_lemmas.proofs.Exports.{found_once, set_there}
use Rattle.pl_frame.specs.Ethernet.{destination_of}
use Rattle.pl_wiring.specs.declared.label.SwitchNo.{SwitchNo}
use Rattle.pl_wiring.specs.declared.link.Peer.TheVariants.{Switch}
use Rattle.pl_wiring.specs.Index.{port_index}
use Rattle.pl_wiring.specs.Peers.{peer_of}
use Rattle.pl_layouts.specs.Control.{is_control}
use Rattle.pl_layouts.specs.declared.place.Place.{Place}
use Rattle.pl_layouts.specs.Placement.{same_number, same_place}
use Rattle.pl_journal.specs.declared.cause.Cause.TheVariants as cause
use Rattle.pl_journal.specs.declared.cause.Cause.TheVariants.{NoNextHop}
use Rattle.pl_journal.specs.declared.entry.Entry.{Entry}
use Rattle.pl_journal.specs.declared.entry.Entry.TheVariants.{Crossed, Dropped, Placed}
use Rattle.pl_node.specs.declared.acts.Act.TheVariants as act
use Rattle.pl_node.specs.HostInputs.{HostRule}
use Rattle.pl_node.specs.ManagerDuties.{ManagerRule}
use Rattle.pl_node.specs.SwitchInputs.SwitchInput.{Comes}
use Rattle.pl_node.specs.SwitchViews.{SwitchView}
use Rattle.pl_queues.specs.Queues.{items_at, put_at}
use Rattle.pl_steps.specs.Steps.{SwitchStep, rests}
use Rattle.pl_world.specs.declared.attachment.AttachmentPoint.{AttachmentPoint}
use Rattle.pl_world.specs.declared.event.Event.TheVariants as event
use Rattle.pl_world.specs.declared.event.QueueName.TheVariants as queue
use Rattle.pl_world.specs.declared.item.Item.{Item}
use Rattle.pl_world.specs.declared.item.Item.TheVariants.{Data}
use Rattle.pl_world.specs.declared.spoken_frame.SpokenFrame.TheVariants.{Waiting}
use Rattle.pl_world.specs.Changes.{is_failed_at, noted, out_of, switch_no}
use Rattle.pl_world.specs.Flying.{IsCounted, IsFrame}
use Rattle.pl_world.specs.SwitchActs.{switch_stepped}
use Rattle.pl_world.specs.WorldRule.{ComesIn, ComesOver, DeliversFromHost, DeliversOut, SwitchTurn, WorldStep, heard_item}
use Rattle.pl_world.specs.Worlds.{WorldView}
use Rattle.pl_world.proofs.Exports.{head_is_item, sent_is_item, sound}
use Rattle.pl_bridge_rule.specs.BridgeRule.{Bridges, bridges, goes_on, port_for, with_source}
use Rattle.pl_law_bridge.specs.Learnt.{GoesOnAlone, HasAt}
use Rattle.pl_law_counts.proofs.Exports.{taken_out}
use Rattle.pl_law_bridge.proofs.Happening.{comes_acts}
use Rattle.pl_law_bridge.proofs.Tables.{turn_switches}

same_number_itself : (o : Option ℕ) → same_number o o ≡ true
same_number_itself None = refl
same_number_itself (Some n) = eq-eqb n n refl

same_place_itself : (place : Place) → same_place place place ≡ true
same_place_itself place =
    and_from (same_number place.level place.level && same_number place.position place.position) (same_number place.pod place.pod)
    (and_from (same_number place.level place.level) (same_number place.position place.position) (same_number_itself place.level) (same_number_itself place.position))
    (same_number_itself place.pod)

module _ (w : WorldView) (t : SwitchNo) (q id : ℕ) (frame : List ℕ) (new : WorldView) (turn : SwitchTurn Bridges w t.0 (Comes q frame) (Waiting id false) new)
    (kind : is_control frame ≡ false) (p : ℕ) (has : HasAt new (destination_of frame) t p) (on : p ≡ q → ⊥) (fine : is_failed_at w t.0 p ≡ false) where
  -- what the bridge knows then
  known : turn.after ≡ has.view
  known = found_once new.switches t.0 turn.after has.view
      (ap (λ (views : List SwitchView). slice_get views t.0) (turn_switches w t.0 (Comes q frame) (Waiting id false) new turn) ∙ set_there w.switches t.0 turn.before turn.after turn.found) has.found

  learns : turn.after ≡ with_source turn.before q frame
  learns = turn.ruled.view ∙ ap (λ (x : SwitchStep). x.view) (cond-false (is_control frame) (rests turn.before) (bridges turn.before q frame) kind)

  there : port_for (with_source turn.before q frame) (destination_of frame) ≡ Some p
  there = ap (λ (v : SwitchView). port_for v (destination_of frame)) (sym learns ∙ known) ∙ has.learnt

  passes_on : turn.acts ≡ act.Pass p frame ∷ []
  passes_on = turn.ruled.done ∙ comes_acts turn.before q frame kind ∙ ap (goes_on turn.before.k q frame) there
      ∙ cond-false (p == q) (act.Drop NoNextHop ∷ []) (act.Pass p frame ∷ []) (ne_eqb p q on)

  changed : new ≡ switch_stepped w t.0 turn.before turn.after (Waiting id false) (act.Pass p frame ∷ [])
  changed = turn.changed ∙ ap (λ acts. switch_stepped w t.0 turn.before turn.after (Waiting id false) acts) passes_on

  place_stays : same_place turn.before.place turn.after.place ≡ true
  place_stays = ap (λ (v : SwitchView). same_place turn.before.place v.place) learns ∙ same_place_itself turn.before.place

  pub waits_there : new.out ≡ put_at w.out (port_index w.plan.k t.0 p) (Data id frame)
  waits_there = ap (λ (x : WorldView). x.out) changed ∙ cond-false (is_failed_at w t.0 p) w.out (put_at w.out (port_index w.plan.k t.0 p) (Data id frame)) fine

  pub nothing_written : new.journal ≡ w.journal
  nothing_written =
      ap (λ (x : WorldView). x.journal) changed
      ∙ ap (λ (late : List Entry). ((w.journal ++ []) ++ late) ++ (if same_place turn.before.place turn.after.place then [] else Placed (switch_no t.0) turn.after.place ∷ []))
      (cond-false (is_failed_at w t.0 p) (Dropped id cause.LinkDown ∷ []) [] fine)
      ∙ ap (λ b. ((w.journal ++ []) ++ []) ++ if◌then◌else◌ {A = List Entry} b [] (Placed (switch_no t.0) turn.after.place ∷ [])) place_stays
      ∙ append-nil ((w.journal ++ []) ++ []) ∙ append-nil (w.journal ++ []) ∙ append-nil w.journal

  pub hosts_wait : new.from_hosts ≡ w.from_hosts
  hosts_wait = ap (λ (x : WorldView). x.from_hosts) changed

module _ (manager : ManagerRule) (host : HostRule) (old new : WorldView) (counted : IsCounted old) where
  pub over_link_alone : (s : SwitchNo) (port : ℕ) (t : SwitchNo) (q id : ℕ) (frame : List ℕ) (items : List Item) (p : ℕ) → out_of old s.0 port ≡ Data id frame ∷ items →
      peer_of old.plan s.0 port ≡ Switch t q → WorldStep Bridges manager host old (event.Deliver (queue.Port s port)) new → HasAt new (destination_of frame) t p → (p ≡ q → ⊥) →
      is_failed_at old t.0 p ≡ false → GoesOnAlone old old.from_hosts (set old.out (port_index old.plan.k s.0 port) items) new id frame t p
  over_link_alone s port t q id frame items p head peer step has on fine =
      let now : WorldView = record old { steps = old.steps + 1 } in
      let comes : ComesOver Bridges host (taken_out now s.0 port items) s.0 port (Data id frame) (peer_of old.plan s.0 port) new =
      subst (λ l. DeliversOut Bridges host now s.0 port l new) head step in
      let turn : SwitchTurn Bridges (noted (taken_out now s.0 port items) (Crossed id (switch_no t.0))) t.0 (Comes q frame) (Waiting id false) new =
      subst (λ other. ComesOver Bridges host (taken_out now s.0 port items) s.0 port (Data id frame) other new) peer comes in
      let is_frame : IsFrame false frame = head_is_item old.out (port_index old.plan.k s.0 port) (Data id frame) items head (sound old counted).balance.port_items in
      let w1 : WorldView = noted (taken_out now s.0 port items) (Crossed id (switch_no t.0)) in
      record {
        written = nothing_written w1 t q id frame new turn is_frame.kind p has on fine;
        hosts_wait = hosts_wait w1 t q id frame new turn is_frame.kind p has on fine;
        waits = waits_there w1 t q id frame new turn is_frame.kind p has on fine;
      }

  pub from_host_alone : (h : ℕ) (attachment : AttachmentPoint) (id : ℕ) (frame : List ℕ) (items : List Item) (p : ℕ) → items_at old.from_hosts h ≡ Data id frame ∷ items →
      slice_get old.attachments h ≡ Some attachment → DeliversFromHost Bridges (record old { steps = old.steps + 1 }) h (items_at old.from_hosts h) new →
      HasAt new (destination_of frame) attachment.edge p → (p ≡ attachment.port → ⊥) → is_failed_at old attachment.edge.0 p ≡ false →
      GoesOnAlone old (set old.from_hosts h items) old.out new id frame attachment.edge p
  from_host_alone h attachment id frame items p head found step has on fine =
      let now : WorldView = record old { steps = old.steps + 1 } in
      let w0 : WorldView = record now { from_hosts = set old.from_hosts h items } in
      let comes : ComesIn Bridges w0 h (Data id frame) (slice_get old.attachments h) new = subst (λ l. DeliversFromHost Bridges now h l new) head step in
      let turn : SwitchTurn Bridges (noted (heard_item w0 h (Data id frame)) (Crossed id (switch_no attachment.edge.0))) attachment.edge.0 (Comes attachment.port frame) (Waiting id false) new =
      subst (λ o. ComesIn Bridges w0 h (Data id frame) o new) found comes in
      let is_frame : IsFrame false frame = sent_is_item old.from_hosts h (Data id frame) items head (sound old counted).balance.host_items in
      let w1 : WorldView = noted (heard_item w0 h (Data id frame)) (Crossed id (switch_no attachment.edge.0)) in
      record {
        written = nothing_written w1 attachment.edge attachment.port id frame new turn is_frame.kind p has on fine;
        hosts_wait = hosts_wait w1 attachment.edge attachment.port id frame new turn is_frame.kind p has on fine;
        waits = waits_there w1 attachment.edge attachment.port id frame new turn is_frame.kind p has on fine;
      }
