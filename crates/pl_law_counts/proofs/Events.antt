-- What comes to a switch in an event is owed, so that the turn keeps what its acts keep; who gets a frame that comes out of a port stands there; and what a move leaves.
use Rattle.std.proofs.Common.{◌≡◌, ℕ, ◌+◌, ◌<◌, ◌==◌, Bool, true, false, if◌then◌else◌, List, [], ◌∷◌, None, Option, Some, get_or, reverse, set, refl, sym, ap, ◌∙◌, subst, arith}
use Rattle.std.specs.List.{AllByRecursion}
use Rattle.std.specs.Option.{option_map}
use Rattle.std.proofs.Math.ListN.{length-set}
use Rattle.std.proofs.lemmas.Bool.{and_parts, eqb-true}
use Rattle.std.proofs.lemmas.List.Quantifiers.{position-Some}
use Rattle.std.proofs.lemmas.Option.{none-some, same_Some, slice_get-get_or}
use Rattle.pl_wiring.specs.declared.label.SwitchNo.{SwitchNo}
use Rattle.pl_wiring.specs.declared.link.Peer.{Peer}
use Rattle.pl_wiring.specs.declared.link.Peer.TheVariants.{Switch}
use Rattle.pl_wiring.specs.Index.{port_index}
use Rattle.pl_wiring.specs.Peers.{IsPort, peer_of}
use Rattle.pl_journal.specs.declared.cause.Cause.TheVariants as cause
use Rattle.pl_journal.specs.declared.entry.Entry.{Entry}
use Rattle.pl_journal.specs.declared.entry.Entry.TheVariants.{Crossed, Moved}
use Rattle.pl_journal.specs.Places.{at_port, edge_port_of}
use Rattle.pl_node.specs.declared.acts.Act.{Act}
use Rattle.pl_node.specs.declared.messages.ToSwitch.{ToSwitch}
use Rattle.pl_node.specs.Accounting.{AccountsForFrames}
use Rattle.pl_node.specs.SwitchInputs.{SwitchRule}
use Rattle.pl_node.specs.SwitchInputs.SwitchInput.{Comes, Says, Tick}
use Rattle.pl_queues.specs.Queues.{items_at}
use Rattle.pl_world.specs.declared.attachment.AttachmentPoint.{AttachmentPoint}
use Rattle.pl_world.specs.declared.item.Item.{Item}
use Rattle.pl_world.specs.declared.item.Item.TheVariants.{Control, Data}
use Rattle.pl_world.specs.declared.spoken_frame.SpokenFrame.{SpokenFrame}
use Rattle.pl_world.specs.declared.spoken_frame.SpokenFrame.TheVariants.{Over, Silent, Waiting}
use Rattle.pl_world.specs.Changes.{emptied_from_host, ends_of, host_at, host_no, if_for, noted, out_of, receiver, stands_at}
use Rattle.pl_world.specs.Flying.{IsFrame, times_in}
use Rattle.pl_world.specs.LinksAndMoves.{host_moved}
use Rattle.pl_world.specs.OtherActs.{heard_after_tick}
use Rattle.pl_world.specs.WorldRule.{SwitchTurn, Ticks, heard_item}
use Rattle.pl_world.specs.Worlds.{WorldView}
use Rattle.pl_world.proofs.Exports.{emptied_out_left, head_is_item, heard_rest, noted_owes, one, peer_is_port, says_rest, sent_is_item, Sound, ticked_heard, times_in-data, took_host_balance, took_out_balance, Writes}
use Rattle.pl_law_counts.specs.Counting.{standing}
use Rattle.pl_law_counts.proofs.Acts.{all_written, KeptByActs, turn_keeps}

-- the head of a queue out of a port is taken
abbrev pub taken_out : WorldView → ℕ → ℕ → List Item → WorldView
taken_out w s port items = record w { out = set w.out (port_index w.plan.k s port) items }

-- ---- who gets a frame
is_at_port : (w : WorldView) (s port h : ℕ) (frame : List ℕ) → receiver w s port frame ≡ Some h → host_at w s port ≡ Some h
is_at_port w s port h frame is = by_host (host_at w s port) refl is
  where
    if_some : (b : Bool) (g : ℕ) → (if b then Some g else None) ≡ Some h → g ≡ h
    if_some true g e = same_Some g h e
    if_some false g e = absurd (none-some h e)

    by_host : (o : Option ℕ) → host_at w s port ≡ o → if_for w.plan frame o ≡ Some h → host_at w s port ≡ Some h
    by_host None at e = absurd (none-some h e)
    by_host (Some g) at e = at ∙ ap Some (if_some _ g e)

-- it stands at the port out of which the frame comes, as the journal has it
pub receiver_stands : (w : WorldView) → ((h : ℕ) → edge_port_of w.plan (reverse w.journal) h ≡ standing w.attachments h) → (s port h : ℕ) (frame : List ℕ) →
    receiver w s port frame ≡ Some h → edge_port_of w.plan (reverse w.journal) h ≡ Some (at_port s port)
receiver_stands w stands s port h frame gets =
    let none : AttachmentPoint = record { edge = record { 0 = 0 }; port = 0 } in
    let all = position-Some (stands_at s port) w.attachments h none (is_at_port w s port h frame gets) in
    let attachment : AttachmentPoint = get_or w.attachments h none in
    let parts = and_parts (attachment.edge.0 == s) (attachment.port == port) all.1 in
    stands h ∙ ap (option_map (λ (x : AttachmentPoint). at_port x.edge.0 x.port)) (slice_get-get_or w.attachments h none all.0)
    ∙ ap Some (ap (λ a. at_port a attachment.port) (eqb-true attachment.edge.0 s parts.0) ∙ ap (λ b. at_port s b) (eqb-true attachment.port port parts.1))

-- ---- the turn of a switch in an event
module _ (rule : SwitchRule) (accounts : AccountsForFrames rule) (w : WorldView) (so : Sound w) (new : WorldView) (t : SwitchNo) (Quiet : Entry → Type 0)
    (Kept : List Act → SpokenFrame → WorldView → Type 0) (keeps : KeptByActs t.0 Quiet Kept) where
  pub tick_keeps : (turn : Ticks rule w t.0 new) →
      Kept turn.acts Silent (record w { heard = heard_after_tick t.0 w.attachments w.heard; switches = set w.switches t.0 turn.after }) → Kept [] Over new
  tick_keeps turn c =
      turn_keeps t.0 Quiet Kept keeps rule accounts (record w { heard = heard_after_tick t.0 w.attachments w.heard }) Tick Silent new refl (λ v size. tt) so.balance
      (heard_rest w _ (ticked_heard t.0 w.attachments w.heard) so.rest) turn c

  pub order_keeps : (says : ToSwitch) (items : List ToSwitch) (turn : SwitchTurn rule (record w { from_manager = set w.from_manager t.0 items }) t.0 (Says says) Silent new) →
      Kept turn.acts Silent (record w { from_manager = set w.from_manager t.0 items; switches = set w.switches t.0 turn.after }) → Kept [] Over new
  order_keeps says items turn c =
      turn_keeps t.0 Quiet Kept keeps rule accounts (record w { from_manager = set w.from_manager t.0 items }) (Says says) Silent new refl (λ v size. tt) so.balance
      (says_rest w.from_manager _ (length-set w.from_manager t.0 _) so.rest) turn c

  -- what comes over a link
  module _ (s port q : ℕ) (items : List Item) (peer : peer_of w.plan s port ≡ Switch t q) where
    into : q < w.plan.k
    into = let there = subst (λ (p : Peer). IsPort w.plan.k p) peer (peer_is_port w.plan s port so.rest.is_plan) in there.1

    pub control_keeps : (frame : List ℕ) → out_of w s port ≡ Control frame ∷ items → (turn : SwitchTurn rule (taken_out w s port items) t.0 (Comes q frame) Silent new) →
        Kept turn.acts Silent (record (taken_out w s port items) { switches = set w.switches t.0 turn.after }) → Kept [] Over new
    control_keeps frame head turn c =
        let is_frame : IsFrame true frame = head_is_item w.out (port_index w.plan.k s port) (Control frame) items head so.balance.port_items in
        let owes = took_out_balance w.plan w.from_hosts w.out w.journal w.begun (λ i. 0) (λ i. 0) (port_index w.plan.k s port) (Control frame) items head
        (λ i. omega arith) so.balance in
        turn_keeps t.0 Quiet Kept keeps rule accounts (taken_out w s port items) (Comes q frame) Silent new (rw (is_frame.kind) refl)
        (λ u size. record { within = subst (λ n. q < n) (sym size) into; whole = is_frame.whole }) owes so.rest turn c

    pub frame_keeps : (id : ℕ) (frame : List ℕ) → out_of w s port ≡ Data id frame ∷ items →
        (turn : SwitchTurn rule (noted (taken_out w s port items) (Crossed id t)) t.0 (Comes q frame) (Waiting id false) new) →
        Kept turn.acts (Waiting id false) (record (noted (taken_out w s port items) (Crossed id t)) { switches = set w.switches t.0 turn.after }) → Kept [] Over new
    frame_keeps id frame head turn c =
        let is_frame : IsFrame false frame = head_is_item w.out (port_index w.plan.k s port) (Data id frame) items head so.balance.port_items in
        let owes = took_out_balance w.plan w.from_hosts w.out w.journal w.begun (λ i. 0) (λ i. times_in i (Data id frame ∷ [])) (port_index w.plan.k s port) (Data id frame) items head
        (λ i. omega arith) so.balance in
        turn_keeps t.0 Quiet Kept keeps rule accounts (noted (taken_out w s port items) (Crossed id t)) (Comes q frame) (Waiting id false) new (rw (is_frame.kind) refl)
        (λ u size. record { within = subst (λ n. q < n) (sym size) into; whole = is_frame.whole })
        (noted_owes (taken_out w s port items) (λ i. times_in i (Data id frame ∷ [])) (λ i. one id i + 0) (Crossed id t ∷ []) refl (λ i. omega (arith, times_in-data i id frame [])) owes)
        so.rest turn c

  -- a frame of a host
  pub host_frame_keeps : (h port id : ℕ) (frame : List ℕ) (items : List Item) → items_at w.from_hosts h ≡ Data id frame ∷ items → port < w.plan.k →
      (turn : SwitchTurn rule (noted (heard_item (record w { from_hosts = set w.from_hosts h items }) h (Data id frame)) (Crossed id t)) t.0 (Comes port frame) (Waiting id false) new) →
      Kept turn.acts (Waiting id false)
      (record (noted (heard_item (record w { from_hosts = set w.from_hosts h items }) h (Data id frame)) (Crossed id t)) { switches = set w.switches t.0 turn.after }) →
      Kept [] Over new
  host_frame_keeps h port id frame items head within turn c =
      let is_frame : IsFrame false frame = sent_is_item w.from_hosts h (Data id frame) items head so.balance.host_items in
      let owes = took_host_balance w.plan w.from_hosts w.out w.journal w.begun (λ i. 0) (λ i. times_in i (Data id frame ∷ [])) h (Data id frame) items head
      (λ i. omega arith) so.balance in
      let taken : WorldView = record w { from_hosts = set w.from_hosts h items } in
      let heard : WorldView = heard_item taken h (Data id frame) in
      turn_keeps t.0 Quiet Kept keeps rule accounts (noted heard (Crossed id t)) (Comes port frame) (Waiting id false) new (rw (is_frame.kind) refl)
      (λ u size. record { within = subst (λ n. port < n) (sym size) within; whole = is_frame.whole })
      (noted_owes heard (λ i. times_in i (Data id frame ∷ [])) (λ i. one id i + 0) (Crossed id t ∷ []) refl (λ i. omega (arith, times_in-data i id frame [])) owes)
      (heard_rest taken _ (length-set w.heard h _) so.rest) turn c

-- ---- a host moves, and its queues are emptied
module _ (In : WorldView → Type 0) (Quiet : Entry → Type 0) (writes : Writes (λ a b. In a → In b) Quiet) (out : (w : WorldView) (i : ℕ) → In w → In (record w { out = set w.out i [] }))
    (from_hosts : (w : WorldView) (h : ℕ) → In w → In (record w { from_hosts = set w.from_hosts h [] })) where
  ends_quiet : (items : List Item) → AllByRecursion Quiet (ends_of cause.HostGone items)
  ends_quiet [] = tt
  ends_quiet (Control frame ∷ items) = ends_quiet items
  ends_quiet (Data id frame ∷ items) = (writes.dropped id cause.HostGone, ends_quiet items)

  pub move_keeps : (w : WorldView) (h : ℕ) (from to : AttachmentPoint) →
      In (noted (record w { attachments = set w.attachments h to; heard = set w.heard h None }) (Moved (host_no h) to.edge to.port)) → In (host_moved w h from to)
  move_keeps w h from to c =
      let stood : WorldView = noted (record w { attachments = set w.attachments h to; heard = set w.heard h None }) (Moved (host_no h) to.edge to.port) in
      emptied_out_left (λ a b. In a → In b) Quiet writes out (emptied_from_host stood h cause.HostGone) from.edge.0 from.port cause.HostGone
      (all_written In Quiet writes.entry (record stood { from_hosts = set w.from_hosts h [] }) (ends_of cause.HostGone (items_at w.from_hosts h))
      (ends_quiet (items_at w.from_hosts h)) (from_hosts stood h c))
