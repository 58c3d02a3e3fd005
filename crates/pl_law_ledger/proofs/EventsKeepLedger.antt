-- Each event keeps the ledger.
use Rattle.std.proofs.Common.{◌≡◌, ◌≤◌, ◌<◌, ◌+◌, ◌==◌, ◌&&◌, ℕ, true, set, Contains, List, [], ◌∷◌, length, Some, None, slice_get, refl, sym, ap, subst, ◌∙◌, inl, inr}
use Rattle.std.specs.List.{AllByRecursion}
use Rattle.std.proofs.lemmas.Bool.{and_from, cases_eq, eq-eqb, false≢true, or_left, or_right}
use Rattle.std.proofs.lemmas.List.Elements.{Contains-append_left, Contains-push}
use Rattle.std.proofs.lemmas.Option.{same_Some, slice_get_within}
use Rattle.pl_lemmas.proofs.Exports.{all_found}
use Rattle.pl_frame.specs.Ethernet.{source_of}
use Rattle.pl_wiring.specs.declared.label.SwitchNo.{SwitchNo}
use Rattle.pl_wiring.specs.declared.link.Peer.TheVariants.{Switch}
use Rattle.pl_wiring.specs.Index.{port_index}
use Rattle.pl_wiring.specs.Peers.{peer_of}
use Rattle.pl_wiring.specs.Plan.{Plan}
use Rattle.pl_node.specs.declared.messages.ToSwitch.{ToSwitch}
use Rattle.pl_node.specs.HostInputs.{HostAnswer, HostInput, HostRule}
use Rattle.pl_node.specs.PortRecords.{is_open_to_hosts, port_of}
use Rattle.pl_node.specs.SwitchInputs.SwitchInput.{Comes, Says, Tick}
use Rattle.pl_node.specs.ManagerViews.{numbers_before}
use Rattle.pl_node.specs.SwitchViews.{SwitchView}
use Rattle.pl_journal.specs.declared.entry.Entry.{Entry}
use Rattle.pl_journal.specs.declared.entry.Entry.TheVariants.{Crossed, Moved, Sent}
use Rattle.pl_journal.specs.declared.cause.Cause.TheVariants as cause
use Rattle.pl_journal.specs.Places.{EdgePort, at_port, has_stood, number, same_edge_port}
use Rattle.pl_manager_rule.specs.WholeRule.{whole_rule}
use Rattle.pl_queues.specs.Queues.{items_at}
use Rattle.pl_queues.proofs.Exports.{all_items_at}
use Rattle.pl_switch_rule.specs.SwitchRule.{Loose}
use Rattle.pl_world.specs.declared.event.Event.{Event}
use Rattle.pl_world.specs.declared.item.Item.{Item}
use Rattle.pl_world.specs.declared.item.Item.TheVariants.{Control, Data}
use Rattle.pl_world.specs.declared.spoken_frame.SpokenFrame.TheVariants.{Silent}
use Rattle.pl_world.specs.declared.attachment.AttachmentPoint.{AttachmentPoint}
use Rattle.pl_world.specs.Booting.{me_of}
use Rattle.pl_world.specs.Changes.{emptied_from_host, ends_of, host_no, host_of, noted, out_of, switch_no}
use Rattle.pl_world.specs.Flying.{IsDataItem, IsItem}
use Rattle.pl_world.specs.LinksAndMoves.{host_moved}
use Rattle.pl_world.specs.OtherActs.{heard_after_tick, skip_noted}
use Rattle.pl_world.specs.WorldRule.{ComesAtSwitch, Happens, HostTurn, SwitchTurn, heard_item}
use Rattle.pl_world.specs.Worlds.{WorldView}
use Rattle.pl_world.proofs.Exports.{emptied_out_left, failed_left, Happened, happened, host_acts_left, lost_left, out_left, repaired_left, skip_left, Writes}
use Rattle.pl_world.proofs.Exports.Happened.{Asked, BeganAnew, Departed, Failed, FromHost, Lost, Ordered, OutOfPort, OverLink, PlayedFrame, Repaired, Reported, Ticked}
use Rattle.pl_law_control_plane.specs.ControlPlanes.{control_plane}
use Rattle.pl_law_control_plane.specs.HostsAtEdges.{HostsAtEdges, IsAtEdge}
use Rattle.pl_law_due.specs.Gathering.{GathersWell}
use Rattle.pl_law_addresses.specs.OwnFrames.{AreOwnHosts, IsOwnItem}
use Rattle.pl_law_addresses.specs.Addressed.{KnowNeighbours}
use Rattle.pl_law_addresses.proofs.Exports.{exists_at, Facts, filled_within, get-set_other, get-set_same}
use Rattle.pl_law_epochs.specs.InOrder.{IsAddressed}
use Rattle.pl_law_ledger.specs.Ledgers.{HasStoodThere}
use Rattle.pl_law_ledger.proofs.TurnsKeepLedger.{AreFormed, IsIn, IsReady, KeepsLedger, StoodAt, host_is, manager_keeps, restart_keeps, same_numbers, source_is, switch_keeps}
use Rattle.pl_law_ledger.proofs.GrantsWritten.{IsNoGrantEntry, Parts, one_quiet, one_written, parts_of, quiet_ends, quiet_parts, quiet_written, written}

-- ---- what is written besides
abbrev with_attachments : WorldView → ℕ → AttachmentPoint → Parts
with_attachments u h to = record (parts_of u) { attachments = set u.attachments h to; entries = Moved (host_no h) to.edge to.port ∷ written u.journal }

abbrev SameParts : WorldView → WorldView → Type 0
SameParts a b = parts_of b ≡ parts_of a

same_writes : Writes SameParts IsNoGrantEntry
same_writes = record { same = λ w. refl; on = λ a b c one next. next ∙ one; entry = λ w e quiet. one_quiet w e quiet; dropped = λ id c past. refl }

moved_parts : (u : WorldView) (h : ℕ) (from to : AttachmentPoint) → parts_of (host_moved u h from to) ≡ with_attachments u h to
moved_parts u h from to =
    let noted_move : WorldView = noted (record u { attachments = set u.attachments h to; heard = set u.heard h None }) (Moved (host_no h) to.edge to.port) in
    emptied_out_left SameParts IsNoGrantEntry same_writes (λ v i. refl) (emptied_from_host noted_move h cause.HostGone) from.edge.0 from.port cause.HostGone
    ∙ quiet_parts noted_move (ends_of cause.HostGone (items_at noted_move.from_hosts h)) (quiet_ends cause.HostGone (items_at noted_move.from_hosts h))
    ∙ ap (λ es. let p : Parts = record (parts_of u) { attachments = set u.attachments h to; entries = es } in p)
    (one_written u.journal (Moved (host_no h) to.edge to.port))

host_parts : (rule : HostRule) (w : WorldView) (h : ℕ) (input : HostInput) (answer : HostAnswer) (new : WorldView) → HostTurn rule w h input answer new →
    parts_of new ≡ parts_of w
host_parts rule w h input answer new turn =
    host_acts_left SameParts IsNoGrantEntry same_writes h
    (λ u frame. ap (λ es. let p : Parts = record (parts_of u) { entries = es } in p)
    (quiet_written u.journal (Sent (u.begun + 1) (host_no h) frame ∷ []) ((λ past. refl), tt)))
    rule w input answer new turn

-- ---- a host that moves is written down
stood_more : (plan : Plan) (entries : List Entry) (h : ℕ) (to : AttachmentPoint) (g : ℕ) (there : EdgePort) → has_stood plan entries g there ≡ true →
    has_stood plan (Moved (host_no h) to.edge to.port ∷ entries) g there ≡ true
stood_more plan entries h to g there is = or_right (h == g && same_edge_port (at_port to.edge.0 to.port) there) (has_stood plan entries g there) is

move_ledger : (u : WorldView) (h : ℕ) (to : AttachmentPoint) → h < length u.attachments → IsIn (parts_of u) → IsIn (with_attachments u h to)
move_ledger u h to within l = record {
  grants = λ s v x g found is. let e = l.grants s v x g found is in record { host = e.host; of_mac = e.of_mac; held = e.held; live = e.live; there = e.there; for_hosts = e.for_hosts };
  last = l.last;
  backed = (tt, l.backed);
  few = l.few;
  sources = λ s v port source found is.
      let e = l.sources s v port source found is in
      record { host = e.host; of_mac = e.of_mac; stood = stood_more u.plan (written u.journal) h to e.host (at_port s port) e.stood; for_hosts = e.for_hosts };
  standing = λ g attachment is. elim (cases_eq g h) [
    | inr other ↦ stood_more u.plan (written u.journal) h to g (at_port attachment.edge.0 attachment.port)
        (l.standing g attachment (sym (get-set_other u.attachments h g to other) ∙ is))
    | inl same ↦
        let attachment_is : to ≡ attachment = same_Some to attachment
        (sym (get-set_same u.attachments h to within) ∙ ap (slice_get (set u.attachments h to)) (sym same) ∙ is) in
        or_left (h == g && same_edge_port (at_port to.edge.0 to.port) (at_port attachment.edge.0 attachment.port))
        (has_stood u.plan (written u.journal) g (at_port attachment.edge.0 attachment.port))
        (and_from (h == g) (same_edge_port (at_port to.edge.0 to.port) (at_port attachment.edge.0 attachment.port)) (eq-eqb h g (sym same))
        (and_from (to.edge.0 == attachment.edge.0) (to.port == attachment.port)
        (eq-eqb to.edge.0 attachment.edge.0 (ap (λ (q : AttachmentPoint). q.edge.0) attachment_is))
        (eq-eqb to.port attachment.port (ap (λ (q : AttachmentPoint). q.port) attachment_is))))
  ];
  numbers = l.numbers;
  numbered = l.numbered;
  most = l.most;
}

module _ (w : WorldView) (f : Facts w) (at_edges : HostsAtEdges w) (ready : IsReady (parts_of w)) (own : AreOwnHosts w.plan w.hosts w.from_hosts)
    (know : KnowNeighbours w)
    (formed : AreFormed w.switches) (l : IsIn (parts_of w)) where
  abbrev Kept : WorldView → Type 0
  Kept new = KeepsLedger (control_plane w) (parts_of w) (parts_of new)

  -- ---- an item comes at a switch
  comes_at : (u : WorldView) (s port : ℕ) (item : Item) (new : WorldView) → parts_of u ≡ parts_of w → IsItem item → AreFormed new.switches →
      ((id : ℕ) (frame : List ℕ) → item ≡ Data id frame → (v : SwitchView) → slice_get u.switches s ≡ Some v → is_open_to_hosts (port_of v port) ≡ true →
      (port < v.k) × StoodAt u s port (source_of frame)) →
      ComesAtSwitch Loose u s port item new → Kept new
  comes_at u s port (Control frame) new same is new_formed fair turn =
      subst (λ (p : Parts). KeepsLedger (control_plane w) p (parts_of new)) same
      (switch_keeps u s (Comes port frame) _ new (subst IsReady (sym same) ready) (subst IsIn (sym same) l) new_formed
      (λ v found control host. absurd (false≢true (sym control ∙ is.kind))) turn (control_plane w))
  comes_at u s port (Data id frame) new same is new_formed fair turn =
      let z : WorldView = noted u (Crossed id (switch_no s)) in
      let parts : parts_of z ≡ parts_of u = one_quiet u (Crossed id (switch_no s)) (λ past. refl) in
      subst (λ (p : Parts). KeepsLedger (control_plane w) p (parts_of new)) (parts ∙ same)
      (switch_keeps z s (Comes port frame) _ new (subst IsReady (sym (parts ∙ same)) ready) (subst IsIn (sym (parts ∙ same)) l) new_formed
      (λ v found control host. let both = fair id frame refl v found host in
      (both.0, subst (λ (p : Parts). HasStoodThere p.plan p.entries (source_of frame) (at_port s port)) (sym parts) both.1)) turn (control_plane w))

  -- ---- from a host
  from_host : (h : ℕ) (item : Item) (items : List Item) (attachment : AttachmentPoint) (new : WorldView) → items_at w.from_hosts h ≡ item ∷ items →
      AreFormed new.switches →
      slice_get w.attachments h ≡ Some attachment →
      ComesAtSwitch Loose (heard_item (record w { from_hosts = set w.from_hosts h items }) h item) attachment.edge.0 attachment.port item new → Kept new
  from_host h (Control frame) items attachment new head new_formed is comes =
      absurd (subst (λ (xs : List Item). AllByRecursion IsDataItem xs) head (all_items_at IsDataItem w.from_hosts h f.host_items)).0
  from_host h (Data id frame) items attachment new head new_formed is comes =
      let within : h < length w.from_hosts = filled_within w.from_hosts h (Data id frame) items head in
      let view = exists_at w.hosts h (subst (λ n. h < n) f.froms within) in
      let host = exists_at w.plan.hosts h (subst (λ n. h < n) (f.froms ∙ f.hosts) within) in
      let those = own h host.0 view.0 host.1 view.1 in
      let mine = (subst (λ (xs : List Item). AllByRecursion (IsOwnItem (me_of host.0)) xs) head those.sends).0 in
      let frames = (subst (λ (xs : List Item). AllByRecursion IsDataItem xs) head (all_items_at IsDataItem w.from_hosts h f.host_items)).0 in
      let popped : WorldView = record w { from_hosts = set w.from_hosts h items } in
      let edge : IsAtEdge w.plan attachment = all_found (IsAtEdge w.plan) w.attachments h attachment at_edges is in
      let source : source_of frame ≡ host.0.mac = source_is host.0 frame mine in
      comes_at (heard_item popped h (Data id frame)) attachment.edge.0 attachment.port (Data id frame) new refl frames new_formed
      (λ n bytes same v found host_port.
      let bytes_are : frame ≡ bytes = ap bytes_of same in (
        subst (λ n. attachment.port < n) (sym (all_found (λ (v : SwitchView). v.k ≡ w.plan.k) w.switches attachment.edge.0 v f.ports found)) edge.port,
        subst (λ (b : List ℕ). StoodAt w attachment.edge.0 attachment.port (source_of b)) bytes_are (record {
          host = h;
          of_mac = ap (host_of w.plan) source ∙ host_is w.plan f.plan h host.0 host.1;
          stood = l.standing h attachment is;
          for_hosts = edge.free;
        }),
      )) comes
    where
      bytes_of : Item → List ℕ
      bytes_of (Control bytes) = bytes
      bytes_of (Data n bytes) = bytes

  -- ---- out of a port
  module _ (rule : HostRule) where
    still : (u : WorldView) → parts_of u ≡ parts_of w → Kept u
    still u same = same_numbers (control_plane w) (parts_of w) (parts_of u) (subst IsIn (sym same) l) (λ n. ap (λ (p : Parts). number p.entries n) same)

    over_link : (s port q : ℕ) (item : Item) (items : List Item) (t : SwitchNo) (new : WorldView) → out_of w s port ≡ item ∷ items → AreFormed new.switches →
        peer_of w.plan s port ≡ Switch t q → ComesAtSwitch Loose (record w { out = set w.out (port_index w.plan.k s port) items }) t.0 q item new → Kept new
    over_link s port q item items t new head new_formed peer comes =
        let all = (subst (λ (xs : List Item). AllByRecursion IsItem xs) head (all_items_at IsItem w.out (port_index w.plan.k s port) f.port_items)).0 in
        comes_at (record w { out = set w.out (port_index w.plan.k s port) items }) t.0 q item new refl all new_formed
        (λ id frame same v found host_port.
        absurd (false≢true (sym (know s port t q id frame v peer
        (subst (λ (xs : List Item). Contains xs (Data id frame)) (sym head)
        (subst (λ (i : Item). Contains (item ∷ items) i) same (Contains-append_left (item ∷ []) items item (Contains-push [] item)))) found)
        ∙ host_port))) comes

    -- ---- all else
    from_manager : (s : ℕ) (says : ToSwitch) (items : List ToSwitch) (new : WorldView) → AreFormed new.switches →
        SwitchTurn Loose (record w { from_manager = set w.from_manager s items }) s (Says says) Silent new → Kept new
    from_manager s says items new new_formed turn =
        switch_keeps (record w { from_manager = set w.from_manager s items }) s (Says says) _ new
        (record { listed = ready.listed; registered = ready.registered }) l new_formed (λ v found. tt) turn
        (control_plane w)

    ticks_on : (s : ℕ) (new : WorldView) → AreFormed new.switches →
        SwitchTurn Loose (record w { heard = heard_after_tick s w.attachments w.heard }) s Tick Silent new → Kept new
    ticks_on s new new_formed turn =
        switch_keeps (record w { heard = heard_after_tick s w.attachments w.heard }) s Tick _ new
        (record { listed = ready.listed; registered = ready.registered }) l new_formed (λ v found. tt) turn
        (control_plane w)

    module _ (e : Event) (new : WorldView) (new_formed : AreFormed new.switches) (gathered : GathersWell (control_plane w)) (addressed : IsAddressed w)
        (room : w.manager.learnt.count ≤ numbers_before (w.manager.epoch + 1)) where
      by_case : Happened Loose whole_rule rule w e new → Kept new
      by_case (FromHost h item items attachment is head at comes) = from_host h.0 item items attachment new head new_formed at comes
      by_case (OverLink s port item items t q is head joined comes) = over_link s.0 port q item items t new head new_formed joined comes
      by_case (OutOfPort s port item items is head joined comes) =
          still new (out_left SameParts IsNoGrantEntry same_writes rule (host_parts rule) (λ id h frame past. refl)
          (record w { out = set w.out (port_index w.plan.k s.0 port) items }) s.0 port item new comes)
      by_case (Reported s told items is head turn) = manager_keeps w s.0 told items new gathered addressed formed f.ids l head turn
      by_case (Ordered s says items is head turn) = from_manager s.0 says items new new_formed turn
      by_case (Ticked s is turn) = ticks_on s.0 new new_formed turn
      by_case (Failed a b link is found fails) =
          still new (ap parts_of fails ∙ failed_left SameParts IsNoGrantEntry same_writes (λ u i. refl) w link (λ past. refl) (λ u links. refl))
      by_case (Repaired a b link is found repairs) =
          still new (ap parts_of repairs ∙ repaired_left SameParts IsNoGrantEntry same_writes w link (λ past. refl) (λ u links. refl))
      by_case (Lost s port item items is head loses) =
          still new (ap parts_of loses ∙ lost_left SameParts IsNoGrantEntry same_writes
          (record w { out = set w.out (port_index w.plan.k s.0 port) items }) item)
      by_case (Departed h s port from is at turn) =
          let to : AttachmentPoint = record { edge = s; port = port } in
          subst (λ (q : Parts). KeepsLedger (control_plane w) (parts_of w) q)
          (sym (host_parts rule (host_moved w h.0 from to) h.0 _ _ new turn ∙ moved_parts w h.0 from to))
          (same_numbers (control_plane w) (parts_of w) (with_attachments w h.0 to) (move_ledger w h.0 to (slice_get_within w.attachments h.0 from at) l)
          (λ n. refl))
      by_case (PlayedFrame h input skip is turn) =
          still new (host_parts rule (skip_noted w h.0 skip) h.0 _ _ new turn ∙ skip_left SameParts IsNoGrantEntry same_writes (λ g why past. refl) w h.0 skip)
      by_case (Asked h input is turn) = still new (host_parts rule w h.0 _ _ new turn)
      by_case (BeganAnew is anew) = subst (λ u. Kept u) (sym anew) (restart_keeps w room l (control_plane w))

      pub happens_ledger : Happens Loose whole_rule rule w e new → Kept new
      happens_ledger does = by_case (happened Loose whole_rule rule w e new does)
