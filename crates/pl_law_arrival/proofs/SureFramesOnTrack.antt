-- At each delivery out of a queue a sure frame stays on its track.
use Rattle.std.proofs.Common.{◌≡◌, ℕ, zero, suc, ◌<◌, false, List, [], ◌∷◌, length, set, Option, Some, None, slice_get, refl, sym, ap, ◌∙◌, subst, inl, inr, arith}
use Rattle.std.specs.List.{AllByRecursion}
use Rattle.std.proofs.Math.ListN.{length-set}
use Rattle.std.proofs.lemmas.Bool.{and_parts}
use Rattle.std.proofs.lemmas.Nat.{same_from_place}
use Rattle.std.proofs.lemmas.Option.{slice_get_within}
use Rattle.std.proofs.lemmas.Slice.Eq.{bytes_eq-Decides}
use Rattle.pl_frame.specs.declared.address.Mac.{Mac}
use Rattle.pl_frame.specs.Ethernet.{destination_of, source_of}
use Rattle.pl_pmac.specs.declared.pmac.Pmac.{Pmac}
use Rattle.pl_layouts.specs.Equality.{same_mac}
use Rattle.pl_layouts.specs.Frames.{packet_in}
use Rattle.pl_layouts.specs.Memberships.{is_group}
use Rattle.pl_wiring.specs.declared.host.Host.{Host}
use Rattle.pl_wiring.specs.declared.link.Peer.{Peer}
use Rattle.pl_wiring.specs.declared.link.Peer.TheVariants.{HostPort, Switch}
use Rattle.pl_wiring.specs.Index.{port_index}
use Rattle.pl_wiring.specs.Peers.{peer_of}
use Rattle.pl_wiring.specs.Plan.{Plan}
use Rattle.pl_journal.specs.declared.entry.Entry.TheVariants.{Arrived}
use Rattle.pl_node.specs.declared.reception.Reception.{Reception}
use Rattle.pl_node.specs.declared.reception.Reception.TheVariants.{Kept}
use Rattle.pl_node.specs.HostDuties.{HostsKeepFrames, is_of}
use Rattle.pl_node.specs.HostInputs.{HostRule}
use Rattle.pl_node.specs.HostInputs.HostAnswer.{Received}
use Rattle.pl_node.specs.HostInputs.HostInput.{Receives}
use Rattle.pl_node.specs.HostViews.{HostView}
use Rattle.pl_node.proofs.Exports.{among_right, Contains-of_among, IsAmong}
use Rattle.pl_switch_rule.specs.SwitchRule.{Loose}
use Rattle.pl_queues.specs.Queues.{items_at}
use Rattle.pl_world.specs.declared.item.Item.{Item}
use Rattle.pl_world.specs.declared.item.Item.TheVariants.{Control, Data}
use Rattle.pl_world.specs.declared.attachment.AttachmentPoint.{AttachmentPoint}
use Rattle.pl_world.specs.Booting.{me_of}
use Rattle.pl_world.specs.Changes.{host_no, out_of, receiver}
use Rattle.pl_world.specs.Flying.{IsDataItem, IsFrame, IsItem}
use Rattle.pl_world.specs.OtherActs.{reception_noted}
use Rattle.pl_world.specs.WorldRule.{ComesAtHost, ComesIn, ComesOut, ComesOver, DeliversFromHost, DeliversOut, HostReceives, HostTurn, heard_item}
use Rattle.pl_world.specs.Worlds.{WorldView}
use Rattle.pl_world.proofs.Exports.{all_at}
use Rattle.pl_law_control_plane.proofs.Exports.{adjacent_there}
use Rattle.pl_law_addresses.specs.OwnFrames.{IsOwnItem}
use Rattle.pl_law_arrival.specs.Reach.{Reaches}
use Rattle.pl_law_arrival.specs.Ways.{Alike, fabric_of}
use Rattle.pl_law_arrival.proofs.Hosting.{comes_to}
use Rattle.pl_law_arrival.proofs.Onward.{comes_on}
use Rattle.pl_law_arrival.proofs.Ready.{Ready, at_edge, stays_at_edge}
use Rattle.pl_law_arrival.proofs.Sending.{sends_out}
use Rattle.pl_law_arrival.proofs.LeftByAStep.{Goes, goes_at_switch, goes_heard, goes_host, goes_noted, goes_receives, goes_self, goes_then}
use Rattle.pl_law_arrival.proofs.Track.{IsOnTrack, IsTakenLeaving, IsTakenUnder, IsTakenWaiting, OnTrack, split_hosts, split_out, still_on}
use Rattle.pl_law_arrival.proofs.Track.OnTrack.{Came}
use Rattle.pl_journal.proofs.Exports.{unicast_is_not_routed}

-- ---- what stays
pub comes_in_goes : (w : WorldView) (h : ℕ) (item : Item) (o : Option AttachmentPoint) (new : WorldView) → ComesIn Loose w h item o new → Goes w new
comes_in_goes w h item None new comes = absurd comes
comes_in_goes w h item (Some attachment) new comes =
    goes_then w (heard_item w h item) new (goes_heard w h item) (goes_at_switch Loose (heard_item w h item) attachment.edge.0 attachment.port item new comes)

at_host_goes : (host : HostRule) (w : WorldView) (id : ℕ) (frame : List ℕ) (o : Option ℕ) (new : WorldView) → ComesAtHost host w id frame o new → Goes w new
at_host_goes host w id frame None new comes = subst (Goes w) (sym comes) (goes_noted w (_ ∷ []))
at_host_goes host w id frame (Some h) new comes = goes_receives host w h id frame new comes

comes_out_goes : (host : HostRule) (w : WorldView) (s p : ℕ) (item : Item) (new : WorldView) → ComesOut host w s p item new → Goes w new
comes_out_goes host w s p (Control frame) new comes = subst (Goes w) (sym comes) (goes_self w)
comes_out_goes host w s p (Data id frame) new comes = at_host_goes host w id frame (receiver w s p frame) new comes

pub comes_over_goes : (host : HostRule) (w : WorldView) (s p : ℕ) (item : Item) (peer : Peer) (new : WorldView) → ComesOver Loose host w s p item peer new → Goes w new
comes_over_goes host w s p item (Switch t q) new comes = goes_at_switch Loose w t.0 q item new comes
comes_over_goes host w s p item HostPort new comes = comes_out_goes host w s p item new comes

-- ---- what is known of items

data_of : (item : Item) (id : ℕ) (frame : List ℕ) → item ≡ Data id frame → IsItem item → IsFrame false frame
data_of item id frame is good = subst IsItem is good

host_data_of : (item : Item) (id : ℕ) (frame : List ℕ) → item ≡ Data id frame → IsDataItem item → IsFrame false frame
host_data_of item id frame is good = subst IsDataItem is good

module _ (old : WorldView) (r : Ready old) where
  out_item : (n : ℕ) (item : Item) (items : List Item) → items_at old.out n ≡ item ∷ items → IsItem item
  out_item n item items head = (subst (AllByRecursion IsItem) head (all_at (AllByRecursion IsItem) old.out n [] tt r.counted.in_port_queues)).0

  host_item : (n : ℕ) (item : Item) (items : List Item) → items_at old.from_hosts n ≡ item ∷ items → IsDataItem item
  host_item n item items head = (subst (AllByRecursion IsDataItem) head (all_at (AllByRecursion IsDataItem) old.from_hosts n [] tt r.counted.in_host_queues)).0

  -- a frame in the queue of a host has the host as its source
  own_source : (h : ℕ) (host : Host) (id : ℕ) (frame : List ℕ) (items : List Item) → slice_get old.plan.hosts h ≡ Some host → items_at old.from_hosts h ≡ Data id frame ∷ items → source_of frame ≡ host.mac
  own_source h host id frame items found head =
      let within = subst (λ n. h < n) (sym r.counted.formed.hosts) (slice_get_within old.plan.hosts h host found) in
      let view = there_in old.hosts h within in
      let own = (r.own h host view.0 found view.1).sends in
      let is = (subst (AllByRecursion (IsOwnItem (me_of host))) head own).0 in
      let same = (and_parts (same_mac (source_of frame) host.mac) (is_of (me_of host) (packet_in frame)) is).0 in
      let bytes = (bytes_eq-Decides (source_of frame).0 host.mac.0).0 same in
      λ i. let m : Mac = record { 0 = bytes i } in m
    where
      there_in : (xs : List HostView) (n : ℕ) → n < length xs → (x : HostView) × (slice_get xs n ≡ Some x)
      there_in [] n less = absurd (omega (arith, less))
      there_in (x ∷ xs) zero less = (x, refl)
      there_in (x ∷ xs) (suc n) less = there_in xs n (omega (arith, less))

module _ (host : HostRule) (keeps : HostsKeepFrames host) (old new : WorldView) (r : Ready old) (ahead : Ready new) (h g : ℕ) (x : Pmac) (id : ℕ)
    (reach : Reaches old h g x) (reached : Reaches new h g x) where
  abbrev pub end : ℕ
  end = reach.to.attachment.edge.0

  -- what waits still is on its track
  pub keep : (mid : WorldView) → Goes mid new → Alike (fabric_of old) (fabric_of new) → OnTrack (fabric_of old) mid.from_hosts mid.out mid.journal h g end x id →
      IsOnTrack new h g end x id
  keep mid goes alike on =
      still_on (fabric_of old) (fabric_of new) r.calm.is alike mid.from_hosts mid.out new.from_hosts new.out mid.journal new.journal goes.from_hosts goes.out goes.journal h g end x id on

  module _ (steps : ℕ) (alike : Alike (fabric_of old) (fabric_of new)) (on : IsOnTrack old h g end x id) where
    -- ---- out of the queue of a host
    abbrev from_mid : ℕ → List Item → WorldView
    from_mid n items = record old { steps = steps; from_hosts = set old.from_hosts n items }

    begins : (n : ℕ) (item : Item) (items : List Item) → items_at old.from_hosts n ≡ item ∷ items → (taken : IsTakenWaiting n item h x id) →
        ComesIn Loose (from_mid n items) n item (slice_get old.attachments n) new → IsOnTrack new h g end x id
    begins n item items head taken comes =
        let from = reached.from.1 in
        let goes = comes_in_goes (from_mid n items) n item (slice_get old.attachments n) new comes in
        let attachments : slice_get old.attachments h ≡ Some from.attachment = ap (λ ss. slice_get ss h) (sym goes.attachments) ∙ from.attachments in
        let host_is : slice_get old.plan.hosts h ≡ Some from.host = ap (λ (p : Plan). slice_get p.hosts h) (sym goes.plan) ∙ from.is in
        let head_h : items_at old.from_hosts h ≡ Data id taken.frame ∷ items = ap (items_at old.from_hosts) taken.at ∙ head ∙ ap (λ y. y ∷ items) taken.is in
        let is_frame = host_data_of item id taken.frame taken.is (host_item old r n item items head) in
        let own = own_source old r h from.host id taken.frame items host_is head_h in
        let at_h : ComesIn Loose (from_mid h items) h item (slice_get old.attachments h) new =
        subst (λ m. ComesIn Loose (from_mid m items) m item (slice_get old.attachments m) new) (sym taken.at) comes in
        let with_frame = subst (λ y. ComesIn Loose (from_mid h items) h y (slice_get old.attachments h) new) taken.is at_h in
        let turn = subst (λ o. ComesIn Loose (from_mid h items) h (Data id taken.frame) o new) attachments with_frame in
        subst (λ t. IsOnTrack new h g t x id) (sym (stays_at_edge old new r ahead alike g x reach.to reached.to))
        (sends_out old new r ahead h g x id reached _ _ _ _ _ refl taken.frame taken.to_one_host is_frame.kind is_frame.whole.low own turn)

    pub from_host : (n : ℕ) (items : List Item) → items_at old.from_hosts n ≡ items → DeliversFromHost Loose (record old { steps = steps }) n items new → IsOnTrack new h g end x id
    from_host n [] head comes = absurd comes
    from_host n (item ∷ items) head comes = elim (split_hosts (fabric_of old) old.from_hosts old.out old.journal n item items head h g end x id on) [
      | inl rest ↦ keep (from_mid n items) (comes_in_goes (from_mid n items) n item (slice_get old.attachments n) new comes) alike rest
      | inr taken ↦ begins n item items head taken comes
    ]

    -- ---- out of the queue of a port
    abbrev out_mid : ℕ → ℕ → List Item → WorldView
    out_mid s p items = record old { steps = steps; out = set old.out (port_index old.plan.k s p) items }

    over_link : (s p : ℕ) (item : Item) (items : List Item) → p < old.plan.k → out_of old s p ≡ item ∷ items → IsTakenUnder (fabric_of old) (port_index old.plan.k s p) item end x id →
        ComesOver Loose host (out_mid s p items) s p item (peer_of old.plan s p) new → IsOnTrack new h g end x id
    over_link s p item items within head taken comes =
        let there = (adjacent_there old.plan taken.s taken.p taken.u taken.leads.into r.calm.is taken.leads.adjacent).1 in
        let both = same_from_place taken.s taken.p s p old.plan.k there within taken.at in
        let adjacent : peer_of old.plan s p ≡ Switch (record { 0 = taken.u }) taken.leads.into =
        subst (λ a. peer_of old.plan a p ≡ Switch (record { 0 = taken.u }) taken.leads.into) both.0
        (subst (λ b. peer_of old.plan taken.s b ≡ Switch (record { 0 = taken.u }) taken.leads.into) both.1 taken.leads.adjacent) in
        let is_frame = data_of item id taken.frame taken.is (out_item old r (port_index old.plan.k s p) item items head) in
        let waits : IsAmong (Data id taken.frame) (out_of old s p) = subst (IsAmong (Data id taken.frame)) (sym head) (inl taken.is) in
        let at_switch = subst (λ peer. ComesOver Loose host (out_mid s p items) s p item peer new) adjacent comes in
        let turn = subst (λ y. ComesOver Loose host (out_mid s p items) s p y (Switch (record { 0 = taken.u }) taken.leads.into) new) taken.is at_switch in
        comes_on old new r alike h g x id reach.to _ _ _ _ _ (length-set old.out (port_index old.plan.k s p) items) taken.s taken.p taken.u taken.frame taken.leads taken.one taken.to
        is_frame.kind is_frame.whole.low
        (λ v found. r.grounded.neighbours s p (record { 0 = taken.u }) taken.leads.into id taken.frame v adjacent (Contains-of_among (Data id taken.frame) (out_of old s p) waits) found)
        turn taken.headed

    received : (frame : List ℕ) (mid : WorldView) → is_group (destination_of frame) ≡ false → HostReceives host mid g id frame new → IsOnTrack new h g end x id
    received frame mid one receives = by receives.reception (keeps receives.turn.before frame receives.turn.after receives.turn.acts receives.reception (unicast_is_not_routed (destination_of frame) one) receives.turn.ruled) receives.turn
      where
        by : (reception : Reception) → reception ≡ Kept → HostTurn host (reception_noted mid g id frame reception) g (Receives frame) (Received reception) new → IsOnTrack new h g end x id
        by reception is turn =
            let turned = subst (λ y. HostTurn host (reception_noted mid g id frame y) g (Receives frame) (Received y) new) is turn in
            let goes = goes_host host (reception_noted mid g id frame Kept) g (Receives frame) (Received Kept) new turned in
            Came frame (goes.journal (Arrived id (host_no g) frame) (among_right (Arrived id (host_no g) frame) mid.journal (Arrived id (host_no g) frame ∷ []) (inl refl)))

    to_host : (s p : ℕ) (item : Item) (items : List Item) → p < old.plan.k → IsTakenLeaving (fabric_of old) (port_index old.plan.k s p) item g end x id →
        ComesOver Loose host (out_mid s p items) s p item (peer_of old.plan s p) new → IsOnTrack new h g end x id
    to_host s p item items within taken comes =
        let at = at_edge old r g x reach.to in
        let there = subst (λ n. n < old.plan.k) (sym reach.to.at_port) at.port in
        let both = same_from_place end x.port s p old.plan.k there within taken.at in
        let port : reach.to.attachment.port ≡ p = sym reach.to.at_port ∙ both.1 in
        let free : peer_of old.plan s p ≡ HostPort = subst (λ a. peer_of old.plan a p ≡ HostPort) both.0 (subst (λ b. peer_of old.plan end b ≡ HostPort) port at.free) in
        let out = subst (λ peer. ComesOver Loose host (out_mid s p items) s p item peer new) free comes in
        let with_frame = subst (λ y. ComesOut host (out_mid s p items) s p y new) taken.is out in
        let receives = subst (λ o. ComesAtHost host (out_mid s p items) id taken.frame o new)
        (comes_to (out_mid s p items) r.apart g reach.to.attachment reach.to.attachments taken.frame taken.mac s p both.0 port) with_frame in
        received taken.frame (out_mid s p items) taken.one receives

    pub out_of_port : (s p : ℕ) (items : List Item) → p < old.plan.k → out_of old s p ≡ items → DeliversOut Loose host (record old { steps = steps }) s p items new → IsOnTrack new h g end x id
    out_of_port s p [] within head comes = absurd comes
    out_of_port s p (item ∷ items) within head comes = elim (split_out (fabric_of old) old.from_hosts old.out old.journal (port_index old.plan.k s p) item items head h g end x id on) [
      | inl rest ↦ keep (out_mid s p items) (comes_over_goes host (out_mid s p items) s p item (peer_of old.plan s p) new comes) alike rest
      | inr (inl taken) ↦ over_link s p item items within head taken comes
      | inr (inr taken) ↦ to_host s p item items within taken comes
    ]
