-- Each step between two sure moments keeps a frame on its track.
use Rattle.std.proofs.Common.{◌≡◌, ℕ, ◌+◌, ◌<◌, true, false, List, [], ◌∷◌, set, Option, Some, None, slice_get, refl, sym, ap, ◌∙◌, subst, inl, inr, true≢false}
use Rattle.std.proofs.lemmas.Bool.{cases_eq}
use Rattle.std.proofs.lemmas.List.{get_or-set_other}
use Rattle.std.proofs.lemmas.Nat.{same_from_place}
use Rattle.std.proofs.lemmas.Option.{same_Some}
use Rattle.pl_lemmas.proofs.Exports.{set_there}
use Rattle.pl_pmac.specs.declared.pmac.Pmac.{Pmac}
use Rattle.pl_wiring.specs.declared.host.Host.{Host}
use Rattle.pl_wiring.specs.declared.label.SwitchNo.{SwitchNo}
use Rattle.pl_wiring.specs.declared.link.Link.{Link}
use Rattle.pl_wiring.specs.declared.link.Peer.{Peer}
use Rattle.pl_wiring.specs.declared.link.Peer.TheVariants.{HostPort, Switch}
use Rattle.pl_wiring.specs.Index.{port_index}
use Rattle.pl_wiring.specs.LiveLinks.{is_live, is_live_at}
use Rattle.pl_wiring.specs.Peers.{peer_of}
use Rattle.pl_wiring.specs.Plan.{Plan}
use Rattle.pl_wiring.proofs.Exports.{changes, peer_is_switch}
use Rattle.pl_journal.specs.declared.entry.Entry.{Entry}
use Rattle.pl_node.specs.HostDuties.{HostsKeepFrames}
use Rattle.pl_node.specs.HostInputs.{HostRule}
use Rattle.pl_node.specs.HostInputs.HostAnswer.{Nothing}
use Rattle.pl_node.specs.HostInputs.HostInput.{HasMoved}
use Rattle.pl_node.specs.ManagerViews.{ManagerView, newest}
use Rattle.pl_node.specs.PortRecords.{is_usable}
use Rattle.pl_node.specs.SwitchViews.{SwitchView}
use Rattle.pl_node.proofs.Exports.{among_left, IsAmong}
use Rattle.pl_manager_rule.specs.WholeRule.{whole_rule}
use Rattle.pl_switch_rule.specs.SwitchRule.{Loose}
use Rattle.pl_switch_rule.proofs.Exports.{loose_steps_are_accounted}
use Rattle.pl_queues.specs.Queues.{items_at}
use Rattle.pl_world.specs.declared.event.Event.{Event}
use Rattle.pl_world.specs.declared.event.Event.TheVariants as event
use Rattle.pl_world.specs.declared.event.QueueName.TheVariants as queue
use Rattle.pl_world.specs.declared.item.Item.{Item}
use Rattle.pl_world.specs.declared.item.Item.TheVariants.{Data}
use Rattle.pl_world.specs.declared.attachment.AttachmentPoint.{AttachmentPoint}
use Rattle.pl_world.specs.Changes.{out_of}
use Rattle.pl_world.specs.LinksAndMoves.{host_moved, item_lost, joins, link_between, link_failed, link_repaired}
use Rattle.pl_world.specs.OtherActs.{heard_after_tick, skip_noted}
use Rattle.pl_world.specs.Refusals.{has_queue, is_filled, refusal, refusal_of_event, refusal_of_link, refusal_of_move}
use Rattle.pl_world.specs.WorldRule.{ComesIn, ComesOver, HostTurn, WorldStep}
use Rattle.pl_world.specs.Worlds.{WorldView}
use Rattle.pl_world.proofs.Exports.{all_found, by_host, event_is_not_refused, found_contained, Happened, happened, live_before, place_is_free, port_within, there_is}
use Rattle.pl_world.proofs.Exports.Happened.{Asked, BeganAnew, Departed, Failed, FromHost, Lost, Ordered, OutOfPort, OverLink, PlayedFrame, Repaired, Reported, Ticked}
use Rattle.pl_law_control_plane.specs.ControlPlanes.{control_plane}
use Rattle.pl_law_control_plane.specs.HostsAtEdges.{IsAtEdge}
use Rattle.pl_law_control_plane.specs.Restarts.{OnPlane}
use Rattle.pl_law_control_plane.proofs.Exports.{adjacent_there, step_on_plane}
use Rattle.pl_law_arrival.specs.Losses.{IsLostBy}
use Rattle.pl_law_arrival.specs.Reach.{Reaches}
use Rattle.pl_law_addresses.specs.Registered.{IsRegisteredBy}
use Rattle.pl_law_arrival.specs.Ways.{Alike, fabric_of}
use Rattle.pl_law_arrival.proofs.Alike.{alike_by_manager, alike_by_views, one_of_both_on}
use Rattle.pl_law_arrival.proofs.Hosting.{somebody}
use Rattle.pl_law_arrival.proofs.Ready.{Ready, at_edge, net, stays_at_edge}
use Rattle.pl_law_arrival.proofs.LeftByAStep.{Goes, goes_anew, goes_beside, goes_host, goes_lost, goes_manager, goes_skip, goes_switch, goes_then}
use Rattle.pl_law_arrival.proofs.Track.{IsOnTrack, OnTrack, split_out, still_on}
use Rattle.pl_law_arrival.proofs.Track.OnTrack.{Came, Leaves, Under, Waits}
use Rattle.pl_law_arrival.proofs.SureFramesOnTrack.{comes_in_goes, comes_over_goes, from_host, keep, out_of_port}

-- ---- what is not refused

-- ---- a link
module _ (old new : WorldView) (r : Ready old) (ahead : Ready new) where
  -- a live link does not fail between two settled moments: both ends would still find it usable
  fails_never : (steps a b : ℕ) (link : Link) → link_between old.plan a b ≡ Some link → refusal_of_link old false (link_between old.plan a b) ≡ None →
      new ≡ link_failed (record old { steps = steps }) link → ⊥
  fails_never steps a b link found none is =
      let there = found_contained (joins a b) old.plan.links link found in
      let live : is_live_at old.links link.lower.0 link.lower_port ≡ true =
      live_before (is_live old.links link) (subst (λ (o : Option Link). refusal_of_link old false o ≡ None) found none) in
      let adjacent = (peer_is_switch old.plan link.lower.0 link.lower_port link.upper link.upper_port r.calm.is).1 (there.0, link, there.1, there.2, inl (refl, refl, refl, refl)) in
      let plan : new.plan ≡ old.plan = ap (λ (w : WorldView). w.plan) is in
      let view : (control_plane new).view link.lower.0 ≡ (control_plane old).view link.lower.0 = ap (λ (w : WorldView). (control_plane w).view link.lower.0) is in
      let was = r.calm.usable link.lower.0 link.lower_port link.upper.0 link.upper_port adjacent ∙ live in
      let now = ahead.calm.usable link.lower.0 link.lower_port link.upper.0 link.upper_port
      (subst (λ (p : Plan). peer_of p link.lower.0 link.lower_port ≡ Switch link.upper link.upper_port) (sym plan) adjacent) in
      let failed = (changes old.plan old.links link false r.calm.is.tree r.counted.formed.links there).at_link link.lower.0 link.lower_port (inl (refl, refl)) in
      let dead : is_live_at new.links link.lower.0 link.lower_port ≡ false = ap (λ (w : WorldView). is_live_at w.links link.lower.0 link.lower_port) is ∙ failed in
      true≢false (sym was ∙ ap (λ (v : SwitchView). is_usable v link.lower_port) (sym view) ∙ now ∙ dead)

emptied : (queues : List (List Item)) (n i : ℕ) (y : Item) → (i ≡ n → ⊥) → IsAmong y (items_at queues i) → IsAmong y (items_at (set queues n []) i)
emptied queues n i y other among = subst (IsAmong y) (sym (get_or-set_other queues n i [] [] other)) among

module _ (host : HostRule) (keeps : HostsKeepFrames host) (old new : WorldView) (r : Ready old) (ahead : Ready new) (h g : ℕ) (x : Pmac) (id : ℕ)
    (reach : Reaches old h g x) (reached : Reaches new h g x) (on : IsOnTrack old h g reach.to.attachment.edge.0 x id) where
  abbrev end : ℕ
  end = reach.to.attachment.edge.0

  abbrev Stays : Type 0
  Stays = IsOnTrack new h g end x id

  -- ---- moves
  module _ (alike : Alike (fabric_of old) (fabric_of new)) (steps m s p : ℕ) (edge : SwitchNo) (same_s : edge.0 ≡ s) (from : AttachmentPoint) (found : slice_get old.attachments m ≡ Some from)
      (none : refusal_of_move old m s p ≡ None) where
    abbrev to : AttachmentPoint
    to = record { edge = edge; port = p }

    abbrev moved : WorldView
    moved = host_moved (record old { steps = steps }) m from to

    -- a host that is registered by one address then and now did not move
    not_moved : (y : Pmac) → new.attachments ≡ set old.attachments m to → (before : IsRegisteredBy old m y) → IsRegisteredBy new m y → ⊥
    not_moved y attachments before after =
        let was : from ≡ before.attachment = same_Some from before.attachment (sym found ∙ before.attachments) in
        let now : to ≡ after.attachment = same_Some to after.attachment (sym (set_there old.attachments m from to found) ∙ ap (λ ss. slice_get ss m) (sym attachments) ∙ after.attachments) in
        let edges = stays_at_edge old new r ahead alike m y before after in
        let ports = sym before.at_port ∙ after.at_port in
        somebody old.attachments m from found s p
        (ap (λ (z : AttachmentPoint). z.edge.0) was ∙ edges ∙ ap (λ (z : AttachmentPoint). z.edge.0) (sym now) ∙ same_s)
        (ap (λ (z : AttachmentPoint). z.port) was ∙ ports ∙ ap (λ (z : AttachmentPoint). z.port) (sym now)) (place_is_free old m s p none)

    newest_same : new.manager ≡ old.manager → new.plan ≡ old.plan → (before : IsRegisteredBy old m reach.from.0) (after : IsRegisteredBy new m reached.from.0) → reached.from.0 ≡ reach.from.0
    newest_same manager plan before after =
        let hosts : after.host ≡ before.host = same_Some after.host before.host (sym after.is ∙ ap (λ (z : Plan). slice_get z.hosts m) plan ∙ before.is) in
        let one : after.newest_one ≡ before.newest_one = same_Some after.newest_one before.newest_one
        (sym after.is_newest ∙ ap (λ (z : ManagerView). newest z.learnt after.host.mac) manager ∙ ap (λ (z : Host). newest old.manager.learnt z.mac) hosts ∙ before.is_newest) in
        sym after.address ∙ ap (λ z. z.pmac) one ∙ before.address

    moves : HostTurn host moved m HasMoved Nothing new → Stays
    moves turn = by on
      where
        goes : Goes moved new
        goes = goes_host host moved m HasMoved Nothing new turn

        journal : (e : Entry) → IsAmong e old.journal → IsAmong e moved.journal
        journal e among = among_left e _ _ (among_left e _ _ (among_left e old.journal _ among))

        rest : OnTrack (fabric_of old) moved.from_hosts moved.out moved.journal h g end x id → Stays
        rest on_moved = keep host keeps old new r ahead h g x id reach reached moved goes alike on_moved

        by : IsOnTrack old h g end x id → Stays
        by (Waits frame among to_one_host) = elim (cases_eq h m) [
          | inr other ↦ rest (Waits frame (emptied old.from_hosts m h (Data id frame) other among) to_one_host)
          | inl same ↦
              let before = subst (λ n. IsRegisteredBy old n reach.from.0) same reach.from.1 in
              let after = subst (λ n. IsRegisteredBy new n reached.from.0) same reached.from.1 in
              let one = newest_same (ap (λ (w : WorldView). w.manager) (by_host host moved m HasMoved Nothing new turn)) goes.plan before after in
              absurd (not_moved reach.from.0 goes.attachments before (subst (IsRegisteredBy new m) one after))
        ]
        by (Under a b u frame l among one dest headed) = elim (cases_eq (port_index old.plan.k a b) (port_index old.plan.k from.edge.0 from.port)) [
          | inr other ↦ rest (Under a b u frame l (emptied old.out (port_index old.plan.k from.edge.0 from.port) (port_index old.plan.k a b) (Data id frame) other among) one dest headed)
          | inl same ↦
              let at = all_found (IsAtEdge old.plan) old.attachments m from found r.hosts in
              let both = same_from_place a b from.edge.0 from.port old.plan.k (adjacent_there old.plan a b u l.into r.calm.is l.adjacent).1 at.port same in
              let free = subst (λ n. peer_of old.plan n b ≡ HostPort) (sym both.0) (subst (λ n. peer_of old.plan from.edge.0 n ≡ HostPort) (sym both.1) at.free) in
              absurd (no_link (sym free ∙ l.adjacent))
        ]
          where
            no_link : {t : SwitchNo} {q : ℕ} → HostPort ≡ Switch t q → ⊥
            no_link e = cc e
        by (Leaves frame among one mac) = elim (cases_eq (port_index old.plan.k end x.port) (port_index old.plan.k from.edge.0 from.port)) [
          | inr other ↦ rest (Leaves frame (emptied old.out (port_index old.plan.k from.edge.0 from.port) (port_index old.plan.k end x.port) (Data id frame) other among) one mac)
          | inl same ↦
              let at = all_found (IsAtEdge old.plan) old.attachments m from found r.hosts in
              let own = at_edge old r g x reach.to in
              let within = subst (λ n. n < old.plan.k) (sym reach.to.at_port) own.port in
              let both = same_from_place end x.port from.edge.0 from.port old.plan.k within at.port same in
              let attachment : reach.to.attachment ≡ from = same_attachment reach.to.attachment from both.0 (sym reach.to.at_port ∙ both.1) in
              let is_g : g ≡ m = r.apart g m from (reach.to.attachments ∙ ap Some attachment) found in
              absurd (not_moved x goes.attachments (subst (λ n. IsRegisteredBy old n x) is_g reach.to) (subst (λ n. IsRegisteredBy new n x) is_g reached.to))
        ]
          where
            same_attachment : (a b : AttachmentPoint) → a.edge.0 ≡ b.edge.0 → a.port ≡ b.port → a ≡ b
            same_attachment a b edge port = λ i. record { edge = record { 0 = edge i }; port = port i }
        by (Came frame among) = rest (Came frame (journal _ among))

  -- ---- all events
  module _ (plane : OnPlane Loose whole_rule (control_plane old) (control_plane new)) where
    alike_of : new.plan ≡ old.plan → new.links ≡ old.links → Alike (fabric_of old) (fabric_of new)
    alike_of plan links = elim (one_of_both_on (control_plane old) (control_plane new) plane) [
      | inl manager ↦ alike_by_manager (net old) (net new) r.calm ahead.calm plan links (ap (λ (m : ManagerView). m.told) manager)
      | inr views ↦ alike_by_views (net old) (net new) r.calm ahead.calm plan views
    ]

    abbrev Both : Type 0
    Both = Alike (fabric_of old) (fabric_of new) × Stays

    -- where nothing is taken out of the queues of frames
    quietly : (mid : WorldView) → Goes old mid → Goes mid new → Both
    quietly mid to_mid goes =
        let whole = goes_then old mid new to_mid goes in
        let alike = alike_of whole.plan whole.links in
        (alike, keep host keeps old new r ahead h g x id reach reached old whole alike on)

    abbrev stepped : ℕ → WorldView
    stepped steps = record old { steps = steps }

    to_stepped : (steps : ℕ) → Goes old (stepped steps)
    to_stepped steps = record { plan = refl; links = refl; attachments = refl; many = refl; out = λ i y j. j; from_hosts = λ i y j. j; journal = λ e j. j }

    -- a frame of the first queue is taken out, and comes to the other end
    over : (steps s p : ℕ) (item : Item) (items : List Item) → p < old.plan.k → out_of old s p ≡ item ∷ items →
        ComesOver Loose host (record old { steps = steps; out = set old.out (port_index old.plan.k s p) items }) s p item (peer_of old.plan s p) new → Both
    over steps s p item items within head comes =
        let goes = comes_over_goes host (record old { steps = steps; out = set old.out (port_index old.plan.k s p) items }) s p item (peer_of old.plan s p) new comes in
        let alike = alike_of goes.plan goes.links in
        (alike, out_of_port host keeps old new r ahead h g x id reach reached steps alike on s p (item ∷ items) within head comes)

    repairs : (steps : ℕ) (link : Link) → new ≡ link_repaired (stepped steps) link → Both
    repairs steps link is =
        let alike = alike_by_views (net old) (net new) r.calm ahead.calm (ap (λ (w : WorldView). w.plan) is) (λ s. ap (λ (w : WorldView). (control_plane w).view s) is) in (
          alike,
          still_on (fabric_of old) (fabric_of new) r.calm.is alike old.from_hosts old.out new.from_hosts new.out old.journal new.journal
              (λ i y j. subst (λ (w : WorldView). IsAmong y (items_at w.from_hosts i)) (sym is) j) (λ i y j. subst (λ (w : WorldView). IsAmong y (items_at w.out i)) (sym is) j)
              (λ e j. subst (λ (w : WorldView). IsAmong e w.journal) (sym is) (among_left e old.journal _ j)) h g end x id on,
        )

    loses : (steps s p : ℕ) (item : Item) (items : List Item) → out_of old s p ≡ item ∷ items →
        ((frame : List ℕ) → slice_get (out_of old s p) 0 ≡ Some (Data id frame) → ⊥) →
        new ≡ item_lost (record old { steps = steps; out = set old.out (port_index old.plan.k s p) items }) item → Both
    loses steps s p item items head not_lost is =
        let mid : WorldView = record old { steps = steps; out = set old.out (port_index old.plan.k s p) items } in
        let goes : Goes mid new = subst (Goes mid) (sym is) (goes_lost mid item) in
        elim (split_out (fabric_of old) old.from_hosts old.out old.journal (port_index old.plan.k s p) item items head h g end x id on) [
          | inl rest ↦ (alike_of goes.plan goes.links, keep host keeps old new r ahead h g x id reach reached mid goes (alike_of goes.plan goes.links) rest)
          | inr (inl taken) ↦ absurd (not_lost taken.frame (ap (λ xs. slice_get xs 0) head ∙ ap Some taken.is))
          | inr (inr taken) ↦ absurd (not_lost taken.frame (ap (λ xs. slice_get xs 0) head ∙ ap Some taken.is))
        ]

    goes_away : (steps m s p : ℕ) (edge : SwitchNo) → edge.0 ≡ s → refusal_of_move old m s p ≡ None → (from : AttachmentPoint) → slice_get old.attachments m ≡ Some from →
        HostTurn host (host_moved (stepped steps) m from (record { edge = edge; port = p })) m HasMoved Nothing new → Both
    goes_away steps m s p edge same none from found turn =
        let goes = goes_host host (host_moved (stepped steps) m from (record { edge = edge; port = p })) m HasMoved Nothing new turn in
        (alike_of goes.plan goes.links, moves (alike_of goes.plan goes.links) steps m s p edge same from found none turn)

    module _ (happens : Event) (none : refusal_of_event old happens ≡ None) (kept : IsLostBy old happens id → ⊥) where
      abbrev next : ℕ
      next = old.steps + 1

      free : (e : Event) → happens ≡ e → refusal_of_event old e ≡ None
      free e is = subst (λ (x : Event). refusal_of_event old x ≡ None) is none

      within_port : (s : SwitchNo) (p : ℕ) → happens ≡ event.Deliver (queue.Port s p) → p < old.plan.k
      within_port s p is =
          port_within old.plan s.0 p (there_is (has_queue old.plan (queue.Port s p)) (is_filled old (queue.Port s p)) (free (event.Deliver (queue.Port s p)) is))

      beside : (mid : WorldView) → mid.plan ≡ old.plan → mid.links ≡ old.links → mid.attachments ≡ old.attachments → mid.out ≡ old.out →
          mid.from_hosts ≡ old.from_hosts → mid.journal ≡ old.journal →
          Goes mid new → Both
      beside mid plan links attachments out from_hosts journal goes = quietly mid (goes_beside old mid plan links attachments out from_hosts journal) goes

      by_case : Happened Loose whole_rule host (stepped next) happens new → Both
      by_case (FromHost n item items attachment is head at comes) =
          let mid : WorldView = record old { steps = next; from_hosts = set old.from_hosts n.0 items } in
          let came : ComesIn Loose mid n.0 item (slice_get old.attachments n.0) new = subst (λ (o : Option AttachmentPoint). ComesIn Loose mid n.0 item o new)
          (sym at) comes in
          let goes = comes_in_goes mid n.0 item (slice_get old.attachments n.0) new came in
          let alike = alike_of goes.plan goes.links in
          (alike, from_host host keeps old new r ahead h g x id reach reached next alike on n.0 (item ∷ items) head came)
      by_case (OverLink s p item items t q is head adjacent comes) =
          over next s.0 p item items (within_port s p is) head
          (subst (λ (peer : Peer). ComesOver Loose host (record old {
            steps = next;
            out = set old.out
                (port_index old.plan.k s.0 p) items;
          }) s.0 p item peer new) (sym adjacent) comes)
      by_case (OutOfPort s p item items is head adjacent comes) =
          over next s.0 p item items (within_port s p is) head
          (subst (λ (peer : Peer). ComesOver Loose host (record old {
            steps = next;
            out = set old.out
                (port_index old.plan.k s.0 p) items;
          }) s.0 p item peer new) (sym adjacent) comes)
      by_case (Reported s told items is head turn) =
          let mid : WorldView = record old { steps = next; to_manager = set old.to_manager s.0 items } in
          beside mid refl refl refl refl refl refl (goes_manager whole_rule mid s.0 told new turn)
      by_case (Ordered s says items is head turn) =
          let mid : WorldView = record old { steps = next; from_manager = set old.from_manager s.0 items } in beside mid refl refl refl refl refl refl
          (goes_switch Loose mid s.0 _ _ new turn)
      by_case (Ticked s is turn) =
          let mid : WorldView = record old { steps = next; heard = heard_after_tick s.0 old.attachments old.heard } in
          beside mid refl refl refl refl refl refl (goes_switch Loose mid s.0 _ _ new turn)
      by_case (Failed a b link is found fails) = absurd (fails_never old new r ahead next a.0 b.0 link found (free (event.Fail a b) is) fails)
      by_case (Repaired a b link is found repaired) = repairs next link repaired
      by_case (Lost s p item items is head gone) =
          loses next s.0 p item items head (λ frame first. kept
          (subst (λ (e : Event). IsLostBy old e id) (sym is) (record { frame = frame; first = first }))) gone
      by_case (Departed n s p from is at turn) = goes_away next n.0 s.0 p s refl (free (event.Move n s p) is) from at turn
      by_case (PlayedFrame n input skip is turn) =
          let mid = skip_noted (stepped next) n.0 skip in
          quietly mid (goes_then old (stepped next) mid (to_stepped next) (goes_skip (stepped next) n.0 skip)) (goes_host host mid n.0 _ _ new turn)
      by_case (Asked n input is turn) = beside (stepped next) refl refl refl refl refl refl (goes_host host (stepped next) n.0 _ _ new turn)
      by_case (BeganAnew is anew) =
          beside (stepped next) refl refl refl refl refl refl (subst (λ (x : WorldView). Goes (stepped next) x) (sym anew) (goes_anew (stepped next)))

      pub stays : WorldStep Loose whole_rule host old happens new → Both
      stays step = by_case (happened Loose whole_rule host (stepped next) happens new step)

  -- each step
  pub step_keeps : (happens : Event) → refusal old happens ≡ None → (IsLostBy old happens id → ⊥) → WorldStep Loose whole_rule host old happens new →
      IsOnTrack new h g reached.to.attachment.edge.0 x id
  step_keeps happens none kept step =
      let plane = step_on_plane Loose whole_rule host loose_steps_are_accounted old happens new r.counted r.hosts none step in
      let both = stays plane happens (event_is_not_refused old happens none) kept step in
      subst (λ t. IsOnTrack new h g t x id) (stays_at_edge old new r ahead both.0 g x reach.to reached.to) both.1
