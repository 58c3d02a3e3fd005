-- What each event of the world is to the control plane.
use Rattle.std.proofs.Common.{◌≡◌, ℕ, zero, suc, ◌+◌, ◌*◌, ◌<◌, not, false, List, [], ◌∷◌, length, Option, Some, None, get_or, replicate, set, slice_get, refl, sym, ap, ◌∙◌, subst, arith, append-nil}
use Rattle.std.specs.List.{AllByRecursion}
use Rattle.std.proofs.Math.ListN.{length-set}
use Rattle.std.proofs.lemmas.Bool.{and_parts}
use Rattle.std.proofs.lemmas.Option.{slice_get_within}
use Rattle.pl_lemmas.proofs.Exports.{replicated_empty}
use Rattle.pl_wiring.specs.declared.label.SwitchNo.{SwitchNo}
use Rattle.pl_wiring.specs.declared.link.Link.{Link}
use Rattle.pl_wiring.specs.declared.link.Peer.TheVariants.{Switch}
use Rattle.pl_wiring.specs.FatTree.{IsTreeLink}
use Rattle.pl_wiring.specs.Index.{port_index}
use Rattle.pl_wiring.specs.Labels.{switch_count}
use Rattle.pl_wiring.specs.Peers.{IsPort, peer_of}
use Rattle.pl_wiring.specs.Plan.{IsPlan, Plan}
use Rattle.pl_wiring.proofs.Exports.{at_contained, tree_ends}
use Rattle.pl_node.specs.Accounting.{AccountsForFrames}
use Rattle.pl_node.specs.HostInputs.{HostRule}
use Rattle.pl_node.specs.ManagerDuties.{ManagerRule}
use Rattle.pl_node.specs.SwitchInputs.{SwitchRule}
use Rattle.pl_node.specs.SwitchViews.{SwitchView}
use Rattle.pl_node.specs.SwitchInputs.SwitchInput.{Comes, Says, Tick}
use Rattle.pl_journal.specs.declared.cause.Skip.{Skip}
use Rattle.pl_journal.specs.declared.entry.Entry.TheVariants.{Crossed}
use Rattle.pl_journal.specs.Places.{is_host_port}
use Rattle.pl_queues.specs.Queues.{has_items, items_at}
use Rattle.pl_world.specs.declared.event.Event.{Event}
use Rattle.pl_world.specs.declared.event.QueueName.TheVariants as queue
use Rattle.pl_world.specs.declared.item.Item.{Item}
use Rattle.pl_world.specs.declared.item.Item.TheVariants.{Control, Data}
use Rattle.pl_world.specs.declared.spoken_frame.SpokenFrame.TheVariants.{Silent, Waiting}
use Rattle.pl_world.specs.declared.attachment.AttachmentPoint.{AttachmentPoint}
use Rattle.pl_world.specs.Changes.{noted, out_of, switch_no}
use Rattle.pl_world.specs.Flying.{IsCounted, IsDataItem, IsItem}
use Rattle.pl_world.specs.LinksAndMoves.{host_moved, item_lost, joins, link_between, link_failed}
use Rattle.pl_world.specs.OtherActs.{heard_after_tick, skip_noted}
use Rattle.pl_world.specs.Refusals.{is_linked, has_port, has_queue, is_filled, refusal, refusal_of_event}
use Rattle.pl_world.specs.Restarting.{manager_restarted}
use Rattle.pl_world.specs.WorldRule.{ComesAtSwitch, WorldStep, heard_item}
use Rattle.pl_world.specs.Worlds.{WorldView}
use Rattle.pl_world.proofs.Exports.{all_at, all_found, by_host, event_is_not_refused, found_contained, Happened, happened, head_is_item, out_by_hosts, peer_is_port, port_exists, same_refusal, there_is}
use Rattle.pl_world.proofs.Exports.Happened.{Asked, BeganAnew, Departed, Failed, FromHost, Lost, Ordered as WasOrdered, OutOfPort, OverLink, PlayedFrame, Repaired, Reported, Ticked as HasTicked}
use Rattle.pl_law_control_plane.specs.ControlPlanes.{ControlPlane, control_plane}
use Rattle.pl_law_control_plane.specs.HostsAtEdges.{HostsAtEdges, IsAtEdge}
use Rattle.pl_law_control_plane.specs.Incoming.{ComeInSo}
use Rattle.pl_law_control_plane.specs.PlaneSteps.{ComeSo, IsLeft, SwitchTurns, WholeStep}
use Rattle.pl_law_control_plane.specs.PlaneSteps.PlaneStep.{Carried, Entered, Heard, Left, Managed, Ordered, Ticked}
use Rattle.pl_law_control_plane.specs.Restarts.{ComeSoOn, OnPlane, RestartsWith}
use Rattle.pl_law_control_plane.specs.Restarts.OnPlane.{BeginsAnew, Steps}
use Rattle.pl_law_control_plane.proofs.Managing.{manager_turns}
use Rattle.pl_law_control_plane.proofs.Taking.{cut_out, data_first, item_taken, left_then, nothing_left, order_taken, report_taken}
use Rattle.pl_law_control_plane.proofs.TurnsInControlPlane.{IsSolid, solid, switch_turns}

-- what is asked of the world before a step
pub record IsReady (w : WorldView) : Type 0 where
  pub solid : IsSolid w.plan w.switches w.out w.to_manager
  pub orders : length w.from_manager ≡ length w.plan.ids
  pub host_items : AllByRecursion (AllByRecursion IsDataItem) w.from_hosts
  pub port_items : AllByRecursion (AllByRecursion IsItem) w.out
  pub attachments : AllByRecursion (IsAtEdge w.plan) w.attachments

record EndsThere (k : ℕ) (link : Link) : Type 0 where
  lower : link.lower.0 < switch_count k
  lower_port : link.lower_port < k
  upper : link.upper.0 < switch_count k
  upper_port : link.upper_port < k

ends_there : (plan : Plan) (a b : ℕ) (link : Link) → IsPlan plan → link_between plan a b ≡ Some link → EndsThere plan.k link
ends_there plan a b link is found =
    let there = found_contained (joins a b) plan.links link found in
    let ends = tree_ends plan.k link (at_contained (IsTreeLink plan.k) plan.links link is.tree.no_other there) in
    let ports = at_contained (λ l. (l.lower_port < plan.k) × (l.upper_port < plan.k)) plan.links link is.tree.ports_in_range there in
    record { lower = ends.0; lower_port = ports.0; upper = ends.1; upper_port = ports.1 }

-- a queue is emptied
emptied : (w : WorldView) (s p : ℕ) → s < switch_count w.plan.k → p < w.plan.k → length w.out ≡ switch_count w.plan.k * w.plan.k →
    IsLeft (control_plane w) (control_plane (record w { out = set w.out (port_index w.plan.k s p) [] }))
emptied w s p there within many = cut_out w s p there within many (out_of w s p) [] (sym (append-nil (out_of w s p)))

failed_left : (w : WorldView) (a b : ℕ) (link : Link) → link_between w.plan a b ≡ Some link → IsReady w →
    IsLeft (control_plane w) (control_plane (link_failed w link))
failed_left w a b link found r =
    let ends = ends_there w.plan a b link r.solid.is_plan found in
    let first : WorldView = record w { out = set w.out (port_index w.plan.k link.lower.0 link.lower_port) [] } in
    left_then (control_plane w) (control_plane first) (control_plane (link_failed w link))
    (emptied w link.lower.0 link.lower_port ends.lower ends.lower_port r.solid.queues)
    (emptied first link.upper.0 link.upper_port ends.upper ends.upper_port (length-set w.out _ [] ∙ r.solid.queues))

lost_same : (w : WorldView) (item : Item) → control_plane (item_lost w item) ≡ control_plane w
lost_same w (Control frame) = refl
lost_same w (Data id frame) = refl

skip_same : (w : WorldView) (h : ℕ) (skip : Option Skip) → control_plane (skip_noted w h skip) ≡ control_plane w
skip_same w h None = refl
skip_same w h (Some skip) = refl

moved_left : (w : WorldView) (h : ℕ) (to from : AttachmentPoint) → slice_get w.attachments h ≡ Some from → IsReady w →
    IsLeft (control_plane w) (control_plane (host_moved w h from to))
moved_left w h to from found r =
    let there : IsAtEdge w.plan from = all_found (IsAtEdge w.plan) w.attachments h from found r.attachments in
    emptied w from.edge.0 from.port (let e = there.edge in omega arith) there.port r.solid.queues

-- the manager begins anew
began_anew : (w new : WorldView) → new ≡ manager_restarted w → RestartsWith w.manager.k (control_plane w) (control_plane new)
began_anew w new anew = subst (λ (x : WorldView). RestartsWith w.manager.k (control_plane w) (control_plane x)) (sym anew) (record {
  alike = record { plan = refl; view = λ s. refl; says = λ s port. refl; carries = λ s port is. is };
  reports = λ s. replicated_empty (switch_count w.plan.k) s;
  orders = λ s there. there_is_one (switch_count w.plan.k) s there;
  beyond = λ s beyond. none_beyond _ (switch_count w.plan.k) s beyond;
  manager = refl;
})
  where
    there_is_one : {T : Type 0} {items : List T} (n s : ℕ) → s < n → get_or (replicate n items) s [] ≡ items
    there_is_one zero s there = absurd (omega (arith, there))
    there_is_one (suc n) zero there = refl
    there_is_one (suc n) (suc s) there = there_is_one n s (omega (arith, there))

    none_beyond : {T : Type 0} (items : List T) (n s : ℕ) → (s < n → ⊥) → get_or (replicate n items) s [] ≡ []
    none_beyond items zero s beyond = refl
    none_beyond items (suc n) zero beyond = absurd (beyond (omega arith))
    none_beyond items (suc n) (suc s) beyond = none_beyond items n s (λ there. beyond (omega (arith, there)))

-- before a step all of it is there
ready : (old : WorldView) → IsCounted old → HostsAtEdges old → IsReady (record old { steps = old.steps + 1 })
ready old is attachments =
    let s = solid old is in
    record {
      solid = record { is_plan = s.is_plan; many = s.many; queues = s.queues; told = s.told; sizes = s.sizes; shaped = s.shaped };
      orders = is.formed.from_manager ∙ sym is.formed.plan.ids_many;
      host_items = is.in_host_queues;
      port_items = is.in_port_queues;
      attachments = attachments;
    }

module _ (switch : SwitchRule) (manager : ManagerRule) (host : HostRule) (accounts : AccountsForFrames switch) where
  comes_from_host : (w mid : WorldView) (attachment : AttachmentPoint) (item : Item) (new : WorldView) → IsReady w → control_plane mid ≡ control_plane w →
      IsSolid mid.plan mid.switches mid.out mid.to_manager → IsAtEdge w.plan attachment → mid.plan ≡ w.plan → IsDataItem item →
      ComesAtSwitch switch mid attachment.edge.0 attachment.port item new → WholeStep switch manager (control_plane w) (control_plane new)
  comes_from_host w mid attachment (Control frame) new r same is at plan item turn = absurd item
  comes_from_host w mid attachment (Data id frame) new r same is at plan item turn =
      let turns = switch_turns switch accounts (noted mid (Crossed id (switch_no attachment.edge.0))) attachment.edge.0 (Comes attachment.port frame) (Waiting id false) new is
      (λ v size. record { within = rw (size, plan) at.port; whole = item.whole }) turn in (
        Entered attachment.edge.0 attachment.port frame at.edge at.port at.free item.kind
            (subst (λ f. SwitchTurns switch f attachment.edge.0 (Comes attachment.port frame) (control_plane new)) same turns),
        tt,
      )

  from_host : (w : WorldView) (h : ℕ) (item : Item) (items : List Item) (attachment : AttachmentPoint) (new : WorldView) → IsReady w → slice_get w.attachments h ≡ Some attachment →
      IsDataItem item →
      ComesAtSwitch switch (heard_item (record w { from_hosts = set w.from_hosts h items }) h item) attachment.edge.0 attachment.port item new →
      WholeStep switch manager (control_plane w) (control_plane new)
  from_host w h (Control frame) items attachment new r found is comes = absurd is
  from_host w h (Data id frame) items attachment new r found is comes =
      comes_from_host w (heard_item (record w { from_hosts = set w.from_hosts h items }) h (Data id frame)) attachment (Data id frame) new r refl r.solid
      (all_found (IsAtEdge w.plan) w.attachments h attachment found r.attachments) refl is comes

  -- a frame comes over a link
  over_link : (w : WorldView) (s p q : ℕ) (item : Item) (items : List Item) (to : SwitchNo) (new : WorldView) → peer_of w.plan s p ≡ Switch to q →
      s < switch_count w.plan.k →
      p < w.plan.k → out_of w s p ≡ item ∷ items → IsReady w → IsItem item →
      ComesAtSwitch switch (record w { out = set w.out (port_index w.plan.k s p) items }) to.0 q item new →
      WholeStep switch manager (control_plane w) (control_plane new)
  over_link w s p q item items to new adjacent there within found r is comes = by_item item found is comes
    where
      mid : WorldView
      mid = record w { out = set w.out (port_index w.plan.k s p) items }

      at : IsPort w.plan.k (Switch to q)
      at = subst (IsPort w.plan.k) adjacent (peer_is_port w.plan s p r.solid.is_plan)

      rest : IsSolid w.plan w.switches (set w.out (port_index w.plan.k s p) items) w.to_manager
      rest = record {
        is_plan = r.solid.is_plan;
        many = r.solid.many;
        queues = length-set w.out (port_index w.plan.k s p) items ∙ r.solid.queues;
        told = r.solid.told;
        sizes = r.solid.sizes;
        shaped = r.solid.shaped;
      }

      by_item : (item : Item) → out_of w s p ≡ item ∷ items → IsItem item → ComesAtSwitch switch mid to.0 q item new →
          WholeStep switch manager (control_plane w) (control_plane new)
      by_item (Control frame) found is comes = (
        Heard s p to.0 q frame (control_plane mid) adjacent is.kind (item_taken w s p there within r.solid.queues (Control frame) items found)
            (switch_turns switch accounts mid to.0 (Comes q frame) Silent new rest (λ v size. record { within = rw size at.1; whole = is.whole }) comes),
        tt,
      )
      by_item (Data id frame) found is comes = (
        Carried s p to.0 q frame (control_plane mid) adjacent is.kind (data_first w s p there within r.solid.queues (Data id frame) items refl found)
            (item_taken w s p there within r.solid.queues (Data id frame) items found)
            (switch_turns switch accounts (noted mid (Crossed id (switch_no to.0))) to.0 (Comes q frame) (Waiting id false) new rest
            (λ v size. record { within = rw size at.1; whole = is.whole }) comes),
        tt,
      )

  -- items leave the fronts of queues of frames, and nothing else changes
  frames_left : (w mid : WorldView) (g : ControlPlane) → IsLeft (control_plane w) (control_plane mid) → mid.to_manager ≡ w.to_manager →
      mid.from_manager ≡ w.from_manager →
      g ≡ control_plane mid → WholeStep switch manager (control_plane w) g
  frames_left w mid g left reports orders same = (
    Left (subst (IsLeft (control_plane w)) (sym same) left),
    record {
      reports = λ s. ap (λ (x : ControlPlane). x.reports s) same ∙ ap (λ queues. items_at queues s) reports;
      orders = λ s. ap (λ (x : ControlPlane). x.orders s) same ∙ ap (λ queues. items_at queues s) orders;
    },
  )

  by_case : (w : WorldView) (happens : Event) (new : WorldView) → refusal_of_event w happens ≡ None → IsReady w → Happened switch manager host w happens new →
      OnPlane switch manager (control_plane w) (control_plane new)
  by_case w happens new none r (FromHost h item items attachment is head at comes) =
      let all : AllByRecursion IsDataItem (item ∷ items) = subst (AllByRecursion IsDataItem) head
      (all_at (AllByRecursion IsDataItem) w.from_hosts h.0 [] tt r.host_items) in
      Steps (from_host w h.0 item items attachment new r at all.0 comes)
  by_case w happens new none r (OverLink s p item items t q is head adjacent comes) =
      let free = subst (λ e. refusal_of_event w e ≡ None) is none in
      let at = port_exists w.plan s.0 p (there_is (has_queue w.plan (queue.Port s p)) (is_filled w (queue.Port s p)) free) in
      Steps (over_link w s.0 p q item items t new adjacent at.0 at.1 head r (head_is_item w.out (port_index w.plan.k s.0 p) item items head r.port_items) comes)
  by_case w happens new none r (OutOfPort s p item items is head adjacent comes) =
      let free = subst (λ e. refusal_of_event w e ≡ None) is none in
      let at = port_exists w.plan s.0 p (there_is (has_queue w.plan (queue.Port s p)) (is_filled w (queue.Port s p)) free) in
      let mid : WorldView = record w { out = set w.out (port_index w.plan.k s.0 p) items } in
      Steps (frames_left w mid (control_plane new) (cut_out w s.0 p at.0 at.1 r.solid.queues (item ∷ []) items head) refl refl
      (ap control_plane (out_by_hosts host mid s.0 p item new comes)))
  by_case w happens new none r (Reported s told items is head turn) =
      let mid : WorldView = record w { to_manager = set w.to_manager s.0 items } in
      let many = r.solid.is_plan.ids_many in
      let there : s.0 < length w.plan.ids = slice_get_within w.plan.ids s.0 turn.id turn.found in Steps (
        Managed s.0 turn.id told (control_plane mid) (omega arith) turn.found (report_taken w s.0 told items head)
            (manager_turns manager mid s.0 told new r.orders turn),
        tt,
      )
  by_case w happens new none r (WasOrdered s says items is head turn) =
      let mid : WorldView = record w { from_manager = set w.from_manager s.0 items } in Steps (
        Ordered s.0 says (control_plane mid) (order_taken w s.0 says items head)
            (switch_turns switch accounts mid s.0 (Says says) Silent new r.solid (λ v size. tt) turn),
        tt,
      )
  by_case w happens new none r (HasTicked s is turn) =
      Steps (Ticked s.0 (switch_turns switch accounts (record w { heard = heard_after_tick s.0 w.attachments w.heard }) s.0 Tick Silent new r.solid (λ v size. tt) turn), tt)
  by_case w happens new none r (Failed a b link is found fails) =
      Steps (frames_left w (link_failed w link) (control_plane new) (failed_left w a.0 b.0 link found r) refl refl (ap control_plane fails))
  by_case w happens new none r (Repaired a b link is found repairs) =
      Steps (frames_left w w (control_plane new) (nothing_left (control_plane w)) refl refl (ap control_plane repairs))
  by_case w happens new none r (Lost s p item items is head loses) =
      let free = subst (λ e. refusal_of_event w e ≡ None) is none in
      let linked = there_is (is_linked w.plan s.0 p) (has_items (out_of w s.0 p)) free in
      let at = port_exists w.plan s.0 p (and_parts (has_port w.plan s.0 p) (not (is_host_port (peer_of w.plan s.0 p))) linked).0 in
      let mid : WorldView = record w { out = set w.out (port_index w.plan.k s.0 p) items } in
      Steps (frames_left w mid (control_plane new) (cut_out w s.0 p at.0 at.1 r.solid.queues (item ∷ []) items head) refl refl
      (ap control_plane loses ∙ lost_same mid item))
  by_case w happens new none r (Departed h s p from is at turn) =
      let to : AttachmentPoint = record { edge = s; port = p } in
      Steps (frames_left w (host_moved w h.0 from to) (control_plane new) (moved_left w h.0 to from at r) refl refl
      (ap control_plane (by_host host (host_moved w h.0 from to) h.0 _ _ new turn)))
  by_case w happens new none r (PlayedFrame h input skip is turn) =
      Steps (frames_left w w (control_plane new) (nothing_left (control_plane w)) refl refl
      (ap control_plane (by_host host (skip_noted w h.0 skip) h.0 _ _ new turn) ∙ skip_same w h.0 skip))
  by_case w happens new none r (Asked h input is turn) =
      Steps (frames_left w w (control_plane new) (nothing_left (control_plane w)) refl refl (ap control_plane (by_host host w h.0 _ _ new turn)))
  by_case w happens new none r (BeganAnew is anew) = BeginsAnew (began_anew w new anew)

  -- a step of the world is one of its control plane, in which no word is lost, or its manager begins anew
  pub step_on_plane : (old : WorldView) (happens : Event) (new : WorldView) → IsCounted old → HostsAtEdges old → refusal old happens ≡ None →
      WorldStep switch manager host old happens new → OnPlane switch manager (control_plane old) (control_plane new)
  step_on_plane old happens new is attachments none step =
      by_case (record old { steps = old.steps + 1 }) happens new (same_refusal old happens ∙ event_is_not_refused old happens none)
      (ready old is attachments) (happened switch manager host (record old { steps = old.steps + 1 }) happens new step)

  -- ---- how data frames come in
  module _ (entered linked : SwitchView → ℕ → List ℕ → Type 0) where
    abbrev So : (f g : ControlPlane) → WholeStep switch manager f g → Type 0
    So f g step = ComeSo entered linked switch manager f g step.0

    from_host_so : (w : WorldView) (h : ℕ) (item : Item) (items : List Item) (attachment : AttachmentPoint) (new : WorldView) (r : IsReady w)
        (found : slice_get w.attachments h ≡ Some attachment) (is : IsDataItem item)
        (comes : ComesAtSwitch switch (heard_item (record w { from_hosts = set w.from_hosts h items }) h item) attachment.edge.0 attachment.port item new) →
        ((id : ℕ) (frame : List ℕ) → item ≡ Data id frame → entered ((control_plane w).view attachment.edge.0) attachment.port frame) →
        So (control_plane w) (control_plane new) (from_host w h item items attachment new r found is comes)
    unfolding from_host comes_from_host
    from_host_so w h (Control frame) items attachment new r found is comes so = absurd is
    from_host_so w h (Data id frame) items attachment new r found is comes so = so id frame refl

    over_link_so : (w : WorldView) (s p q : ℕ) (item : Item) (items : List Item) (to : SwitchNo) (new : WorldView) (adjacent : peer_of w.plan s p ≡ Switch to q)
        (there : s < switch_count w.plan.k) (within : p < w.plan.k) (found : out_of w s p ≡ item ∷ items) (r : IsReady w) (is : IsItem item)
        (comes : ComesAtSwitch switch (record w { out = set w.out (port_index w.plan.k s p) items }) to.0 q item new) →
        ((id : ℕ) (frame : List ℕ) → item ≡ Data id frame → linked ((control_plane w).view to.0) q frame) →
        So (control_plane w) (control_plane new) (over_link w s p q item items to new adjacent there within found r is comes)
    unfolding over_link
    over_link_so w s p q (Control frame) items to new adjacent there within found r is comes so = tt
    over_link_so w s p q (Data id frame) items to new adjacent there within found r is comes so = so id frame refl

    by_case_so : (w : WorldView) (happens : Event) (new : WorldView) (none : refusal_of_event w happens ≡ None) (r : IsReady w) (it : Happened switch manager host w happens new) →
        ComeInSo entered linked w → ComeSoOn entered linked switch manager (control_plane w) (control_plane new) (by_case w happens new none r it)
    unfolding by_case from_host frames_left
    by_case_so w happens new none r (FromHost h item items attachment is head at comes) so =
        let all : AllByRecursion IsDataItem (item ∷ items) = subst (AllByRecursion IsDataItem) head
        (all_at (AllByRecursion IsDataItem) w.from_hosts h.0 [] tt r.host_items) in
        from_host_so w h.0 item items attachment new r at all.0 comes (λ id frame same. so.hosts h.0 attachment id frame items (head ∙ ap (λ i. i ∷ items) same) at)
    by_case_so w happens new none r (OverLink s p item items t q is head adjacent comes) so =
        let free = subst (λ e. refusal_of_event w e ≡ None) is none in
        let at = port_exists w.plan s.0 p (there_is (has_queue w.plan (queue.Port s p)) (is_filled w (queue.Port s p)) free) in
        over_link_so w s.0 p q item items t new adjacent at.0 at.1 head r (head_is_item w.out (port_index w.plan.k s.0 p) item items head r.port_items) comes
        (λ id frame same. so.links s.0 p t q id frame items adjacent (head ∙ ap (λ i. i ∷ items) same))
    by_case_so w happens new none r (OutOfPort s p item items is head adjacent comes) so = tt
    by_case_so w happens new none r (Reported s told items is head turn) so = tt
    by_case_so w happens new none r (WasOrdered s says items is head turn) so = tt
    by_case_so w happens new none r (HasTicked s is turn) so = tt
    by_case_so w happens new none r (Failed a b link is found fails) so = tt
    by_case_so w happens new none r (Repaired a b link is found repairs) so = tt
    by_case_so w happens new none r (Lost s p item items is head loses) so = tt
    by_case_so w happens new none r (Departed h s p from is at turn) so = tt
    by_case_so w happens new none r (PlayedFrame h input skip is turn) so = tt
    by_case_so w happens new none r (Asked h input is turn) so = tt
    by_case_so w happens new none r (BeganAnew is anew) so = tt

    pub frames_come_so : (old : WorldView) (happens : Event) (new : WorldView) (is : IsCounted old) (attachments : HostsAtEdges old) (none : refusal old happens ≡ None)
        (step : WorldStep switch manager host old happens new) → ComeInSo entered linked old →
        ComeSoOn entered linked switch manager (control_plane old) (control_plane new) (step_on_plane old happens new is attachments none step)
    unfolding step_on_plane by_case
    frames_come_so old happens new is attachments none step so =
        by_case_so (record old { steps = old.steps + 1 }) happens new (same_refusal old happens ∙ event_is_not_refused old happens none)
        (ready old is attachments) (happened switch manager host (record old { steps = old.steps + 1 }) happens new step) (record { hosts = so.hosts; links = so.links })
