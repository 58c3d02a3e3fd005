-- A frame whose way is clear goes it, switch by switch, and arrives.
use Rattle.std.proofs.Common.{◌≡◌, ℕ, Bool, ◌+◌, ◌≤◌, ◌<◌, ◌==◌, ◌&&◌, nat_le, true, false, if◌then◌else◌, Contains, List, [], ◌∷◌, length, map, reverse, set, Option, None, Some, slice_get, refl, sym, ap, ◌∙◌, subst, arith, inl, inr}
use Rattle.std.proofs.Math.ListN.{length-set}
use Rattle.std.proofs.lemmas.Bool.{and_parts, cond-true, eq-eqb, leb-true}
use Rattle.std.proofs.lemmas.Nat.{same_from_place}
use Rattle.std.proofs.lemmas.Option.{same_Some}
use Rattle.pl_frame.specs.declared.address.Mac.{Mac}
use Rattle.pl_frame.specs.Ethernet.{destination_of}
use Rattle.pl_layouts.specs.Memberships.{is_group}
use Rattle.pl_wiring.specs.declared.host.HostNo.{HostNo}
use Rattle.pl_wiring.specs.declared.label.Label.{Label}
use Rattle.pl_wiring.specs.declared.label.SwitchNo.{SwitchNo}
use Rattle.pl_wiring.specs.declared.link.Link.{Link}
use Rattle.pl_wiring.specs.declared.link.Peer.{Peer}
use Rattle.pl_wiring.specs.declared.link.Peer.TheVariants.{HostPort, Switch}
use Rattle.pl_wiring.specs.FatTree.{IsAt}
use Rattle.pl_wiring.specs.Index.{port_index}
use Rattle.pl_wiring.specs.Labels.{label_of}
use Rattle.pl_wiring.specs.LiveLinks.{is_live_at}
use Rattle.pl_wiring.specs.Peers.{IsPeer, peer_of}
use Rattle.pl_wiring.specs.Plan.{IsPlan, Plan}
use Rattle.pl_wiring.proofs.Exports.{at_contained, peer_says, same_switch}
use Rattle.pl_journal.specs.declared.entry.Entry.{Entry}
use Rattle.pl_journal.specs.declared.entry.Entry.TheVariants.{Arrived, Copied, Crossed, Dropped, Freed, Granted, Line, LinkDown, LinkUp, Made, Moved, Placed, Redirected, Registered, Restarted, Sent, Settled, Skipped, Taken, Unsettled}
use Rattle.pl_journal.specs.Flights.{ends, trail}
use Rattle.pl_journal.specs.Lossy.{mac_of_host}
use Rattle.pl_journal.proofs.Exports.{past_more, unicast_is_not_routed}
use Rattle.pl_node.specs.HostDuties.{HostsKeepFrames, HostsSendData}
use Rattle.pl_node.specs.HostInputs.{HostRule}
use Rattle.pl_node.specs.HostInputs.HostAnswer.{Received}
use Rattle.pl_node.specs.HostInputs.HostInput.{Receives}
use Rattle.pl_node.specs.ManagerDuties.{ManagerRule}
use Rattle.pl_node.specs.declared.reception.Reception.TheVariants.{Kept}
use Rattle.pl_node.proofs.Exports.{among_right, IsAmong}
use Rattle.pl_queues.specs.Queues.{items_at}
use Rattle.pl_world.specs.declared.attachment.AttachmentPoint.{AttachmentPoint}
use Rattle.pl_world.specs.declared.event.Event.{Event}
use Rattle.pl_world.specs.declared.event.Event.TheVariants as event
use Rattle.pl_world.specs.declared.event.QueueName.TheVariants as queue
use Rattle.pl_world.specs.declared.item.Item.{Item}
use Rattle.pl_world.specs.declared.item.Item.TheVariants.{Data}
use Rattle.pl_world.specs.Changes.{host_no, is_failed_at, noted, out_of, receiver}
use Rattle.pl_world.specs.Flying.{IsCounted, born, times_in_all}
use Rattle.pl_world.specs.LinksAndMoves.{joins, link_between, link_failed, with_link}
use Rattle.pl_world.specs.OtherActs.{reception_noted}
use Rattle.pl_world.specs.Refusals.{has_queue, is_filled, refusal, refusal_of_event}
use Rattle.pl_world.specs.Runs.{IsMark}
use Rattle.pl_world.specs.Runs.Moment.{Step}
use Rattle.pl_world.specs.WorldRule.{ComesAtHost, ComesOver, DeliversFromHost, DeliversOut, HostReceives, LinkFails, WorldStep}
use Rattle.pl_world.specs.Worlds.{WorldView}
use Rattle.pl_world.proofs.Exports.{all_found, counted as to_counted, event_is_not_refused, found_contained, port_within, sound, step_is_counted, step_plan, there_is}
use Rattle.pl_bridge_rule.specs.BridgeRule.{Bridges}
use Rattle.pl_bridge_rule.specs.Tree.{IsWay}
use Rattle.pl_bridge_rule.proofs.Exports.{accounts}
use Rattle.pl_law_bridge.specs.ExactWay.{Disturbs, IsClear, LeadsBy}
use Rattle.pl_law_bridge.specs.Learnt.{GoesOnAlone, HasAt}
use Rattle.pl_law_bridge.specs.Travelling.{copies_made}
use Rattle.pl_law_bridge.proofs.GoingAlone.{from_host_alone, over_link_alone}
use Rattle.pl_law_bridge.proofs.Hops.{Hop, hop, IsHop, leads_behind, numbers, onto, same_hop, way_behind}
use Rattle.pl_law_bridge.proofs.LiveLinks.{at_end}
use Rattle.pl_law_bridge.proofs.Sparing.{host_spares, IsAside, IsThere, Spares, spares_noted, Whereabouts}
use Rattle.pl_law_bridge.proofs.Sparing.Whereabouts.{AtEnd, AtHost, AtPlace}
use Rattle.pl_law_bridge.proofs.StandingApart.{comes_to, IsAtHostPort, StandApart}
use Rattle.pl_law_counts.proofs.Exports.{peer_back, taken_out}
use Rattle.pl_law_bridge.proofs.Untouched.{befell, Befell, IsLeftAlone}
use Rattle.pl_law_bridge.proofs.Untouched.Befell.{LeavesHost, LeavesPort, Spared}
use Rattle.pl_law_bridge.proofs.Waiting.{arrived_ends, put_there, waits_in_all}

-- what the journal says of a frame
abbrev pub line : WorldView → ℕ → List ℕ
line w id = trail (reverse w.journal) id

-- it crossed these switches, the last one first, and was not copied
pub record Says (w : WorldView) (id : ℕ) (switches : List ℕ) : Type 0 where
  pub crossed : line w id ≡ switches
  pub single : copies_made (reverse w.journal) id ≡ 0

-- a frame on its way from host h to host g: it waits at its host, it waits behind the port of a switch of the way, or it has come
pub data OnWay (h g : ℕ) (to : AttachmentPoint) (way : List SwitchNo) (id : ℕ) (frame : List ℕ) (w : WorldView) : Type 0 where
  Waits : IsThere (AtHost h) id frame w → Says w id [] → OnWay h g to way id frame w
  Under : (s : SwitchNo) (back ahead : List SwitchNo) (port : ℕ) → onto (s ∷ back) ahead ≡ way → IsHop w.plan to s ahead port →
      IsThere (AtPlace (port_index w.plan.k s.0 port)) id frame w → Says w id (numbers (s ∷ back)) → OnWay h g to way id frame w
  Came : (back : List SwitchNo) → onto back [] ≡ way → IsThere (AtEnd g) id frame w → Says w id (numbers back) → OnWay h g to way id frame w

-- a frame that is somewhere has begun
pub is_begun : (x : Whereabouts) (id : ℕ) (frame : List ℕ) (w : WorldView) → IsCounted w → IsThere x id frame w → id ≤ w.begun
is_begun x id frame w counted there =
    let some = by x there in let count = counted.flights id in born_is_begun id w.begun (omega arith)
  where
    by : (y : Whereabouts) → IsThere y id frame w → 1 ≤ ends w.journal id + (times_in_all id w.from_hosts + times_in_all id w.out)
    by (AtHost h) there = let waits = waits_in_all id frame w.from_hosts h there in omega (arith, waits)
    by (AtPlace n) there = let waits = waits_in_all id frame w.out n there in omega (arith, waits)
    by (AtEnd g) there = let ended = arrived_ends id (host_no g) frame w.journal there in omega (arith, ended)

    born_is_begun : (n many : ℕ) → 1 ≤ born n many → n ≤ many
    born_is_begun n many is = by_test (nat_le 1 n && nat_le n many) refl is
      where
        by_test : (b : Bool) → (nat_le 1 n && nat_le n many) ≡ b → 1 ≤ (if b then 1 else 0) → n ≤ many
        by_test true e is = leb-true n many (and_parts (nat_le 1 n) (nat_le n many) e).1
        by_test false e is = absurd (omega (arith, is))

-- no mark says that a frame crosses a switch or is copied
pub mark_is_aside : (x : Whereabouts) (id : ℕ) (frame : List ℕ) (e : Entry) → IsMark e → IsAside x id frame e
mark_is_aside x id frame (Line n) is = tt
mark_is_aside x id frame (Settled n) is = tt
mark_is_aside x id frame (Unsettled n) is = tt
mark_is_aside x id frame (Copied n c) is = absurd is
mark_is_aside x id frame (Crossed n s) is = absurd is
mark_is_aside x id frame (Sent n h f) is = absurd is
mark_is_aside x id frame (Skipped h skip) is = absurd is
mark_is_aside x id frame (Made n s f) is = absurd is
mark_is_aside x id frame (Redirected n old new) is = absurd is
mark_is_aside x id frame (Arrived n h f) is = absurd is
mark_is_aside x id frame (Taken n s) is = absurd is
mark_is_aside x id frame (Dropped n why) is = absurd is
mark_is_aside x id frame (Granted p h e q) is = absurd is
mark_is_aside x id frame (Registered p n) is = absurd is
mark_is_aside x id frame (Freed p) is = absurd is
mark_is_aside x id frame (Placed s place) is = absurd is
mark_is_aside x id frame (LinkDown a b) is = absurd is
mark_is_aside x id frame (LinkUp a b) is = absurd is
mark_is_aside x id frame (Moved h e p) is = absurd is
mark_is_aside x id frame (Restarted number) is = absurd is

-- no link is at a port for hosts
no_link_there : (plan : Plan) (s port : ℕ) (link : Link) → peer_of plan s port ≡ HostPort → Contains plan.links link → IsAt link s port → ⊥
no_link_there plan s port link free there at =
    let says : IsPeer plan.links s port HostPort = subst (λ (p : Peer). IsPeer plan.links s port p) free (peer_says plan.links s port) in says link there at

is_free : (t : SwitchNo) (q : ℕ) → HostPort ≡ Switch t q → ⊥
is_free t q e = cc e

-- the count of steps changes nothing of it
pub stepped : (w : WorldView) (steps : ℕ) → IsCounted w → IsCounted (record w { steps = steps })
stepped w steps counted = (let so = sound w counted in to_counted (record w { steps = steps }) (record { balance = so.balance; rest = so.rest }))

pub unstepped : (x : Whereabouts) (id : ℕ) (frame : List ℕ) (w : WorldView) (steps : ℕ) (new : WorldView) → Spares x id frame (record w { steps = steps }) new → Spares x id frame w new
unstepped (AtHost h) id frame w steps new s = record { there = s.there; begun = s.begun; line = s.line; single = s.single }
unstepped (AtPlace n) id frame w steps new s = record { there = s.there; begun = s.begun; line = s.line; single = s.single }
unstepped (AtEnd g) id frame w steps new s = record { there = s.there; begun = s.begun; line = s.line; single = s.single }

-- a frame that has come has come for good, whatever happens
end_alone : (g id : ℕ) (w : WorldView) (e : Event) → IsLeftAlone (AtEnd g) id w e
end_alone g id w e = record {
  not_lost = λ s port is taken. tt;
  nobody_moves = λ h s port is. tt;
  low = λ a b link is found same. absurd (cc same);
  high = λ a b link is found same. absurd (cc same);
}

pub end_stays : (manager : ManagerRule) (host : HostRule) (g id : ℕ) (frame : List ℕ) (old new : WorldView) (e : Event) → IsCounted old → WorldStep Bridges manager host old e new →
    IsThere (AtEnd g) id frame old → Spares (AtEnd g) id frame old new
end_stays manager host g id frame old new e counted step there =
    by (befell (AtEnd g) id frame manager host (record old { steps = old.steps + 1 }) (stepped old (old.steps + 1) counted) there new e (end_alone g id (record old { steps = old.steps + 1 }) e) step)
  where
    by : Befell (AtEnd g) id frame (record old { steps = old.steps + 1 }) e new → Spares (AtEnd g) id frame old new
    by (Spared spares) = unstepped (AtEnd g) id frame old (old.steps + 1) new spares
    by (LeavesHost m items same is head) = absurd (cc same)
    by (LeavesPort u p items same is head) = absurd (cc same)

module _ (manager : ManagerRule) (host : HostRule) (sends : HostsSendData host) (keeps : HostsKeepFrames host) (h g id : ℕ) (frame : List ℕ) (other : h ≡ g → ⊥)
    (unicast : is_group (destination_of frame) ≡ false) (from to : AttachmentPoint) (way : List SwitchNo) where
  abbrev mac : Mac
  mac = destination_of frame

  abbrev On : WorldView → Type 0
  On = OnWay h g to way id frame

  -- ---- what leaves the frame where it is
  module _ (old new : WorldView) (plan : new.plan ≡ old.plan) (counted : IsCounted old) where
    still : (x : Whereabouts) → Spares x id frame old new → IsThere x id frame old → (switches : List ℕ) → Says old id switches → Says new id switches
    still x spares there switches at =
        let begun = is_begun x id frame old counted there in record { crossed = spares.line begun ∙ at.crossed; single = spares.single begun ∙ at.single }

    spared_waits : Spares (AtHost h) id frame old new → IsThere (AtHost h) id frame old → Says old id [] → On new
    spared_waits spares there at = Waits (spares.there there) (still (AtHost h) spares there [] at)

    spared_under : (s : SwitchNo) (back ahead : List SwitchNo) (port : ℕ) → onto (s ∷ back) ahead ≡ way → IsHop old.plan to s ahead port →
        Spares (AtPlace (port_index old.plan.k s.0 port)) id frame old new → IsThere (AtPlace (port_index old.plan.k s.0 port)) id frame old → Says old id (numbers (s ∷ back)) → On new
    spared_under s back ahead port whole is spares there at =
        Under s back ahead port whole (subst (λ (p : Plan). IsHop p to s ahead port) (sym plan) is)
        (subst (λ (p : Plan). IsThere (AtPlace (port_index p.k s.0 port)) id frame new) (sym plan) (spares.there there))
        (still (AtPlace (port_index old.plan.k s.0 port)) spares there (numbers (s ∷ back)) at)

  -- ---- a mark
  pub mark_keeps : (old : WorldView) (e : Entry) → IsCounted old → IsMark e → On old → On (noted old e)
  mark_keeps old e counted mark (Waits there at) = spared_waits old (noted old e) refl counted (spares_noted (AtHost h) id frame old e (mark_is_aside (AtHost h) id frame e mark)) there at
  mark_keeps old e counted mark (Under s back ahead port whole is_hop there at) =
      let x : Whereabouts = AtPlace (port_index old.plan.k s.0 port) in
      spared_under old (noted old e) refl counted s back ahead port whole is_hop (spares_noted x id frame old e (mark_is_aside x id frame e mark)) there at
  mark_keeps old e counted mark (Came back whole there at) =
      let spares = spares_noted (AtEnd g) id frame old e (mark_is_aside (AtEnd g) id frame e mark) in
      Came back whole (spares.there there) (still old (noted old e) refl counted (AtEnd g) spares there (numbers back) at)

  -- ---- an event between two moments at which the way is clear
  module _ (old new : WorldView) (e : Event) (counted : IsCounted old) (stand : StandApart old) (none : refusal old e ≡ None) (step : WorldStep Bridges manager host old e new)
      (addressed : mac_of_host old.plan g ≡ Some mac) (clear : IsClear old h g mac from to way) (then_clear : IsClear new h g mac from to way) (kept : Disturbs old (Step e) id → ⊥) where
    plan : new.plan ≡ old.plan
    plan = step_plan Bridges manager host old e new step

    is_plan : IsPlan old.plan
    is_plan = counted.formed.plan

    counted_then : IsCounted new
    counted_then = step_is_counted Bridges manager host accounts sends old e new counted none step

    fine : (f : Event) → e ≡ f → refusal_of_event old f ≡ None
    fine f is = subst (λ (x : Event). refusal_of_event old x ≡ None) is (event_is_not_refused old e none)

    not_disturbed : (f : Event) → e ≡ f → Disturbs old (Step f) id → ⊥
    not_disturbed f is disturbs = kept (subst (λ (x : Event). Disturbs old (Step x) id) (sym is) disturbs)

    -- the hop at the old moment, and at the new one
    hop_old : (s : SwitchNo) (ahead : List SwitchNo) → LeadsBy old mac to (s ∷ ahead) → Hop old mac to s ahead
    hop_old s ahead leads = hop old counted mac to g clear.receiver stand s ahead leads

    host_port : peer_of old.plan to.edge.0 to.port ≡ HostPort
    host_port = all_found (IsAtHostPort old.plan) old.attachments g to clear.receiver stand.at_ports

    -- what the frame is to find at the next switch
    record Next (s : SwitchNo) (ahead : List SwitchNo) : Type 0 where
      port : ℕ
      is : IsHop old.plan to s ahead port
      learnt : HasAt new mac s port
      unfailed : is_failed_at old s.0 port ≡ false
      place : port_index old.plan.k s.0 port < length old.out

    next : (s : SwitchNo) (ahead : List SwitchNo) → LeadsBy old mac to (s ∷ ahead) → LeadsBy new mac to (s ∷ ahead) → Next s ahead
    next s ahead before after = by ahead before after
      where
        by : (ahead : List SwitchNo) → LeadsBy old mac to (s ∷ ahead) → LeadsBy new mac to (s ∷ ahead) → Next s ahead
        by [] before after =
            let one = hop_old s [] before in
            record {
              port = to.port;
              is = (before.0, refl);
              learnt = after.1;
              unfailed = subst (λ n. is_failed_at old s.0 n ≡ false) one.is.1 one.fine;
              place = subst (λ n. port_index old.plan.k s.0 n < length old.out) one.is.1 one.place;
            }
        by (t ∷ ahead) before after =
            let one = hop_old s (t ∷ ahead) before in
            let there : peer_of old.plan s.0 after.0.port ≡ Switch t after.0.into = subst (λ (p : Plan). peer_of p s.0 after.0.port ≡ Switch t after.0.into) plan after.0.peer in
            let same : one.port ≡ after.0.port = same_hop old.plan is_plan to s (t ∷ ahead) one.port after.0.port one.is (after.0.into, there) in
            record {
              port = after.0.port;
              is = (after.0.into, there);
              learnt = after.0.learnt;
              unfailed = subst (λ n. is_failed_at old s.0 n ≡ false) same one.fine;
              place = subst (λ n. port_index old.plan.k s.0 n < length old.out) same one.place;
            }

    -- it crosses a switch, and waits behind the port of the next hop
    goes_on : (s : SwitchNo) (back ahead : List SwitchNo) (from_hosts out : List (List Item)) (at : Next s ahead) → onto (s ∷ back) ahead ≡ way → Says old id (numbers back) →
        length out ≡ length old.out → GoesOnAlone old from_hosts out new id frame s at.port → On new
    goes_on s back ahead from_hosts out at whole was many alone =
        Under s back ahead at.port whole (subst (λ (p : Plan). IsHop p to s ahead at.port) (sym plan) at.is)
        (subst (λ (p : Plan). IsThere (AtPlace (port_index p.k s.0 at.port)) id frame new) (sym plan)
        (subst (λ (q : List (List Item)). IsAmong (Data id frame) (items_at q (port_index old.plan.k s.0 at.port))) (sym alone.waits)
        (put_there out (port_index old.plan.k s.0 at.port) (Data id frame) (subst (λ n. port_index old.plan.k s.0 at.port < n) (sym many) at.place))))
        (record {
          crossed = ap (λ (j : List Entry). trail (reverse j) id) alone.written ∙ ap (λ p. trail p id) (past_more old.journal (Crossed id s))
              ∙ cond-true (id == id) (s.0 ∷ line old id) (line old id) (eq-eqb id id refl) ∙ ap (λ l. s.0 ∷ l) was.crossed;
          single = ap (λ (j : List Entry). copies_made (reverse j) id) alone.written ∙ ap (λ p. copies_made p id) (past_more old.journal (Crossed id s)) ∙ was.single;
        })

    -- ---- at its host
    leaves_host : (m : HostNo) (items : List Item) → h ≡ m.0 → e ≡ event.Deliver (queue.FromHost m) → items_at old.from_hosts m.0 ≡ Data id frame ∷ items → Says old id [] → On new
    leaves_host m items who is head at = by way refl clear.starts clear.leads then_clear.leads
      where
        comes : DeliversFromHost Bridges (record old { steps = old.steps + 1 }) m.0 (items_at old.from_hosts m.0) new
        comes = subst (λ (x : Event). WorldStep Bridges manager host old x new) is step

        stands : slice_get old.attachments m.0 ≡ Some from
        stands = subst (λ n. slice_get old.attachments n ≡ Some from) who clear.sender

        at_port : peer_of old.plan from.edge.0 from.port ≡ HostPort
        at_port = all_found (IsAtHostPort old.plan) old.attachments m.0 from stands stand.at_ports

        not_back : (ahead : List SwitchNo) (p : ℕ) → IsHop old.plan to from.edge ahead p → p ≡ from.port → ⊥
        not_back [] p hop same =
            let attachment : from ≡ to = λ i. record { edge = hop.0 i; port = (sym same ∙ hop.1) i } in
            other (stand.apart h g from clear.sender (clear.receiver ∙ ap Some (sym attachment)))
        not_back (t ∷ ahead) p hop same = is_free t hop.0 (sym at_port ∙ ap (peer_of old.plan from.edge.0) (sym same) ∙ hop.1)

        by : (path : List SwitchNo) → path ≡ way → slice_get path 0 ≡ Some from.edge → LeadsBy old mac to path → LeadsBy new mac to path → On new
        by [] same starts before after = absurd before
        by (s ∷ ahead) same starts before after =
            let first : s ≡ from.edge = same_Some s from.edge starts in
            let at_edge = subst (λ (x : SwitchNo). LeadsBy old mac to (x ∷ ahead)) first before in
            let then_at_edge = subst (λ (x : SwitchNo). LeadsBy new mac to (x ∷ ahead)) first after in
            let on = next from.edge ahead at_edge then_at_edge in
            goes_on from.edge [] ahead (set old.from_hosts m.0 items) old.out on (subst (λ (x : SwitchNo). (x ∷ ahead) ≡ way) first same) at refl
            (from_host_alone manager host old new counted m.0 from id frame items on.port head stands comes on.learnt (not_back ahead on.port on.is) on.unfailed)

    -- ---- behind a port of the way
    over_link : (s t : SwitchNo) (back ahead : List SwitchNo) (port q : ℕ) (items : List Item) → onto (s ∷ back) (t ∷ ahead) ≡ way → peer_of old.plan s.0 port ≡ Switch t q →
        e ≡ event.Deliver (queue.Port s port) → out_of old s.0 port ≡ Data id frame ∷ items → Says old id (numbers (s ∷ back)) → On new
    over_link s t back ahead port q items whole peer is head at =
        let before = leads_behind old mac to (s ∷ back) t ahead (subst (LeadsBy old mac to) (sym whole) clear.leads) in
        let after = leads_behind new mac to (s ∷ back) t ahead (subst (LeadsBy new mac to) (sym whole) then_clear.leads) in
        let on = next t ahead before after in
        let comes = subst (λ (x : Event). WorldStep Bridges manager host old x new) is step in
        goes_on t (s ∷ back) ahead old.from_hosts (set old.out (port_index old.plan.k s.0 port) items) on whole at (length-set old.out (port_index old.plan.k s.0 port) items)
        (over_link_alone manager host old new counted s port t q id frame items on.port head peer comes on.learnt (not_back ahead (way_behind labels back (s ∷ t ∷ ahead) tree) on.port on.is) on.unfailed)
      where
        labels : SwitchNo → Label
        labels x = label_of old.plan.k x.0

        tree : IsWay (map labels (onto (s ∷ back) (t ∷ ahead)))
        tree = subst (λ (x : List SwitchNo). IsWay (map labels x)) (sym whole) clear.tree

        back_peer : peer_of old.plan t.0 q ≡ Switch s port
        back_peer = peer_back old.plan s.0 port t q is_plan peer

        switch_of : Peer → ℕ
        switch_of HostPort = 0
        switch_of (Switch u r) = u.0

        not_back : (ahead : List SwitchNo) → IsWay (map labels (s ∷ t ∷ ahead)) → (p : ℕ) → IsHop old.plan to t ahead p → p ≡ q → ⊥
        not_back [] turns p hop same =
            is_free s port (sym host_port ∙ ap (λ (x : SwitchNo). peer_of old.plan x.0 to.port) (sym hop.0) ∙ ap (peer_of old.plan t.0) (sym hop.1 ∙ same) ∙ back_peer)
        not_back (u ∷ ahead) turns p hop same =
            let peers : Switch u hop.0 ≡ Switch s port = sym hop.1 ∙ ap (peer_of old.plan t.0) same ∙ back_peer in
            turns.1.0 (ap (label_of old.plan.k) (sym (ap switch_of peers)))

    -- out of the port where its host stands
    comes_out : (s : SwitchNo) (back : List SwitchNo) (port : ℕ) (items : List Item) → onto (s ∷ back) [] ≡ way → s ≡ to.edge → port ≡ to.port →
        e ≡ event.Deliver (queue.Port s port) → out_of old s.0 port ≡ Data id frame ∷ items → Says old id (numbers (s ∷ back)) → id ≤ old.begun → On new
    comes_out s back port items whole last at_port is head at begun =
        let now : WorldView = record old { steps = old.steps + 1 } in
        let free : peer_of old.plan s.0 port ≡ HostPort = ap (λ (x : SwitchNo). peer_of old.plan x.0 port) last ∙ ap (peer_of old.plan to.edge.0) at_port ∙ host_port in
        let does = subst (λ (x : Event). WorldStep Bridges manager host old x new) is step in
        let comes : ComesOver Bridges host (taken_out now s.0 port items) s.0 port (Data id frame) (peer_of old.plan s.0 port) new =
        subst (λ l. DeliversOut Bridges host now s.0 port l new) head does in
        let out : ComesAtHost host (taken_out now s.0 port items) id frame (receiver old s.0 port frame) new =
        subst (λ (p : Peer). ComesOver Bridges host (taken_out now s.0 port items) s.0 port (Data id frame) p new) free comes in
        let to_g : receiver old s.0 port frame ≡ Some g =
        comes_to old stand.apart g to clear.receiver frame addressed s.0 port (ap (λ (x : SwitchNo). x.0) (sym last)) (sym at_port) in
        let receives : HostReceives host (taken_out now s.0 port items) g id frame new =
        subst (λ (o : Option ℕ). ComesAtHost host (taken_out now s.0 port items) id frame o new) to_g out in
        let got : receives.reception ≡ Kept =
        keeps receives.turn.before frame receives.turn.after receives.turn.acts receives.reception (unicast_is_not_routed (destination_of frame) unicast) receives.turn.ruled in
        let mid : WorldView = noted (taken_out now s.0 port items) (Arrived id (host_no g) frame) in
        let noted_so : reception_noted (taken_out now s.0 port items) g id frame receives.reception ≡ mid =
        ap (reception_noted (taken_out now s.0 port items) g id frame) got in
        let spares : Spares (AtEnd g) id frame mid new =
        subst (λ (u : WorldView). Spares (AtEnd g) id frame u new) noted_so
        (host_spares (AtEnd g) id frame host (reception_noted (taken_out now s.0 port items) g id frame receives.reception) g (Receives frame) (Received receives.reception) new receives.turn) in
        Came (s ∷ back) whole (spares.there (among_right (Arrived id (host_no g) frame) old.journal (Arrived id (host_no g) frame ∷ []) (inl refl)))
        (record {
          crossed = spares.line begun ∙ ap (λ p. trail p id) (past_more old.journal (Arrived id (host_no g) frame)) ∙ at.crossed;
          single = spares.single begun ∙ ap (λ p. copies_made p id) (past_more old.journal (Arrived id (host_no g) frame)) ∙ at.single;
        })

    -- ---- the link ahead does not fail
    module _ (s : SwitchNo) (back ahead : List SwitchNo) (port : ℕ) (whole : onto (s ∷ back) ahead ≡ way) (is_hop : IsHop old.plan to s ahead port) where
      before : LeadsBy old mac to (s ∷ ahead)
      before = leads_behind old mac to back s ahead (subst (LeadsBy old mac to) (sym whole) clear.leads)

      after : LeadsBy new mac to (s ∷ ahead)
      after = leads_behind new mac to back s ahead (subst (LeadsBy new mac to) (sym whole) then_clear.leads)

      within : port < old.plan.k
      within =
          let one = hop_old s ahead before in
          subst (λ n. n < old.plan.k) (same_hop old.plan is_plan to s ahead one.port port one.is is_hop) one.within

      fails_not : (a b : SwitchNo) (link : Link) → e ≡ event.Fail a b → link_between old.plan a.0 b.0 ≡ Some link → (n p : ℕ) → IsAt link n p → p < old.plan.k →
          AtPlace (port_index old.plan.k s.0 port) ≡ AtPlace (port_index old.plan.k n p) → ⊥
      fails_not a b link is found n p end p_within same =
          let places = same_from_place s.0 port n p old.plan.k within p_within (ap number same) in
          let at : IsAt link s.0 port = subst (λ m. IsAt link m port) (sym places.0) (subst (λ m. IsAt link n m) (sym places.1) end) in
          by ahead is_hop after at
        where
          number : Whereabouts → ℕ
          number (AtHost m) = 0
          number (AtPlace m) = m
          number (AtEnd m) = 0

          there : Contains old.plan.links link
          there = found_contained (joins a.0 b.0) old.plan.links link found

          failed : new ≡ link_failed (record old { steps = old.steps + 1 }) link
          failed = subst (λ (o : Option Link). LinkFails (record old { steps = old.steps + 1 }) o new) found (subst (λ (x : Event). WorldStep Bridges manager host old x new) is step)

          by : (ahead : List SwitchNo) → IsHop old.plan to s ahead port → LeadsBy new mac to (s ∷ ahead) → IsAt link s.0 port → ⊥
          by [] hop leads at =
              no_link_there old.plan s.0 port link (ap (λ (x : SwitchNo). peer_of old.plan x.0 port) hop.0 ∙ ap (peer_of old.plan to.edge.0) hop.1 ∙ host_port) there at
          by (t ∷ ahead) hop leads at =
              let on = leads.0 in
              let peer : peer_of old.plan s.0 on.port ≡ Switch t on.into = subst (λ (x : Plan). peer_of x s.0 on.port ≡ Switch t on.into) plan on.peer in
              let one : on.port ≡ port = same_hop old.plan is_plan to s (t ∷ ahead) on.port port (on.into, peer) hop in
              at_end old.links link s.0 port at
              (subst (λ n. is_live_at (with_link old.links link false) s.0 n ≡ true) one (subst (λ (x : WorldView). is_live_at x.links s.0 on.port ≡ true) failed on.live))

      ports_of : (link : Link) (a b : SwitchNo) → link_between old.plan a.0 b.0 ≡ Some link → (link.lower_port < old.plan.k) × (link.upper_port < old.plan.k)
      ports_of link a b found =
          at_contained (λ (l : Link). (l.lower_port < old.plan.k) × (l.upper_port < old.plan.k)) old.plan.links link is_plan.tree.ports_in_range
          (found_contained (joins a.0 b.0) old.plan.links link found)

      alone_under : IsLeftAlone (AtPlace (port_index old.plan.k s.0 port)) id (record old { steps = old.steps + 1 }) e
      alone_under = record {
        not_lost = λ u p is taken. not_disturbed (event.Lose u p) is (record { frame = taken.frame; first = taken.first });
        nobody_moves = λ m u p is. not_disturbed (event.Move m u p) is tt;
        low = λ a b link is found same. fails_not a b link is found link.lower.0 link.lower_port (inl (refl, refl)) (ports_of link a b found).0 same;
        high = λ a b link is found same. fails_not a b link is found link.upper.0 link.upper_port (inr (refl, refl)) (ports_of link a b found).1 same;
      }

      leaves_port : (u : SwitchNo) (p : ℕ) (items : List Item) → AtPlace (port_index old.plan.k s.0 port) ≡ AtPlace (port_index old.plan.k u.0 p) → e ≡ event.Deliver (queue.Port u p) →
          out_of old u.0 p ≡ Data id frame ∷ items → Says old id (numbers (s ∷ back)) → id ≤ old.begun → On new
      leaves_port u p items same is head at begun =
          let p_within = port_within old.plan u.0 p (there_is (has_queue old.plan (queue.Port u p)) (is_filled old (queue.Port u p)) (fine (event.Deliver (queue.Port u p)) is)) in
          let places = same_from_place s.0 port u.0 p old.plan.k within p_within (ap number same) in
          by ahead is_hop whole
          (subst (λ (x : SwitchNo). e ≡ event.Deliver (queue.Port x port)) (same_switch u s (sym places.0)) (subst (λ n. e ≡ event.Deliver (queue.Port u n)) (sym places.1) is))
          (subst (λ m. out_of old m port ≡ Data id frame ∷ items) (sym places.0) (subst (λ n. out_of old u.0 n ≡ Data id frame ∷ items) (sym places.1) head))
        where
          number : Whereabouts → ℕ
          number (AtHost m) = 0
          number (AtPlace m) = m
          number (AtEnd m) = 0

          by : (ahead : List SwitchNo) → IsHop old.plan to s ahead port → onto (s ∷ back) ahead ≡ way → e ≡ event.Deliver (queue.Port s port) → out_of old s.0 port ≡ Data id frame ∷ items → On new
          by [] hop whole is head = comes_out s back port items whole hop.0 hop.1 is head at begun
          by (t ∷ ahead) hop whole is head = over_link s t back ahead port hop.0 items whole hop.1 is head at

      under : IsThere (AtPlace (port_index old.plan.k s.0 port)) id frame old → Says old id (numbers (s ∷ back)) → On new
      under there at = by (befell (AtPlace (port_index old.plan.k s.0 port)) id frame manager host now (stepped old (old.steps + 1) counted) there new e alone_under step)
        where
          now : WorldView
          now = record old { steps = old.steps + 1 }

          by : Befell (AtPlace (port_index old.plan.k s.0 port)) id frame now e new → On new
          by (Spared spares) = spared_under old new plan counted s back ahead port whole is_hop (unstepped (AtPlace (port_index old.plan.k s.0 port)) id frame old (old.steps + 1) new spares) there at
          by (LeavesHost m items same is head) = absurd (cc same)
          by (LeavesPort u p items same is head) = leaves_port u p items same is head at (is_begun (AtPlace (port_index old.plan.k s.0 port)) id frame old counted there)

    -- ---- the event
    alone_at_host : IsLeftAlone (AtHost h) id (record old { steps = old.steps + 1 }) e
    alone_at_host = record {
      not_lost = λ u p is taken. not_disturbed (event.Lose u p) is (record { frame = taken.frame; first = taken.first });
      nobody_moves = λ m u p is. not_disturbed (event.Move m u p) is tt;
      low = λ a b link is found same. absurd (cc same);
      high = λ a b link is found same. absurd (cc same);
    }

    waits : IsThere (AtHost h) id frame old → Says old id [] → On new
    waits there at =
        by (befell (AtHost h) id frame manager host (record old { steps = old.steps + 1 }) (stepped old (old.steps + 1) counted) there new e alone_at_host step)
      where
        host_of : Whereabouts → ℕ
        host_of (AtHost m) = m
        host_of (AtPlace m) = 0
        host_of (AtEnd m) = 0

        by : Befell (AtHost h) id frame (record old { steps = old.steps + 1 }) e new → On new
        by (Spared spares) = spared_waits old new plan counted (unstepped (AtHost h) id frame old (old.steps + 1) new spares) there at
        by (LeavesHost m items same is head) = leaves_host m items (ap host_of same) is head at
        by (LeavesPort u p items same is head) = absurd (cc same)

    pub event_keeps : On old → On new
    event_keeps (Waits there at) = waits there at
    event_keeps (Under s back ahead port whole is_hop there at) = under s back ahead port whole is_hop there at
    event_keeps (Came back whole there at) =
        let spares = end_stays manager host g id frame old new e counted step there in
        Came back whole (spares.there there) (still old new plan counted (AtEnd g) spares there (numbers back) at)
