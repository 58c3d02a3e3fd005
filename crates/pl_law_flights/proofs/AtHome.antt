-- A data frame that comes over a link: whatever is done with it keeps what is told.
use Rattle.std.proofs.Common.{◌≡◌, ℕ, ◌≤◌, ◌<◌, ◌==◌, ◌&&◌, Bool, true, false, List, [], ◌∷◌, ◌++◌, length, reverse, Option, None, Some, refl, sym, ◌∙◌, ap, subst, arith, append-nil}
use Rattle.std.proofs.lemmas.Bool.{and_parts, cond_both, false≢true}
use Rattle.pl_frame.specs.declared.address.Ip4.{Ip4}
use Rattle.pl_frame.specs.declared.address.Mac.{Mac}
use Rattle.pl_frame.specs.Ethernet.{Fields, destination_of, source_of}
use Rattle.pl_frame.proofs.Exports.{fields_of-frame_of}
use Rattle.pl_arp.specs.declared.packet.Arp.{Arp}
use Rattle.pl_arp.specs.Packet.{layout}
use Rattle.pl_layouts.specs.ArpFrames.{arp_frame}
use Rattle.pl_pmac.specs.declared.pmac.Pmac.{Pmac}
use Rattle.pl_wiring.specs.declared.label.SwitchNo.{SwitchNo}
use Rattle.pl_wiring.specs.declared.link.Peer.{Peer}
use Rattle.pl_wiring.specs.declared.link.Peer.TheVariants.{Switch}
use Rattle.pl_wiring.specs.Peers.{peer_of}
use Rattle.pl_wiring.specs.Plan.{IsPlan, Plan}
use Rattle.pl_layouts.specs.declared.place.Place.{Place}
use Rattle.pl_layouts.specs.Frames.{is_arp}
use Rattle.pl_layouts.specs.Memberships.{is_group}
use Rattle.pl_layouts.specs.Placement.{is_known, is_placed}
use Rattle.pl_layouts.proofs.Exports.{known_is, six_src}
use Rattle.pl_journal.specs.declared.entry.Entry.TheVariants.{Crossed}
use Rattle.pl_journal.specs.Flights.{Flight, flight_of, was_live}
use Rattle.pl_node.specs.Accounting.{AccountsForFrames, IsMade}
use Rattle.pl_node.specs.declared.trap.Trap.{Trap}
use Rattle.pl_node.specs.SwitchInputs.SwitchInput.{Comes}
use Rattle.pl_node.specs.SwitchViews.{SwitchView}
use Rattle.pl_steps.specs.Steps.{does}
use Rattle.pl_switch_rule.specs.declared.came.Came.TheVariants.{FromHost}
use Rattle.pl_switch_rule.specs.Delivering.{addresses, arrives_home, begins, comes_home, destination, last_trap, newer_address, tells_newer, tells_sender, trap_for}
use Rattle.pl_switch_rule.specs.Forwarding.{Choice, forwards}
use Rattle.pl_switch_rule.specs.Granting.{is_local}
use Rattle.pl_switch_rule.specs.SwitchRule.{IsChoice, Loose}
use Rattle.pl_switch_rule.proofs.Exports.{arp_frame_made, destination_of-arp_frame, home_stays}
use Rattle.pl_world.specs.declared.item.Item.{Item}
use Rattle.pl_world.specs.declared.item.Item.TheVariants.{Data}
use Rattle.pl_world.specs.declared.spoken_frame.SpokenFrame.TheVariants.{Waiting}
use Rattle.pl_world.specs.Changes.{noted, out_of}
use Rattle.pl_world.specs.Flying.{IsCounted}
use Rattle.pl_world.specs.WorldRule.{SwitchTurn}
use Rattle.pl_world.specs.Worlds.{WorldView}
use Rattle.pl_world.proofs.Exports.{sound}
use Rattle.pl_law_flights.specs.OnTheWay.{AddressHistory, IsBetweenSwitches, IsGoing, IsJournaled, history_of, place_in}
use Rattle.pl_law_copies.specs.Standing.{KnowTrees}
use Rattle.pl_law_flights.specs.Standing.{KnowsAddresses, KnowsNeighbours, KnowsPlaces, StandsOn}
use Rattle.pl_law_flights.proofs.ForwardActs.{crossed_at}
use Rattle.pl_law_flights.proofs.Hands.{GoodActs, Hand, made_here}
use Rattle.pl_law_flights.proofs.Hands.Hand.{Waits}
use Rattle.pl_law_flights.proofs.HomeActs.{IsHere, leaves_then}
use Rattle.pl_law_flights.proofs.OverLinks.{IsGoodAtHome, comes_journaled, taken, taken_out}
use Rattle.pl_law_flights.proofs.Redirects.{home_good}

-- an ARP packet is in an ARP frame
pub is_arp-arp_frame : (to : Mac) (a : Arp) → length to.0 ≡ 6 → length a.sha.0 ≡ 6 → is_arp (arp_frame to a) ≡ true
unfolding arp_frame
is_arp-arp_frame to a six six_sha = ap (λ (f : Fields). f.kind == 0x0806)
    (fields_of-frame_of (record { dst = to; src = a.sha; kind = 0x0806; payload = layout a }) six six_sha (omega arith))

-- an edge switch whose address it is has a place
pub local_is_placed : (v : SwitchView) (to : Pmac) → is_local v to ≡ true → (v.place.level ≡ Some 0) × (is_placed v.place ≡ true)
local_is_placed v to own =
    let first = and_parts (is_known v.place.level 0) (is_known v.place.pod to.pod && is_known v.place.position to.position) own in
    let second = and_parts (is_known v.place.pod to.pod) (is_known v.place.position to.position) first.1 in
    let level = known_is v.place.level 0 first.0 in
    let pod = known_is v.place.pod to.pod second.0 in
    let position = known_is v.place.position to.position second.1 in
    (level, rw (level, pod, position) refl)

module _ (plan : Plan) (place : ℕ → Place) (history : AddressHistory) (t : ℕ) (v : SwitchView) (is_plan : IsPlan plan) (places : KnowsPlaces plan.k place)
    (neighbours : KnowsNeighbours plan place t v) (knows : KnowsAddresses plan history t v) (choose : Choice) (is : IsChoice choose)
    (level : v.place.level ≡ Some 0) (placed : is_placed v.place ≡ true) where
  -- a frame of the switch's own to one host
  pub begins_good : (root : ℕ) (frame : List ℕ) → is_group (destination_of frame) ≡ false → 14 ≤ length frame → is_arp frame ≡ true →
      GoodActs plan place history t (begins choose v frame).acts (Waits (made_here root t frame) false)
  begins_good root frame unicast long arp =
      let here : IsHere place t (made_here root t frame) frame = record {
        last = refl;
        reached = refl;
        began = unicast;
        unicast = unicast;
        address = refl;
        long = long;
        home = λ there is. absurd (cc);
        sender = λ other. absurd (false≢true (sym other ∙ arp));
        unaltered = λ m six. refl;
      } in
      cond_both (is_local v (destination frame)) (comes_home choose v frame) (forwards choose v (Some FromHost) frame)
      (λ step. GoodActs plan place history t step.acts (Waits (made_here root t frame) false))
      (λ own. subst (λ acts. GoodActs plan place history t acts (Waits (made_here root t frame) false)) (append-nil (comes_home choose v frame).acts)
      (home_good plan place history t v is_plan places neighbours [] (λ hand. tt) knows choose is level placed frame long (made_here root t frame) false here own))
      (λ away. subst (λ acts. GoodActs plan place history t acts (Waits (made_here root t frame) false)) (append-nil (forwards choose v (Some FromHost) frame).acts)
      (leaves_then plan place history t v is_plan places neighbours [] (λ hand. tt) choose is (made_here root t frame) false frame here refl level placed away _ refl))

  module _ (frame : List ℕ) (long : 14 ≤ length frame) (source : is_arp frame ≡ false → is_group (source_of frame) ≡ false) where
    -- the reply to the sender
    newer_good : is_arp frame ≡ false → (new : Pmac) (o : Option Ip4) (hand : Hand) → GoodActs plan place history t (tells_newer choose frame new o v).acts hand
    newer_good other new None hand = tt
    newer_good other new (Some ip) hand = λ root.
        let six = six_src frame long in
        let to : is_group (destination_of (newer_address frame new ip)) ≡ false =
        ap is_group (destination_of-arp_frame (source_of frame) _ six) ∙ source other in
        let made : IsMade (newer_address frame new ip) = arp_frame_made (source_of frame) _ six refl six in
        begins_good root (newer_address frame new ip) to made.whole.low (is_arp-arp_frame (source_of frame) _ six refl)

    tells_good : (o : Option Trap) (hand : Hand) → GoodActs plan place history t (tells_sender choose frame o v).acts hand
    tells_good None hand = tt
    tells_good (Some trap) hand = cond_both (is_arp frame) (does v []) (tells_newer choose frame (last_trap (addresses v) v trap).new (last_trap (addresses v) v trap).ip v)
        (λ step. GoodActs plan place history t step.acts hand) (λ arp. tt) (λ other. newer_good other _ _ hand)

    pub arrives_good : (f : Flight) (again : Bool) → IsHere place t f frame → is_local v (destination frame) ≡ true →
        GoodActs plan place history t (arrives_home choose v frame).acts (Waits f again)
    arrives_good f again here own =
        subst (λ (u : SwitchView). GoodActs plan place history t ((comes_home choose v frame).acts ++ (tells_sender choose frame (trap_for v (destination frame)) u).acts) (Waits f again))
        (sym (home_stays choose v frame (trap_for v (destination frame))))
        (home_good plan place history t v is_plan places neighbours (tells_sender choose frame (trap_for v (destination frame)) v).acts
        (tells_good (trap_for v (destination frame))) knows choose is level placed frame long f again here own)

-- a data frame comes over a link
pub over_link_journaled : (w : WorldView) → IsCounted w → IsJournaled w → StandsOn w → KnowTrees w → AccountsForFrames Loose → (s port id : ℕ) (frame : List ℕ) (items : List Item) →
    port < w.plan.k → out_of w s port ≡ Data id frame ∷ items → (t : SwitchNo) (q : ℕ) → peer_of w.plan s port ≡ Switch t q → (new : WorldView) →
    SwitchTurn Loose (noted (taken_out w s port items) (Crossed id t)) t.0 (Comes q frame) (Waiting id false) new → IsJournaled new
over_link_journaled w counted told on trees accounts s port id frame items within head t q peer new turn =
    let took = taken w counted told s port id frame items within head in
    let past = reverse w.journal in
    let b : IsBetweenSwitches w.plan (place_in w.switches) (history_of past) (flight_of w.plan past id) (was_live past id s t.0) frame s t.0 =
    subst (λ (p : Peer). IsGoing w.plan (place_in w.switches) past s port p id frame) peer took.going in
    let home : IsGoodAtHome w t.0 id frame = λ v choose found is unicast own.
    let at = local_is_placed v (destination frame) own in
    arrives_good w.plan (place_in w.switches) (history_of past) t.0 v (sound w counted).rest.is_plan on.places (on.neighbours t.0 v found)
    (on.addresses t.0 v found) choose is at.0 at.1 frame took.is_frame.whole.low (b.one unicast).sender
    (crossed_at t.0 (flight_of w.plan past id)) false
    (record {
      last = refl;
      reached = refl;
      began = b.group ∙ unicast;
      unicast = unicast;
      address = b.address;
      long = took.is_frame.whole.low;
      home = b.home;
      sender = (b.one unicast).sender;
      unaltered = (b.one unicast).unaltered;
    }) own in
    comes_journaled w counted told on s port id frame items within head t q peer accounts trees home new turn
