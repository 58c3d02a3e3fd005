-- The manager speaks to a switch.
use Rattle.std.proofs.Common.{◌≡◌, ℕ, ◌≤◌, ◌==◌, ◌&&◌, not, Bool, true, false, if◌then◌else◌, List, [], ◌∷◌, ◌++◌, length, map, take, Option, None, Some, refl, sym, ◌∙◌, ap, subst}
use Rattle.std.specs.List.{AllByRecursion}
use Rattle.std.proofs.lemmas.Bool.{and_parts, both_ways, false≢true, not-true}
use Rattle.byteorder.specs.Endian.{big_bytes}
use Rattle.pl_frame.specs.declared.address.Mac.{Mac}
use Rattle.pl_frame.proofs.Exports.{front_of, rest_of}
use Rattle.pl_arp.specs.declared.packet.Arp.{Arp}
use Rattle.pl_arp.specs.Packet.{layout}
use Rattle.pl_frame.specs.declared.address.Ip4.{Ip4}
use Rattle.pl_frame.specs.Ethernet.{destination_of, source_of}
use Rattle.pl_pmac.specs.declared.pmac.Pmac.{Pmac}
use Rattle.pl_pmac.specs.Pmac.{mac_of, pmac_number}
use Rattle.pl_wiring.specs.declared.link.Peer.{Peer}
use Rattle.pl_wiring.specs.declared.link.Peer.TheVariants.{HostPort, Switch}
use Rattle.pl_wiring.specs.Peers.{peer_of}
use Rattle.pl_wiring.specs.Plan.{IsPlan, Plan}
use Rattle.pl_layouts.specs.declared.place.Place.{Place}
use Rattle.pl_layouts.specs.ArpFrames.{arp_frame, broadcast}
use Rattle.pl_layouts.specs.Frames.{arriving, mac_number}
use Rattle.pl_layouts.specs.Memberships.{flood, group_of, is_group}
use Rattle.pl_layouts.proofs.Exports.{destination_of-arriving}
use Rattle.pl_journal.specs.declared.cause.Cause.{Cause}
use Rattle.pl_journal.specs.declared.cause.Cause.TheVariants as cause
use Rattle.pl_journal.specs.Causes.{is_routed}
use Rattle.pl_journal.specs.Flights.{Flight, first_of, level_of}
use Rattle.pl_journal.specs.Places.{at_port, is_host_port}
use Rattle.pl_node.specs.declared.acts.Act.{Act}
use Rattle.pl_node.specs.declared.acts.Act.TheVariants as act
use Rattle.pl_node.specs.declared.switch_records.Grant.{Grant}
use Rattle.pl_node.specs.PortRecords.{is_usable, ports_of_switch}
use Rattle.pl_node.specs.SwitchViews.{SwitchView}
use Rattle.pl_switch_rule.specs.declared.came.Came.TheVariants.{FromHost}
use Rattle.pl_switch_rule.specs.Delivering.{makes}
use Rattle.pl_switch_rule.specs.Forwarding.{Choice}
use Rattle.pl_switch_rule.specs.Granting.{grant_number, granted, grants_at, held_here, is_local}
use Rattle.pl_switch_rule.specs.GroupForwarding.{destination_group, forwards_group, passes_or_drops}
use Rattle.pl_switch_rule.specs.Messages.{answer_frame, flood_frame, floods, probe_frame}
use Rattle.pl_switch_rule.specs.SwitchRule.{IsChoice}
use Rattle.pl_switch_rule.proofs.Exports.{arp_frame_made, destination_of-arp_frame}
use Rattle.pl_law_flights.specs.OnTheWay.{AddressHistory, CameInPlaced, IsForMany, IsLeaving}
use Rattle.pl_law_flights.specs.Standing.{IsGranted, KnowsAddresses, KnowsNeighbours, KnowsPlaces, WasGranted}
use Rattle.pl_law_flights.proofs.AtHome.{begins_good, is_arp-arp_frame, local_is_placed}
use Rattle.pl_law_flights.specs.Routes.{levels}
use Rattle.pl_law_flights.proofs.ForwardActs.{routed_group}
use Rattle.pl_law_flights.proofs.GroupLegs.{all_filtered, first_alone, first_ways}
use Rattle.pl_law_flights.proofs.Hands.{GoodActs, Hand, MayEnd, MayLeave, made_here}
use Rattle.pl_law_flights.proofs.Hands.Hand.{Empty, Spreads, Waits}
use Rattle.pl_law_flights.proofs.PmacNumbers.{number_of_mac}

-- A frame of a group in hand at switch t, which it crossed alone, as it was begun.
pub record IsSpreading (place : ℕ → Place) (history : AddressHistory) (t : ℕ) (f : Flight) (frame : List ℕ) : Type 0 where
  pub last : first_of f.trail ≡ Some t
  pub alone : f.leg ≡ t ∷ []
  pub group : is_group (destination_of frame) ≡ true
  pub kept : destination_of f.beginning ≡ destination_of frame
  pub address : f.address ≡ mac_number (destination_of frame)
  pub home : CameInPlaced place f.came_in
  pub many : IsForMany history f frame

module _ (plan : Plan) (place : ℕ → Place) (history : AddressHistory) (t : ℕ) (v : SwitchView) (f : Flight) (frame : List ℕ) (here : IsSpreading place history t f frame)
    (is_plan : IsPlan plan) (neighbours : KnowsNeighbours plan place t v) (edge : level_of plan.k t ≡ 0) where
  spread : (p : ℕ) (peer : Peer) → peer_of plan t p ≡ peer → is_usable v p ≡ true → MayLeave plan place history t p peer f frame
  spread p (Switch u r) is usable = record {
    last = here.last;
    whole = refl;
    group = ap is_group here.kept;
    kept = λ group. here.kept;
    address = here.address;
    home = here.home;
    many = λ group. here.many;
    rises = λ group. ap (levels plan.k) here.alone ∙ first_ways plan t v is_plan neighbours.linked edge p (Switch u r) is usable;
    one = λ unicast. absurd (both_ways (is_group (destination_of frame)) unicast here.group);
  }
  spread p HostPort is usable = absurd (false≢true (sym (neighbours.linked p usable) ∙ ap is_host_port is))

  spreads_on : (ports : List ℕ) → AllByRecursion (λ p. is_usable v p ≡ true) ports →
      GoodActs plan place history t (map (λ p. act.Pass p frame) ports) (Spreads f)
  spreads_on [] may = tt
  spreads_on (p ∷ ports) may = (ap is_group here.kept ∙ here.group, spread p (peer_of plan t p) refl may.0, spreads_on ports may.1)

  none_shown : (routed part : Bool) → routed ≡ not (destination_group frame == flood) →
      MayEnd history f (if routed && part then cause.NoMember else cause.NoNextHop)
  none_shown false part is = tt
  none_shown true false is = tt
  none_shown true true is =
      let other : (destination_group frame == flood) ≡ false = not-true (destination_group frame == flood) (sym is) in
      ap (λ d. is_routed (group_of d)) here.kept ∙ routed_group (group_of (destination_of frame)) other

  passes_all : (ports : List ℕ) (why : Cause) (again : Bool) → AllByRecursion (λ p. is_usable v p ≡ true) ports → MayEnd history f why →
      GoodActs plan place history t (passes_or_drops ports frame why) (Waits f again)
  passes_all [] why again reach may = (may, tt)
  passes_all (p ∷ ports) why again reach may = (spread p (peer_of plan t p) refl reach.0, spreads_on ports reach.1)

  -- a frame of a group that a host sent, or that is made here, goes up
  pub spreads_good : (again : Bool) → GoodActs plan place history t (forwards_group v (Some FromHost) frame).acts (Waits f again)
  spreads_good again = passes_all _ _ again
      (first_alone (λ p. is_usable v p ≡ true) _ (all_filtered (λ p. is_usable v p ≡ true) _ (λ p passes. (and_parts (is_usable v p) _ passes).0) (ports_of_switch v.k)))
      (none_shown (not (destination_group frame == flood)) _ refl)

-- the sender of an ARP packet is the source of its frame
source_of-arp_frame : (to : Mac) (a : Arp) → length to.0 ≡ 6 → length a.sha.0 ≡ 6 → source_of (arp_frame to a) ≡ a.sha
unfolding arp_frame
source_of-arp_frame to a six six_sha =
    let rest : List ℕ = big_bytes 2 0x0806 ++ layout a in
    ap (λ r. let m : Mac = record { 0 = take 6 r } in m) (rest_of 6 to.0 (a.sha.0 ++ rest) six)
    ∙ ap (λ front. let m : Mac = record { 0 = front } in m) (front_of 6 a.sha.0 rest six_sha)

granted_is_local : (v : SwitchView) (x : Pmac) (grant : Grant) → granted v x ≡ Some grant → is_local v x ≡ true
granted_is_local v x grant found = true_from (is_local v x) (grant_number (grants_at v x.port) x.vmid) found
  where
    true_from : (b : Bool) (o : Option Grant) → (if b then o else None) ≡ Some grant → b ≡ true
    true_from true o e = refl
    true_from false o e = absurd (cc)

module _ (plan : Plan) (place : ℕ → Place) (history : AddressHistory) (t : ℕ) (v : SwitchView) (is_plan : IsPlan plan) (places : KnowsPlaces plan.k place)
    (neighbours : KnowsNeighbours plan place t v) (knows : KnowsAddresses plan history t v) (choose : Choice) (is : IsChoice choose) where
  -- the answer to a host that asked
  pub answer_good : (asker : Pmac) (asker_ip ip : Ip4) (pmac : Pmac) (grant : Grant) → granted v asker ≡ Some grant →
      GoodActs plan place history t (makes choose (answer_frame asker asker_ip ip pmac) v).acts Empty
  answer_good asker asker_ip ip pmac grant found = λ root.
      let own = local_is_placed v asker (granted_is_local v asker grant found) in
      let one : is_group (destination_of (answer_frame asker asker_ip ip pmac)) ≡ false =
      ap is_group (destination_of-arp_frame (mac_of asker) _ refl) ∙ (knows.granted_there asker grant found).own in
      begins_good plan place history t v is_plan places neighbours knows choose is own.0 own.1 root (answer_frame asker asker_ip ip pmac) one
      ((arp_frame_made (mac_of asker) _ refl refl refl).whole.low) (is_arp-arp_frame (mac_of asker) _ refl refl)

  -- the request to all hosts
  pub flood_good : (asker : Pmac) (asker_ip ip : Ip4) (grant : Grant) → granted v asker ≡ Some grant → GoodActs plan place history t (floods v (flood_frame asker asker_ip ip)).acts Empty
  flood_good asker asker_ip ip grant found = λ root.
      let x : WasGranted history t asker = knows.granted_there asker grant found in
      let to : destination_of (flood_frame asker asker_ip ip) ≡ broadcast = destination_of-arp_frame broadcast _ refl in
      spreads_good plan place history t v (made_here root t (flood_frame asker asker_ip ip)) (flood_frame asker asker_ip ip)
      (record {
        last = refl;
        alone = refl;
        group = ap is_group to;
        kept = refl;
        address = refl;
        home = λ there is. absurd (cc);
        many = record {
          leg = refl;
          unaltered = refl;
          from = asker;
          fits = x.fits;
          source = source_of-arp_frame broadcast _ refl refl;
          there = at_port t asker.port;
          granted = x.there;
        };
      }) is_plan neighbours
      (places.level t 0 (subst (λ (w : Place). w.level ≡ Some 0) neighbours.own (local_is_placed v asker (granted_is_local v asker grant found)).0)) false

module _ (plan : Plan) (place : ℕ → Place) (history : AddressHistory) (t : ℕ) (v : SwitchView) (knows : KnowsAddresses plan history t v) where
  -- the request to a host that may still stand at an old address, or use its address
  pub probe_good : (old : Pmac) (ip : Ip4) (grant : Grant) → held_here v old ≡ Some grant → (rest : List Act) → ((hand : Hand) → GoodActs plan place history t rest hand) →
      (hand : Hand) → GoodActs plan place history t (act.Make (probe_frame old ip) ∷ act.Pass old.port (arriving (probe_frame old ip) None (Some grant.amac)) ∷ rest) hand
  probe_good old ip grant found rest then_good hand = λ root.
      let probe : List ℕ = probe_frame old ip in
      let f : Flight = made_here root t probe in
      let x : IsGranted plan history t old grant = knows.granted_here old grant found in
      let long : 14 ≤ length probe = (arp_frame_made (mac_of old) _ refl refl refl).whole.low in
      let to : destination_of probe ≡ mac_of old = destination_of-arp_frame (mac_of old) _ refl in
      let began : is_group (destination_of probe) ≡ false = ap is_group to ∙ x.own in
      let out : destination_of (arriving probe None (Some grant.amac)) ≡ grant.amac = destination_of-arriving probe None (Some grant.amac) long tt x.six in
      let one_host : is_group (destination_of (arriving probe None (Some grant.amac))) ≡ false = ap is_group out ∙ x.unicast in
      let same : mac_number (destination_of probe) ≡ pmac_number old = ap mac_number to ∙ number_of_mac old x.fits in
      let leaves : IsLeaving plan place (history.hold f.address) history f (arriving probe None (Some grant.amac)) t old.port = record {
        last = refl;
        group = began ∙ sym one_host;
        kept = λ group. absurd (both_ways (is_group (destination_of (arriving probe None (Some grant.amac)))) one_host group);
        home = λ there is. absurd (cc);
        many = λ group. absurd (both_ways (is_group (destination_of (arriving probe None (Some grant.amac)))) one_host group);
        rises = λ group. absurd (both_ways (is_group (destination_of (arriving probe None (Some grant.amac)))) one_host group);
        not_back = λ group. absurd (both_ways (is_group (destination_of (arriving probe None (Some grant.amac)))) one_host group);
        one = λ unicast. record {
          host = x.host;
          held = ap history.hold same ∙ x.held;
          there = ap history.edge_ports same ∙ x.there;
          reached = refl;
          mac = x.mac ∙ ap Some (sym out);
          unaltered = ap (λ o. arriving probe None o) (sym x.mac);
        };
      } in
      (subst (λ p. MayLeave plan place history t old.port p f (arriving probe None (Some grant.amac))) (sym x.for_hosts) leaves, then_good (Spreads f))
