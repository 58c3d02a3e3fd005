-- What an edge switch does with a unicast frame for its own hosts is good: it delivers it, follows traps, and tells the sender.
use Rattle.std.proofs.Common.{◌≡◌, ℕ, suc, ◌/◌, ◌%◌, ◌^◌, ◌≤◌, ◌<◌, ◌&&◌, not, Bool, true, false, List, [], ◌∷◌, ◌++◌, length, drop, Option, None, Some, is_some, refl, sym, ◌∙◌, ap, subst, arith}
use Rattle.std.proofs.lemmas.Bool.{and_from, and_parts, both_ways, cond-true, cond_both, eq-eqb, false≢true}
use Rattle.std.proofs.lemmas.Nat.{mod_below}
use Rattle.pl_lemmas.proofs.Exports.{some_number}
use Rattle.pl_frame.specs.declared.address.Mac.{Mac}
use Rattle.pl_frame.specs.Ethernet.{destination_of, source_of, with_destination}
use Rattle.pl_frame.proofs.Exports.{front_of}
use Rattle.pl_pmac.specs.declared.pmac.Pmac.{Pmac}
use Rattle.pl_pmac.specs.Pmac.{PmacFits, pmac_number}
use Rattle.pl_wiring.specs.declared.label.Label.TheVariants.{Aggregation, Core}
use Rattle.pl_wiring.specs.declared.link.Peer.{Peer}
use Rattle.pl_wiring.specs.declared.link.Peer.TheVariants.{HostPort, Switch}
use Rattle.pl_wiring.specs.Peers.{peer_of}
use Rattle.pl_wiring.specs.Plan.{IsPlan, Plan}
use Rattle.pl_layouts.specs.declared.place.Place.{Place}
use Rattle.pl_layouts.specs.Frames.{arriving, is_arp, mac_number}
use Rattle.pl_layouts.specs.Memberships.{is_group}
use Rattle.pl_layouts.specs.Placement.{is_known, is_placed}
use Rattle.pl_layouts.proofs.Exports.{destination_of-arriving, known_is}
use Rattle.pl_journal.specs.Flights.{Flight, first_of, level_of}
use Rattle.pl_journal.specs.Lossy.{UnalteredFrom}
use Rattle.pl_journal.specs.Places.{is_host_port}
use Rattle.pl_node.specs.declared.acts.Act.{Act}
use Rattle.pl_node.specs.declared.switch_records.Grant.{Grant}
use Rattle.pl_node.specs.SwitchViews.{SwitchView}
use Rattle.pl_switch_rule.specs.declared.came.Came.TheVariants.{FromHost}
use Rattle.pl_switch_rule.specs.Delivering.{delivers, delivers_to, destination, goes_on}
use Rattle.pl_switch_rule.specs.Forwarding.{Choice, candidates, candidates_by, forwards, is_candidate, leads_from_edge, leads_up, leaves_by}
use Rattle.pl_switch_rule.specs.Granting.{held_here, is_local}
use Rattle.pl_switch_rule.specs.SwitchRule.{IsChoice}
use Rattle.pl_switch_rule.proofs.Exports.{candidate_usable}
use Rattle.pl_law_flights.specs.OnTheWay.{AddressHistory, CameInPlaced, IsLeaving, WillBeUnaltered}
use Rattle.pl_law_flights.specs.Routes.{IsElsewhere, Route}
use Rattle.pl_law_flights.specs.Routes.Route.{Climbs}
use Rattle.pl_law_flights.specs.Standing.{IsGranted, KnowsAddresses, KnowsNeighbours, KnowsPlaces}
use Rattle.pl_law_flights.proofs.ForwardActs.{among_candidates, chosen_among}
use Rattle.pl_law_flights.proofs.Hands.{GoodActs, Hand, MayLeave}
use Rattle.pl_law_flights.proofs.Hands.Hand.{Empty, Spreads, Waits}
use Rattle.pl_law_flights.proofs.Legs.{level_at}
use Rattle.pl_law_flights.proofs.PmacNumbers.{number_in}
use Rattle.pl_law_counts.proofs.Exports.{Rung, rung}
use Rattle.pl_law_counts.proofs.Exports.Rung.{DownFromCore, DownToEdge, UpFromEdge, UpToCore}

two_levels : (n m : ℕ) → n ≡ 0 → n ≡ suc m → ⊥
two_levels n m none some = omega arith

-- the address that stands in a frame
pub number_of_destination : (frame : List ℕ) → pmac_number (destination frame) ≡ mac_number (destination_of frame)
number_of_destination frame = number_in (mac_number (destination_of frame))

-- a unicast frame in hand at switch t, with its present address in it
pub record IsHere (place : ℕ → Place) (t : ℕ) (f : Flight) (frame : List ℕ) : Type 0 where
  pub last : first_of f.trail ≡ Some t
  pub reached : first_of f.leg ≡ Some t
  pub began : is_group (destination_of f.beginning) ≡ false
  pub unicast : is_group (destination_of frame) ≡ false
  pub address : f.address ≡ mac_number (destination_of frame)
  pub long : 14 ≤ length frame
  pub home : CameInPlaced place f.came_in
  pub sender : is_arp frame ≡ false → is_group (source_of frame) ≡ false
  pub unaltered : WillBeUnaltered f frame

module _ (plan : Plan) (place : ℕ → Place) (history : AddressHistory) (t : ℕ) (v : SwitchView) (knows : KnowsAddresses plan history t v) (rest : List Act)
    (then_good : (hand : Hand) → GoodActs plan place history t rest hand) where
  -- it goes out to the host that has the address
  pub delivers_good : (f : Flight) (again : Bool) (frame : List ℕ) (o : Option Grant) → IsHere place t f frame → is_local v (destination frame) ≡ true →
      held_here v (destination frame) ≡ o → GoodActs plan place history t ((delivers_to v (destination frame) frame o).acts ++ rest) (Waits f again)
  delivers_good f again frame None here own found =
      let fits : PmacFits (destination frame) = local_fits (mac_number (destination_of frame)) (λ n is. knows.pods n is) own in
      (ap history.hold (here.address ∙ sym (number_of_destination frame)) ∙ knows.not_granted (destination frame) fits own found, then_good Empty)
    where
      -- an address of the switch fits, whatever the bytes are
      local_fits : (n : ℕ) → ((m : ℕ) → v.place.pod ≡ Some m → m < 2 ^ 16) →
          is_local v (record { pod = n / 2 ^ 32; position = n / 2 ^ 24 % 256; port = n / 2 ^ 16 % 256; vmid = n % 2 ^ 16 }) ≡ true →
          PmacFits (record { pod = n / 2 ^ 32; position = n / 2 ^ 24 % 256; port = n / 2 ^ 16 % 256; vmid = n % 2 ^ 16 })
      local_fits n few own =
          let both = and_parts (is_known v.place.level 0) (is_known v.place.pod (n / 2 ^ 32) && is_known v.place.position (n / 2 ^ 24 % 256)) own in
          let pod = (and_parts (is_known v.place.pod (n / 2 ^ 32)) (is_known v.place.position (n / 2 ^ 24 % 256)) both.1).0 in
          record {
            pod = few (n / 2 ^ 32) (known_is v.place.pod (n / 2 ^ 32) pod);
            position = mod_below (n / 2 ^ 24) 256 (omega arith);
            port = mod_below (n / 2 ^ 16) 256 (omega arith);
            vmid = mod_below n (2 ^ 16) (omega arith);
          }
  delivers_good f again frame (Some grant) here own found =
      let is : IsGranted plan history t (destination frame) grant = knows.granted_here (destination frame) grant found in
      let same : f.address ≡ pmac_number (destination frame) = here.address ∙ sym (number_of_destination frame) in
      let out : destination_of (arriving frame None (Some grant.amac)) ≡ grant.amac = destination_of-arriving frame None (Some grant.amac) here.long tt is.six in
      let one_host : is_group (destination_of (arriving frame None (Some grant.amac))) ≡ false = ap is_group out ∙ is.unicast in
      let leaves : IsLeaving plan place (history.hold f.address) history f (arriving frame None (Some grant.amac)) t (destination frame).port = record {
        last = here.last;
        group = here.began ∙ sym one_host;
        kept = λ group. absurd (both_ways (is_group (destination_of (arriving frame None (Some grant.amac)))) one_host group);
        home = here.home;
        many = λ group. absurd (both_ways (is_group (destination_of (arriving frame None (Some grant.amac)))) one_host group);
        rises = λ group. absurd (both_ways (is_group (destination_of (arriving frame None (Some grant.amac)))) one_host group);
        not_back = λ group. absurd (both_ways (is_group (destination_of (arriving frame None (Some grant.amac)))) one_host group);
        one = λ unicast. record {
          host = is.host;
          held = ap history.hold same ∙ is.held;
          there = ap history.edge_ports same ∙ is.there;
          reached = here.reached;
          mac = is.mac ∙ ap Some (sym out);
          unaltered = subst (λ o. UnalteredFrom f.sender f.source f.beginning o (arriving frame None (Some grant.amac))) (sym is.mac) (here.unaltered grant.amac is.six);
        };
      } in
      (subst (λ p. MayLeave plan place history t (destination frame).port p f (arriving frame None (Some grant.amac))) (sym is.for_hosts) leaves, then_good (Spreads f))

-- bytes of a frame with another destination
module _ (frame : List ℕ) (to : Mac) (six : length to.0 ≡ 6) where
  pub destination_is : destination_of (with_destination frame to) ≡ to
  destination_is = ap (λ l. record { 0 = l }) (front_of 6 to.0 (drop 6 frame) six)

module _ (plan : Plan) (place : ℕ → Place) (history : AddressHistory) (t : ℕ) (v : SwitchView) (is_plan : IsPlan plan) (places : KnowsPlaces plan.k place)
    (neighbours : KnowsNeighbours plan place t v) (rest : List Act) (then_good : (hand : Hand) → GoodActs plan place history t rest hand) where
  -- at an edge switch that is placed, an address that is not its own is elsewhere
  elsewhere : (to : Pmac) → v.place.level ≡ Some 0 → is_placed v.place ≡ true → is_local v to ≡ false → IsElsewhere (place t) to
  elsewhere to level placed away =
      let both = and_parts (is_some v.place.position) (is_some v.place.pod) (rw level at placed) in
      let pod = some_number v.place.pod both.1 in
      let position = some_number v.place.position both.0 in
      record {
        pod = pod.0;
        position = position.0;
        knows_pod = subst (λ (w : Place). w.pod ≡ Some pod.0) neighbours.own pod.1;
        knows_position = subst (λ (w : Place). w.position ≡ Some position.0) neighbours.own position.1;
        another = λ same_pod same_position. both_ways (is_local v to) away
            (and_from (is_known v.place.level 0) _ (ap (λ o. is_known o 0) level)
            (and_from (is_known v.place.pod to.pod) (is_known v.place.position to.position)
            (ap (λ o. is_known o to.pod) pod.1 ∙ eq-eqb pod.0 to.pod same_pod) (ap (λ o. is_known o to.position) position.1 ∙ eq-eqb position.0 to.position same_position)));
      }

  -- a frame whose leg begins here climbs
  climbs : (f : Flight) (frame : List ℕ) (p : ℕ) (peer : Peer) → IsHere place t f frame → f.leg ≡ t ∷ [] → v.place.level ≡ Some 0 → is_placed v.place ≡ true →
      is_local v (destination frame) ≡ false → leads_up v 1 (destination frame) p ≡ true → peer_of plan t p ≡ peer → is_host_port peer ≡ false →
      MayLeave plan place history t p peer f frame
  climbs f frame p HostPort here alone level placed away leads peer linked = absurd (false≢true (sym linked))
  climbs f frame p (Switch u r) here alone level placed away leads peer linked = record {
    last = here.last;
    whole = refl;
    group = here.began ∙ sym here.unicast;
    kept = λ group. absurd (both_ways (is_group (destination_of frame)) here.unicast group);
    address = here.address;
    home = here.home;
    many = λ group. absurd (both_ways (is_group (destination_of frame)) here.unicast group);
    rises = λ group. absurd (both_ways (is_group (destination_of frame)) here.unicast group);
    one = λ unicast. record { route = by_rung (rung plan is_plan t p u r peer); unaltered = here.unaltered; sender = here.sender };
  }
    where
      low : level_of plan.k t ≡ 0
      low = places.level t 0 (subst (λ (w : Place). w.level ≡ Some 0) neighbours.own level)

      by_rung : Rung plan.k t u.0 → Route plan.k place (destination frame) f.leg t u.0
      by_rung (UpFromEdge a i j at_t at_u) = Climbs a i j at_t at_u alone (elsewhere (destination frame) level placed away)
      by_rung (UpToCore a j m at_t at_u) = absurd (two_levels (level_of plan.k t) 0 low (level_at plan.k t (Aggregation a j) at_t))
      by_rung (DownFromCore a j m at_t at_u) = absurd (two_levels (level_of plan.k t) 1 low (level_at plan.k t (Core j m) at_t))
      by_rung (DownToEdge a i j at_t at_u) = absurd (two_levels (level_of plan.k t) 0 low (level_at plan.k t (Aggregation a j) at_t))

  -- a candidate of an edge switch for a frame of its own hosts, or of its own
  up_from_edge : (to : Pmac) (p : ℕ) → v.place.level ≡ Some 0 → is_candidate v to FromHost p ≡ true → leads_up v 1 to p ≡ true
  up_from_edge to p level is =
      (and_parts (not (is_local v to)) (leads_up v 1 to p)
      (sym (cond-true (is_known v.place.level 0) (leads_from_edge v to FromHost p) _ (ap (λ o. is_known o 0) level)) ∙ is)).1

  pub leaves_then : (choose : Choice) → IsChoice choose → (f : Flight) (again : Bool) (frame : List ℕ) → IsHere place t f frame → f.leg ≡ t ∷ [] →
      v.place.level ≡ Some 0 → is_placed v.place ≡ true → is_local v (destination frame) ≡ false → (chosen : Option ℕ) →
      choose (candidates_by v (destination frame) (Some FromHost)) frame ≡ chosen →
      GoodActs plan place history t ((leaves_by v frame chosen).acts ++ rest) (Waits f again)
  leaves_then choose is f again frame here alone level placed away None found = (tt, then_good Empty)
  leaves_then choose is f again frame here alone level placed away (Some p) found =
      let leads = among_candidates v (destination frame) FromHost p (chosen_among choose (candidates v (destination frame) FromHost) frame p is found) in (
        climbs f frame p (peer_of plan t p) here alone level placed away (up_from_edge (destination frame) p level leads) refl
            (neighbours.linked p (candidate_usable v (destination frame) FromHost p leads)),
        then_good (Spreads f),
      )

  module _ (knows : KnowsAddresses plan history t v) where
    -- an address that is followed no further: its host is here, or the frame goes on
    pub goes_on_good : (choose : Choice) → IsChoice choose → (f : Flight) (again : Bool) (frame : List ℕ) → IsHere place t f frame → f.leg ≡ t ∷ [] →
        v.place.level ≡ Some 0 → is_placed v.place ≡ true → GoodActs plan place history t ((goes_on choose v frame).acts ++ rest) (Waits f again)
    goes_on_good choose is f again frame here alone level placed =
        cond_both (is_local v (destination frame)) (delivers v frame) (forwards choose v (Some FromHost) frame)
        (λ step. GoodActs plan place history t (step.acts ++ rest) (Waits f again))
        (λ own. delivers_good plan place history t v knows rest then_good f again frame (held_here v (destination frame)) here own refl)
        (λ away. leaves_then choose is f again frame here alone level placed away _ refl)
