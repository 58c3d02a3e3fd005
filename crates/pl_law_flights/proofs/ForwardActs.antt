-- What a switch does with a frame that comes from a neighbour and is not for its own hosts is good.
use Rattle.std.proofs.Common.{◌⊎◌, inl, inr, ◌≡◌, ℕ, ◌==◌, ◌&&◌, ◌||◌, not, Bool, true, false, if◌then◌else◌, List, [], ◌∷◌, map, Option, None, Some, is_none, refl, sym, ◌∙◌, ap, subst}
use Rattle.std.specs.List.{AllByRecursion, IsAmong, filter}
use Rattle.std.specs.Option.{unwrap_or}
use Rattle.std.proofs.lemmas.Bool.{and_from, and_parts, both_ways, cases_Bool, cond_both, eq-eqb, eqb-true, false≢true, not-false, not-true, or_parts}
use Rattle.pl_frame.specs.Ethernet.{destination_of, source_of}
use Rattle.pl_pmac.specs.declared.pmac.Pmac.{Pmac}
use Rattle.pl_pmac.specs.Pmac.{PmacFits, mac_of, pmac_number, pmac_of}
use Rattle.pl_pmac.proofs.Exports.{pmac_of-mac_of}
use Rattle.pl_layouts.specs.Frames.{mac_number}
use Rattle.pl_wiring.specs.declared.link.Peer.{Peer}
use Rattle.pl_wiring.specs.declared.link.Peer.TheVariants.{HostPort, Switch}
use Rattle.pl_wiring.specs.Peers.{peer_of}
use Rattle.pl_wiring.specs.Plan.{IsPlan, Plan}
use Rattle.pl_layouts.specs.declared.place.Place.{Place}
use Rattle.pl_layouts.specs.Memberships.{flood, group_of, is_group}
use Rattle.pl_layouts.specs.Placement.{is_placed}
use Rattle.pl_journal.specs.declared.cause.Cause.{Cause}
use Rattle.pl_journal.specs.declared.cause.Cause.TheVariants as cause
use Rattle.pl_journal.specs.Causes.{is_routed}
use Rattle.pl_journal.specs.Flights.{Flight}
use Rattle.pl_journal.specs.Places.{EdgePort, at_port, is_at, is_host_port}
use Rattle.pl_node.specs.declared.acts.Act.{Act}
use Rattle.pl_node.specs.declared.acts.Act.TheVariants as act
use Rattle.pl_node.specs.PortRecords.{is_usable, place_at, ports_of_switch}
use Rattle.pl_node.specs.SwitchViews.{SwitchView}
use Rattle.pl_node.proofs.Exports.{among_filter, among_of_Contains}
use Rattle.pl_steps.specs.Steps.{SwitchStep}
use Rattle.pl_switch_rule.specs.declared.came.Way.{Way}
use Rattle.pl_switch_rule.specs.declared.came.Way.TheVariants.{Down, Nowhere, ToHosts, Up}
use Rattle.pl_switch_rule.specs.declared.came.Came.{Came}
use Rattle.pl_switch_rule.specs.Delivering.{arrives_home, destination}
use Rattle.pl_switch_rule.specs.Forwarding.{Choice, candidates, candidates_by, came_by, is_candidate, leaves_by}
use Rattle.pl_switch_rule.specs.Granting.{is_local}
use Rattle.pl_switch_rule.specs.GroupForwarding.{destination_group, forwards_group, group_ports, is_reached, is_source, passes_or_drops, way_of}
use Rattle.pl_switch_rule.specs.SwitchRule.{IsChoice, comes_from_switch}
use Rattle.pl_switch_rule.proofs.Exports.{candidate_usable}
use Rattle.pl_law_copies.specs.Standing.{KnowsTree}
use Rattle.pl_law_flights.specs.OnTheWay.{AddressHistory, IsBetweenSwitches, IsForMany}
use Rattle.pl_law_flights.specs.Standing.{KnowsAddresses, KnowsNeighbours, KnowsPlaces}
use Rattle.pl_law_flights.proofs.GroupLegs.{AreWaysOn, IsWayOn, all_filtered, first_alone, ways_on}
use Rattle.pl_law_flights.proofs.Hands.{GoodActs, MayEnd, MayLeave}
use Rattle.pl_law_flights.proofs.Hands.Hand.{Spreads, Waits}
use Rattle.pl_law_flights.proofs.RoutesByCandidates.{passes_on}
use Rattle.pl_law_flights.proofs.PmacNumbers.{number_of_mac}

-- the frame once it has crossed switch t
abbrev pub crossed_at : ℕ → Flight → Flight
crossed_at t f = record f { leg = t ∷ f.leg; trail = t ∷ f.trail }

-- a group that is not the flood is a routed one
pub routed_group : (n : Option ℕ) → (unwrap_or n flood == flood) ≡ false → is_routed n ≡ true
routed_group None other = absurd (both_ways (flood == flood) other (eq-eqb flood flood refl))
routed_group (Some n) other = ap not other

-- what is chosen is one of the ports
pub chosen_among : (choose : Choice) (ports frame : List ℕ) (p : ℕ) → IsChoice choose → choose ports frame ≡ Some p → IsAmong ports p
chosen_among choose [] frame p is found = let none = is.empty frame in absurd (cc)
chosen_among choose (x ∷ ports) frame p is found =
    let some = is.chosen x ports frame in
    let same : some.0 ≡ p = (let one = some.1 in cc) in
    subst (λ n. IsAmong (x ∷ ports) n) same some.2

pub among_candidates : (v : SwitchView) (to : Pmac) (came : Came) (p : ℕ) → IsAmong (candidates v to came) p → is_candidate v to came p ≡ true
unfolding candidates
among_candidates v to came p there =
    (among_filter (is_candidate v to came) p (ports_of_switch v.k)
    (among_of_Contains p (filter (is_candidate v to came) (ports_of_switch v.k)) (there.0, there.1.0, sym there.1.1))).1

-- a port to another switch, or not that of a source
abbrev pub MayReach : SwitchView → Pmac → ℕ → Type 0
MayReach v source p = (is_usable v p ≡ true) ⊎ (is_source v source p ≡ false)

-- the ports by which a frame of a group leaves
pub group_ports_reach : (v : SwitchView) (way : Way) (group : ℕ) (source : Pmac) → AllByRecursion (MayReach v source) (group_ports v way group source)
group_ports_reach v Up group source = first_alone (MayReach v source) _ (all_filtered (MayReach v source) _
    (λ p is. inl ((and_parts (is_usable v p) _ is).0)) (ports_of_switch v.k))
group_ports_reach v Down group source = all_filtered (MayReach v source) _ (λ p is. inl ((and_parts (is_usable v p) _ is).0)) (ports_of_switch v.k)
group_ports_reach v ToHosts group source = all_filtered (MayReach v source) _
    (λ p is. inr (not-true (is_source v source p) ((and_parts (is_reached v group p) (not (is_source v source p)) is).1))) (ports_of_switch v.k)
group_ports_reach v Nowhere group source = tt

-- a frame of a group does not go back to the port where its source was granted
pub reaches_host : (plan : Plan) (place : ℕ → Place) (history : AddressHistory) (t : ℕ) (v : SwitchView) → KnowsNeighbours plan place t v → KnowsAddresses plan history t v →
    (frame : List ℕ) (p : ℕ) (x : Pmac) → PmacFits x → source_of frame ≡ mac_of x → (there : EdgePort) → history.edge_ports (pmac_number x) ≡ Some there →
    peer_of plan t p ≡ HostPort → MayReach v (pmac_of (source_of frame)) p → is_at (history.edge_ports (mac_number (source_of frame))) (at_port t p) ≡ false
reaches_host plan place history t v neighbours addresses frame p x fits source there granted peer may =
    let n : mac_number (source_of frame) ≡ pmac_number x = ap mac_number source ∙ number_of_mac x fits in
    let same : pmac_of (source_of frame) ≡ x = ap pmac_of source ∙ pmac_of-mac_of x fits in
    elim (cases_Bool (is_at (history.edge_ports (mac_number (source_of frame))) (at_port t p))) [
      | inr away ↦ away
      | inl at ↦ elim may [
        | inl usable ↦ absurd (false≢true (sym (neighbours.linked p usable) ∙ ap is_host_port peer))
        | inr other ↦
            let here : is_at (Some there) (at_port t p) ≡ true = ap (λ o. is_at o (at_port t p)) (sym granted ∙ ap history.edge_ports (sym n)) ∙ at in
            let parts = and_parts (there.edge == t) (there.port == p) here in
            let is_there : there ≡ at_port t p = ap (λ a. at_port a there.port) (eqb-true there.edge t parts.0) ∙ ap (λ c. at_port t c) (eqb-true there.port p parts.1) in
            let back = addresses.back x p fits (granted ∙ ap Some is_there) in
            let it : is_source v x p ≡ true = and_from (is_local v x) (x.port == p) back.0 (eq-eqb x.port p back.1) in
            absurd (false≢true (sym other ∙ ap (λ y. is_source v y p) same ∙ it))
      ]
    ]

module _ (plan : Plan) (place : ℕ → Place) (history : AddressHistory) (t : ℕ) (v : SwitchView) (is_plan : IsPlan plan) (places : KnowsPlaces plan.k place)
    (knows : KnowsNeighbours plan place t v) (addresses : KnowsAddresses plan history t v) (s q port : ℕ) (from : peer_of plan t q ≡ Switch (record { 0 = s }) port) (f : Flight) (frame : List ℕ)
    (b : IsBetweenSwitches plan place history f true frame s t) (trees : KnowsTree plan t v) where
  abbrev Good : List Act → Type 0
  Good acts = GoodActs plan place history t acts (Waits (crossed_at t f) false)

  crossed_many : IsForMany history f frame → IsForMany history (crossed_at t f) frame
  crossed_many m = record {
    leg = ap (λ l. t ∷ l) m.leg;
    unaltered = m.unaltered;
    from = m.from;
    fits = m.fits;
    source = m.source;
    there = m.there;
    granted = m.granted;
  }

  -- a frame of a group goes out by ports to other switches, and by ports of hosts but that of its source
  may_spread : (p : ℕ) (peer : Peer) → peer_of plan t p ≡ peer → MayReach v (pmac_of (source_of frame)) p → IsWayOn plan t (t ∷ f.leg) peer →
      is_group (destination_of frame) ≡ true → MayLeave plan place history t p peer (crossed_at t f) frame
  may_spread p (Switch u r) is may on group = record {
    last = refl;
    whole = refl;
    group = b.group;
    kept = b.kept;
    address = b.address;
    home = b.home;
    many = λ group. crossed_many (b.many group);
    rises = λ group. on;
    one = λ unicast. absurd (both_ways (is_group (destination_of frame)) unicast group);
  }
  may_spread p HostPort is may on group = record {
    last = refl;
    group = b.group;
    kept = b.kept;
    not_back = λ many. reaches_host plan place history t v knows addresses frame p (b.many group).from (b.many group).fits (b.many group).source
        (b.many group).there (b.many group).granted is may;
    home = b.home;
    many = λ group. crossed_many (b.many group);
    rises = λ group. on;
    one = λ unicast. absurd (both_ways (is_group (destination_of frame)) unicast group);
  }

  spreads : (ports : List ℕ) → AllByRecursion (MayReach v (pmac_of (source_of frame))) ports → AreWaysOn plan t (t ∷ f.leg) ports →
      is_group (destination_of frame) ≡ true → GoodActs plan place history t (map (λ p. act.Pass p frame) ports) (Spreads (crossed_at t f))
  spreads [] may on group = tt
  spreads (p ∷ ports) may on group = (b.group ∙ group, may_spread p (peer_of plan t p) refl may.0 on.0 group, spreads ports may.1 on.1 group)

  nowhere_shown : (routed part : Bool) → routed ≡ not (destination_group frame == flood) → is_group (destination_of frame) ≡ true →
      MayEnd history (crossed_at t f) (if routed && part then cause.NoMember else cause.NoNextHop)
  nowhere_shown false part is group = tt
  nowhere_shown true false is group = tt
  nowhere_shown true true is group =
      let other : (destination_group frame == flood) ≡ false = not-true (destination_group frame == flood) (sym is) in
      ap (λ d. is_routed (group_of d)) (b.kept group) ∙ routed_group (group_of (destination_of frame)) other

  passes_group : (ports : List ℕ) (why : Cause) → AllByRecursion (MayReach v (pmac_of (source_of frame))) ports → AreWaysOn plan t (t ∷ f.leg) ports →
      is_group (destination_of frame) ≡ true → MayEnd history (crossed_at t f) why → Good (passes_or_drops ports frame why)
  passes_group [] why reach on group may = (may, tt)
  passes_group (p ∷ ports) why reach on group may = (may_spread p (peer_of plan t p) refl reach.0 on.0 group, spreads ports reach.1 on.1 group)

  pub group_good : is_group (destination_of frame) ≡ true → Good (forwards_group v (came_by v q) frame).acts
  group_good group = passes_group _ _ (group_ports_reach v (way_of v.place (came_by v q)) (destination_group frame) (pmac_of (source_of frame)))
      (ways_on plan is_plan t v trees knows.linked s q port from f.leg (b.rises group) (destination_group frame) (pmac_of (source_of frame))) group (nowhere_shown (not (destination_group frame == flood)) _ refl group)

  -- a frame to one host goes out by a candidate
  may_leave : (came : Came) (p : ℕ) (peer : Peer) → came_by v q ≡ Some came → is_placed v.place ≡ true →
      is_candidate v (destination frame) came p ≡ true → peer_of plan t p ≡ peer → is_host_port peer ≡ false → is_group (destination_of frame) ≡ false →
      MayLeave plan place history t p peer (crossed_at t f) frame
  may_leave came p (Switch u r) by placed leads peer linked one_host = record {
    last = refl;
    whole = refl;
    group = b.group;
    kept = b.kept;
    address = b.address;
    home = b.home;
    many = λ group. crossed_many (b.many group);
    rises = λ group. absurd (both_ways (is_group (destination_of frame)) one_host group);
    one = λ unicast. let w = b.one unicast in record {
      route = passes_on plan place t v is_plan places knows (destination frame) p u r peer s q port came from by placed leads f.leg w.route;
      unaltered = w.unaltered;
      sender = w.sender;
    };
  }
  may_leave came p HostPort by placed leads peer linked one_host = absurd (false≢true (sym linked))

  leaves : (choose : Choice) → IsChoice choose → is_group (destination_of frame) ≡ false → is_placed v.place ≡ true → (came : Option Came) → came_by v q ≡ came → (chosen : Option ℕ) →
      choose (candidates_by v (destination frame) came) frame ≡ chosen → Good (leaves_by v frame chosen).acts
  leaves choose is one_host placed came by None found = (tt, tt)
  leaves choose is one_host placed None by (Some p) found = let none = is.empty frame in absurd (cc)
  leaves choose is one_host placed (Some came) by (Some p) found =
      let leads = among_candidates v (destination frame) came p (chosen_among choose (candidates v (destination frame) came) frame p is found) in
      (may_leave came p (peer_of plan t p) by placed leads refl (knows.linked p (candidate_usable v (destination frame) came p leads)) one_host, tt)

  -- whatever comes from a neighbour, where what is done with a unicast frame for the switch's own hosts is good
  pub forward_good : (choose : Choice) → IsChoice choose →
      (is_group (destination_of frame) ≡ false → is_local v (destination frame) ≡ true → Good (arrives_home choose v frame).acts) →
      Good (comes_from_switch choose v q frame).acts
  forward_good choose is home =
      let G : SwitchStep → Type 0 = λ step. Good step.acts in
      cond_both (not (is_placed v.place) || is_none (place_at v q).level) _ _ G
      (λ unplaced. (tt, tt))
      (λ fine.
      let placed : is_placed v.place ≡ true = not-false (is_placed v.place) ((or_parts (not (is_placed v.place)) _ fine).0) in
      cond_both (is_group (destination_of frame)) _ _ G
      (λ group. group_good group)
      (λ unicast. cond_both (is_local v (destination frame)) _ _ G
      (λ own. home unicast own)
      (λ away. leaves choose is unicast placed (came_by v q) refl _ refl)))
