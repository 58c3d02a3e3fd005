-- A switch that gets a sure frame over a link passes it on, and it is on its track still.
use Rattle.std.proofs.Common.{◌≡◌, ℕ, ◌<◌, ◌≤◌, Bool, true, false, List, [], ◌∷◌, ◌++◌, length, ◌%◌, Option, Some, None, is_none, option_map, slice_get, slice_index, eqb-true, refl, sym, ap, ◌∙◌, subst, inl, inr}
use Rattle.std.proofs.lemmas.Bool.{and_left}
use Rattle.std.proofs.lemmas.Option.{get_or_from_slice_get, same_Some, slice_get_within}
use Rattle.pl_frame.specs.declared.address.Mac.{Mac}
use Rattle.pl_frame.specs.Ethernet.{destination_of}
use Rattle.pl_pmac.specs.declared.pmac.Pmac.{Pmac}
use Rattle.pl_pmac.specs.Pmac.{pmac_of}
use Rattle.pl_wiring.specs.declared.host.Host.{Host}
use Rattle.pl_wiring.specs.declared.link.Peer.TheVariants.{HostPort}
use Rattle.pl_layouts.specs.declared.place.Place.{Place}
use Rattle.pl_layouts.specs.Control.{is_control}
use Rattle.pl_layouts.specs.Frames.{arriving}
use Rattle.pl_layouts.specs.Memberships.{is_group}
use Rattle.pl_layouts.specs.Placement.{is_known, is_placed}
use Rattle.pl_layouts.proofs.Exports.{destination_of-arriving}
use Rattle.pl_wiring.specs.Index.{port_index}
use Rattle.pl_wiring.specs.Labels.{switch_count}
use Rattle.pl_wiring.specs.Peers.{peer_of}
use Rattle.pl_wiring.specs.Plan.{IsHostMac, IsPlan, Plan}
use Rattle.pl_journal.specs.declared.entry.Entry.{Entry}
use Rattle.pl_journal.specs.Lossy.{mac_of_host}
use Rattle.pl_node.specs.declared.acts.Act.{Act}
use Rattle.pl_node.specs.declared.acts.Act.TheVariants.{Pass}
use Rattle.pl_node.specs.PortRecords.{is_open_to_hosts, place_at, port_of}
use Rattle.pl_node.specs.SwitchInputs.{SwitchInput}
use Rattle.pl_node.specs.SwitchInputs.SwitchInput.{Comes}
use Rattle.pl_node.specs.SwitchViews.{SwitchView}
use Rattle.pl_node.proofs.Exports.{IsAmong}
use Rattle.pl_steps.specs.Steps.{SwitchStep}
use Rattle.pl_switch_rule.specs.declared.came.Came.{Came}
use Rattle.pl_switch_rule.specs.declared.came.Came.TheVariants.{FromAbove, FromBelow}
use Rattle.pl_switch_rule.specs.Forwarding.{came_between, came_by, candidates_by}
use Rattle.pl_switch_rule.specs.Granting.{granted, is_local}
use Rattle.pl_switch_rule.specs.SwitchRule.{Loose}
use Rattle.pl_queues.specs.Queues.{items_at}
use Rattle.pl_world.specs.declared.item.Item.{Item}
use Rattle.pl_world.specs.declared.item.Item.TheVariants.{Data}
use Rattle.pl_world.specs.declared.spoken_frame.SpokenFrame.TheVariants.{Waiting}
use Rattle.pl_world.specs.WorldRule.{SwitchTurn}
use Rattle.pl_world.specs.Worlds.{WorldView}
use Rattle.pl_law_control_plane.specs.ControlPlanes.{control_plane}
use Rattle.pl_law_control_plane.proofs.Exports.{adjacent_there}
use Rattle.pl_law_addresses.specs.Registered.{IsRegisteredBy}
use Rattle.pl_law_arrival.specs.Ways.{Alike, HasPortOn, IsLast, IsTop, LeadsBy, fabric_of}
use Rattle.pl_law_arrival.proofs.Alike.{still_by}
use Rattle.pl_law_arrival.proofs.Calm.{place_of_port, turned}
use Rattle.pl_law_arrival.proofs.SureFramesEnter.{local_is_placed}
use Rattle.pl_law_arrival.proofs.Landing.{AreOfNoFrame, lands}
use Rattle.pl_law_arrival.proofs.SureFramesPassedOn.{ComesWell, arrives_over_link, chosen, goes_by}
use Rattle.pl_law_arrival.proofs.Ready.{Ready, at_edge, edge_within, free_port, home, index_within, live_port, local_there, net, view_is}
use Rattle.pl_law_arrival.proofs.RowsSendOn.{first_goes_on, last_goes_down, last_goes_up_and_down, top_goes_on}
use Rattle.pl_law_arrival.proofs.Track.{IsHeaded, IsOnTrack, still_headed}
use Rattle.pl_law_arrival.proofs.Track.IsHeaded.{FromEdge, FromFirst, FromLast, FromTop}
use Rattle.pl_law_arrival.proofs.Track.OnTrack.{Leaves, Under}
use Rattle.pl_law_arrival.proofs.ArrivalLemmas.{known_other}

some_is : {X : Type 0} (o : Option X) (y : X) → o ≡ Some y → is_none o ≡ false
some_is o y e = ap is_none e

placed_one : (v : SwitchView) (pod : ℕ) → v.place.level ≡ Some 1 → v.place.pod ≡ Some pod → is_placed v.place ≡ true
placed_one v pod level of_pod = rw (level, of_pod) refl

placed_two : (v : SwitchView) → v.place.level ≡ Some 2 → is_placed v.place ≡ true
placed_two v level = rw level refl

-- hosts have addresses of one host
pub host_address : (plan : Plan) → IsPlan plan → (g : ℕ) (host : Host) → slice_get plan.hosts g ≡ Some host → IsHostMac host.mac
host_address plan is g host found =
    let within = slice_get_within plan.hosts g host found in
    subst (λ (x : Host). IsHostMac x.mac) (get_or_from_slice_get plan.hosts g host host found) (is.host_macs g host within)

pub not_group : (mac : Mac) → IsHostMac mac → is_group mac ≡ false
not_group mac is = by (is_group mac) refl
  where
    by : (b : Bool) → is_group mac ≡ b → b ≡ false
    by true e = absurd (is.no_group (eqb-true (slice_index mac.0 0 % 2) 1 e))
    by false e = refl

-- the address of a host, with which a frame leaves for it
pub host_mac : (plan : Plan) (g : ℕ) (host : Host) → slice_get plan.hosts g ≡ Some host → mac_of_host plan g ≡ Some host.mac
host_mac plan g host is = ap (λ o. option_map (λ (x : Host). x.mac) o) is

module _ (old new : WorldView) (r : Ready old) (alike : Alike (fabric_of old) (fabric_of new)) (h g : ℕ) (x : Pmac) (id : ℕ) (to : IsRegisteredBy old g x) where
  abbrev pub end : ℕ
  end = to.attachment.edge.0

  -- a frame that lies behind a live link is under way
  pub is_under : (s p u : ℕ) (frame : List ℕ) → LeadsBy (fabric_of old) s p u → IsAmong (Data id frame) (items_at new.out (port_index old.plan.k s p)) → is_group (destination_of frame) ≡ false →
      pmac_of (destination_of frame) ≡ x → IsHeaded (fabric_of old) x.pod end s u → IsOnTrack new h g end x id
  is_under s p u frame l among one dest headed =
      Under s p u frame (still_by (fabric_of old) (fabric_of new) r.calm.is alike s p u l)
      (subst (λ (plan : Plan). IsAmong (Data id frame) (items_at new.out (port_index plan.k s p))) (sym alike.plan) among) one dest
      (still_headed (fabric_of old) (fabric_of new) r.calm.is alike x.pod end s p u l headed)

  -- amid the step: what waits and what was written may differ
  module _ (steps : ℕ) (heard : List (Option ℕ)) (from_hosts out : List (List Item)) (journal : List Entry) (many : length out ≡ length old.out) where
    abbrev pub mid : WorldView
    mid = record old { steps = steps; heard = heard; from_hosts = from_hosts; out = out; journal = journal }

    index_here : (s n : ℕ) → s < switch_count old.plan.k → n < old.plan.k → port_index old.plan.k s n < length out
    index_here s n there within = subst (λ m. port_index old.plan.k s n < m) (sym many) (index_within old r s n there within)

    -- a frame that the addressed edge switch puts out at the port of the host leaves for it
    pub leaves_for : (input : SwitchInput) (frame : List ℕ) (turn : SwitchTurn Loose mid end input (Waiting id false) new) (frameless : List Act) →
        turn.acts ≡ frameless ++ Pass x.port (arriving frame None (Some to.grant.amac)) ∷ [] → AreOfNoFrame frameless → 14 ≤ length frame → IsOnTrack new h g end x id
    leaves_for input frame turn frameless acts all long =
        let at = at_edge old r g x to in
        let sent = arriving frame None (Some to.grant.amac) in
        let free = subst (λ n. peer_of old.plan end n ≡ HostPort) (sym to.at_port) at.free in
        let within = subst (λ n. n < old.plan.k) (sym to.at_port) at.port in
        let among = lands Loose mid end input id x.port sent new turn frameless acts all (free_port old r end x.port free) (index_here end x.port (edge_within old r g x to) within) in
        let mac = ap (λ (m : Mac). m.0) to.by_host in
        let is_mac = host_address old.plan r.counted.formed.plan g to.host to.is in
        let six : length to.grant.amac.0 ≡ 6 = ap length mac ∙ is_mac.six_bytes in
        let dest : destination_of sent ≡ to.host.mac = destination_of-arriving frame None (Some to.grant.amac) long tt six ∙ to.by_host in
        Leaves sent (subst (λ (plan : Plan). IsAmong (Data id sent) (items_at new.out (port_index plan.k end x.port))) (sym alike.plan) among)
        (ap is_group dest ∙ not_group to.host.mac is_mac)
        (ap (λ (plan : Plan). mac_of_host plan g) alike.plan ∙ host_mac old.plan g to.host to.is ∙ ap Some (sym dest))

    module _ (s p u : ℕ) (frame : List ℕ) (l : LeadsBy (fabric_of old) s p u) (one : is_group (destination_of frame) ≡ false) (dest : pmac_of (destination_of frame) ≡ x)
        (data_frame : is_control frame ≡ false) (long : 14 ≤ length frame)
        (shut : (v : SwitchView) → slice_get old.switches u ≡ Some v → is_open_to_hosts (port_of v l.into) ≡ false)
        (turn : SwitchTurn Loose mid u (Comes l.into frame) (Waiting id false) new) where
      abbrev v : SwitchView
      v = turn.before

      view : (control_plane old).view u ≡ v
      view = view_is old r u v turn.found

      there : place_at v l.into ≡ ((control_plane old).view s).place
      there = ap (λ (w : SwitchView). place_at w l.into) (sym view) ∙ place_of_port (net old) r.calm u l.into s (turned (net old) r.calm s p u l)

      well : (level : ℕ) → ((control_plane old).view s).place.level ≡ Some level → is_placed v.place ≡ true → ComesWell v l.into frame
      well level at placed = record {
        data_frame = data_frame;
        shut = shut v turn.found;
        placed = placed;
        level = some_is (place_at v l.into).level level (ap (λ (q : Place). q.level) there ∙ at);
        unicast = one;
      }

      -- it goes on
      onward : (came : Came) (Kind : ℕ → Type 0) (low high : ℕ) → ((control_plane old).view s).place.level ≡ Some low → ((control_plane old).view u).place.level ≡ Some high → (high ≡ 0 → ⊥) →
          came_between (Some high) (Some low) ≡ Some came → is_placed ((control_plane old).view u).place ≡ true → HasPortOn (fabric_of old) ((control_plane old).view u) u x came Kind →
          ((a : ℕ) → Kind a → IsHeaded (fabric_of old) x.pod end u a) → IsOnTrack new h g end x id
      onward came Kind low high at_s at_u upper so placed goes headed =
          let choose = turn.ruled.choose in
          let goes_v = subst (λ (w : SwitchView). HasPortOn (fabric_of old) w u x came Kind) view goes in
          let c = chosen (fabric_of old) v u x came Kind choose frame turn.ruled.is_choice goes_v in
          let level_v : v.place.level ≡ Some high = ap (λ (w : SwitchView). w.place.level) (sym view) ∙ at_u in
          let elsewhere : is_local v (pmac_of (destination_of frame)) ≡ false =
          and_left (is_known v.place.level 0) _ (known_other v.place.level high 0 level_v upper) in
          let came_so : came_by v l.into ≡ Some came =
          ap (λ o. came_between o (place_at v l.into).level) level_v ∙ ap (came_between (Some high)) (ap (λ (q : Place). q.level) there ∙ at_s) ∙ so in
          let fine = well low at_s (subst (λ (w : SwitchView). is_placed w.place ≡ true) view placed) in
          let found = subst (λ y. choose (candidates_by v y (Some came)) frame ≡ Some c.0) (sym dest) c.2 in
          let step = goes_by choose v l.into frame fine came c.0 elsewhere came_so found in
          let acts = turn.ruled.steps.done ∙ ap (λ (y : SwitchStep). y.acts) step in
          let within = (adjacent_there old.plan u c.0 c.1 c.3.into r.calm.is c.3.adjacent) in
          let among = lands Loose mid u (Comes l.into frame) id c.0 frame new turn [] acts tt (live_port old r u c.0 c.1 c.3) (index_here u c.0 within.0 within.1) in
          is_under u c.0 c.1 frame c.3 among one dest (headed c.1 c.4)

      -- it has come to the addressed edge switch
      at_home : (low : ℕ) → ((control_plane old).view s).place.level ≡ Some low → u ≡ end → IsOnTrack new h g end x id
      at_home low at_s is =
          let same : v ≡ to.edge = same_Some v to.edge (sym turn.found ∙ ap (slice_get old.switches) is ∙ to.there) in
          let local = subst (λ (w : SwitchView). is_local w x ≡ true) (sym same) (local_there old r g x to) in
          let choose = turn.ruled.choose in
          let fine = well low at_s (local_is_placed v x local) in
          let step = arrives_over_link choose v l.into frame to.grant fine (subst (λ y. is_local v y ≡ true) (sym dest) local)
          (subst (λ y. granted v y ≡ Some to.grant) (sym dest) (ap (λ (w : SwitchView). granted w x) same ∙ to.found)) to.used in
          let acts = turn.ruled.steps.done ∙ ap (λ (y : SwitchStep). y.acts) step
          ∙ ap (λ (y : Pmac). Pass y.port (arriving frame None (Some to.grant.amac)) ∷ []) dest in
          moved u is (Comes l.into frame) turn acts
        where
          moved : (n : ℕ) → n ≡ end → (input : SwitchInput) (turned : SwitchTurn Loose mid n input (Waiting id false) new) →
              turned.acts ≡ Pass x.port (arriving frame None (Some to.grant.amac)) ∷ [] → IsOnTrack new h g end x id
          moved n same input turned acts =
              subst (λ m. (turned : SwitchTurn Loose mid m input (Waiting id false) new) → turned.acts ≡ Pass x.port (arriving frame None (Some to.grant.amac)) ∷ [] → IsOnTrack new h g end x id)
              (sym same) (λ turned acts. leaves_for input frame turned [] acts tt long) turned acts

      pub comes_on : IsHeaded (fabric_of old) x.pod end s u → IsOnTrack new h g end x id
      comes_on (FromEdge level (inl last)) =
          onward FromBelow (λ a. a ≡ end) 0 1 level last.level (λ e. absurd (cc e)) refl (placed_one ((control_plane old).view u) x.pod last.level last.pod_is)
          (last_goes_up_and_down (net old) r.calm x end (home old r g x to) u last) (λ a kind. FromLast last.level kind)
      comes_on (FromEdge level (inr first)) =
          onward FromBelow (IsTop (fabric_of old) x.pod end) 0 1 level first.level (λ e. absurd (cc e)) refl (placed_one ((control_plane old).view u) first.own first.level first.pod_is)
          (first_goes_on (net old) r.calm x end (home old r g x to) u first) (λ a kind. FromFirst first.level kind)
      comes_on (FromFirst level top) =
          onward FromBelow (IsLast (fabric_of old) x.pod end) 1 2 level top.level (λ e. absurd (cc e)) refl (placed_two ((control_plane old).view u) top.level)
          (top_goes_on (net old) r.calm x end (home old r g x to) u top) (λ a kind. FromTop top.level kind)
      comes_on (FromTop level last) =
          onward FromAbove (λ a. a ≡ end) 2 1 level last.level (λ e. absurd (cc e)) refl (placed_one ((control_plane old).view u) x.pod last.level last.pod_is)
          (last_goes_down (net old) r.calm x end (home old r g x to) u last) (λ a kind. FromLast last.level kind)
      comes_on (FromLast level home_is) = at_home 1 level home_is
