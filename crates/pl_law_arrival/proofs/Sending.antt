-- A sure frame of a host comes at its edge switch, which sends it on: it is on its track then.
use Rattle.std.proofs.Common.{◌≡◌, ℕ, ◌<◌, ◌≤◌, ◌||◌, Bool, true, false, List, [], ◌∷◌, ◌++◌, length, Option, Some, None, is_none, slice_get, refl, sym, ap, ◌∙◌, subst, true≢false}
use Rattle.std.proofs.lemmas.Bool.{or_right}
use Rattle.std.proofs.lemmas.Option.{same_Some}
use Rattle.pl_frame.specs.declared.address.Mac.{Mac}
use Rattle.pl_frame.specs.Ethernet.{destination_of, source_of}
use Rattle.pl_pmac.specs.declared.pmac.Pmac.{Pmac}
use Rattle.pl_pmac.specs.Pmac.{pmac_of}
use Rattle.pl_layouts.specs.Control.{is_control}
use Rattle.pl_layouts.specs.Frames.{arriving}
use Rattle.pl_layouts.specs.Memberships.{is_group}
use Rattle.pl_layouts.specs.Placement.{is_known}
use Rattle.pl_layouts.proofs.Exports.{destination_of-arriving}
use Rattle.pl_wiring.specs.declared.link.Peer.TheVariants.{HostPort}
use Rattle.pl_wiring.specs.Index.{port_index}
use Rattle.pl_wiring.specs.Labels.{edge_count, switch_count}
use Rattle.pl_wiring.specs.Peers.{peer_of}
use Rattle.pl_wiring.specs.Plan.{Plan}
use Rattle.pl_wiring.proofs.Exports.{label_of-edge}
use Rattle.pl_journal.specs.declared.entry.Entry.{Entry}
use Rattle.pl_node.specs.declared.acts.Act.{Act}
use Rattle.pl_node.specs.declared.acts.Act.TheVariants.{Pass}
use Rattle.pl_node.specs.PortRecords.{is_open_to_hosts, port_of}
use Rattle.pl_node.specs.SwitchInputs.SwitchInput.{Comes}
use Rattle.pl_node.specs.SwitchViews.{SwitchView}
use Rattle.pl_node.proofs.Exports.{IsAmong}
use Rattle.pl_steps.specs.Steps.{SwitchStep}
use Rattle.pl_switch_rule.specs.declared.came.Came.TheVariants.{FromHost}
use Rattle.pl_switch_rule.specs.Forwarding.{candidates_by}
use Rattle.pl_switch_rule.specs.Granting.{granted, is_local}
use Rattle.pl_switch_rule.specs.Intake.{sends_in, with_pmac}
use Rattle.pl_switch_rule.specs.SwitchRule.{Loose}
use Rattle.pl_queues.specs.Queues.{items_at}
use Rattle.pl_world.specs.declared.item.Item.{Item}
use Rattle.pl_world.specs.declared.item.Item.TheVariants.{Data}
use Rattle.pl_world.specs.declared.spoken_frame.SpokenFrame.TheVariants.{Waiting}
use Rattle.pl_world.specs.Changes.{is_failed_at}
use Rattle.pl_world.specs.WorldRule.{SwitchTurn}
use Rattle.pl_world.specs.Worlds.{WorldView}
use Rattle.pl_law_control_plane.proofs.Exports.{adjacent_there}
use Rattle.pl_law_arrival.specs.Reach.{IsUnicastTo, Reaches}
use Rattle.pl_law_addresses.specs.Registered.{IsRegisteredBy}
use Rattle.pl_law_arrival.specs.Ways.{HasPortOn, LeadsDown, fabric_of}
use Rattle.pl_law_arrival.proofs.SureFramesEnter.{HasInUse, destination_kept, enters, length_kept, sends_home, sends_on}
use Rattle.pl_law_arrival.proofs.Landing.{AreOfNoFrame, lands, same_failed}
use Rattle.pl_law_arrival.proofs.Onward.{host_address, host_mac, not_group}
use Rattle.pl_law_arrival.proofs.SureFramesPassedOn.{chosen}
use Rattle.pl_law_arrival.proofs.Ready.{Ready, at_edge, edge_is, edge_within, free_port, home, index_within, live_port, local_there, net, one_edge, view_is}
use Rattle.pl_law_arrival.proofs.RowsSendOn.{edge_goes_on}
use Rattle.pl_law_arrival.proofs.Starting.{starts}
use Rattle.pl_law_arrival.proofs.LeftByAStep.{Goes, goes_switch}
use Rattle.pl_law_arrival.proofs.Track.{IsOnTrack}
use Rattle.pl_law_arrival.proofs.Track.IsHeaded.{FromEdge}
use Rattle.pl_law_arrival.proofs.Track.OnTrack.{Leaves, Under}
use Rattle.pl_law_arrival.proofs.Views.{view_after}
use Rattle.pl_journal.specs.Flights.{label_level}

no_upper : (o : Option ℕ) → ((y : ℕ) → o ≡ Some y → y ≡ 0) → (is_known o 1 || is_known o 2) ≡ false
no_upper None zero = refl
no_upper (Some y) zero = let is = zero y refl in subst (λ n. (is_known (Some n) 1 || is_known (Some n) 2) ≡ false) (sym is) refl

module _ (old new : WorldView) (r : Ready old) (ahead : Ready new) (h g : ℕ) (x : Pmac) (id : ℕ) (reached : Reaches new h g x) where
  abbrev from : IsRegisteredBy new h reached.from.0
  from = reached.from.1

  abbrev to : IsRegisteredBy new g x
  to = reached.to

  abbrev here : ℕ
  here = from.attachment.edge.0

  abbrev end : ℕ
  end = to.attachment.edge.0

  module _ (steps : ℕ) (heard : List (Option ℕ)) (from_hosts out : List (List Item)) (journal : List Entry) (many : length out ≡ length old.out) where
    abbrev mid : WorldView
    mid = record old { steps = steps; heard = heard; from_hosts = from_hosts; out = out; journal = journal }

    module _ (frame : List ℕ) (to_one_host : IsUnicastTo frame x) (data_frame : is_control frame ≡ false) (long : 14 ≤ length frame) (own : source_of frame ≡ from.host.mac)
        (turn : SwitchTurn Loose mid here (Comes from.attachment.port frame) (Waiting id false) new) where
      goes : Goes mid new
      goes = goes_switch Loose mid here (Comes from.attachment.port frame) (Waiting id false) new turn

      abbrev v : SwitchView
      v = turn.before

      -- the switch knows then what it knows at the sure moment
      after_is : turn.after ≡ from.edge
      after_is = same_Some turn.after from.edge (sym (view_after Loose mid here (Comes from.attachment.port frame) (Waiting id false) new turn) ∙ from.there)

      in_use : HasInUse from.edge from.attachment.port (source_of frame)
      in_use = record { address = reached.from.0; grant = from.grant; found = from.found; at_port = from.at_port; used = from.used; to = from.by_host ∙ sym own }

      abbrev sent : List ℕ
      sent = with_pmac from.edge from.attachment.port frame

      sent_to : destination_of sent ≡ destination_of frame
      sent_to = destination_kept from.edge from.attachment.port frame long

      one : is_group (destination_of sent) ≡ false
      one = ap is_group sent_to ∙ to_one_host.unicast

      dest : pmac_of (destination_of sent) ≡ x
      dest = ap pmac_of sent_to ∙ to_one_host.to

      -- what it did
      pub record IsSentIn : Type 0 where
        pub frameless : List Act
        pub all : AreOfNoFrame frameless
        pub acts : turn.acts ≡ frameless ++ (sends_in turn.ruled.choose sent from.edge).acts

      sent_in : IsSentIn
      sent_in =
          let at = at_edge new ahead h reached.from.0 from in
          let k : old.plan.k ≡ new.plan.k = ap (λ (p : Plan). p.k) (sym goes.plan) in
          let free : peer_of old.plan here from.attachment.port ≡ HostPort = subst (λ (p : Plan). peer_of p here from.attachment.port ≡ HostPort) goes.plan at.free in
          let unheard = r.calm.strangers here from.attachment.port free in
          let view = view_is old r here v turn.found in
          let accepts : is_open_to_hosts (port_of v from.attachment.port) ≡ true =
          or_right (port_of v from.attachment.port).host (is_none (port_of v from.attachment.port).heard)
          (ap (λ (u : SwitchView). is_none (port_of u from.attachment.port).heard) (sym view) ∙ ap is_none unheard) in
          let low : here < edge_count old.plan.k = subst (λ n. here < edge_count n) (sym k) at.edge in
          let edge = no_upper v.place.level (λ y e. (r.calm.own here).level y (ap (λ (u : SwitchView). u.place.level) view ∙ e) ∙ ap label_level (label_of-edge old.plan.k here low)) in
          let u = turn.ruled.steps.view in
          let used = subst (λ w. HasInUse w from.attachment.port (source_of frame)) (sym after_is ∙ u) in_use in
          let e = enters turn.ruled.choose from.attachment.port frame to_one_host.readable to_one_host.not_taken v data_frame accepts edge used in
          record {
            frameless = e.frameless;
            all = e.all;
            acts = turn.ruled.steps.done ∙ e.acts ∙ ap (λ w. e.frameless ++ (sends_in turn.ruled.choose (with_pmac w from.attachment.port frame) w).acts) (sym u ∙ after_is);
          }

      -- the frame is put out at a port that is not failed
      put_out : (n : ℕ) (f : List ℕ) → (sends_in turn.ruled.choose sent from.edge).acts ≡ Pass n f ∷ [] → is_failed_at new here n ≡ false → n < new.plan.k →
          IsAmong (Data id f) (items_at new.out (port_index new.plan.k here n))
      put_out n f acts live within =
          let k : old.plan.k ≡ new.plan.k = ap (λ (p : Plan). p.k) (sym goes.plan) in
          let there = edge_within new ahead h reached.from.0 from in
          let inside : port_index old.plan.k here n < length out =
          subst (λ m. port_index old.plan.k here n < m) (sym many) (index_within old r here n (subst (λ m. here < switch_count m) (sym k) there) (subst (λ m. n < m) (sym k) within)) in
          let among = lands Loose mid here (Comes from.attachment.port frame) id n f new turn sent_in.frameless (sent_in.acts ∙ ap (λ a. sent_in.frameless ++ a) acts) sent_in.all
          (sym (same_failed mid new here n goes) ∙ live) inside in
          subst (λ m. IsAmong (Data id f) (items_at new.out (port_index m here n))) k among

      -- to another host of the same edge switch
      to_neighbour : is_local from.edge x ≡ true → IsOnTrack new h g end x id
      to_neighbour local =
          let same : here ≡ end = one_edge new ahead g x to here from.edge from.there local in
          let edge : from.edge ≡ to.edge = same_Some from.edge to.edge (sym from.there ∙ ap (slice_get new.switches) same ∙ to.there) in
          let granted_here = subst (λ y. granted from.edge y ≡ Some to.grant) (sym dest) (ap (λ (w : SwitchView). granted w x) edge ∙ to.found) in
          let step = sends_home turn.ruled.choose from.edge sent one to.grant (subst (λ y. is_local from.edge y ≡ true) (sym dest) local) granted_here to.used in
          let leaving = arriving sent None (Some to.grant.amac) in
          let acts = ap (λ (s : SwitchStep). s.acts) step ∙ ap (λ (y : Pmac). Pass y.port leaving ∷ []) dest in
          let at = at_edge new ahead g x to in
          let free : peer_of new.plan here x.port ≡ HostPort = subst (λ n. peer_of new.plan n x.port ≡ HostPort) (sym same) (subst (λ n. peer_of new.plan end n ≡ HostPort) (sym to.at_port) at.free) in
          let among = put_out x.port leaving acts (free_port new ahead here x.port free) (subst (λ n. n < new.plan.k) (sym to.at_port) at.port) in
          let is_mac = host_address new.plan ahead.counted.formed.plan g to.host to.is in
          let six : length to.grant.amac.0 ≡ 6 = ap (λ (m : Mac). length m.0) to.by_host ∙ is_mac.six_bytes in
          let sent_long : 14 ≤ length sent = subst (λ m. 14 ≤ m) (sym (length_kept from.edge from.attachment.port frame long)) long in
          let arrives : destination_of leaving ≡ to.host.mac = destination_of-arriving sent None (Some to.grant.amac) sent_long tt six ∙ to.by_host in
          Leaves leaving (subst (λ n. IsAmong (Data id leaving) (items_at new.out (port_index new.plan.k n x.port))) same among)
          (ap is_group arrives ∙ not_group to.host.mac is_mac) (host_mac new.plan g to.host to.is ∙ ap Some (sym arrives))

      -- to another edge switch
      away : is_local from.edge x ≡ false → IsOnTrack new h g end x id
      away elsewhere =
          let own_home = home new ahead h reached.from.0 from in
          let goal = home new ahead g x to in
          let differ : here ≡ end → ⊥ = λ same.
          let edge : from.edge ≡ to.edge = same_Some from.edge to.edge (sym from.there ∙ ap (slice_get new.switches) same ∙ to.there) in
          true≢false (sym (local_there new ahead g x to) ∙ ap (λ (w : SwitchView). is_local w x) (sym edge) ∙ elsewhere) in
          let first = starts (net new) ahead.calm x end goal here reached.from.0.pod own_home.level own_home.pod to.attachment.edge reached.path from.attachment.edge refl refl differ reached.adjacent in
          let view = edge_is new ahead h reached.from.0 from in
          let ways = edge_goes_on (net new) ahead.calm x end goal here reached.from.0.pod first.0 own_home.level own_home.pod
          (ap (λ (w : SwitchView). is_local w x) view ∙ elsewhere) first.1 first.2 in
          let goes_from = subst (λ (w : SwitchView). HasPortOn (fabric_of new) w here x FromHost (LeadsDown (fabric_of new) x.pod end)) view ways in
          let c = chosen (fabric_of new) from.edge here x FromHost (LeadsDown (fabric_of new) x.pod end) turn.ruled.choose sent turn.ruled.is_choice goes_from in
          let found = subst (λ y. turn.ruled.choose (candidates_by from.edge y (Some FromHost)) sent ≡ Some c.0) (sym dest) c.2 in
          let step = sends_on turn.ruled.choose from.edge sent one c.0 (subst (λ y. is_local from.edge y ≡ false) (sym dest) elsewhere) found in
          let within = (adjacent_there new.plan here c.0 c.1 c.3.into ahead.calm.is c.3.adjacent).1 in
          let among = put_out c.0 sent (ap (λ (s : SwitchStep). s.acts) step) (live_port new ahead here c.0 c.1 c.3) within in
          Under here c.0 c.1 sent c.3 among one dest (FromEdge own_home.level c.4)

      pub sends_out : IsOnTrack new h g end x id
      sends_out = by (is_local from.edge x) refl
        where
          by : (b : Bool) → is_local from.edge x ≡ b → IsOnTrack new h g end x id
          by true e = to_neighbour e
          by false e = away e
