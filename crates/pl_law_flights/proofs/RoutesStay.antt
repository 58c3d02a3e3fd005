-- A route stays one where more is known of places.
use Rattle.std.proofs.Common.{inl, inr, ◌≡◌, ℕ, ◌||◌, ◌&&◌, Bool, true, List, [], ◌∷◌, Option, None, Some, is_some, refl, ◌∙◌, ap}
use Rattle.std.proofs.lemmas.Bool.{and_from, and_parts, eq-eqb, or_cases, or_left, or_right}
use Rattle.std.specs.List.{AllByRecursion}
use Rattle.pl_pmac.specs.declared.pmac.Pmac.{Pmac}
use Rattle.pl_layouts.specs.declared.place.Place.{Place}
use Rattle.pl_layouts.specs.Placement.{is_known, is_placed}
use Rattle.pl_layouts.proofs.Exports.{known_is}
use Rattle.pl_wiring.specs.declared.link.Peer.{Peer}
use Rattle.pl_wiring.specs.declared.link.Peer.TheVariants.{HostPort, Switch}
use Rattle.pl_wiring.specs.LiveLinks.{LivePorts}
use Rattle.pl_wiring.specs.Peers.{peer_of}
use Rattle.pl_wiring.specs.Plan.{Plan}
use Rattle.pl_journal.specs.declared.entry.Entry.{Entry}
use Rattle.pl_journal.specs.Flights.{addressee, Flight, flight_of, was_live}
use Rattle.pl_world.specs.declared.item.Item.{Item}
use Rattle.pl_world.specs.declared.item.Item.TheVariants.{Control, Data}
use Rattle.pl_world.specs.declared.attachment.AttachmentPoint.{AttachmentPoint}
use Rattle.pl_law_flights.specs.OnTheWay.{AddressHistory, IsBetweenSwitches, IsGoing, IsLeaving, IsOut, JournalSays, history_of}
use Rattle.pl_law_flights.specs.Routes.{IsOfOtherPod, Route}
use Rattle.pl_law_flights.specs.Routes.Route.{Climbs, Enters, Falls, Leaves, Turns}
use Rattle.pl_law_flights.specs.Standing.{IsMore}

module _ (place later : ℕ → Place) (more : IsMore place later) where
  other_pod_grown : (s : ℕ) (to : Pmac) → IsOfOtherPod (place s) to → IsOfOtherPod (later s) to
  other_pod_grown s to is = record { pod = is.pod; knows = more.pod s is.pod is.knows; another = is.another }

  some_number : (o : Option ℕ) → is_some o ≡ true → (n : ℕ) × (o ≡ Some n)
  some_number None there = absurd (cc)
  some_number (Some n) there = (n, refl)

  level_grown : (s n : ℕ) → is_known (place s).level n ≡ true → is_known (later s).level n ≡ true
  level_grown s n is = ap (λ o. is_known o n) (more.level s n (known_is (place s).level n is)) ∙ eq-eqb n n refl

  pod_grown : (s : ℕ) → is_some (place s).pod ≡ true → is_some (later s).pod ≡ true
  pod_grown s is = let some = some_number (place s).pod is in ap is_some (more.pod s some.0 some.1)

  position_grown : (s : ℕ) → is_some (place s).position ≡ true → is_some (later s).position ≡ true
  position_grown s is = let some = some_number (place s).position is in ap is_some (more.position s some.0 some.1)

  -- a placed switch is placed later
  pub placed_grown : (s : ℕ) → is_placed (place s) ≡ true → is_placed (later s) ≡ true
  placed_grown s is = elim (or_cases (is_known (place s).level 2 || (is_known (place s).level 1 && is_some (place s).pod)) _ is) [
    | inl above ↦ or_left (is_known (later s).level 2 || (is_known (later s).level 1 && is_some (later s).pod)) _
        (elim (or_cases (is_known (place s).level 2) (is_known (place s).level 1 && is_some (place s).pod) above) [
          | inl core ↦ or_left (is_known (later s).level 2) _ (level_grown s 2 core)
          | inr aggregation ↦
              let parts = and_parts (is_known (place s).level 1) (is_some (place s).pod) aggregation in
              or_right (is_known (later s).level 2) (is_known (later s).level 1 && is_some (later s).pod)
              (and_from (is_known (later s).level 1) (is_some (later s).pod) (level_grown s 1 parts.0) (pod_grown s parts.1))
        ])
    | inr edge ↦
        let parts = and_parts (is_known (place s).level 0 && is_some (place s).position) (is_some (place s).pod) edge in
        let first = and_parts (is_known (place s).level 0) (is_some (place s).position) parts.0 in
        or_right (is_known (later s).level 2 || (is_known (later s).level 1 && is_some (later s).pod)) _
        (and_from (is_known (later s).level 0 && is_some (later s).position) (is_some (later s).pod)
        (and_from (is_known (later s).level 0) (is_some (later s).position) (level_grown s 0 first.0) (position_grown s first.1)) (pod_grown s parts.1))
  ]

  pub route_grown : (k : ℕ) (to : Pmac) (leg : List ℕ) (s t : ℕ) → Route k place to leg s t → Route k later to leg s t
  route_grown k to leg s t (Climbs p i j at_s at_t is e) = Climbs p i j at_s at_t is (record {
    pod = e.pod;
    position = e.position;
    knows_pod = more.pod s e.pod e.knows_pod;
    knows_position = more.position s e.position e.knows_position;
    another = e.another;
  })
  route_grown k to leg s t (Leaves e p i j m at_e at_s at_t is other) = Leaves e p i j m at_e at_s at_t is (other_pod_grown s to other)
  route_grown k to leg s t (Falls e a p i j m q at_e at_a at_s at_t is other there) =
      Falls e a p i j m q at_e at_a at_s at_t is (other_pod_grown a to other) (more.pod t to.pod there)
  route_grown k to leg s t (Turns e p i j x at_e at_s at_t is other here there) =
      Turns e p i j x at_e at_s at_t is other (more.pod s to.pod here) (more.position t to.position there)
  route_grown k to leg s t (Enters e a c p i j m q x at_e at_a at_c at_s at_t is pods here there) =
      Enters e a c p i j m q x at_e at_a at_c at_s at_t is pods (more.pod s to.pod here) (more.position t to.position there)

  pub between_grown : (plan : Plan) (history : AddressHistory) (f : Flight) (live : Bool) (frame : List ℕ) (s t : ℕ) → IsBetweenSwitches plan place history f live frame s t →
      IsBetweenSwitches plan later history f live frame s t
  between_grown plan history f live frame s t b = record {
    last = b.last;
    whole = b.whole;
    group = b.group;
    kept = b.kept;
    address = b.address;
    home = λ there is. placed_grown there.edge (b.home there is);
    many = b.many;
    rises = b.rises;
    one = λ unicast. let w = b.one unicast in record { route = route_grown plan.k _ f.leg s t w.route; unaltered = w.unaltered; sender = w.sender };
  }

  pub leaving_grown : (plan : Plan) (to : Option ℕ) (history : AddressHistory) (f : Flight) (frame : List ℕ) (s port : ℕ) → IsLeaving plan place to history f frame s port →
      IsLeaving plan later to history f frame s port
  leaving_grown plan to history f frame s port b = record {
    last = b.last;
    group = b.group;
    kept = b.kept;
    home = λ there is. placed_grown there.edge (b.home there is);
    many = b.many;
    rises = b.rises;
    not_back = b.not_back;
    one = b.one;
  }

  going_grown : (plan : Plan) (past : List Entry) (s port : ℕ) (peer : Peer) (id : ℕ) (frame : List ℕ) → IsGoing plan place past s port peer id frame →
      IsGoing plan later past s port peer id frame
  going_grown plan past s port (Switch t q) id frame b = between_grown plan (history_of past) (flight_of plan past id) (was_live past id s t.0) frame s t.0 b
  going_grown plan past s port HostPort id frame is = leaving_grown plan (addressee past id) (history_of past) (flight_of plan past id) frame s port is

  all_grown : (plan : Plan) (past : List Entry) (s port : ℕ) (items : List Item) → AllByRecursion (IsOut plan place past s port) items →
      AllByRecursion (IsOut plan later past s port) items
  all_grown plan past s port [] all = tt
  all_grown plan past s port (Control frame ∷ items) all = (tt, all_grown plan past s port items all.1)
  all_grown plan past s port (Data id frame ∷ items) all =
      (going_grown plan past s port (peer_of plan s port) id frame all.0, all_grown plan past s port items all.1)

  pub tells_grown : (plan : Plan) (past : List Entry) (links : LivePorts) (attachments : List AttachmentPoint) (from_hosts out : List (List Item)) →
      JournalSays plan place past links attachments from_hosts out → JournalSays plan later past links attachments from_hosts out
  tells_grown plan past links attachments from_hosts out t = record {
    run = t.run;
    trail = t.trail;
    links_agree = t.links_agree;
    attachments_agree = t.attachments_agree;
    flying = record { waiting = t.flying.waiting; going = λ s port within. all_grown plan past s port _ (t.flying.going s port within) };
  }
