-- A frame of a host crosses the edge switch where the host stands.
use Rattle.std.proofs.Common.{◌≡◌, ℕ, ◌+◌, ◌==◌, false, List, [], ◌∷◌, Some, reverse, set, slice_get, option_map, refl, sym, ◌∙◌, ap, subst, arith}
use Rattle.std.specs.List.{AllByRecursion}
use Rattle.std.proofs.lemmas.Bool.{cond-true, eq-eqb}
use Rattle.pl_frame.specs.Ethernet.{destination_of}
use Rattle.pl_layouts.specs.declared.place.Place.{Place}
use Rattle.pl_layouts.specs.Frames.{mac_number}
use Rattle.pl_wiring.specs.Plan.{Plan}
use Rattle.pl_journal.specs.declared.entry.Entry.{Entry}
use Rattle.pl_journal.specs.declared.entry.Entry.TheVariants.{Crossed}
use Rattle.pl_journal.specs.Flights.{Flight, first_flight, flight_of, leg, sender, trail}
use Rattle.pl_journal.specs.Places.{at_port, granted_at, edge_port_of}
use Rattle.pl_queues.specs.Queues.{items_at}
use Rattle.pl_world.specs.declared.item.Item.{Item}
use Rattle.pl_world.specs.declared.item.Item.TheVariants.{Data}
use Rattle.pl_world.specs.declared.spoken_frame.SpokenFrame.TheVariants.{Waiting}
use Rattle.pl_world.specs.declared.attachment.AttachmentPoint.{AttachmentPoint}
use Rattle.pl_world.specs.Changes.{noted, switch_no}
use Rattle.pl_world.specs.Flying.{IsCounted, times_in}
use Rattle.pl_world.specs.Worlds.{WorldView}
use Rattle.pl_world.proofs.Exports.{Owes, sound, times_in-data, took_host_balance}
use Rattle.pl_law_flights.specs.OnTheWay.{IsJournaled, IsWaiting, JournalSays, history_of, place_in, edge_port_of_attachment}
use Rattle.pl_law_flights.proofs.Crossing.{well_alone}
use Rattle.pl_law_flights.proofs.Counting.{counts, owed}
use Rattle.pl_law_flights.proofs.Hands.{IsAmid}
use Rattle.pl_law_flights.proofs.Hands.Hand.{Waits}
use Rattle.pl_law_flights.proofs.KeepingFlights.{kept, same_history}
use Rattle.pl_law_flights.proofs.EntriesOfFlights.{note, reverse_noted}
use Rattle.pl_law_flights.proofs.Queues.{set_host}

-- a host's frame that has crossed its edge switch alone
abbrev pub come_in : List Entry → ℕ → ℕ → List ℕ → ℕ → ℕ → Flight
come_in past id h frame s port = record (first_flight id (Some h) frame (mac_number (destination_of frame))) {
  leg = s ∷ [];
  trail = s ∷ [];
  came_in = Some (at_port s port);
  source = granted_at past h (at_port s port);
}

first_crossing : (plan : Plan) (past : List Entry) (id h s port : ℕ) (frame : List ℕ) → flight_of plan past id ≡ first_flight id (Some h) frame (mac_number (destination_of frame)) →
    edge_port_of plan past h ≡ Some (at_port s port) → flight_of plan (Crossed id (switch_no s) ∷ past) id ≡ come_in past id h frame s port
first_crossing plan past id h s port frame flight at =
    let e = eq-eqb id id refl in
    let here = eq-eqb s s refl in
    let none : trail past id ≡ [] = ap (λ w. w.trail) flight in
    let by : sender past id ≡ Some h = ap (λ w. w.sender) flight in
    rw (e, none, by, at, here) (ap {A = Flight} (λ w. record w {
      sender = Some h;
      leg = s ∷ w.leg;
      trail = s ∷ [];
      came_in = Some (at_port s port);
      source = granted_at past h (at_port s port);
    }) flight)

abbrev pub taken_from : WorldView → ℕ → List Item → WorldView
taken_from w h items = record w { from_hosts = set w.from_hosts h items }

-- amid the step of the switch where a host's frame comes
pub enters : (w : WorldView) → IsCounted w → IsJournaled w → (h id : ℕ) (frame : List ℕ) (items : List Item) → items_at w.from_hosts h ≡ Data id frame ∷ items →
    (attachment : AttachmentPoint) → slice_get w.attachments h ≡ Some attachment →
    IsAmid (place_in w.switches) attachment.edge.0 (Waits (come_in (reverse w.journal) id h frame attachment.edge.0 attachment.port) false)
    (Crossed id (switch_no attachment.edge.0) ∷ reverse w.journal) (noted (taken_from w h items) (Crossed id (switch_no attachment.edge.0))) (Waiting id false) []
enters w counted told h id frame items head attachment found =
    let plan : Plan = w.plan in
    let past : List Entry = reverse w.journal in
    let place : ℕ → Place = place_in w.switches in
    let s : ℕ = attachment.edge.0 in
    let so = sound w counted in
    let all : AllByRecursion (IsWaiting plan past h) (Data id frame ∷ items) = subst (λ l. AllByRecursion (IsWaiting plan past h) l) head (told.flying.waiting h) in
    let owes : Owes (taken_from w h items) (λ i. times_in i (Data id frame ∷ [])) =
    took_host_balance plan w.from_hosts w.out w.journal w.begun (λ i. 0) (λ i. times_in i (Data id frame ∷ [])) h (Data id frame) items head (λ i. omega arith) so.balance in
    let here : times_in id (Data id frame ∷ []) ≡ 1 + 0 = times_in-data id id frame [] ∙ ap (λ n. n + 0) (cond-true (id == id) 1 0 (eq-eqb id id refl)) in
    let o = owed plan past (set w.from_hosts h items) w.out _ id 0 told.run (counts (taken_from w h items) past _ refl owes) here in
    let t : JournalSays plan place past w.links w.attachments (set w.from_hosts h items) w.out = record {
      run = told.run;
      trail = told.trail;
      links_agree = told.links_agree;
      attachments_agree = told.attachments_agree;
      flying = set_host plan place past w.from_hosts w.out h items all.1 told.flying;
    } in
    let at : edge_port_of plan past h ≡ Some (at_port s attachment.port) = sym (told.attachments_agree h) ∙ ap (option_map edge_port_of_attachment) found in
    let crossed : Entry = Crossed id (switch_no s) in
    let e = eq-eqb id id refl in
    record {
      is = reverse_noted w.journal past crossed refl;
      tells = note plan place past w.links w.attachments (set w.from_hosts h items) w.out crossed id (record { not_at_hosts = o.not_at_hosts; not_out = o.not_out })
          (λ g other. kept plan past crossed g other) (same_history (history_of past)) o.flies
          (well_alone plan past id s (ap (λ v. v.leg) all.0)) t.links_agree t.attachments_agree t;
      holds = (
        refl,
        record {
          in_hand = record { flight = first_crossing plan past id h s attachment.port frame all.0 at; live = λ u. rw e refl; last = refl; to = rw e refl };
          turned = tt;
        },
      );
      puts_off = tt;
    }
