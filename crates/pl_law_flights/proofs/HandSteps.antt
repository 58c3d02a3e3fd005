-- What befalls the frame in hand: it crosses the switch again, ends, is redirected, is passed on, is copied; and one is made.
use Rattle.std.proofs.Common.{◌≡◌, ℕ, ◌+◌, ◌<◌, ◌==◌, not, Bool, true, false, if◌then◌else◌, IsSome, List, [], ◌∷◌, ◌++◌, length, reverse, Option, None, Some, get_or, set, refl, sym, ◌∙◌, ap, subst, arith, append-nil}
use Rattle.std.specs.List.{AllByRecursion}
use Rattle.std.proofs.lemmas.Bool.{and_from, and_parts, both_ways, cond-true, eq-eqb, ne_eqb, or_left, or_right}
use Rattle.pl_frame.specs.Ethernet.{destination_of}
use Rattle.pl_pmac.specs.declared.pmac.Pmac.{Pmac}
use Rattle.pl_pmac.specs.Pmac.{pmac_number}
use Rattle.pl_wiring.specs.Index.{port_index}
use Rattle.pl_wiring.specs.Peers.{peer_of}
use Rattle.pl_wiring.specs.Plan.{IsPlan, Plan}
use Rattle.pl_layouts.specs.declared.place.Place.{Place}
use Rattle.pl_layouts.specs.Frames.{is_takeable, mac_number}
use Rattle.pl_layouts.specs.Memberships.{group_of, is_group}
use Rattle.pl_journal.specs.declared.cause.Cause.{Cause}
use Rattle.pl_journal.specs.declared.cause.Cause.TheVariants as cause
use Rattle.pl_journal.specs.declared.entry.Entry.{Entry}
use Rattle.pl_journal.specs.declared.entry.Entry.TheVariants.{Copied, Crossed, Dropped, Made, Redirected, Taken}
use Rattle.pl_journal.specs.Causes.{CauseShows, came_in_at_spent_port, is_bad_arp, is_routed}
use Rattle.pl_journal.specs.Flights.{Flight, begun, ends, first_flight, first_of, flight_of, is_begun, is_empty, is_flying, is_redirected, leg, sender, trail, address}
use Rattle.pl_journal.specs.Lossy.{GoesToNewer, IsTakenBy, is_turning}
use Rattle.pl_journal.specs.Places.{EdgePort, at_port}
use Rattle.pl_journal.proofs.Exports.{ends_after_it_begins, flight_made, flying_is_begun, live_one, next_is_new}
use Rattle.pl_world.specs.declared.item.Item.TheVariants.{Data}
use Rattle.pl_world.specs.declared.spoken_frame.SpokenFrame.{SpokenFrame}
use Rattle.pl_world.specs.declared.spoken_frame.SpokenFrame.TheVariants.{Over, Passed, Waiting}
use Rattle.pl_world.specs.Changes.{is_failed_at, switch_no}
use Rattle.pl_world.specs.Worlds.{WorldView}
use Rattle.pl_world.specs.Flying.{born}
use Rattle.pl_world.proofs.Exports.{begun_cons, one}
use Rattle.pl_law_flights.specs.OnTheWay.{JournalSays, history_of}
use Rattle.pl_law_flights.proofs.Crossing.{well_alone}
use Rattle.pl_law_flights.proofs.Counting.{Counts, IsNowhere, IsOwed, next_nowhere, next_unborn, owed}
use Rattle.pl_law_flights.proofs.Hands.{Hand, InHand, IsAmid, IsHeld, IsPutOff, IsSpentThere, MayEnd, MayLeave, MayTake, MayTurn, again_past, made_here, turned}
use Rattle.pl_law_flights.proofs.Hands.Hand.{Empty, Spreads, Waits}
use Rattle.pl_law_flights.proofs.KeepingFlights.{kept, same_history}
use Rattle.pl_law_flights.proofs.EntriesOfFlights.{grown, late_kept, late_written, note, note_drop, reverse_grown, reverse_noted}
use Rattle.pl_law_flights.proofs.FlightsLeaveByPorts.{goes_out_journaled}
use Rattle.pl_law_flights.proofs.Granting.{live_holds, not_live}

pub crossed_first : (switches : List ℕ) (s : ℕ) → first_of switches ≡ Some s → is_empty switches ≡ false
crossed_first [] s is = absurd (cc)
crossed_first (x ∷ switches) s is = refl

spent_shown : (past : List Entry) (o : Option EdgePort) → IsSpentThere (history_of past) o → came_in_at_spent_port past o ≡ true
spent_shown past None may = absurd may
spent_shown past (Some there) may = may

turning : (switches : List ℕ) (redirected : Bool) (s port : ℕ) (there : Option EdgePort) → first_of switches ≡ Some s → there ≡ Some (at_port s port) →
    is_turning switches redirected there ≡ true
turning [] redirected s port there first at = absurd (cc)
turning (x ∷ switches) redirected s port there first at = let same : x ≡ s = cc in rw at (eq-eqb x s same)

pub again_history : (s id : ℕ) (again : Bool) (past : List Entry) → history_of (again_past s id again past) ≡ history_of past
again_history s id true past = refl
again_history s id false past = refl

pub begun_grown : (late past : List Entry) → begun (grown late past) ≡ begun late + begun past
begun_grown [] past = omega arith
begun_grown (e ∷ late) past = omega (arith, begun_grown late (e ∷ past), begun_cons e late, begun_cons e past)

module _ (plan : Plan) (s : ℕ) where
  -- the cause is shown
  shown : (past : List Entry) (id : ℕ) (f : Flight) (why : Cause) → InHand plan s f past id → MayEnd (history_of past) f why → CauseShows plan past id why
  shown past id f cause.NotPlaced h may = ap not (crossed_first (trail past id) s (ap (λ w. first_of w.trail) h.flight ∙ h.last))
  shown past id f cause.NoNextHop h may = ap not (crossed_first (trail past id) s (ap (λ w. first_of w.trail) h.flight ∙ h.last))
  shown past id f cause.Lost h may = ap not (crossed_first (trail past id) s (ap (λ w. first_of w.trail) h.flight ∙ h.last))
  shown past id f cause.NoAddress h may = not_live past (address past id) (ap (λ w. (history_of past).hold w.address) h.flight ∙ may)
  shown past id f cause.HostGone h may = absurd may
  shown past id f cause.LinkDown h may = absurd may
  shown past id f cause.Spent h may = ap (λ w. came_in_at_spent_port past w.came_in) h.flight ∙ spent_shown past f.came_in may
  shown past id f cause.BadArp h may = (ap (λ w. length w.trail) h.flight ∙ may.0, ap (λ w. is_bad_arp w.beginning) h.flight ∙ may.1)
  shown past id f cause.NoMember h may = ap (λ w. is_routed (group_of (destination_of w.beginning))) h.flight ∙ may

  -- it is redirected, and will cross the switch again
  turned_held : (past : List Entry) (id : ℕ) (f : Flight) (again : Bool) (old new : Pmac) → IsHeld plan s f past id again →
      IsHeld plan s (turned s f again new) (Redirected id old new ∷ past) id true
  turned_held past id f false old new h =
      let e = eq-eqb id id refl in
      let some : is_empty (trail past id) ≡ false = crossed_first (trail past id) s (ap (λ w. first_of w.trail) h.in_hand.flight ∙ h.in_hand.last) in
      record {
        in_hand = record {
          flight = rw (e, some) (ap {A = Flight} (λ w. record w { address = pmac_number new; redirected = true; leg = s ∷ []; trail = s ∷ w.trail }) h.in_hand.flight);
          live = λ t. rw e refl;
          last = refl;
          to = rw e refl;
        };
        turned = (rw e refl, rw e refl, some);
      }
  turned_held past id f true old new h =
      let e = eq-eqb id id refl in
      let some : is_empty (trail past id) ≡ false = h.turned.2 in
      let flight = rw (e, some) at h.in_hand.flight in
      record {
        in_hand = record {
          flight = rw (e, some) (ap {A = Flight} (λ w. record w { address = pmac_number new; redirected = true; leg = s ∷ [] }) flight);
          live = λ t. rw e refl;
          last = h.in_hand.last;
          to = rw e refl;
        };
        turned = (rw e refl, rw e refl, some);
      }

  goes_newer : (past : List Entry) (id : ℕ) (f : Flight) (again : Bool) (old new : Pmac) → IsHeld plan s f past id again →
      MayTurn (history_of past) s f old new → GoesToNewer past id old new
  goes_newer past id f false old new h may = record {
    present = ap (λ w. w.address) h.in_hand.flight ∙ may.present;
    live = (live_one past (pmac_number old) may.host may.held, live_one past (pmac_number new) may.host (may.same_host ∙ may.held));
    same_host = live_holds past (pmac_number new) may.host (may.same_host ∙ may.held) ∙ sym (live_holds past (pmac_number old) may.host may.held);
    newer = may.newer;
    turns = turning (leg past id) (is_redirected past id) s may.port _ (ap (λ w. first_of w.leg) h.in_hand.flight ∙ may.reached) may.here;
  }
  goes_newer past id f true old new h may = record {
    present = ap (λ w. w.address) h.in_hand.flight ∙ may.present;
    live = (live_one past (pmac_number old) may.host may.held, live_one past (pmac_number new) may.host (may.same_host ∙ may.held));
    same_host = live_holds past (pmac_number new) may.host (may.same_host ∙ may.held) ∙ sym (live_holds past (pmac_number old) may.host may.held);
    newer = may.newer;
    turns = rw (h.turned.0) (h.turned.1);
  }

  made_crosses : (past : List Entry) (n to : ℕ) (frame : List ℕ) → flight_of plan past n ≡ first_flight n None frame to →
      flight_of plan (Crossed n (switch_no s) ∷ past) n ≡ record (first_flight n None frame to) { leg = s ∷ []; trail = s ∷ [] }
  made_crosses past n to frame flight =
      let e = eq-eqb n n refl in
      let none : trail past n ≡ [] = ap (λ w. w.trail) flight in
      let by : sender past n ≡ None = ap (λ w. w.sender) flight in
      rw (e, none, by) (ap {A = Flight} (λ w. record w { sender = None; leg = s ∷ w.leg; trail = s ∷ []; came_in = None; source = None }) flight)

module _ (place : ℕ → Place) (s : ℕ) (w : WorldView) where
  -- it has crossed the switch (again)
  pub record Again (again : Bool) (id : ℕ) (past late : List Entry) : Type 0 where
    pub is : reverse (w.journal ++ (if again then Crossed id (switch_no s) ∷ [] else [])) ≡ again_past s id again past
    pub tells : JournalSays w.plan place (again_past s id again past) w.links w.attachments w.from_hosts w.out
    pub puts_off : AllByRecursion (IsPutOff w.plan (again_past s id again past) s) late
    pub flies : is_flying (again_past s id again past) id ≡ true
    pub away : IsNowhere w.from_hosts w.out id

  pub cross_again : (again : Bool) (id : ℕ) (f : Flight) (past late : List Entry) → Counts past w.from_hosts w.out (λ i. one id i + ends late i) →
      reverse w.journal ≡ past → JournalSays w.plan place past w.links w.attachments w.from_hosts w.out → IsHeld w.plan s f past id again →
      AllByRecursion (IsPutOff w.plan past s) late → Again again id past late
  cross_again again id f past late c is t held all =
      let here : one id id + ends late id ≡ 1 + ends late id = ap (λ n. n + ends late id) (cond-true (id == id) 1 0 (eq-eqb id id refl)) in
      let o = owed w.plan past w.from_hosts w.out (λ i. one id i + ends late i) id (ends late id) t.run c here in
      by_again again o held
    where
      by_again : (again : Bool) → IsOwed past w.from_hosts w.out id (ends late id) → IsHeld w.plan s f past id again → Again again id past late
      by_again false o held = record {
        is = ap reverse (append-nil w.journal) ∙ is;
        tells = t;
        puts_off = all;
        flies = o.flies;
        away = record { not_at_hosts = o.not_at_hosts; not_out = o.not_out };
      }
      by_again true o held =
          let away : IsNowhere w.from_hosts w.out id = record { not_at_hosts = o.not_at_hosts; not_out = o.not_out } in
          record {
            is = reverse_noted w.journal past (Crossed id (switch_no s)) is;
            tells = note w.plan place past w.links w.attachments w.from_hosts w.out (Crossed id (switch_no s)) id away
                (λ g other. kept w.plan past (Crossed id (switch_no s)) g other) (same_history (history_of past)) (o.flies)
                (well_alone w.plan past id s held.turned.0)
                t.links_agree t.attachments_agree t;
            puts_off = late_kept w.plan place past (Crossed id (switch_no s) ∷ past) s id (λ g other. kept w.plan past (Crossed id (switch_no s)) g other)
                refl late o.no_more all;
            flies = o.flies;
            away = away;
          }

  -- it is dropped
  pub drop_journaled : (again : Bool) (id : ℕ) (f : Flight) (past late : List Entry) (why : Cause) → Again again id past late → ends late id ≡ 0 →
      IsHeld w.plan s f past id again → MayEnd (history_of (again_past s id again past)) f why →
      IsAmid place s Empty (Dropped id why ∷ again_past s id again past)
      (record w { journal = (w.journal ++ (if again then Crossed id (switch_no s) ∷ [] else [])) ++ Dropped id why ∷ [] }) Over late
  drop_journaled again id f past late why a none held may =
      let now : List Entry = again_past s id again past in
      record {
        is = reverse_noted (w.journal ++ (if again then Crossed id (switch_no s) ∷ [] else [])) now (Dropped id why) a.is;
        tells = note_drop w.plan place now w.links w.attachments w.from_hosts w.out id why a.away a.flies (shown w.plan s now id f why held.in_hand may) a.tells;
        holds = tt;
        puts_off = late_kept w.plan place now (Dropped id why ∷ now) s id (λ g other. kept w.plan now (Dropped id why) g tt) refl late none a.puts_off;
      }

  -- the switch takes it
  pub take_journaled : (again : Bool) (id : ℕ) (f : Flight) (past late : List Entry) → Again again id past late → ends late id ≡ 0 →
      IsHeld w.plan s f past id again → MayTake s f →
      IsAmid place s Empty (Taken id (switch_no s) ∷ again_past s id again past)
      (record w { journal = (w.journal ++ (if again then Crossed id (switch_no s) ∷ [] else [])) ++ Taken id (switch_no s) ∷ [] }) Over late
  take_journaled again id f past late a none held may =
      let now : List Entry = again_past s id again past in
      let flight : flight_of w.plan now id ≡ f = held.in_hand.flight in
      let taken : IsTakenBy now id s = record {
        of_host = subst (λ (o : Option ℕ). IsSome o) (sym (ap (λ v. v.sender) flight)) may.of_host;
        alone = ap (λ v. v.leg) flight ∙ may.alone;
        takeable = ap (λ v. is_takeable v.beginning) flight ∙ may.takeable;
      } in
      record {
        is = reverse_noted (w.journal ++ (if again then Crossed id (switch_no s) ∷ [] else [])) now (Taken id (switch_no s)) a.is;
        tells = note w.plan place now w.links w.attachments w.from_hosts w.out (Taken id (switch_no s)) id a.away
            (λ g other. kept w.plan now (Taken id (switch_no s)) g tt) (same_history (history_of now)) (a.flies, taken) tt a.tells.links_agree a.tells.attachments_agree a.tells;
        holds = tt;
        puts_off = late_kept w.plan place now (Taken id (switch_no s) ∷ now) s id (λ g other. kept w.plan now (Taken id (switch_no s)) g tt) refl late none a.puts_off;
      }

  -- it is redirected
  pub turn_journaled : (again : Bool) (id : ℕ) (f : Flight) (past late : List Entry) (old new : Pmac) → Counts past w.from_hosts w.out (λ i. one id i + ends late i) →
      IsAmid place s (Waits f again) past w (Waiting id again) late → MayTurn (history_of past) s f old new →
      IsAmid place s (Waits (turned s f again new) true) (Redirected id old new ∷ past)
      (record w { journal = w.journal ++ Redirected id old new ∷ [] }) (Waiting id true) late
  turn_journaled again id f past late old new c a may =
      let here : one id id + ends late id ≡ 1 + ends late id = ap (λ n. n + ends late id) (cond-true (id == id) 1 0 (eq-eqb id id refl)) in
      let o = owed w.plan past w.from_hosts w.out (λ i. one id i + ends late i) id (ends late id) a.tells.run c here in
      record {
        is = reverse_noted w.journal past (Redirected id old new) a.is;
        tells = note w.plan place past w.links w.attachments w.from_hosts w.out (Redirected id old new) id
            (record { not_at_hosts = o.not_at_hosts; not_out = o.not_out }) (λ g other. kept w.plan past (Redirected id old new) g other)
            (same_history (history_of past)) (o.flies, goes_newer w.plan s past id f again old new (a.holds.1) may) tt a.tells.links_agree a.tells.attachments_agree a.tells;
        holds = (refl, turned_held w.plan s past id f again old new (a.holds.1));
        puts_off = late_kept w.plan place past (Redirected id old new ∷ past) s id (λ g other. kept w.plan past (Redirected id old new) g other)
            refl late o.no_more a.puts_off;
      }

  -- it is passed on
  pub pass_journaled : (again : Bool) (id port : ℕ) (f : Flight) (frame : List ℕ) (past late : List Entry) → IsPlan w.plan → port < w.plan.k →
      Again again id past late → IsHeld w.plan s f past id again →
      MayLeave w.plan place (history_of (again_past s id again past)) s port (peer_of w.plan s port) f frame →
      IsAmid place s (Spreads f) (again_past s id again past) (record w {
        journal = w.journal ++ (if again then Crossed id (switch_no s) ∷ [] else []);
        out = if is_failed_at w s port then w.out
            else set w.out (port_index w.plan.k s port) (get_or w.out (port_index w.plan.k s port) [] ++ Data id frame ∷ []);
      }) (Passed id) (if is_failed_at w s port then late ++ Dropped id cause.LinkDown ∷ [] else late)
  pass_journaled again id port f frame past late is_plan within a held may =
      let now : List Entry = again_past s id again past in
      let o = goes_out_journaled place s w now (is_failed_at w s port) id port f frame late refl within is_plan a.tells held.in_hand may a.puts_off in
      record {
        is = a.is;
        tells = record {
          run = a.tells.run;
          trail = a.tells.trail;
          links_agree = a.tells.links_agree;
          attachments_agree = a.tells.attachments_agree;
          flying = o.flying;
        };
        holds = (held.in_hand, a.flies);
        puts_off = o.puts_off;
      }

  -- it is copied, and the copy passed on
  pub copy_journaled : (id port : ℕ) (f : Flight) (frame : List ℕ) (past late : List Entry) → IsPlan w.plan → port < w.plan.k →
      begun past ≡ w.begun → Counts past w.from_hosts w.out (λ i. 0 + ends late i) → IsAmid place s (Spreads f) past w (Passed id) late →
      is_group (destination_of f.beginning) ≡ true → MayLeave w.plan place (history_of past) s port (peer_of w.plan s port) f frame →
      IsAmid place s (Spreads f) (Copied id (w.begun + 1) ∷ past) (record w {
        journal = w.journal ++ Copied id (w.begun + 1) ∷ [];
        begun = w.begun + 1;
        out = if is_failed_at w s port then w.out
            else set w.out (port_index w.plan.k s port) (get_or w.out (port_index w.plan.k s port) [] ++ Data (w.begun + 1) frame ∷ []);
      }) (Passed id) (if is_failed_at w s port then late ++ Dropped (w.begun + 1) cause.LinkDown ∷ [] else late)
  copy_journaled id port f frame past late is_plan within many c a group may =
      let n : ℕ = w.begun + 1 in
      let next : n ≡ begun past + 1 = ap (λ m. m + 1) (sym many) in
      let new : is_begun past n ≡ false = next_is_new w.plan past n a.tells.run next in
      let old : is_begun past id ≡ true = flying_is_begun past id (a.holds.1) in
      let other : (n == id) ≡ false = ne_eqb n id (λ e. both_ways (is_begun past n) new (subst (λ m. is_begun past m ≡ true) (sym e) old)) in
      let here = eq-eqb n n refl in
      let in_hand : InHand w.plan s f past id = a.holds.0 in
      let now : List Entry = Copied id n ∷ past in
      let none : ends late n ≡ 0 = (let all = c.flights n in let unborn : born n (begun past) ≡ 0 = ap (λ m. born m (begun past)) next ∙ next_unborn (begun past) in omega arith) in
      let t : JournalSays w.plan place now w.links w.attachments w.from_hosts w.out = note w.plan place past w.links w.attachments w.from_hosts w.out (Copied id n) n
      (next_nowhere past w.from_hosts w.out (λ i. 0 + ends late i) n next c) (λ g apart. kept w.plan past (Copied id n) g apart) (same_history (history_of past))
      (a.holds.1, ap (λ v. is_group (destination_of v.beginning)) in_hand.flight ∙ group, next) tt a.tells.links_agree a.tells.attachments_agree a.tells in
      let all : AllByRecursion (IsPutOff w.plan now s) late = late_kept w.plan place past now s n (λ g apart. kept w.plan past (Copied id n) g apart) refl late none a.puts_off in
      let copy : InHand w.plan s f now n = record {
        flight = rw here in_hand.flight;
        live = λ u. rw here (in_hand.live u);
        last = in_hand.last;
        to = rw here in_hand.to;
      } in
      let itself : InHand w.plan s f now id = record {
        flight = rw other in_hand.flight;
        live = λ u. rw other (in_hand.live u);
        last = in_hand.last;
        to = rw other in_hand.to;
      } in
      let o = goes_out_journaled place s w now (is_failed_at w s port) n port f frame late refl within is_plan t copy may all in
      record {
        is = reverse_noted w.journal past (Copied id n) a.is;
        tells = record { run = t.run; trail = t.trail; links_agree = t.links_agree; attachments_agree = t.attachments_agree; flying = o.flying };
        holds = (itself, and_from (is_begun now id) (ends past id == 0) (or_right (n == id) (is_begun past id) old) ((and_parts (is_begun past id) (ends past id == 0) (a.holds.1)).1));
        puts_off = o.puts_off;
      }

  -- one is made, and crosses the switch
  pub make_journaled : (hand : Hand) (speech : SpokenFrame) (frame : List ℕ) (past late : List Entry) → begun past ≡ w.begun → begun late ≡ 0 →
      Counts past w.from_hosts w.out (λ i. ends late i) → IsAmid place s hand past w speech late →
      IsAmid place s (Waits (made_here (w.begun + 1) s frame) false)
      (Crossed (w.begun + 1) (switch_no s) ∷ Made (w.begun + 1) (switch_no s) frame ∷ grown late past)
      (record w {
        journal = ((w.journal ++ late) ++ Made (w.begun + 1) (switch_no s) frame ∷ []) ++ Crossed (w.begun + 1) (switch_no s) ∷ [];
        begun = w.begun + 1;
      }) (Waiting (w.begun + 1) false) []
  make_journaled hand speech frame past late many none c a =
      let n : ℕ = w.begun + 1 in
      let made : Entry = Made n (switch_no s) frame in
      let crossed : Entry = Crossed n (switch_no s) in
      let old : List Entry = grown late past in
      let next : n ≡ begun old + 1 = (let g = begun_grown late past in omega arith) in
      let away : IsNowhere w.from_hosts w.out n = next_nowhere past w.from_hosts w.out (λ i. ends late i) n (ap (λ m. m + 1) (sym many)) c in
      let t = late_written w.plan place s late past w.links w.attachments w.from_hosts w.out a.puts_off c a.tells in
      let t2 : JournalSays w.plan place (made ∷ old) w.links w.attachments w.from_hosts w.out = note w.plan place old w.links w.attachments w.from_hosts w.out made n away
      (λ g other. kept w.plan old made g other) (same_history (history_of old)) next tt t.links_agree t.attachments_agree t in
      let new : is_begun old n ≡ false = next_is_new w.plan old n t.run next in
      let here = eq-eqb n n refl in
      let flies : is_flying (made ∷ old) n ≡ true = and_from (is_begun (made ∷ old) n) (ends old n == 0) (or_left (n == n) (is_begun old n) here)
      (eq-eqb (ends old n) 0 (ends_after_it_begins w.plan old n t.run new)) in
      let flight = flight_made w.plan old n (switch_no s) frame t.run next in
      let t3 : JournalSays w.plan place (crossed ∷ made ∷ old) w.links w.attachments w.from_hosts w.out =
      note w.plan place (made ∷ old) w.links w.attachments w.from_hosts w.out crossed n away
      (λ g other. kept w.plan (made ∷ old) crossed g other) (same_history (history_of old)) flies
      (well_alone w.plan (made ∷ old) n s (ap (λ v. v.leg) flight)) t2.links_agree t2.attachments_agree t2 in
      let in_hand : InHand w.plan s (made_here n s frame) (crossed ∷ made ∷ old) n = record {
        flight = made_crosses w.plan s (made ∷ old) n (mac_number (destination_of frame)) frame flight;
        live = λ u. rw here refl;
        last = refl;
        to = rw here refl;
      } in
      record {
        is = reverse_noted ((w.journal ++ late) ++ made ∷ []) (made ∷ old) crossed
            (reverse_noted (w.journal ++ late) old made (reverse_grown late w.journal past a.is));
        tells = t3;
        holds = (refl, record { in_hand = in_hand; turned = tt });
        puts_off = tt;
      }
