-- A frame leaves by a port, or is put off where the link is failed.
use Rattle.std.proofs.Common.{◌≡◌, ℕ, ◌<◌, ◌&&◌, not, Bool, true, false, if◌then◌else◌, List, [], ◌∷◌, ◌++◌, Some, get_or, set, refl, sym, ◌∙◌, ap}
use Rattle.std.specs.List.{AllByRecursion}
use Rattle.std.proofs.lemmas.Bool.{not-true, not-false, false≢true}
use Rattle.pl_wiring.specs.declared.link.Peer.{Peer}
use Rattle.pl_wiring.specs.declared.link.Peer.TheVariants.{HostPort, Switch}
use Rattle.pl_wiring.specs.Index.{port_index}
use Rattle.pl_wiring.specs.LiveLinks.{is_live_at}
use Rattle.pl_wiring.specs.Peers.{peer_of}
use Rattle.pl_wiring.specs.Plan.{IsPlan}
use Rattle.pl_layouts.specs.declared.place.Place.{Place}
use Rattle.pl_journal.specs.declared.cause.Cause.TheVariants as cause
use Rattle.pl_journal.specs.declared.entry.Entry.{Entry}
use Rattle.pl_journal.specs.declared.entry.Entry.TheVariants.{Dropped}
use Rattle.pl_journal.specs.Flights.{Flight, address, addressee, first_of, flight_of, was_live}
use Rattle.pl_journal.specs.Places.{is_failed, is_host_port, live_holder}
use Rattle.pl_world.specs.declared.item.Item.TheVariants.{Control, Data}
use Rattle.pl_world.specs.Changes.{is_failed_at}
use Rattle.pl_world.specs.Worlds.{WorldView}
use Rattle.pl_law_flights.specs.OnTheWay.{Flying, IsGoing, JournalSays, history_of}
use Rattle.pl_law_flights.proofs.Hands.{InHand, IsPutOff, IsShown, MayLeave}
use Rattle.pl_law_flights.proofs.KeepingFlights.{between_kept, leaving_kept, same_history}
use Rattle.pl_law_flights.proofs.Queues.{put_out}
use Rattle.pl_law_flights.proofs.Rungs.{failed_here}

-- what a port's link says of the journal
pub live_link : (w : WorldView) (past : List Entry) (s port : ℕ) (peer : Peer) → peer_of w.plan s port ≡ peer →
    is_failed_at w s port ≡ (not (is_host_port peer) && not (is_live_at w.links s port))
live_link w past s port peer is = ap (λ (p : Peer). not (is_host_port p) && not (is_live_at w.links s port)) is

module _ (place : ℕ → Place) (s : ℕ) (w : WorldView) (past : List Entry) where
  -- the frame in hand goes out where the link is live
  goes : (id port : ℕ) (f : Flight) (frame : List ℕ) (peer : Peer) → peer_of w.plan s port ≡ peer → is_failed_at w s port ≡ false →
      JournalSays w.plan place past w.links w.attachments w.from_hosts w.out → flight_of w.plan past id ≡ f →
      ((t : ℕ) → was_live past id s t ≡ not (is_failed past s t)) → addressee past id ≡ live_holder past (address past id) →
      MayLeave w.plan place (history_of past) s port peer f frame → IsGoing w.plan place past s port peer id frame
  goes id port f frame (Switch t q) peer live t0 flight since for may =
      let flag : not (is_live_at w.links s port) ≡ false = sym (live_link w past s port (Switch t q) peer) ∙ live in
      let on : not (is_failed past s t.0) ≡ true = sym (t0.links_agree s port t q peer) ∙ not-false (is_live_at w.links s port) flag in
      between_kept w.plan place (history_of past) (history_of past) f (flight_of w.plan past id) true (was_live past id s t.0) frame s t.0 flight (λ h. since t.0 ∙ on)
      (same_history (history_of past)) may
  goes id port f frame HostPort peer live t0 flight since for may =
      leaving_kept w.plan place (history_of past) (history_of past) ((history_of past).hold f.address) (addressee past id) f (flight_of w.plan past id) frame s port flight
      (λ h held. for ∙ ap (λ v. live_holder past v.address) flight ∙ held) (same_history (history_of past)) may

  -- and is put off where it is failed
  stays : (id port : ℕ) (f : Flight) (peer : Peer) → peer_of w.plan s port ≡ peer → is_failed_at w s port ≡ true → IsPlan w.plan →
      JournalSays w.plan place past w.links w.attachments w.from_hosts w.out → flight_of w.plan past id ≡ f → first_of f.trail ≡ Some s →
      IsShown w.plan past s id cause.LinkDown
  stays id port f (Switch t q) peer failed is_plan t0 flight last =
      let flag : not (is_live_at w.links s port) ≡ true = sym (live_link w past s port (Switch t q) peer) ∙ failed in
      let off : not (is_failed past s t.0) ≡ false = sym (t0.links_agree s port t q peer) ∙ not-true (is_live_at w.links s port) flag in
      record {
        down = refl;
        last = ap (λ v. first_of v.trail) flight ∙ last;
        failed = failed_here w.plan s port t q is_plan peer past (not-false (is_failed past s t.0) off);
      }
  stays id port f HostPort peer failed is_plan t0 flight last = absurd (false≢true (sym (live_link w past s port HostPort peer) ∙ failed))

  pub sent_control : (b : Bool) (port : ℕ) (frame : List ℕ) → port < w.plan.k → Flying w.plan place past w.from_hosts w.out →
      Flying w.plan place past w.from_hosts
      (if b then w.out else set w.out (port_index w.plan.k s port) (get_or w.out (port_index w.plan.k s port) [] ++ Control frame ∷ []))
  sent_control true port frame within f = f
  sent_control false port frame within f = put_out w.plan place past w.from_hosts w.out s port (Control frame) within tt f

  pub record Out (b : Bool) (id port : ℕ) (frame : List ℕ) (late : List Entry) : Type 0 where
    pub flying : Flying w.plan place past w.from_hosts
        (if b then w.out else set w.out (port_index w.plan.k s port) (get_or w.out (port_index w.plan.k s port) [] ++ Data id frame ∷ []))
    pub puts_off : AllByRecursion (IsPutOff w.plan past s) (if b then late ++ Dropped id cause.LinkDown ∷ [] else late)

  late_more : (late : List Entry) (id : ℕ) → AllByRecursion (IsPutOff w.plan past s) late → IsShown w.plan past s id cause.LinkDown →
      AllByRecursion (IsPutOff w.plan past s) (late ++ Dropped id cause.LinkDown ∷ [])
  late_more [] id all shown = (shown, tt)
  late_more (e ∷ late) id all shown = (all.0, late_more late id all.1 shown)

  pub goes_out_journaled : (b : Bool) (id port : ℕ) (f : Flight) (frame : List ℕ) (late : List Entry) → is_failed_at w s port ≡ b → port < w.plan.k →
      IsPlan w.plan → JournalSays w.plan place past w.links w.attachments w.from_hosts w.out → InHand w.plan s f past id →
      MayLeave w.plan place (history_of past) s port (peer_of w.plan s port) f frame → AllByRecursion (IsPutOff w.plan past s) late →
      Out b id port frame late
  goes_out_journaled true id port f frame late failed within is_plan t h may all = record {
    flying = t.flying;
    puts_off = late_more late id all (stays id port f (peer_of w.plan s port) refl failed is_plan t h.flight h.last);
  }
  goes_out_journaled false id port f frame late live within is_plan t h may all = record {
    flying = put_out w.plan place past w.from_hosts w.out s port (Data id frame) within
        (goes id port f frame (peer_of w.plan s port) refl live t h.flight h.live h.to may) t.flying;
    puts_off = all;
  }
