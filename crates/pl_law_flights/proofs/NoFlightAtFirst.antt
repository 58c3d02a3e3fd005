-- At its beginning a world tells nothing, and nothing is so; and an item is lost.
use Rattle.std.proofs.Common.{◌≡◌, ℕ, zero, suc, ◌*◌, ◌<◌, not, true, List, [], ◌∷◌, length, map, replicate, Some, reverse, get_or, slice_get, refl, sym, ◌∙◌, ap, subst, inl, inr}
use Rattle.std.specs.List.{AllByRecursion}
use Rattle.std.specs.Option.{option_map}
use Rattle.pl_layouts.specs.declared.place.Place.{Place}
use Rattle.pl_wiring.specs.declared.host.Host.{Host}
use Rattle.pl_wiring.specs.declared.label.SwitchNo.{SwitchNo}
use Rattle.pl_wiring.specs.declared.link.Link.{Link}
use Rattle.pl_wiring.specs.declared.link.Peer.{Peer}
use Rattle.pl_wiring.specs.declared.link.Peer.TheVariants.{HostPort, Switch}
use Rattle.pl_wiring.specs.Index.{port_index}
use Rattle.pl_wiring.specs.Labels.{switch_count}
use Rattle.pl_wiring.specs.LiveLinks.{is_live, is_live_at}
use Rattle.pl_wiring.specs.Peers.{IsPeer, peer_of}
use Rattle.pl_wiring.specs.Plan.{IsPlan, Plan}
use Rattle.pl_wiring.proofs.Exports.{at_contained, peer_says}
use Rattle.pl_journal.specs.declared.cause.Cause.TheVariants as cause
use Rattle.pl_journal.specs.declared.entry.Entry.{Entry}
use Rattle.pl_journal.specs.declared.entry.Entry.TheVariants.{Dropped}
use Rattle.pl_journal.specs.Causes.{has_crossed}
use Rattle.pl_journal.specs.Flights.{first_of, trail}
use Rattle.pl_journal.specs.Places.{at_port}
use Rattle.pl_world.specs.declared.item.Item.{Item}
use Rattle.pl_world.specs.declared.item.Item.TheVariants.{Control, Data}
use Rattle.pl_world.specs.declared.limits.Limits.{Limits}
use Rattle.pl_world.specs.Booting.{CanBegin, all_live, booted, first_attachment}
use Rattle.pl_world.specs.Changes.{out_of}
use Rattle.pl_world.specs.Flying.{IsCounted}
use Rattle.pl_world.specs.LinksAndMoves.{item_lost}
use Rattle.pl_world.specs.Worlds.{WorldView}
use Rattle.pl_world.proofs.Exports.{all_live_is_for, lower_live}
use Rattle.pl_law_flights.specs.OnTheWay.{IsGoing, IsOut, IsJournaled, IsWaiting, JournalSays, place_in, edge_port_of_attachment}
use Rattle.pl_law_flights.proofs.HandSteps.{crossed_first}
use Rattle.pl_law_flights.proofs.EntriesOfFlights.{note_drop, reverse_noted}
use Rattle.pl_law_flights.proofs.OverLinks.{taken, taken_out}
use Rattle.pl_law_flights.proofs.Queues.{set_out}

nothing_there : (n at : ℕ) → get_or {A = List Item} (replicate n []) at [] ≡ []
nothing_there zero at = refl
nothing_there (suc n) zero = refl
nothing_there (suc n) (suc at) = nothing_there n at

first_attachments : (hosts : List Host) (h : ℕ) →
    option_map edge_port_of_attachment (slice_get (map first_attachment hosts) h) ≡ option_map (λ (x : Host). at_port x.edge.0 x.port) (slice_get hosts h)
first_attachments [] h = refl
first_attachments (x ∷ hosts) zero = refl
first_attachments (x ∷ hosts) (suc h) = first_attachments hosts h

live_at_first : (plan : Plan) (s port : ℕ) (t : SwitchNo) (q : ℕ) → IsPlan plan → peer_of plan s port ≡ Switch t q → is_live_at (all_live plan) s port ≡ true
live_at_first plan s port t q is peer =
    let says : IsPeer plan.links s port (Switch t q) = subst (λ p. IsPeer plan.links s port p) peer (peer_says plan.links s port) in
    let there = says.1 in
    let low : is_live (all_live plan) says.0 ≡ true =
    subst (λ (l : Link). is_live (all_live plan) l ≡ true) there.2 (lower_live plan is there.0 says.0 there.1) in
    let high : is_live_at (all_live plan) says.0.upper.0 says.0.upper_port ≡ is_live (all_live plan) says.0 =
    at_contained (λ l. is_live_at (all_live plan) l.upper.0 l.upper_port ≡ is_live (all_live plan) l) plan.links says.0 (all_live_is_for plan is).agree there in
    elim (says.2) [
      | inl e ↦ subst (λ a. is_live_at (all_live plan) a port ≡ true) e.0 (subst (λ b. is_live_at (all_live plan) says.0.lower.0 b ≡ true) e.1 low)
      | inr e ↦ subst (λ a. is_live_at (all_live plan) a port ≡ true) e.0
          (subst (λ b. is_live_at (all_live plan) says.0.upper.0 b ≡ true) e.1 (high ∙ low))
    ]

pub booted_journaled : (plan : Plan) (limits : Limits) → CanBegin plan → IsJournaled (booted plan limits)
booted_journaled plan limits can = record {
  run = tt;
  trail = tt;
  links_agree = λ s port t q peer. live_at_first plan s port t q can.is_plan peer;
  attachments_agree = λ h. first_attachments plan.hosts h;
  flying = record {
    waiting = λ h. subst (λ items. AllByRecursion (IsWaiting plan [] h) items) (sym (nothing_there (length plan.hosts) h)) tt;
    going = λ s port within. subst (λ items. AllByRecursion (IsOut plan (place_in (booted plan limits).switches) [] s port) items)
        (sym (nothing_there (switch_count plan.k * plan.k) (port_index plan.k s port))) tt;
  };
}

-- a frame in a queue out of a port has crossed a switch
pub has_come_out : (plan : Plan) (place : ℕ → Place) (past : List Entry) (s port : ℕ) (peer : Peer) (id : ℕ) (frame : List ℕ) →
    IsGoing plan place past s port peer id frame → first_of (trail past id) ≡ Some s
has_come_out plan place past s port (Switch t q) id frame b = b.last
has_come_out plan place past s port HostPort id frame b = b.last

-- the head of a queue out of a port is lost
pub lost_journaled : (w : WorldView) (s port : ℕ) (item : Item) (items : List Item) → IsCounted w → IsJournaled w → port < w.plan.k → out_of w s port ≡ item ∷ items →
    IsJournaled (item_lost (taken_out w s port items) item)
lost_journaled w s port (Control frame) items counted told within head =
    let all : AllByRecursion (IsOut w.plan (place_in w.switches) (reverse w.journal) s port) (Control frame ∷ items) =
    subst (λ l. AllByRecursion (IsOut w.plan (place_in w.switches) (reverse w.journal) s port) l) head (told.flying.going s port within) in
    record {
      run = told.run;
      trail = told.trail;
      links_agree = told.links_agree;
      attachments_agree = told.attachments_agree;
      flying = set_out w.plan (place_in w.switches) (reverse w.journal) w.from_hosts w.out s port items within all.1 told.flying;
    }
lost_journaled w s port (Data id frame) items counted told within head =
    let took = taken w counted told s port id frame items within head in
    let past : List Entry = reverse w.journal in
    let crossed : has_crossed past id ≡ true =
    ap not (crossed_first (trail past id) s (has_come_out w.plan (place_in w.switches) past s port (peer_of w.plan s port) id frame took.going)) in
    subst (λ p. JournalSays w.plan (place_in w.switches) p w.links w.attachments w.from_hosts (taken_out w s port items).out)
    (sym (reverse_noted w.journal past (Dropped id cause.Lost) refl))
    (note_drop w.plan (place_in w.switches) past w.links w.attachments w.from_hosts (taken_out w s port items).out id cause.Lost
    (record { not_at_hosts = took.flies.not_at_hosts; not_out = took.flies.not_out }) took.flies.flies crossed took.tells)
