-- An address is granted: every frame in a queue is as it was, unless it has just come in at that edge switch.
use Rattle.std.proofs.Common.{◌≡◌, ℕ, ◌==◌, ◌&&◌, true, false, List, [], ◌∷◌, Option, None, Some, refl, sym, ◌∙◌, ap, inl, inr, is_some}
use Rattle.std.proofs.lemmas.Bool.{and_left, and_right, cases_Bool, eqb-true, false≢true, cond-false, cond-true, ne_eqb, eq-eqb}
use Rattle.pl_pmac.specs.declared.pmac.Pmac.{Pmac}
use Rattle.pl_pmac.specs.Pmac.{pmac_number}
use Rattle.pl_wiring.specs.declared.host.HostNo.{HostNo}
use Rattle.pl_wiring.specs.declared.label.SwitchNo.{SwitchNo}
use Rattle.pl_wiring.specs.LiveLinks.{LivePorts}
use Rattle.pl_wiring.specs.Plan.{Plan}
use Rattle.pl_layouts.specs.declared.place.Place.{Place}
use Rattle.pl_journal.specs.declared.entry.Entry.{Entry}
use Rattle.pl_journal.specs.declared.entry.Entry.TheVariants.{Crossed, Granted}
use Rattle.pl_journal.specs.Flights.{Flight, address_at, came_in, flight_of, has_just_come_in, sender, sender_address, address, has_just_crossed, held_at_crossing}
use Rattle.pl_journal.specs.Lossy.{IsGrantable}
use Rattle.pl_journal.specs.Places.{EdgePort, at_port, granted_at, holder, same_edge_port, edge_port, is_live, live_holder}
use Rattle.pl_world.specs.declared.item.Item.{Item}
use Rattle.pl_world.specs.declared.attachment.AttachmentPoint.{AttachmentPoint}
use Rattle.pl_law_flights.specs.OnTheWay.{JournalSays, history_of}
use Rattle.pl_law_flights.proofs.Counting.{IsNowhere}
use Rattle.pl_law_flights.proofs.KeepingFlights.{Keeps, KeepsHistory}
use Rattle.pl_law_flights.proofs.EntriesOfFlights.{note}
use Rattle.pl_journal.proofs.Exports.{granted_apart, just_held, live_held, live_one}

-- ---- who holds a live address
pub live_holds : (past : List Entry) (x host : ℕ) → live_holder past x ≡ Some host → holder past x ≡ Some host
live_holds past x host held = sym (cond-true (is_live past x) (holder past x) None (live_one past x host held)) ∙ held

pub not_live : (past : List Entry) (x : ℕ) → live_holder past x ≡ None → is_live past x ≡ false
not_live past x none = elim (cases_Bool (is_live past x)) [
  | inl live ↦
      let nobody : holder past x ≡ None = sym (cond-true (is_live past x) (holder past x) None live) ∙ none in
      let some = live_held past x live in absurd (false≢true (sym (ap is_some nobody) ∙ some))
  | inr other ↦ other
]

pub live_now : (past : List Entry) (x : Pmac) (h : HostNo) (e : SwitchNo) (p : ℕ) → live_holder (Granted x h e p ∷ past) (pmac_number x) ≡ Some h.0
live_now past x h e p = let n : ℕ = pmac_number x in rw (eq-eqb n n refl) refl

pub live_other : (past : List Entry) (x : Pmac) (h : HostNo) (e : SwitchNo) (p y : ℕ) → (pmac_number x == y) ≡ false →
    live_holder (Granted x h e p ∷ past) y ≡ live_holder past y
live_other past x h e p y other = rw other refl

pub live_more : (past : List Entry) (x : Pmac) (h : HostNo) (e : SwitchNo) (p y g : ℕ) → is_live past (pmac_number x) ≡ false → live_holder past y ≡ Some g →
    live_holder (Granted x h e p ∷ past) y ≡ Some g
live_more past x h e p y g fresh held =
    live_other past x h e p y (granted_apart past (pmac_number x) y fresh (live_one past y g held)) ∙ held

-- an address may be granted, and if it was granted before, then there
pub record IsGivable (plan : Plan) (past : List Entry) (x : Pmac) (host : ℕ) (there : EdgePort) : Type 0 where
  pub may : IsGrantable plan past x host there
  pub again : (at : EdgePort) → edge_port past (pmac_number x) ≡ Some at → at ≡ there

module _ (plan : Plan) (past : List Entry) (x : Pmac) (h : HostNo) (e : SwitchNo) (p : ℕ) where
  -- each address has the port that it had
  pub history_more : ((at : EdgePort) → edge_port past (pmac_number x) ≡ Some at → at ≡ at_port e.0 p) → KeepsHistory (history_of past) (history_of (Granted x h e p ∷ past))
  history_more again = record {
    there = λ y at is. elim (cases_Bool (pmac_number x == y)) [
      | inl same ↦
          cond-true (pmac_number x == y) (Some (at_port e.0 p)) (edge_port past y) same
          ∙ ap Some (sym (again at (ap (edge_port past) (eqb-true (pmac_number x) y same) ∙ is)))
      | inr other ↦ cond-false (pmac_number x == y) (Some (at_port e.0 p)) (edge_port past y) other ∙ is
    ];
  }

  -- an address at another edge switch changes no source
  address_stays : (o : Option ℕ) (there : Option EdgePort) → ((at : EdgePort) → there ≡ Some at → at.edge ≡ e.0 → ⊥) →
      address_at (Granted x h e p ∷ past) o there ≡ address_at past o there
  address_stays None there away = refl
  address_stays (Some host) None away = refl
  address_stays (Some host) (Some at) away =
      let other : (e.0 == at.edge) ≡ false = ne_eqb e.0 at.edge (λ same. away at refl (sym same)) in
      cond-false ((h.0 == host) && same_edge_port (at_port e.0 p) at) (Some x) (granted_at past host at)
      (and_right (h.0 == host) (same_edge_port (at_port e.0 p) at) (and_left (e.0 == at.edge) (p == at.port) other))

-- the source of a frame that has just come in
just_came : (plan : Plan) (past : List Entry) (g : ℕ) → has_just_come_in past g ≡ true → sender_address plan past g ≡ address_at past (sender past g) (came_in plan past g)
just_came plan [] g just = absurd (cc)
just_came plan (Crossed n s ∷ past) g just =
    cond-true (has_just_come_in (Crossed n s ∷ past) g) (address_at past (sender past g) (came_in plan (Crossed n s ∷ past) g)) (sender_address plan past g) just
    ∙ skipped (sender past g) (came_in plan (Crossed n s ∷ past) g)
  where
    skipped : (o : Option ℕ) (there : Option EdgePort) → address_at past o there ≡ address_at (Crossed n s ∷ past) o there
    skipped None there = refl
    skipped (Some host) None = refl
    skipped (Some host) (Some at) = refl
just_came plan (entry ∷ past) g just = absurd (false≢true just)

-- a frame keeps the host that it is for
for_stays : (past : List Entry) (x : Pmac) (h : HostNo) (e : SwitchNo) (p g to host : ℕ) → is_live past (pmac_number x) ≡ false →
    held_at_crossing past g to ≡ Some host → held_at_crossing (Granted x h e p ∷ past) g to ≡ Some host
for_stays past x h e p g to host fresh held = elim (cases_Bool (has_just_crossed past g)) [
  | inr later ↦ cond-false (has_just_crossed past g) (live_holder (Granted x h e p ∷ past) to) (held_at_crossing past g to) later ∙ held
  | inl just ↦
      cond-true (has_just_crossed past g) (live_holder (Granted x h e p ∷ past) to) (held_at_crossing past g to) just
      ∙ live_more past x h e p to host fresh (just_held past g to host just held)
]

-- a frame that has not just come in at that switch keeps its source
pub grant_kept : (plan : Plan) (past : List Entry) (x : Pmac) (h : HostNo) (e : SwitchNo) (p g : ℕ) → is_live past (pmac_number x) ≡ false →
    (has_just_come_in past g ≡ true → (at : EdgePort) → came_in plan past g ≡ Some at → at.edge ≡ e.0 → ⊥) → Keeps plan past (Granted x h e p ∷ past) g
grant_kept plan past x h e p g fresh away = record { flight = ap with_source source; live = λ a b live. live; to = λ k held. for_stays past x h e p g (address past g) k fresh held }
  where
    with_source : Option Pmac → Flight
    with_source o = record (flight_of plan past g) { source = o }

    source : sender_address plan (Granted x h e p ∷ past) g ≡ sender_address plan past g
    source = elim (cases_Bool (has_just_come_in past g)) [
      | inl just ↦
          cond-true (has_just_come_in past g) (address_at (Granted x h e p ∷ past) (sender past g) (came_in plan past g)) (sender_address plan past g) just
          ∙ address_stays plan past x h e p (sender past g) (came_in plan past g) (away just) ∙ sym (just_came plan past g just)
      | inr later ↦ cond-false (has_just_come_in past g) (address_at (Granted x h e p ∷ past) (sender past g) (came_in plan past g)) (sender_address plan past g) later
    ]

-- the entry is written
pub note_grant : (plan : Plan) (place : ℕ → Place) (past : List Entry) (links : LivePorts) (attachments : List AttachmentPoint) (from_hosts out : List (List Item)) (id : ℕ)
    (x : Pmac) (h : HostNo) (e : SwitchNo) (p : ℕ) → IsNowhere from_hosts out id → IsGivable plan past x h.0 (at_port e.0 p) →
    ((g : ℕ) → (id == g) ≡ false → has_just_come_in past g ≡ true → (at : EdgePort) → came_in plan past g ≡ Some at → at.edge ≡ e.0 → ⊥) →
    JournalSays plan place past links attachments from_hosts out → JournalSays plan place (Granted x h e p ∷ past) links attachments from_hosts out
note_grant plan place past links attachments from_hosts out id x h e p nowhere may away t =
    note plan place past links attachments from_hosts out (Granted x h e p) id nowhere
    (λ g other. grant_kept plan past x h e p g may.may.fresh (away g other)) (history_more plan past x h e p may.again) may.may tt t.links_agree t.attachments_agree t

-- the source of the frame in hand, where the grant directly follows its first crossing
pub granted_source : (plan : Plan) (past : List Entry) (x : Pmac) (h : HostNo) (e : SwitchNo) (p id : ℕ) (f : Flight) → flight_of plan past id ≡ f →
    has_just_come_in past id ≡ true →
    flight_of plan (Granted x h e p ∷ past) id ≡ record f { source = address_at (Granted x h e p ∷ past) f.sender f.came_in }
granted_source plan past x h e p id f flight just =
    rw just (ap {A = Flight} (λ w. record w { source = address_at (Granted x h e p ∷ past) w.sender w.came_in }) flight)
