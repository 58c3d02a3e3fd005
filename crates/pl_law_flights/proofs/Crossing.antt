-- A frame that crosses the switch where its route leads crosses it well.
use Rattle.std.proofs.Common.{◌≡◌, ℕ, Bool, true, false, List, [], ◌∷◌, Some, refl, sym, ap, subst, ◌∙◌, inl, inr}
use Rattle.std.proofs.lemmas.Bool.{and_from, cases_Bool}
use Rattle.pl_frame.specs.Ethernet.{destination_of}
use Rattle.pl_pmac.specs.declared.pmac.Pmac.{Pmac}
use Rattle.pl_layouts.specs.declared.place.Place.{Place}
use Rattle.pl_layouts.specs.Memberships.{is_group}
use Rattle.pl_wiring.specs.declared.label.SwitchNo.{SwitchNo}
use Rattle.pl_wiring.specs.declared.link.Peer.TheVariants.{Switch}
use Rattle.pl_wiring.specs.Peers.{peer_of}
use Rattle.pl_wiring.specs.Plan.{IsPlan, Plan}
use Rattle.pl_journal.specs.declared.entry.Entry.{Entry}
use Rattle.pl_journal.specs.declared.entry.Entry.TheVariants.{Crossed}
use Rattle.pl_journal.specs.Causes.{goes_to_group}
use Rattle.pl_journal.specs.Flights.{first_of, flight_of, is_good_leg, is_led_to, leg, level_of, was_live}
use Rattle.pl_journal.specs.Lossy.{CrossesWell, goes_well}
use Rattle.pl_journal.specs.Places.{is_adjacent}
use Rattle.pl_law_flights.specs.OnTheWay.{IsBetweenSwitches, IsOnWay, history_of}
use Rattle.pl_law_flights.specs.Routes.{Route, levels, risen_or_fallen}
use Rattle.pl_law_flights.specs.Routes.Route.{Climbs, Enters, Falls, Leaves, Turns}
use Rattle.pl_law_flights.proofs.GroupLegs.{good_by_levels, link_levels, starts_with}
use Rattle.pl_law_flights.proofs.Legs.{good}

-- a route begins with the switch that was crossed last
pub last_of_route : (k : ℕ) (place : ℕ → Place) (to : Pmac) (leg : List ℕ) (s t : ℕ) → Route k place to leg s t → (rest : List ℕ) × (leg ≡ s ∷ rest)
last_of_route k place to leg s t (Climbs p i j at_s at_t is elsewhere) = ([], is)
last_of_route k place to leg s t (Leaves e p i j m at_e at_s at_t is other) = (e ∷ [], is)
last_of_route k place to leg s t (Falls e a p i j m q at_e at_a at_s at_t is other below) = (a ∷ e ∷ [], is)
last_of_route k place to leg s t (Turns e p i j x at_e at_s at_t is other here there) = (e ∷ [], is)
last_of_route k place to leg s t (Enters e a c p i j m q x at_e at_a at_c at_s at_t is pods here there) = (c ∷ a ∷ e ∷ [], is)

led_there : (plan : Plan) (past : List Entry) (id s t : ℕ) (leg rest : List ℕ) → leg ≡ s ∷ rest → is_adjacent plan s t ≡ true →
    was_live past id s t ≡ true → is_led_to plan past id leg t ≡ true
led_there plan past id s t leg rest is adjacent live = rw is (and_from (is_adjacent plan s t) (was_live past id s t) adjacent live)

-- a frame that has crossed nothing yet crosses its first switch well
one_good : (to_group : Bool) (k s : ℕ) → is_good_leg to_group k (s ∷ []) ≡ true
one_good true k s = refl
one_good false k s = refl

pub well_alone : (plan : Plan) (past : List Entry) (id s : ℕ) → leg past id ≡ [] → goes_well plan past id (leg past id) s ≡ true
well_alone plan past id s is = subst (λ switches. goes_well plan past id switches s ≡ true) (sym is)
    (and_from (is_good_leg (goes_to_group past id) plan.k (s ∷ [])) true (one_good (goes_to_group past id) plan.k s) refl)

-- a frame to one host goes well to the next switch
one_well : (plan : Plan) (place : ℕ → Place) (past : List Entry) (id s t : ℕ) (frame : List ℕ) → is_adjacent plan s t ≡ true → was_live past id s t ≡ true →
    goes_to_group past id ≡ false → IsOnWay plan place (flight_of plan past id) frame s t → goes_well plan past id (leg past id) t ≡ true
one_well plan place past id s t frame adjacent live one w =
    let last = last_of_route plan.k place _ (leg past id) s t w.route in
    and_from (is_good_leg (goes_to_group past id) plan.k (t ∷ leg past id)) (is_led_to plan past id (leg past id) t)
    (ap (λ group. is_good_leg group plan.k (t ∷ leg past id)) one ∙ good plan.k place _ (leg past id) s t w.route)
    (led_there plan past id s t (leg past id) last.0 last.1 adjacent live)

-- and so does one to a group, which rises to a core switch and then falls
many_well : (plan : Plan) (past : List Entry) (id s q : ℕ) (t : SwitchNo) (r : ℕ) → IsPlan plan → peer_of plan s q ≡ Switch t r → is_adjacent plan s t.0 ≡ true →
    was_live past id s t.0 ≡ true → goes_to_group past id ≡ true → first_of (leg past id) ≡ Some s →
    levels plan.k (leg past id) ≡ risen_or_fallen (level_of plan.k s) (level_of plan.k t.0) → goes_well plan past id (leg past id) t.0 ≡ true
many_well plan past id s q t r is_plan peer adjacent live many last rises =
    let before = starts_with (leg past id) s last in
    and_from (is_good_leg (goes_to_group past id) plan.k (t.0 ∷ leg past id)) (is_led_to plan past id (leg past id) t.0)
    (ap (λ group. is_good_leg group plan.k (t.0 ∷ leg past id)) many
    ∙ good_by_levels plan.k s t.0 (leg past id) (link_levels plan s q t r is_plan peer) rises)
    (led_there plan past id s t.0 (leg past id) before.0 before.1 adjacent live)

pub crosses_well : (plan : Plan) (place : ℕ → Place) (past : List Entry) (id s q : ℕ) (t : SwitchNo) (r : ℕ) (frame : List ℕ) → IsPlan plan →
    peer_of plan s q ≡ Switch t r → is_adjacent plan s t.0 ≡ true →
    IsBetweenSwitches plan place (history_of past) (flight_of plan past id) (was_live past id s t.0) frame s t.0 → CrossesWell plan past (Crossed id t)
crosses_well plan place past id s q t r frame is_plan peer adjacent b = elim (cases_Bool (is_group (destination_of frame))) [
  | inl group ↦ many_well plan past id s q t r is_plan peer adjacent b.whole (b.group ∙ group) (ap first_of ((b.many group).leg) ∙ b.last) (b.rises group)
  | inr one ↦ one_well plan place past id s t.0 frame adjacent b.whole (b.group ∙ one) (b.one one)
]
