-- Nothing befalls a frame before it begins.
use Rattle.std.proofs.Common.{◌≡◌, ℕ, ◌+◌, Bool, true, false, cond, ◌==◌, List, [], ◌∷◌, Some, None, refl, ap}
use Rattle.std.proofs.lemmas.Bool.{or_parts, eq-eqb}
use Rattle.pl_frame.specs.Ethernet.{destination_of}
use Rattle.pl_wiring.specs.declared.label.SwitchNo.{SwitchNo}
use Rattle.pl_wiring.specs.declared.host.HostNo.{HostNo}
use Rattle.pl_wiring.specs.Plan.{Plan}
use Rattle.pl_journal.specs.declared.entry.Entry.{Entry}
use Rattle.pl_journal.specs.declared.entry.Entry.TheVariants.{Sent, Made, Copied, Crossed, Redirected, Granted, LinkDown}
use Rattle.pl_layouts.specs.Frames.{mac_number}
use Rattle.pl_journal.specs.Places.{same_ends}
use Rattle.pl_journal.specs.Flights.{Flight, begun, first_flight, flight_of, has_just_come_in, is_begun, no_flight, was_live}
use Rattle.pl_journal.specs.Lossy.{RunTo}
use Rattle.pl_journal.proofs.Numbered.{apart, flying_is_begun, next_is_new}

-- the newest entry is no crossing of it
not_just_in : (plan : Plan) (past : List Entry) (id : ℕ) → RunTo plan past → is_begun past id ≡ false → has_just_come_in past id ≡ false
not_just_in plan [] id run new = refl
not_just_in plan (Crossed g s ∷ past) id run new = let other = apart past g id (flying_is_begun past g run.1) new in rw other refl
not_just_in plan (entry ∷ past) id run new = refl

pub flight_before : (plan : Plan) (past : List Entry) (id : ℕ) → RunTo plan past → is_begun past id ≡ false → flight_of plan past id ≡ no_flight id
flight_before plan [] id run new = refl
flight_before plan (Sent g h f ∷ past) id run new =
    let parts = or_parts (g == id) (is_begun past id) new in
    rw (parts.0) (flight_before plan past id run.0 parts.1)
flight_before plan (Made g s f ∷ past) id run new =
    let parts = or_parts (g == id) (is_begun past id) new in
    rw (parts.0) (flight_before plan past id run.0 parts.1)
flight_before plan (Copied g c ∷ past) id run new =
    let parts = or_parts (c == id) (is_begun past id) new in
    rw (parts.0) (flight_before plan past id run.0 parts.1)
flight_before plan (Crossed g s ∷ past) id run new =
    let other = apart past g id (flying_is_begun past g run.1) new in
    rw other (flight_before plan past id run.0 new)
flight_before plan (Redirected g old to ∷ past) id run new =
    let other = apart past g id (flying_is_begun past g run.1.0) new in
    rw other (flight_before plan past id run.0 new)
flight_before plan (Granted x h e p ∷ past) id run new =
    let not_in = not_just_in plan past id run.0 new in
    rw not_in (flight_before plan past id run.0 new)
flight_before plan (entry ∷ past) id run new = flight_before plan past id run.0 new

pub live_before : (plan : Plan) (past : List Entry) (id a b : ℕ) → RunTo plan past → is_begun past id ≡ false → was_live past id a b ≡ false
live_before plan [] id a b run new = refl
live_before plan (Sent g h f ∷ past) id a b run new = live_before plan past id a b run.0 (or_parts (g == id) (is_begun past id) new).1
live_before plan (Made g s f ∷ past) id a b run new = live_before plan past id a b run.0 (or_parts (g == id) (is_begun past id) new).1
live_before plan (Copied g c ∷ past) id a b run new =
    let parts = or_parts (c == id) (is_begun past id) new in
    rw (parts.0) (live_before plan past id a b run.0 parts.1)
live_before plan (Crossed g s ∷ past) id a b run new =
    let other = apart past g id (flying_is_begun past g run.1) new in
    rw other (live_before plan past id a b run.0 new)
live_before plan (LinkDown x y ∷ past) id a b run new =
    rw (live_before plan past id a b run.0 new) (same_either (same_ends x.0 y.0 a b))
  where
    same_either : (t : Bool) → cond t false false ≡ false
    same_either true = refl
    same_either false = refl
live_before plan (entry ∷ past) id a b run new = live_before plan past id a b run.0 new

abbrev to : List ℕ → ℕ
to frame = mac_number (destination_of frame)

-- a flight with other bytes and their destination, and with another sender
abbrev with_frame : List ℕ → Flight → Flight
with_frame frame flight = record flight { beginning = frame; address = to frame }

abbrev with_sender : ℕ → List ℕ → Flight → Flight
with_sender host frame flight = record flight { sender = Some host; beginning = frame; address = to frame }

pub flight_sent : (plan : Plan) (past : List Entry) (id : ℕ) (host : HostNo) (frame : List ℕ) → RunTo plan past → id ≡ begun past + 1 →
    flight_of plan (Sent id host frame ∷ past) id ≡ first_flight id (Some host.0) frame (to frame)
flight_sent plan past id host frame run next =
    let same = eq-eqb id id refl in
    let before = flight_before plan past id run (next_is_new plan past id run next) in
    rw same (ap (with_sender host.0 frame) before)

pub flight_made : (plan : Plan) (past : List Entry) (id : ℕ) (switch : SwitchNo) (frame : List ℕ) → RunTo plan past → id ≡ begun past + 1 →
    flight_of plan (Made id switch frame ∷ past) id ≡ first_flight id None frame (to frame)
flight_made plan past id switch frame run next =
    let same = eq-eqb id id refl in
    let before = flight_before plan past id run (next_is_new plan past id run next) in
    rw same (ap (with_frame frame) before)
