-- What is kept of frames, entry by entry.
use Rattle.std.proofs.Common.{◌≡◌, ℕ, suc, ◌+◌, Bool, true, false, cond, not, ◌==◌, List, [], ◌∷◌, length, take, Option, Some, None, refl, sym, ap, subst, ◌∙◌, arith}
use Rattle.std.proofs.lemmas.Bool.{and_parts, eq-eqb, eqb-true, false≢true, ne_eqb, or_parts}
use Rattle.std.proofs.lemmas.List.{take-take}
use Rattle.pl_frame.specs.Ethernet.{destination_of}
use Rattle.pl_pmac.specs.declared.pmac.Pmac.{Pmac}
use Rattle.pl_layouts.specs.Frames.{mac_number}
use Rattle.pl_wiring.specs.Plan.{Plan}
use Rattle.pl_wiring.specs.declared.label.SwitchNo.{SwitchNo}
use Rattle.pl_wiring.specs.declared.host.HostNo.{HostNo}
use Rattle.pl_journal.specs.declared.cause.Cause.{Cause}
use Rattle.pl_journal.specs.declared.entry.Entry.{Entry}
use Rattle.pl_journal.specs.declared.entry.Entry.TheVariants.{Arrived, Copied, Crossed, Dropped, Granted, Made, Redirected, Sent, Taken}
use Rattle.pl_journal.specs.Places.{EdgePort}
use Rattle.pl_journal.specs.Flights.{Flight, address_at, begun, came_in, ends, first_flight, flight_of, has_just_come_in, has_just_crossed, is_begun, is_empty, is_flying, leg, sender, sender_address, trail}
use Rattle.pl_journal.specs.Lossy.{RunTo}
use Rattle.pl_journal.proofs.Exports.{ends_after_it_begins, flight_made, flight_sent, flying_is_begun, next_is_new}
use Rattle.pl_past.specs.Links.{crossed_at}
use Rattle.pl_past.specs.Moves.{sent_at}
use Rattle.pl_past.specs.Addressees.{asked_at}
use Rattle.pl_past.specs.Kept.{Kept, crossing, ending, entrance, first_kept, granting, is_single, kept, redirecting, touched_by}

none_came_in : (past : List Entry) (id : ℕ) → has_just_crossed past id ≡ false → has_just_come_in past id ≡ false
none_came_in [] id other = refl
none_came_in (Crossed g s ∷ past) id other = rw other refl
none_came_in (entry ∷ past) id other = refl

-- An entry leaves what is kept of every frame but one.
pub others_stay : (plan : Plan) (past : List Entry) (entry : Entry) (id : ℕ) → touched_by past entry id ≡ false → kept plan (entry ∷ past) id ≡ kept plan past id
others_stay plan past (Sent g h f) id other = rw other refl
others_stay plan past (Made g s f) id other = rw other refl
others_stay plan past (Crossed g s) id other = rw other refl
others_stay plan past (Redirected g old new) id other = rw other refl
others_stay plan past (Copied g c) id other = rw other refl
others_stay plan past (Arrived g h f) id other = rw other refl
others_stay plan past (Taken g s) id other = rw other refl
others_stay plan past (Dropped g cause) id other = rw other refl
others_stay plan past (Granted y h e p) id other = let none = none_came_in past id other in rw other (rw none refl)
others_stay plan past entry id other = refl

-- the shorter part of a part
less_of : {A : Type 0} (x : A) (n : ℕ) (xs : List A) → take (suc n) (x ∷ take (suc n) xs) ≡ take (suc n) (x ∷ xs)
less_of x n xs = ap (λ l. x ∷ l) (take-take n (suc n) xs (omega arith))

empty_by_two : (xs : List ℕ) → is_empty (take 2 xs) ≡ is_empty xs
empty_by_two [] = refl
empty_by_two (x ∷ xs) = refl

same_source : (t : Bool) (f : Option EdgePort → Option Pmac) (a b : Option EdgePort) (o : Option Pmac) → cond t (f (cond t a b)) o ≡ cond t (f a) o
same_source true f a b o = refl
same_source false f a b o = refl

-- A frame that crosses a switch. What is looked up: where its sender stands, and which address that one was granted last there.
pub when_it_crosses : (plan : Plan) (past : List Entry) (g : ℕ) (s : SwitchNo) →
    kept plan (Crossed g s ∷ past) g
    ≡ crossing (length past + 1) s.0 (entrance plan past g s.0) (address_at past (sender past g) (entrance plan past g s.0)) (kept plan past g)
when_it_crosses plan past g s =
    let same = eq-eqb g g refl in
    let there = entrance plan past g s.0 in
    let at = address_at past (sender past g) in
    rw same (rw (empty_by_two (trail past g)) (rw (less_of s.0 4 (leg past g)) (rw (less_of s.0 1 (trail past g))
    (ap (λ o. record (kept plan past g) {
      leg = take 5 (s.0 ∷ leg past g);
      trail = take 2 (s.0 ∷ trail past g);
      came_in = cond (is_empty (trail past g)) there (came_in plan past g);
      source = o;
      crossed = length past + 1;
      asked = length past + 1;
    }) (same_source (is_empty (trail past g)) at there (came_in plan past g) (sender_address plan past g))))))

-- A grant that directly follows a crossing of the frame. That crossing was its first where it crossed no more.
empty_by_one : (xs : List ℕ) → is_empty (take 1 xs) ≡ is_empty xs
empty_by_one [] = refl
empty_by_one (x ∷ xs) = refl

came_in_by_trail : (past : List Entry) (id : ℕ) → has_just_crossed past id ≡ true → has_just_come_in past id ≡ is_single (take 2 (trail past id))
came_in_by_trail [] id just = absurd (false≢true just)
came_in_by_trail (Crossed g s ∷ past) id just = rw just (sym (empty_by_one (trail past id)))
came_in_by_trail (entry ∷ past) id just = absurd (false≢true just)

pub when_its_edge_grants : (plan : Plan) (past : List Entry) (x : Pmac) (h : HostNo) (e : SwitchNo) (p id : ℕ) → has_just_crossed past id ≡ true →
    kept plan (Granted x h e p ∷ past) id
    ≡ granting (length past + 1) (address_at (Granted x h e p ∷ past) (sender past id) (came_in plan past id)) (kept plan past id)
when_its_edge_grants plan past x h e p id just = let first = came_in_by_trail past id just in rw just (rw first refl)

-- A frame that goes on to another address.
pub when_it_is_redirected : (plan : Plan) (past : List Entry) (g : ℕ) (old new : Pmac) → kept plan (Redirected g old new ∷ past) g ≡ redirecting new (kept plan past g)
when_it_is_redirected plan past g old new = let same = eq-eqb g g refl in rw same refl

-- A frame that ends, in each of the three ways.
over_now : (n : ℕ) → not (n + 1 == 0) ≡ true
over_now n = ap not (ne_eqb (n + 1) 0 (omega arith))

pub when_it_arrives : (plan : Plan) (past : List Entry) (g : ℕ) (h : HostNo) (f : List ℕ) → kept plan (Arrived g h f ∷ past) g ≡ ending (kept plan past g)
when_it_arrives plan past g h f = let same = eq-eqb g g refl in rw same (ap (λ b. record (kept plan past g) { over = b }) (over_now (ends past g)))

pub when_it_is_taken : (plan : Plan) (past : List Entry) (g : ℕ) (s : SwitchNo) → kept plan (Taken g s ∷ past) g ≡ ending (kept plan past g)
when_it_is_taken plan past g s = let same = eq-eqb g g refl in rw same (ap (λ b. record (kept plan past g) { over = b }) (over_now (ends past g)))

pub when_it_is_dropped : (plan : Plan) (past : List Entry) (g : ℕ) (cause : Cause) → kept plan (Dropped g cause ∷ past) g ≡ ending (kept plan past g)
when_it_is_dropped plan past g cause = let same = eq-eqb g g refl in rw same (ap (λ b. record (kept plan past g) { over = b }) (over_now (ends past g)))

-- A frame that begins: it crossed nothing, and has not ended.
apart : (past : List Entry) (g id : ℕ) → is_begun past g ≡ true → is_begun past id ≡ false → (g == id) ≡ false
apart past g id old new = ne_eqb g id (λ same. false≢true (sym new ∙ subst (λ n. is_begun past n ≡ true) same old))

crossed_before : (plan : Plan) (past : List Entry) (id : ℕ) → RunTo plan past → is_begun past id ≡ false → crossed_at past id ≡ 0
crossed_before plan [] id run new = refl
crossed_before plan (Sent g h f ∷ past) id run new = crossed_before plan past id run.0 (or_parts (g == id) (is_begun past id) new).1
crossed_before plan (Made g s f ∷ past) id run new = crossed_before plan past id run.0 (or_parts (g == id) (is_begun past id) new).1
crossed_before plan (Copied g c ∷ past) id run new =
    let parts = or_parts (c == id) (is_begun past id) new in
    rw (parts.0) (crossed_before plan past id run.0 parts.1)
crossed_before plan (Crossed g s ∷ past) id run new =
    let other = apart past g id (flying_is_begun past g run.1) new in
    rw other (crossed_before plan past id run.0 new)
crossed_before plan (entry ∷ past) id run new = crossed_before plan past id run.0 new

none_crossed : (plan : Plan) (past : List Entry) (id : ℕ) → RunTo plan past → is_begun past id ≡ false → has_just_crossed past id ≡ false
none_crossed plan [] id run new = refl
none_crossed plan (Crossed g s ∷ past) id run new = apart past g id (flying_is_begun past g run.1) new
none_crossed plan (entry ∷ past) id run new = refl

asked_before : (plan : Plan) (past : List Entry) (id : ℕ) → RunTo plan past → is_begun past id ≡ false → asked_at past id ≡ 0
asked_before plan [] id run new = refl
asked_before plan (Sent g h f ∷ past) id run new = asked_before plan past id run.0 (or_parts (g == id) (is_begun past id) new).1
asked_before plan (Made g s f ∷ past) id run new = asked_before plan past id run.0 (or_parts (g == id) (is_begun past id) new).1
asked_before plan (Copied g c ∷ past) id run new =
    let parts = or_parts (c == id) (is_begun past id) new in
    rw (parts.0) (asked_before plan past id run.0 parts.1)
asked_before plan (Crossed g s ∷ past) id run new =
    let other = apart past g id (flying_is_begun past g run.1) new in
    rw other (asked_before plan past id run.0 new)
asked_before plan (Granted y h e p ∷ past) id run new =
    let other = none_crossed plan past id run.0 new in
    rw other (asked_before plan past id run.0 new)
asked_before plan (entry ∷ past) id run new = asked_before plan past id run.0 new

sent_before : (plan : Plan) (past : List Entry) (id : ℕ) → RunTo plan past → is_begun past id ≡ false → sent_at past id ≡ 0
sent_before plan [] id run new = refl
sent_before plan (Sent g h f ∷ past) id run new =
    let parts = or_parts (g == id) (is_begun past id) new in
    rw (parts.0) (sent_before plan past id run.0 parts.1)
sent_before plan (Made g s f ∷ past) id run new = sent_before plan past id run.0 (or_parts (g == id) (is_begun past id) new).1
sent_before plan (Copied g c ∷ past) id run new =
    let parts = or_parts (c == id) (is_begun past id) new in
    rw (parts.0) (sent_before plan past id run.0 parts.1)
sent_before plan (entry ∷ past) id run new = sent_before plan past id run.0 new

-- what is kept, of the flight and four more values
abbrev of_flight : Flight → ℕ → ℕ → ℕ → ℕ → Kept
of_flight f crossed asked sent ended = record {
  root = f.root;
  sender = f.sender;
  beginning = f.beginning;
  address = f.address;
  redirected = f.redirected;
  leg = take 5 (f.leg);
  trail = take 2 (f.trail);
  came_in = f.came_in;
  source = f.source;
  crossed = crossed;
  asked = asked;
  sent = sent;
  over = not (ended == 0);
}

abbrev to : List ℕ → ℕ
to frame = mac_number (destination_of frame)

fresh : (plan : Plan) (past now : List Entry) (id : ℕ) (from : Option ℕ) (frame : List ℕ) (n : ℕ) → RunTo plan past → is_begun past id ≡ false →
    flight_of plan now id ≡ first_flight id from frame (to frame) → crossed_at now id ≡ crossed_at past id → asked_at now id ≡ asked_at past id →
    sent_at now id ≡ n → ends now id ≡ ends past id → kept plan now id ≡ first_kept id from frame n
fresh plan past now id from frame n run new flight crossed asked sent ended =
    ap (λ f. of_flight f (crossed_at now id) (asked_at now id) (sent_at now id) (ends now id)) flight
    ∙ ap (λ m. of_flight (first_flight id from frame (to frame)) m (asked_at now id) (sent_at now id) (ends now id)) (crossed ∙ crossed_before plan past id run new)
    ∙ ap (λ m. of_flight (first_flight id from frame (to frame)) 0 m (sent_at now id) (ends now id)) (asked ∙ asked_before plan past id run new)
    ∙ ap (λ m. of_flight (first_flight id from frame (to frame)) 0 0 m (ends now id)) sent
    ∙ ap (λ m. of_flight (first_flight id from frame (to frame)) 0 0 n m) (ended ∙ ends_after_it_begins plan past id run new)

pub when_it_is_sent : (plan : Plan) (past : List Entry) (id : ℕ) (host : HostNo) (frame : List ℕ) → RunTo plan past → id ≡ begun past + 1 →
    kept plan (Sent id host frame ∷ past) id ≡ first_kept id (Some host.0) frame (length past + 1)
when_it_is_sent plan past id host frame run next =
    let new = next_is_new plan past id run next in
    let same = eq-eqb id id refl in
    let now : sent_at (Sent id host frame ∷ past) id ≡ length past + 1 = rw same refl in
    fresh plan past (Sent id host frame ∷ past) id (Some host.0) frame (length past + 1) run new (flight_sent plan past id host frame run next) refl refl now refl

pub when_it_is_made : (plan : Plan) (past : List Entry) (id : ℕ) (switch : SwitchNo) (frame : List ℕ) → RunTo plan past → id ≡ begun past + 1 →
    kept plan (Made id switch frame ∷ past) id ≡ first_kept id None frame 0
when_it_is_made plan past id switch frame run next =
    let new = next_is_new plan past id run next in
    let none = sent_before plan past id run new in
    fresh plan past (Made id switch frame ∷ past) id None frame 0 run new (flight_made plan past id switch frame run next) refl refl none refl

-- A copy has all that its frame has.
pub when_it_is_copied : (plan : Plan) (past : List Entry) (g c : ℕ) → RunTo plan past → is_flying past g ≡ true → c ≡ begun past + 1 →
    kept plan (Copied g c ∷ past) c ≡ kept plan past g
when_it_is_copied plan past g c run flies next =
    let new = next_is_new plan past c run next in
    let none = ends_after_it_begins plan past c run new in
    let over = eqb-true (ends past g) 0 (and_parts (is_begun past g) (ends past g == 0) flies).1 in
    let same = eq-eqb c c refl in
    rw same (ap (λ n. record (kept plan past g) { over = not (n == 0) }) (none ∙ sym over))
