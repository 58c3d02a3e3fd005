-- What is kept says this of the journal.
use Rattle.std.proofs.Common.{◌≡◌, ℕ, suc, ◌≤◌, ◌<◌, ◌==◌, ◌&&◌, Bool, true, false, if◌then◌else◌, List, [], ◌∷◌, get_or, length, map, reverse, Some, refl, sym, ap, ◌∙◌, subst, arith, inl, inr}
use Rattle.std.specs.Option.{option_map}
use Rattle.std.proofs.lemmas.Bool.{cases_Bool, cond-false, cond-true, eq-eqb, eqb-true}
use Rattle.std.proofs.lemmas.Option.{slice_get-get_or}
use Rattle.pl_wiring.specs.Labels.{label_of}
use Rattle.pl_journal.specs.declared.entry.Entry.{Entry}
use Rattle.pl_journal.specs.declared.entry.Entry.TheVariants.{Arrived, Copied, Crossed, Dropped, Freed, Granted, Line, LinkDown, LinkUp, Made, Moved, Placed, Redirected, Registered, Restarted, Sent, Settled, Skipped, Taken, Unsettled}
use Rattle.pl_journal.specs.Flights.{before_copy, root, trail}
use Rattle.pl_journal.specs.Places.{EdgePort, at_port, edge_port_of, is_at}
use Rattle.pl_journal.proofs.Exports.{same_edge_port_itself}
use Rattle.pl_wiring.specs.Plan.{Plan}
use Rattle.pl_world.specs.declared.attachment.AttachmentPoint.{AttachmentPoint}
use Rattle.pl_world.specs.Worlds.{WorldView}
use Rattle.pl_world.proofs.Exports.{born_once}
use Rattle.pl_bridge_rule.specs.Tree.{IsWay}
use Rattle.pl_law_bridge.specs.Reaching.{got_since_move, ReachesOnce, Target, times_reached}
use Rattle.pl_law_bridge.specs.Reaching.Target.{Arrival, Crossing}
use Rattle.pl_law_bridge.specs.TreeWorld.{KeepsToTree}
use Rattle.pl_law_bridge.specs.Travelling.{AreAdjacentInTree, times_on}
use Rattle.pl_law_bridge.proofs.Spreading.{same_switch}

pub reached_at_most_once : (w : WorldView) → ReachesOnce w → (r : ℕ) (target : Target) → times_reached w.plan (reverse w.journal) r target ≤ 1
reached_at_most_once w c r target = (let all = c.once r target in let most = born_once r w.begun in omega arith)

-- what a host got since it moved last arrived at the port where it stands
got_within : (plan : Plan) (past : List Entry) (r h : ℕ) (there : EdgePort) → edge_port_of plan past h ≡ Some there → got_since_move past r h ≤ times_reached plan past r (Arrival there)
got_within plan [] r h there at = omega arith
got_within plan (Crossed id s ∷ past) r h there at = by ((root past id == r) && false) (got_within plan past r h there at)
  where
    by : (b : Bool) → got_since_move past r h ≤ times_reached plan past r (Arrival there) →
        got_since_move past r h ≤ (if b then suc (times_reached plan past r (Arrival there)) else times_reached plan past r (Arrival there))
    by true less = omega (arith, less)
    by false less = less
got_within plan (Arrived id g f ∷ past) r h there at = elim (cases_Bool (g.0 == h)) [
  | inl itself ↦
      let place : edge_port_of plan past g.0 ≡ Some there = ap (edge_port_of plan past) (eqb-true g.0 h itself) ∙ at in
      let here : is_at (edge_port_of plan past g.0) there ≡ true = ap (λ o. is_at o there) place ∙ same_edge_port_itself there in
      both (root past id == r) (g.0 == h) (is_at (edge_port_of plan past g.0) there) here (got_within plan past r h there at)
  | inr other ↦ none (root past id == r) (g.0 == h) (is_at (edge_port_of plan past g.0) there) other (got_within plan past r h there at)
]
  where
    got : ℕ
    got = got_since_move past r h

    reached : ℕ
    reached = times_reached plan past r (Arrival there)

    both : (own mine here : Bool) → here ≡ true → got ≤ reached → (if own && mine then suc got else got) ≤ (if own && here then suc reached else reached)
    both true true true is less = omega (arith, less)
    both true false true is less = omega (arith, less)
    both own mine false is less = absurd (cc)
    both false mine here is less = less

    none : (own mine here : Bool) → mine ≡ false → got ≤ reached → (if own && mine then suc got else got) ≤ (if own && here then suc reached else reached)
    none true false true is less = omega (arith, less)
    none true false false is less = less
    none own true here is less = absurd (cc)
    none false mine here is less = less
got_within plan (Moved g e p ∷ past) r h there at = elim (cases_Bool (g.0 == h)) [
  | inl itself ↦ (let none = cond-true (g.0 == h) 0 (got_since_move past r h) itself in omega arith)
  | inr other ↦
      let before = sym (cond-false (g.0 == h) (Some (at_port e.0 p)) (edge_port_of plan past h) other) ∙ at in
      let less = got_within plan past r h there before in
      let same = cond-false (g.0 == h) 0 (got_since_move past r h) other in
      omega arith
]
got_within plan (Copied g c ∷ past) r h there at = got_within plan past r h there at
got_within plan (Line n ∷ past) r h there at = got_within plan past r h there at
got_within plan (Sent g n f ∷ past) r h there at = got_within plan past r h there at
got_within plan (Skipped n skip ∷ past) r h there at = got_within plan past r h there at
got_within plan (Made g s f ∷ past) r h there at = got_within plan past r h there at
got_within plan (Redirected g old new ∷ past) r h there at = got_within plan past r h there at
got_within plan (Taken g s ∷ past) r h there at = got_within plan past r h there at
got_within plan (Dropped g why ∷ past) r h there at = got_within plan past r h there at
got_within plan (Granted p n e q ∷ past) r h there at = got_within plan past r h there at
got_within plan (Registered p n ∷ past) r h there at = got_within plan past r h there at
got_within plan (Freed p ∷ past) r h there at = got_within plan past r h there at
got_within plan (Placed s place ∷ past) r h there at = got_within plan past r h there at
got_within plan (LinkDown a b ∷ past) r h there at = got_within plan past r h there at
got_within plan (LinkUp a b ∷ past) r h there at = got_within plan past r h there at
got_within plan (Restarted n ∷ past) r h there at = got_within plan past r h there at
got_within plan (Settled n ∷ past) r h there at = got_within plan past r h there at
got_within plan (Unsettled n ∷ past) r h there at = got_within plan past r h there at

pub got_at_most_once : (w : WorldView) → KeepsToTree w → (r h : ℕ) → h < length w.plan.hosts → got_since_move (reverse w.journal) r h ≤ 1
got_at_most_once w is r h within =
    let nobody : AttachmentPoint = record { edge = record { 0 = 0 }; port = 0 } in
    let attachment = get_or w.attachments h nobody in
    let there : EdgePort = at_port attachment.edge.0 attachment.port in
    let stands = is.once.standing h
    ∙ ap (option_map (λ (x : AttachmentPoint). at_port x.edge.0 x.port)) (slice_get-get_or w.attachments h nobody (subst (λ n. h < n) (sym is.counted.formed.attachments) within)) in
    let got = got_within w.plan (reverse w.journal) r h there stands in
    let most = reached_at_most_once w is.once r (Arrival there) in
    omega (arith, got, most)

-- what stands in the line of a frame's crossings was crossed by a frame of its root
trail_within : (plan : Plan) (past : List Entry) (id x : ℕ) → times_on x (trail past id) ≤ times_reached plan past (root past id) (Crossing x)
trail_within plan [] id x = omega arith
trail_within plan (Crossed g s ∷ past) id x = elim (cases_Bool (g == id)) [
  | inl same ↦
      let e = eqb-true g id same in
      let own : (root past g == root past id) ≡ true = eq-eqb (root past g) (root past id) (ap (root past) e) in
      let longer : trail (Crossed g s ∷ past) id ≡ s.0 ∷ trail past id = cond-true (g == id) (s.0 ∷ trail past id) (trail past id) same in
      let all : times_on x (trail (Crossed g s ∷ past) id) ≡ times_on x (s.0 ∷ trail past id) = ap (times_on x) longer in
      let more = both (root past g == root past id) (s.0 == x) (times_on x (trail past id)) (times_reached plan past (root past id) (Crossing x)) own (trail_within plan past id x) in
      omega arith
  | inr other ↦
      let none : trail (Crossed g s ∷ past) id ≡ trail past id = cond-false (g == id) (s.0 ∷ trail past id) (trail past id) other in
      let all : times_on x (trail (Crossed g s ∷ past) id) ≡ times_on x (trail past id) = ap (times_on x) none in
      let more = later ((root past g == root past id) && (s.0 == x)) (times_reached plan past (root past id) (Crossing x)) in
      let before = trail_within plan past id x in
      omega arith
]
  where
    both : (own here : Bool) (m n : ℕ) → own ≡ true → m ≤ n → (if here then suc m else m) ≤ (if own && here then suc n else n)
    both true true m n is less = omega arith
    both true false m n is less = omega arith
    both false here m n is less = absurd (cc)

    later : (b : Bool) (n : ℕ) → n ≤ (if b then suc n else n)
    later true n = omega arith
    later false n = omega arith
trail_within plan (Arrived g h f ∷ past) id x = by ((root past g == root past id) && false) (times_on x (trail past id)) (times_reached plan past (root past id) (Crossing x)) (trail_within plan past id x)
  where
    by : (b : Bool) (m n : ℕ) → m ≤ n → m ≤ (if b then suc n else n)
    by true m n less = omega (arith, less)
    by false m n less = less
trail_within plan (Copied g c ∷ past) id x = trail_within plan past (before_copy g c id) x
trail_within plan (Line n ∷ past) id x = trail_within plan past id x
trail_within plan (Sent g h f ∷ past) id x = trail_within plan past id x
trail_within plan (Skipped h skip ∷ past) id x = trail_within plan past id x
trail_within plan (Made g s f ∷ past) id x = trail_within plan past id x
trail_within plan (Redirected g old new ∷ past) id x = trail_within plan past id x
trail_within plan (Taken g s ∷ past) id x = trail_within plan past id x
trail_within plan (Dropped g why ∷ past) id x = trail_within plan past id x
trail_within plan (Granted p h e q ∷ past) id x = trail_within plan past id x
trail_within plan (Registered p n ∷ past) id x = trail_within plan past id x
trail_within plan (Freed p ∷ past) id x = trail_within plan past id x
trail_within plan (Placed s place ∷ past) id x = trail_within plan past id x
trail_within plan (LinkDown a b ∷ past) id x = trail_within plan past id x
trail_within plan (LinkUp a b ∷ past) id x = trail_within plan past id x
trail_within plan (Moved h e p ∷ past) id x = trail_within plan past id x
trail_within plan (Restarted n ∷ past) id x = trail_within plan past id x
trail_within plan (Settled n ∷ past) id x = trail_within plan past id x
trail_within plan (Unsettled n ∷ past) id x = trail_within plan past id x

pub crossed_at_most_once : (w : WorldView) → ReachesOnce w → (id x : ℕ) → times_on x (trail (reverse w.journal) id) ≤ 1
crossed_at_most_once w c id x =
    let most = reached_at_most_once w c (root (reverse w.journal) id) (Crossing x) in
    let within = trail_within w.plan (reverse w.journal) id x in
    omega arith

-- a line in which no switch stands twice does not turn back
way_of : (k : ℕ) (switches : List ℕ) → ((x : ℕ) → times_on x switches ≤ 1) → AreAdjacentInTree k switches → IsWay (map (label_of k) switches)
way_of k [] once adjacent = tt
way_of k (s ∷ []) once adjacent = tt
way_of k (s ∷ t ∷ []) once adjacent = adjacent.0
way_of k (s ∷ t ∷ u ∷ more) once adjacent = (
  adjacent.0,
  (
    λ same. absurd (let twice = at_both (s == s) (t == s) (u == s) (times_on s more) (eq-eqb s s refl) (eq-eqb u s (sym (same_switch k s u same))) in let most = once s in omega (arith, twice, most)),
    way_of k (t ∷ u ∷ more) (λ x. shorter (s == x) (times_on x (t ∷ u ∷ more)) (once x)) adjacent.1,
  ),
)
  where
    at_both : (a b c : Bool) (n : ℕ) → a ≡ true → c ≡ true → 2 ≤ (if a then suc (if b then suc (if c then suc n else n) else (if c then suc n else n)) else (if b then suc (if c then suc n else n) else (if c then suc n else n)))
    at_both true true true n is also = omega arith
    at_both true false true n is also = omega arith
    at_both true b false n is also = absurd (cc)
    at_both false b c n is also = absurd (cc)

    shorter : (b : Bool) (n : ℕ) → (if b then suc n else n) ≤ 1 → n ≤ 1
    shorter true n less = omega (arith, less)
    shorter false n less = less

pub lines_are_ways : (w : WorldView) → KeepsToTree w → (id : ℕ) → IsWay (map (label_of w.plan.k) (trail (reverse w.journal) id))
lines_are_ways w is id = way_of w.plan.k (trail (reverse w.journal) id) (crossed_at_most_once w is.once id) (is.travels.adjacent id)
