-- A frame that has just come in from a host is on its way from there. So the edge switch where it came in is placed.
use Rattle.std.proofs.Common.{inl, inr, ◌≡◌, ℕ, suc, ◌+◌, ◌/◌, ◌%◌, ◌<◌, ◌≤◌, ◌==◌, ◌&&◌, nat_le, true, false, List, [], ◌∷◌, Some, reverse, get_or, slice_get, refl, sym, ◌∙◌, ap, subst, arith, div-add-mod'}
use Rattle.std.specs.List.{AllByRecursion}
use Rattle.std.proofs.lemmas.Bool.{and_from, and_parts, cases_Bool, cases_lt, cond-false, cond-true, eqb-true, false≢true, le-leb}
use Rattle.std.proofs.lemmas.Nat.{mod_below}
use Rattle.pl_wiring.specs.declared.link.Peer.{Peer}
use Rattle.pl_wiring.specs.declared.link.Peer.TheVariants.{HostPort, Switch}
use Rattle.pl_wiring.specs.Index.{port_index}
use Rattle.pl_wiring.specs.Peers.{peer_of}
use Rattle.pl_wiring.specs.Plan.{Plan}
use Rattle.pl_layouts.specs.declared.place.Place.{Place}
use Rattle.pl_layouts.specs.Placement.{is_placed}
use Rattle.pl_journal.specs.declared.entry.Entry.{Entry}
use Rattle.pl_journal.specs.declared.entry.Entry.TheVariants.{Crossed}
use Rattle.pl_journal.specs.Flights.{Flight, begun, came_in, ends, has_just_come_in, is_begun, is_empty, is_flying, trail}
use Rattle.pl_journal.specs.Lossy.{RunTo}
use Rattle.pl_journal.specs.Places.{EdgePort}
use Rattle.pl_journal.proofs.Exports.{begun_within}
use Rattle.pl_node.specs.SwitchViews.{SwitchView}
use Rattle.pl_queues.specs.Queues.{items_at}
use Rattle.pl_world.specs.declared.item.Item.{Item}
use Rattle.pl_world.specs.declared.item.Item.TheVariants.{Control, Data}
use Rattle.pl_world.specs.Flying.{IsCounted, born, times_in, times_in_all}
use Rattle.pl_world.specs.Worlds.{WorldView}
use Rattle.pl_world.proofs.Exports.{sound}
use Rattle.pl_law_flights.specs.OnTheWay.{Flying, IsGoing, IsOut, IsJournaled, IsWaiting, known_place, place_in}
use Rattle.pl_law_flights.proofs.Counting.{counts}
use Rattle.pl_law_flights.proofs.Settling.{HasNoneJustIn}

-- a frame that stands in queues stands in one of them
some_queue : (id : ℕ) (queues : List (List Item)) → 0 < times_in_all id queues → (n : ℕ) × (0 < times_in id (get_or queues n []))
some_queue id [] more = absurd (omega arith)
some_queue id (queue ∷ queues) more = elim (cases_lt 0 (times_in id queue)) [
  | inl here ↦ (0, here)
  | inr none ↦ let rest = some_queue id queues (omega arith) in (suc rest.0, rest.1)
]

-- and what holds of all items there holds of it
some_item : (P : Item → Type 0) (id : ℕ) (items : List Item) → 0 < times_in id items → AllByRecursion P items → (frame : List ℕ) × P (Data id frame)
some_item P id [] more all = absurd (omega arith)
some_item P id (Control frame ∷ items) more all = some_item P id items more all.1
some_item P id (Data g frame ∷ items) more all = elim (cases_Bool (g == id)) [
  | inl same ↦ (frame, subst (λ n. P (Data n frame)) (eqb-true g id same) all.0)
  | inr other ↦ some_item P id items (subst (λ n. 0 < n) (cond-false (g == id) (times_in id items + 1) (times_in id items) other) more) all.1
]

-- a frame that has just come in has crossed a switch, and flies
has_crossed_one : (past : List Entry) (g : ℕ) → has_just_come_in past g ≡ true → is_empty (trail past g) ≡ false
has_crossed_one [] g just = absurd (false≢true just)
has_crossed_one (Crossed n s ∷ past) g just = rw ((and_parts (n == g) (is_empty (trail past g)) just).0) refl
has_crossed_one (entry ∷ past) g just = absurd (false≢true just)

just_flies : (plan : Plan) (past : List Entry) (g : ℕ) → RunTo plan past → has_just_come_in past g ≡ true → is_flying past g ≡ true
just_flies plan [] g run just = absurd (false≢true just)
just_flies plan (Crossed n s ∷ past) g run just =
    subst (λ m. is_flying past m ≡ true) (eqb-true n g (and_parts (n == g) (is_empty (trail past g)) just).0) run.1
just_flies plan (entry ∷ past) g run just = absurd (false≢true just)

module _ (plan : Plan) (place : ℕ → Place) (past : List Entry) (id : ℕ) (there : EdgePort) (came : came_in plan past id ≡ Some there) where
  home_by : (s port : ℕ) (peer : Peer) (frame : List ℕ) → IsGoing plan place past s port peer id frame → is_placed (place there.edge) ≡ true
  home_by s port (Switch t q) frame b = b.home there came
  home_by s port HostPort frame b = b.home there came

  -- wherever it is
  pub home_of : (from_hosts out : List (List Item)) → 4 ≤ plan.k → is_empty (trail past id) ≡ false →
      0 < times_in_all id from_hosts + times_in_all id out → Flying plan place past from_hosts out → is_placed (place there.edge) ≡ true
  home_of from_hosts out many crossed more f = elim (cases_lt 0 (times_in_all id from_hosts)) [
    | inl waits ↦
        let queue = some_queue id from_hosts waits in
        let item = some_item (IsWaiting plan past queue.0) id (items_at from_hosts queue.0) queue.1 (f.waiting queue.0) in
        let is : trail past id ≡ [] = ap (λ (v : Flight). v.trail) item.1 in
        absurd (false≢true (sym crossed ∙ ap is_empty is))
    | inr none ↦
        let queue = some_queue id out (omega arith) in
        let n : ℕ = queue.0 in
        let place_of : port_index plan.k (n / plan.k) (n % plan.k) ≡ n = div-add-mod' n plan.k in
        let more_there : 0 < times_in id (items_at out (port_index plan.k (n / plan.k) (n % plan.k))) =
        subst (λ m. 0 < times_in id (items_at out m)) (sym place_of) queue.1 in
        let item = some_item (IsOut plan place past (n / plan.k) (n % plan.k)) id (items_at out (port_index plan.k (n / plan.k) (n % plan.k))) more_there
        (f.going (n / plan.k) (n % plan.k) (mod_below n plan.k (omega arith))) in
        home_by (n / plan.k) (n % plan.k) (peer_of plan (n / plan.k) (n % plan.k)) item.0 item.1
  ]

-- where a switch is not placed no frame has just come in
pub none_just_in : (w : WorldView) → IsCounted w → IsJournaled w → (t : ℕ) (v : SwitchView) → slice_get w.switches t ≡ Some v → is_placed v.place ≡ false →
    HasNoneJustIn w.plan (reverse w.journal) t
none_just_in w counted told t v found unplaced = λ g just there came at.
    let past : List Entry = reverse w.journal in
    let so = sound w counted in
    let flies = and_parts (is_begun past g) (ends past g == 0) (just_flies w.plan past g told.run just) in
    let none : ends past g ≡ 0 = eqb-true (ends past g) 0 flies.1 in
    let within = begun_within w.plan past g told.run flies.0 in
    let once : born g (begun past) ≡ 1 = cond-true (nat_le 1 g && nat_le g (begun past)) 1 0
    (and_from (nat_le 1 g) (nat_le g (begun past)) (le-leb 1 g within.0) (le-leb g (begun past) within.1)) in
    let all = (counts w past (λ i. 0) refl so.balance).flights g in
    let placed = home_of w.plan (place_in w.switches) past g there came w.from_hosts w.out so.rest.is_plan.arity.least (has_crossed_one past g just) (omega arith) told.flying in
    let here : is_placed (place_in w.switches t) ≡ true = subst (λ n. is_placed (place_in w.switches n) ≡ true) at placed in
    false≢true (sym unplaced ∙ ap (λ o. is_placed (known_place o)) (sym found) ∙ here)
