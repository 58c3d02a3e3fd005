-- At the beginning nothing is on its way; each step keeps it that at each port at most one frame of each root comes; and what is kept says so of
-- the journal.
use Rattle.std.proofs.Common.{◌≡◌, ℕ, zero, suc, ◌+◌, ◌*◌, ◌≤◌, ◌<◌, ◌==◌, ◌&&◌, ◌||◌, not, Bool, true, false, if◌then◌else◌, List, [], ◌∷◌, length, map, None, get_or, reverse, slice_get, refl, ap, ◌∙◌, arith}
use Rattle.std.specs.Option.{option_map}
use Rattle.std.proofs.lemmas.Bool.{and_from, cond-true, eq-eqb, or_right}
use Rattle.pl_wiring.specs.declared.host.Host.{Host}
use Rattle.pl_wiring.specs.declared.link.Peer.TheVariants.{HostPort}
use Rattle.pl_wiring.specs.Index.{port_index}
use Rattle.pl_wiring.specs.Labels.{switch_count}
use Rattle.pl_wiring.specs.Peers.{peer_of}
use Rattle.pl_wiring.specs.Plan.{Plan}
use Rattle.pl_frame.specs.Ethernet.{destination_of}
use Rattle.pl_layouts.specs.Memberships.{is_group}
use Rattle.pl_journal.specs.declared.entry.Entry.{Entry}
use Rattle.pl_journal.specs.declared.entry.Entry.TheVariants.{Arrived, Line, Settled, Unsettled}
use Rattle.pl_journal.specs.Causes.{goes_to_group}
use Rattle.pl_journal.specs.Flights.{root, root_arrived_at}
use Rattle.pl_journal.specs.Lossy.{copies_at}
use Rattle.pl_journal.specs.Places.{EdgePort, at_port, is_at, edge_port_of}
use Rattle.pl_node.specs.HostInputs.{HostRule}
use Rattle.pl_node.specs.ManagerDuties.{ManagerRule}
use Rattle.pl_switch_rule.specs.SwitchRule.{Loose}
use Rattle.pl_switch_rule.proofs.Exports.{loose_steps_are_accounted}
use Rattle.pl_world.specs.declared.event.Event.{Event}
use Rattle.pl_world.specs.declared.item.Item.{Item}
use Rattle.pl_world.specs.declared.item.Item.TheVariants.{Data}
use Rattle.pl_world.specs.declared.limits.Limits.{Limits}
use Rattle.pl_world.specs.Booting.{booted, first_attachment}
use Rattle.pl_world.specs.Changes.{noted, out_of}
use Rattle.pl_world.specs.Flying.{IsCounted}
use Rattle.pl_world.specs.Refusals.{refusal}
use Rattle.pl_world.specs.Runs.{IsMark}
use Rattle.pl_world.specs.WorldRule.{WorldStep}
use Rattle.pl_world.specs.Worlds.{WorldView}
use Rattle.pl_world.proofs.Exports.{born_none, born_once, counted as to_counted, event_is_not_refused, same_refusal, sound}
use Rattle.pl_law_counts.specs.Counting.{comes_from_place, count_in, has_root, standing}
use Rattle.pl_law_counts.proofs.Exports.{claim, count_all-one, count_in-cons, none_in, of_root, one_there}
use Rattle.pl_law_copies.specs.Copies.{ComesOnce, came_to, may_come, may_come_by, to_ports}
use Rattle.pl_law_copies.specs.Standing.{KnowTrees}
use Rattle.pl_law_copies.proofs.Happening.{happens_once}
use Rattle.pl_law_copies.proofs.TurnsKeepOneCopy.{noted_once}

-- At the beginning.

first_attachments : (hosts : List Host) (h : ℕ) → option_map (λ (x : Host). at_port x.edge.0 x.port) (slice_get hosts h) ≡ standing (map first_attachment hosts) h
first_attachments [] h = refl
first_attachments (x ∷ hosts) zero = refl
first_attachments (x ∷ hosts) (suc h) = first_attachments hosts h

pub once_at_first : (plan : Plan) (limits : Limits) → ComesOnce (booted plan limits)
once_at_first plan limits = record {
  standing = first_attachments plan.hosts;
  unbegun = λ id later. refl;
  once = λ r there. omega (
    arith,
    none_in (λ h. has_root [] r) (length plan.hosts),
    none_in (comes_from_place to_ports plan [] r there) (switch_count plan.k * plan.k),
    born_none r,
  );
}

-- A step, and a mark.

pub step_once : (manager : ManagerRule) (rule : HostRule) (old : WorldView) (event : Event) (new : WorldView) → IsCounted old → KnowTrees old → refusal old event ≡ None →
    WorldStep Loose manager rule old event new → ComesOnce old → ComesOnce new
step_once manager rule old event new counted trees none step come =
    let now : WorldView = record old { steps = old.steps + 1 } in
    let so = sound old counted in
    happens_once loose_steps_are_accounted now (to_counted now (record { balance = so.balance; rest = so.rest })) come new
    (record { free = trees.free; each = trees.each; closed = trees.closed }) manager rule event (same_refusal old event ∙ event_is_not_refused old event none) step

pub mark_once : (w : WorldView) (e : Entry) → IsMark e → ComesOnce w → ComesOnce (noted w e)
mark_once w (Line n) is c = noted_once w (Line n) tt c
mark_once w (Settled rounds) is c = noted_once w (Settled rounds) tt c
mark_once w (Unsettled pending) is c = noted_once w (Unsettled pending) tt c
mark_once w e is c = absurd is

-- What is kept says this of the journal.

pub came_at_most_once : (w : WorldView) → ComesOnce w → (r : ℕ) (there : EdgePort) → came_to w.plan (reverse w.journal) r there ≤ 1
came_at_most_once w come r there = (let all = come.once r there in let most = born_once r w.begun in omega arith)

-- of them, the frames of groups
pub copies_at_most_came : (plan : Plan) (past : List Entry) (r : ℕ) (there : EdgePort) → copies_at plan past r there ≤ came_to plan past r there
copies_at_most_came plan [] r there = omega arith
copies_at_most_came plan (Arrived id h frame ∷ past) r there = by_tests (goes_to_group past id) ((root past id == r) && is_at (edge_port_of plan past h.0) there)
    (copies_at plan past r there) (came_to plan past r there) (copies_at_most_came plan past r there)
  where
    by_tests : (group here : Bool) (m n : ℕ) → m ≤ n → (if group && here then m + 1 else m) ≤ (if here then suc n else n)
    by_tests true true m n less = omega arith
    by_tests true false m n less = omega arith
    by_tests false true m n less = omega arith
    by_tests false false m n less = omega arith
copies_at_most_came plan (e ∷ past) r there = copies_at_most_came plan past r there

pub none_came : (plan : Plan) (past : List Entry) (r : ℕ) (there : EdgePort) → came_to plan past r there ≡ 0 → root_arrived_at plan past r there ≡ false
none_came plan [] r there none = refl
none_came plan (Arrived id h frame ∷ past) r there none =
    by_test ((root past id == r) && is_at (edge_port_of plan past h.0) there) (came_to plan past r there) (root_arrived_at plan past r there) (none_came plan past r there) none
  where
    by_test : (b : Bool) (n : ℕ) (before : Bool) → (n ≡ 0 → before ≡ false) → (if b then suc n else n) ≡ 0 → (b || before) ≡ false
    by_test true n before earlier zero_now = absurd (omega arith)
    by_test false n before earlier zero_now = earlier zero_now
none_came plan (e ∷ past) r there none = none_came plan past r there none

-- a frame that waits at a port for hosts is the first of its root there

claims_its_port : (plan : Plan) (s port : ℕ) (frame : List ℕ) → peer_of plan s port ≡ HostPort → claim may_come_by plan s port (at_port s port) frame ≡ 1
claims_its_port plan s port frame peer = cond-true (may_come_by plan s port (at_port s port) frame) 1 0
    (or_right (not (is_group (destination_of frame))) _ (ap (λ p. may_come plan.k s port p (at_port s port)) peer
    ∙ and_from (s == s) (port == port) (eq-eqb s s refl) (eq-eqb port port refl)))

pub first_there : (w : WorldView) → ComesOnce w → (s port id : ℕ) (frame : List ℕ) (items : List Item) → port < w.plan.k → peer_of w.plan s port ≡ HostPort →
    out_of w s port ≡ Data id frame ∷ items → root_arrived_at w.plan (reverse w.journal) (root (reverse w.journal) id) (at_port s port) ≡ false
first_there w come s port id frame items within peer head =
    let past : List Entry = reverse w.journal in
    let r : ℕ = root past id in
    let there : EdgePort = at_port s port in
    let test : ℕ → ℕ → List ℕ → Bool = comes_from_place to_ports w.plan past r there in
    let n : ℕ = port_index w.plan.k s port in
    let here : count_in (test n) (Data id frame ∷ []) ≡ of_root past id (claim may_come_by w.plan s port there frame) r = one_there to_ports w r there s port id frame within in
    let own : of_root past id (claim may_come_by w.plan s port there frame) r ≡ 1 = cond-true (r == r) (claim may_come_by w.plan s port there frame) 0 (eq-eqb r r refl) ∙ claims_its_port w.plan s port frame peer in
    let all : count_in (test n) (get_or w.out n []) ≡ count_in (test n) (Data id frame ∷ items) = ap (count_in (test n)) head in
    let most = born_once r w.begun in
    none_came w.plan past r there (omega (arith, come.once r there, count_all-one test w.out n, count_in-cons (test n) (Data id frame) items, here, own, all, most))
