-- A bridge of the tree lets no more reach any target than the frame itself might, the bridge itself among the targets.
use Rattle.std.proofs.Common.{◌≡◌, ◌⊎◌, ℕ, ◌+◌, ◌≤◌, ◌==◌, not, true, false, if◌then◌else◌, List, [], ◌∷◌, map, Option, None, Some, refl, sym, ap, ◌∙◌, arith, inl, inr}
use Rattle.std.proofs.lemmas.Bool.{and_parts, cases_Bool, cond-false, cond-true, cond_both, eq-eqb, eqb-true, false≢true}
use Rattle.pl_wiring.specs.declared.label.SwitchNo.{SwitchNo}
use Rattle.pl_wiring.specs.declared.link.Peer.{Peer}
use Rattle.pl_wiring.specs.declared.link.Peer.TheVariants.{HostPort, Switch}
use Rattle.pl_wiring.specs.Labels.{label_of, number_of}
use Rattle.pl_wiring.specs.Peers.{peer_of}
use Rattle.pl_wiring.specs.Plan.{IsPlan, Plan}
use Rattle.pl_wiring.proofs.Exports.{number_of-label_of}
use Rattle.pl_journal.specs.declared.cause.Cause.TheVariants.{NoNextHop}
use Rattle.pl_node.specs.declared.acts.Act.TheVariants as act
use Rattle.pl_bridge_rule.specs.BridgeRule.{goes_on, other_ports}
use Rattle.pl_bridge_rule.specs.Tree.{is_tree_link, leads_to}
use Rattle.pl_bridge_rule.proofs.Exports.{apart, joined_leads, not_here, within}
use Rattle.pl_law_counts.proofs.Exports.{one_at_most, CountsAlone, one_only, one_port, sum_of, used}
use Rattle.pl_law_bridge.specs.Reaching.{Target, is_crossing_of, is_port_at, may_reach, may_reach_by, may_reach_with, switch_at}
use Rattle.pl_law_bridge.specs.Reaching.Target.{Arrival, Crossing, Departure}

-- 1 where a frame that leaves by a port may reach the target
abbrev pub claim : Plan → ℕ → ℕ → Target → ℕ
claim plan s port there = if may_reach_by plan s port there then 1 else 0

-- 1 where the switch itself is the target
abbrev pub here : ℕ → Target → ℕ
here t x = if is_crossing_of t x then 1 else 0

pub same_switch : (k s t : ℕ) → label_of k s ≡ label_of k t → s ≡ t
same_switch k s t same = sym (number_of-label_of k s) ∙ ap (number_of k) same ∙ number_of-label_of k t

passes_used : (plan : Plan) (t : ℕ) (x : Target) (frame ports : List ℕ) → used may_reach_with plan t x (map (λ p. act.Pass p frame) ports) ≡ sum_of (λ p. claim plan t p x) ports
passes_used plan t x frame [] = refl
passes_used plan t x frame (p ∷ ports) = ap (λ n. claim plan t p x + n) (passes_used plan t x frame ports)

claim_one : (plan : Plan) (t p : ℕ) (x : Target) → may_reach_by plan t p x ≡ true → claim plan t p x ≡ 1
claim_one plan t p x is = cond-true (may_reach_by plan t p x) 1 0 is

claim_none : (plan : Plan) (t p : ℕ) (x : Target) → may_reach_by plan t p x ≡ false → claim plan t p x ≡ 0
claim_none plan t p x is = cond-false (may_reach_by plan t p x) 1 0 is

-- a port by which a target is reached: itself, or one that leads to it
data Leads (plan : Plan) (t p : ℕ) (x : Target) : Type 0 where
  Itself : peer_of plan t p ≡ HostPort → is_port_at t p x ≡ true → Leads plan t p x
  Over : (to : SwitchNo) (at : ℕ) → peer_of plan t p ≡ Switch to at → leads_to (label_of plan.k t) (label_of plan.k to.0) (label_of plan.k (switch_at x)) ≡ true → Leads plan t p x

leads_by : (plan : Plan) (t p : ℕ) (x : Target) → may_reach_by plan t p x ≡ true → Leads plan t p x
leads_by plan t p x is = by_peer (peer_of plan t p) refl x is
  where
    by_peer : (o : Peer) → peer_of plan t p ≡ o → (x : Target) → may_reach_by plan t p x ≡ true → Leads plan t p x
    by_peer HostPort e x is = Itself e (sym (ap (λ o. may_reach plan.k t p o x) e) ∙ is)
    by_peer (Switch u r) e x is = Over u r e (sym (ap (λ o. may_reach plan.k t p o x) e) ∙ is)

-- of a port that is the target
at_switch : (t p : ℕ) (x : Target) → is_port_at t p x ≡ true → t ≡ switch_at x
at_switch t p (Crossing y) is = absurd (false≢true is)
at_switch t p (Arrival there) is = eqb-true t there.edge (and_parts (t == there.edge) (p == there.port) is).0
at_switch t p (Departure there) is = eqb-true t there.edge (and_parts (t == there.edge) (p == there.port) is).0

same_port : (t p r : ℕ) (x : Target) → is_port_at t p x ≡ true → is_port_at t r x ≡ true → p ≡ r
same_port t p r (Crossing y) is also = absurd (false≢true is)
same_port t p r (Arrival there) is also =
    eqb-true p there.port (and_parts (t == there.edge) (p == there.port) is).1 ∙ sym (eqb-true r there.port (and_parts (t == there.edge) (r == there.port) also).1)
same_port t p r (Departure there) is also =
    eqb-true p there.port (and_parts (t == there.edge) (p == there.port) is).1 ∙ sym (eqb-true r there.port (and_parts (t == there.edge) (r == there.port) also).1)

no_crossing : (t p : ℕ) (x : Target) → is_port_at t p x ≡ true → is_crossing_of t x ≡ true → ⊥
no_crossing t p (Crossing y) is crossing = false≢true is
no_crossing t p (Arrival there) is crossing = false≢true crossing
no_crossing t p (Departure there) is crossing = false≢true crossing

crossing_at : (t : ℕ) (x : Target) → is_crossing_of t x ≡ true → t ≡ switch_at x
crossing_at t (Crossing n) is = eqb-true t n is
crossing_at t (Arrival there) is = absurd (false≢true is)
crossing_at t (Departure there) is = absurd (false≢true is)

module _ (plan : Plan) (is_plan : IsPlan plan) (t : ℕ) (x : Target) where
  -- what leads over a link does not lead to the switch itself
  not_back : (to : SwitchNo) → t ≡ switch_at x → leads_to (label_of plan.k t) (label_of plan.k to.0) (label_of plan.k (switch_at x)) ≡ true → ⊥
  not_back to same leads =
      false≢true (sym (not_here (label_of plan.k t) (label_of plan.k to.0)) ∙ ap (λ n. leads_to (label_of plan.k t) (label_of plan.k to.0) (label_of plan.k n)) same ∙ leads)

  two_ways : (p r : ℕ) → Leads plan t p x → Leads plan t r x → p ≡ r
  two_ways p r (Itself e is) (Itself f also) = same_port t p r x is also
  two_ways p r (Itself e is) (Over to q f leads) = absurd (not_back to (at_switch t p x is) leads)
  two_ways p r (Over to q f leads) (Itself e is) = absurd (not_back to (at_switch t r x is) leads)
  two_ways p r (Over to q f leads) (Over u o g also) =
      one_port plan is_plan t p r q o to u f g
      (same_switch plan.k to.0 u.0 (apart (label_of plan.k t) (label_of plan.k to.0) (label_of plan.k u.0) (label_of plan.k (switch_at x)) leads also))

  module _ (q : ℕ) (frame : List ℕ) where
    alone : (most : ℕ) → ((p : ℕ) → not (p == q) ≡ true → may_reach_by plan t p x ≡ true → 1 ≤ most) → (p : ℕ) → not (p == q) ≡ true →
        CountsAlone (λ p. not (p == q)) (λ p. claim plan t p x) most p
    alone most some p other = elim (cases_Bool (may_reach_by plan t p x)) [
      | inr never ↦ inl (claim_none plan t p x never)
      | inl may ↦ inr (
        (let least = some p other may in let one = one_at_most (may_reach_by plan t p x) in omega arith),
        λ r also apart_from. elim (cases_Bool (may_reach_by plan t r x)) [
          | inr never ↦ claim_none plan t r x never
          | inl may_too ↦ absurd (apart_from (two_ways p r (leads_by plan t p x may) (leads_by plan t r x may_too)))
        ],
      )
    ]

    -- all acts of a bridge together
    most_used : (most : ℕ) (o : Option ℕ) → ((p : ℕ) → not (p == q) ≡ true → may_reach_by plan t p x ≡ true → 1 ≤ most) →
        used may_reach_with plan t x (goes_on plan.k q frame o) ≤ most
    most_used most None some =
        let sum = one_only (λ p. not (p == q)) (λ p. claim plan t p x) most 0 plan.k (alone most some) in
        let all = passes_used plan t x frame (other_ports plan.k q) in
        omega arith
    most_used most (Some out) some = cond_both (out == q) (act.Drop NoNextHop ∷ []) (act.Pass out frame ∷ []) (λ acts. used may_reach_with plan t x acts ≤ most)
        (λ back. omega arith) (λ on. by_case on (cases_Bool (may_reach_by plan t out x)))
      where
        by_case : (out == q) ≡ false → (may_reach_by plan t out x ≡ true) ⊎ (may_reach_by plan t out x ≡ false) → used may_reach_with plan t x (act.Pass out frame ∷ []) ≤ most
        by_case on (inl may) = (let least = some out (ap not on) may in let one = one_at_most (may_reach_by plan t out x) in omega arith)
        by_case on (inr never) = (let none = claim_none plan t out x never in omega arith)

    not_itself : (p : ℕ) → is_crossing_of t x ≡ true → Leads plan t p x → ⊥
    not_itself p same (Itself e is) = no_crossing t p x is same
    not_itself p same (Over to r e leads) = not_back to (crossing_at t x same) leads

    -- the switch itself, and what its acts let go, are within what might have come
    module _ (bound : ℕ) (o : Option ℕ) (itself : is_crossing_of t x ≡ true → 1 ≤ bound) (some : (p : ℕ) → not (p == q) ≡ true → may_reach_by plan t p x ≡ true → 1 ≤ bound) where
      pub crossed_and_used : here t x + used may_reach_with plan t x (goes_on plan.k q frame o) ≤ bound
      crossed_and_used = elim (cases_Bool (is_crossing_of t x)) [
        | inl same ↦
            let one : here t x ≡ 1 = cond-true (is_crossing_of t x) 1 0 same in
            let none = most_used 0 o (λ p other may. absurd (not_itself p same (leads_by plan t p x may))) in
            let least = itself same in
            omega arith
        | inr other ↦
            let none : here t x ≡ 0 = cond-false (is_crossing_of t x) 1 0 other in
            let most = most_used bound o some in
            omega arith
      ]

-- a frame of a host might reach each target
pub from_host_few : (plan : Plan) → IsPlan plan → (t q : ℕ) (frame : List ℕ) (o : Option ℕ) (x : Target) → here t x + used may_reach_with plan t x (goes_on plan.k q frame o) ≤ 1
from_host_few plan is_plan t q frame o x = crossed_and_used plan is_plan t x q frame 1 o (λ same. omega arith) (λ p other may. omega arith)

-- a frame that came over a link of the tree might reach what lies behind it
pub over_link_few : (plan : Plan) → IsPlan plan → (s port : ℕ) (t from : SwitchNo) (q : ℕ) (frame : List ℕ) (o : Option ℕ) (x : Target) → from.0 ≡ s →
    peer_of plan s port ≡ Switch t q → peer_of plan t.0 q ≡ Switch from port → is_tree_link (label_of plan.k s) (label_of plan.k t.0) ≡ true →
    here t.0 x + used may_reach_with plan t.0 x (goes_on plan.k q frame o) ≤ claim plan s port x
over_link_few plan is_plan s port t from q frame o x itself peer back adjacent =
    crossed_and_used plan is_plan t.0 x q frame (claim plan s port x) o (λ same. at_itself (crossing_at t.0 x same)) (λ p other may. on p other (leads_by plan t.0 p x may))
  where
    leads : leads_to (label_of plan.k s) (label_of plan.k t.0) (label_of plan.k t.0) ≡ true
    leads = joined_leads (label_of plan.k s) (label_of plan.k t.0) adjacent

    least : leads_to (label_of plan.k s) (label_of plan.k t.0) (label_of plan.k (switch_at x)) ≡ true → 1 ≤ claim plan s port x
    least is = (let one = claim_one plan s port x (ap (λ o. may_reach plan.k s port o x) peer ∙ is) in omega arith)

    at_itself : t.0 ≡ switch_at x → 1 ≤ claim plan s port x
    at_itself same = least (ap (λ n. leads_to (label_of plan.k s) (label_of plan.k t.0) (label_of plan.k n)) (sym same) ∙ leads)

    on : (p : ℕ) → not (p == q) ≡ true → Leads plan t.0 p x → 1 ≤ claim plan s port x
    on p other (Itself e is) = at_itself (at_switch t.0 p x is)
    on p other (Over to r e far) = least (within (label_of plan.k s) (label_of plan.k t.0) (label_of plan.k to.0) (label_of plan.k (switch_at x)) far
        (λ same. absurd (let back_again : p ≡ q = one_port plan is_plan t.0 p q r port to from e back (same_switch plan.k to.0 from.0 (sym same ∙ ap (label_of plan.k) (sym itself))) in
        false≢true (sym (ap not (eq-eqb p q back_again)) ∙ other)))
        leads)
