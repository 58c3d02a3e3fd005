-- Hosts stand apart, at hosts' ports.
use Rattle.std.proofs.Common.{◌≡◌, ◌≢◌, ◌<◌, ℕ, zero, suc, true, false, not, nat_lt, ◌==◌, ◌&&◌, List, [], ◌∷◌, length, Some, is_some, slice_get, option_map, refl, sym, ap, ◌∙◌, subst₂, inl, inr, arith}
use Rattle.std.proofs.lemmas.Bool.{eqb-true, eq-eqb, ne_eqb, and_parts, and_from, cases_Bool, cases_order, cond-true, cond-false, both_ways, not-true}
use Rattle.std.proofs.lemmas.Option.{none-some, same_Some, slice_get_cases, get_or_from_slice_get}
use Rattle.pl_wiring.specs.declared.label.SwitchNo.{SwitchNo}
use Rattle.pl_wiring.specs.declared.host.HostNo.{HostNo}
use Rattle.pl_wiring.specs.declared.host.Host.{Host}
use Rattle.pl_wiring.specs.Labels.{edge_count}
use Rattle.pl_wiring.specs.Peers.{peer_of}
use Rattle.pl_wiring.specs.Plan.{IsPlan, Plan, IsAttachedAt}
use Rattle.pl_journal.specs.declared.entry.Entry.{Entry}
use Rattle.pl_journal.specs.declared.entry.Entry.TheVariants.{Moved}
use Rattle.pl_journal.specs.Places.{EdgePort, at_port, first_edge_port, is_at, is_free, is_host_port, is_left_free, same_edge_port, edge_port_of}
use Rattle.pl_journal.specs.Lossy.{RunTo}

pub edge_port_of_moved : (plan : Plan) (past : List Entry) (host : HostNo) (edge : SwitchNo) (port : ℕ) →
    edge_port_of plan (Moved host edge port ∷ past) host.0 ≡ Some (at_port edge.0 port)
edge_port_of_moved plan past host edge port = cond-true (host.0 == host.0) (Some (at_port edge.0 port)) (edge_port_of plan past host.0) (eq-eqb host.0 host.0 refl)

pub edge_port_of_others : (plan : Plan) (past : List Entry) (host : HostNo) (edge : SwitchNo) (port other : ℕ) → host.0 ≢ other →
    edge_port_of plan (Moved host edge port ∷ past) other ≡ edge_port_of plan past other
edge_port_of_others plan past host edge port other apart = cond-false (host.0 == other) (Some (at_port edge.0 port)) (edge_port_of plan past other) (ne_eqb host.0 other apart)

abbrev stands : Host → EdgePort
stands h = at_port h.edge.0 h.port

within_of_some : (hosts : List Host) (n : ℕ) → is_some (slice_get hosts n) ≡ true → n < length hosts
within_of_some hosts n some = elim ((slice_get_cases hosts n).1) [
  | inl w ↦ w.1
  | inr w ↦ absurd (both_ways (is_some (slice_get hosts n)) (ap is_some w.1) some)
]

-- where a host stands at first, it is in the list
first_host : (plan : Plan) (n : ℕ) (there : EdgePort) → first_edge_port plan n ≡ Some there →
    (h : Host) × (n < length plan.hosts) × (slice_get plan.hosts n ≡ Some h) × (stands h ≡ there)
first_host plan n there at = elim ((slice_get_cases plan.hosts n).1) [
  | inl w ↦ (w.0, w.1, w.2, same_Some (stands w.0) there (sym (ap (option_map stands) w.2) ∙ at))
  | inr w ↦ absurd (none-some there (sym (ap (option_map stands) w.1) ∙ at))
]

pub known_host : (plan : Plan) (past : List Entry) (host : ℕ) (there : EdgePort) → RunTo plan past → edge_port_of plan past host ≡ Some there → host < length plan.hosts
known_host plan [] host there run at = (first_host plan host there at).1
known_host plan (Moved h e p ∷ past) host there run at = elim (cases_Bool (h.0 == host)) [
  | inl same ↦ within_of_some plan.hosts host (ap (λ n. is_some (slice_get plan.hosts n)) (sym (eqb-true h.0 host same)) ∙ run.1.0)
  | inr other ↦ known_host plan past host there run.0 (sym (cond-false (h.0 == host) (Some (at_port e.0 p)) (edge_port_of plan past host) other) ∙ at)
]
known_host plan (entry ∷ past) host there run at = known_host plan past host there run.0 at

-- of two hosts of the wiring, the earlier one does not stand where the later one does
earlier_apart : (plan : Plan) (i j : ℕ) (g h : Host) → IsPlan plan → i < j → slice_get plan.hosts i ≡ Some g → slice_get plan.hosts j ≡ Some h →
    j < length plan.hosts → stands g ≡ stands h → ⊥
earlier_apart plan i j g h is lt at_i at_j within same =
    let apart : IsAttachedAt g h.edge.0 h.port → ⊥ =
    subst₂ (λ (a b : Host). IsAttachedAt a b.edge.0 b.port → ⊥) (get_or_from_slice_get plan.hosts i g g at_i) (get_or_from_slice_get plan.hosts j h g at_j)
    (is.ports_apart i j g lt within) in
    apart (ap (λ s. s.edge) same, ap (λ s. s.port) same)

first_apart : (plan : Plan) (g h : ℕ) (there : EdgePort) → IsPlan plan → first_edge_port plan g ≡ Some there → first_edge_port plan h ≡ Some there → g ≡ h
first_apart plan g h there is at_g at_h =
    let x = first_host plan g there at_g in
    let y = first_host plan h there at_h in
    elim (cases_order g h) [
      | inl same ↦ same
      | inr order ↦ elim order [
        | inl lt ↦ absurd (earlier_apart plan g h x.0 y.0 is lt x.2 y.2 y.1 (x.3 ∙ sym y.3))
        | inr gt ↦ absurd (earlier_apart plan h g y.0 x.0 is gt y.2 x.2 x.1 (y.3 ∙ sym x.3))
      ]
    ]

-- where a port is left free, no host stands
none_there : (plan : Plan) (past : List Entry) (there : EdgePort) (n k : ℕ) → is_left_free plan past there n ≡ true → k < n → is_at (edge_port_of plan past k) there ≡ false
none_there plan past there zero k free lt = absurd (omega arith)
none_there plan past there (suc n) k free lt =
    let parts = and_parts (not (is_at (edge_port_of plan past n) there)) (is_left_free plan past there n) free in
    elim (cases_order k n) [
      | inl same ↦ ap (λ m. is_at (edge_port_of plan past m) there) same ∙ not-true (is_at (edge_port_of plan past n) there) parts.0
      | inr order ↦ elim order [
        | inl below ↦ none_there plan past there n k parts.1 below
        | inr over ↦ absurd (omega arith)
      ]
    ]

pub same_edge_port_itself : (s : EdgePort) → same_edge_port s s ≡ true
same_edge_port_itself s = and_from (s.edge == s.edge) (s.port == s.port) (eq-eqb s.edge s.edge refl) (eq-eqb s.port s.port refl)

-- no host stands where another one moves to
not_where_one_moves : (plan : Plan) (past : List Entry) (h : ℕ) (to there : EdgePort) → RunTo plan past → is_free plan past to ≡ true → to ≡ there →
    edge_port_of plan past h ≡ Some there → ⊥
not_where_one_moves plan past h to there run free same at =
    let left = left_free plan past to free in
    let none = none_there plan past to (length plan.hosts) h left (known_host plan past h there run at) in
    both_ways (is_at (edge_port_of plan past h) to) none (ap (λ o. is_at o to) at ∙ ap (same_edge_port there) same ∙ same_edge_port_itself there)
  where
    left_free : (plan : Plan) (past : List Entry) (to : EdgePort) → is_free plan past to ≡ true → is_left_free plan past to (length plan.hosts) ≡ true
    left_free plan past to free =
        (and_parts (nat_lt to.edge (edge_count plan.k) && nat_lt to.port plan.k && is_host_port (peer_of plan to.edge to.port))
        (is_left_free plan past to (length plan.hosts)) free).1

pub hosts_apart : (plan : Plan) (past : List Entry) (g h : ℕ) (there : EdgePort) → IsPlan plan → RunTo plan past →
    edge_port_of plan past g ≡ Some there → edge_port_of plan past h ≡ Some there → g ≡ h
hosts_apart plan [] g h there is run at_g at_h = first_apart plan g h there is at_g at_h
hosts_apart plan (Moved m e p ∷ past) g h there is run at_g at_h = elim (cases_Bool (m.0 == g)) [
  | inl is_g ↦ elim (cases_Bool (m.0 == h)) [
    | inl is_h ↦ sym (eqb-true m.0 g is_g) ∙ eqb-true m.0 h is_h
    | inr not_h ↦ absurd (not_where_one_moves plan past h (at_port e.0 p) there run.0 run.1.1 (moved g is_g at_g) (before h not_h at_h))
  ]
  | inr not_g ↦ elim (cases_Bool (m.0 == h)) [
    | inl is_h ↦ absurd (not_where_one_moves plan past g (at_port e.0 p) there run.0 run.1.1 (moved h is_h at_h) (before g not_g at_g))
    | inr not_h ↦ hosts_apart plan past g h there is run.0 (before g not_g at_g) (before h not_h at_h)
  ]
]
  where
    moved : (n : ℕ) → (m.0 == n) ≡ true → edge_port_of plan (Moved m e p ∷ past) n ≡ Some there → at_port e.0 p ≡ there
    moved n same at = same_Some (at_port e.0 p) there (sym (cond-true (m.0 == n) (Some (at_port e.0 p)) (edge_port_of plan past n) same) ∙ at)

    before : (n : ℕ) → (m.0 == n) ≡ false → edge_port_of plan (Moved m e p ∷ past) n ≡ Some there → edge_port_of plan past n ≡ Some there
    before n other at = sym (cond-false (m.0 == n) (Some (at_port e.0 p)) (edge_port_of plan past n) other) ∙ at
hosts_apart plan (entry ∷ past) g h there is run at_g at_h = hosts_apart plan past g h there is run.0 at_g at_h
