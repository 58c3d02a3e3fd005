-- Grants, and the edge switches that pod and position stand for.
use Rattle.std.proofs.Common.{◌≡◌, ◌↔◌, ℕ, ◌+◌, ◌==◌, ◌&&◌, ◌||◌, Bool, true, false, cond, List, [], ◌∷◌, Option, Some, None, is_some, unwrap_or, refl, sym, subst, ap, ap₂, ◌∙◌, inl, inr, arith, max, ◌<◌}
use Rattle.std.specs.Prelude.{IsTrue}
use Rattle.std.specs.Option.{option_map}
use Rattle.std.proofs.lemmas.Bool.{cases_eq, eq-eqb, ne_eqb}
use Rattle.pl_wiring.specs.declared.label.SwitchNo.{SwitchNo}
use Rattle.pl_pmac.specs.declared.pmac.Pmac.{Pmac}
use Rattle.pl_pmac.specs.Pmac.{pmac_number}
use Rattle.pl_journal.specs.declared.entry.Entry.{Entry}
use Rattle.pl_journal.specs.declared.entry.Entry.TheVariants.{Granted, Registered}
use Rattle.pl_journal.specs.Places.{EdgePort, edge_port, holder, is_of_edge, highest, number}
use Rattle.pl_past_tables.specs.declared.addresses.Grant.{Grant}
use Rattle.std.specs.Map.{lookup}
use Rattle.pl_wiring.specs.declared.host.HostNo.{HostNo}
use Rattle.pl_wiring.specs.Plan.{Plan}
use Rattle.pl_journal.specs.Lossy.{IsNewer, RunTo}
use Rattle.pl_past.specs.Moves.{edge_of, is_none_or, is_none_or_alike}
use Rattle.pl_past.proofs.Exports.{edge_by_tables}
use Rattle.pl_past_tables.specs.declared.addresses.Addresses.{Addresses}
use Rattle.pl_past_tables.specs.declared.keys.Point.{Point}
use Rattle.pl_past_tables.specs.declared.keys.PodPosition.{PodPosition}
use Rattle.pl_past_tables.specs.declared.keys.Stay.{Stay}
use Rattle.pl_past_tables.specs.Keys.{edge_port_at, pod_position, same_pod_position, same_point, same_stay, same_switch}
use Rattle.pl_past_tables.specs.Addresses.{KeepsAddresses, last_grant}
use Rattle.pl_past_tables.proofs.Said.{value_now}

abbrev pub host_of : Option Grant → Option ℕ
host_of grant = option_map (λ g. g.host.0) grant

abbrev pub point_in : Option Grant → Option EdgePort
point_in grant = option_map (λ g. edge_port_at g.point) grant

pub holder_by_grant : (past : List Entry) (x : ℕ) → holder past x ≡ host_of (last_grant past x)
holder_by_grant [] x = refl
holder_by_grant (Granted y h e p ∷ past) x = by (pmac_number y == x) (holder_by_grant past x)
  where
    by : (t : Bool) → holder past x ≡ host_of (last_grant past x) →
        cond t (Some h.0) (holder past x) ≡ host_of (cond t (Some (record { host = h; point = record { edge = e; port = p } })) (last_grant past x))
    by true before = refl
    by false before = before
holder_by_grant (entry ∷ past) x = holder_by_grant past x

pub edge_port_by_grant : (past : List Entry) (x : ℕ) → edge_port past x ≡ point_in (last_grant past x)
edge_port_by_grant [] x = refl
edge_port_by_grant (Granted y h e p ∷ past) x = by (pmac_number y == x) (edge_port_by_grant past x)
  where
    by : (t : Bool) → edge_port past x ≡ point_in (last_grant past x) →
        cond t (Some (record { edge = e.0; port = p })) (edge_port past x)
        ≡ point_in (cond t (Some (record { host = h; point = record { edge = e; port = p } })) (last_grant past x))
    by true before = refl
    by false before = before
edge_port_by_grant (entry ∷ past) x = edge_port_by_grant past x

turned : (m n : ℕ) → (m == n) ≡ (n == m)
turned m n = elim (cases_eq m n) [
  | inl same ↦ eq-eqb m n same ∙ sym (eq-eqb n m (sym same))
  | inr other ↦ ne_eqb m n other ∙ sym (ne_eqb n m (λ e. other (sym e)))
]

-- the edge switch of a pod and position, once an address of this pod and position was granted there
pub edge_now : (y x : Pmac) (e : SwitchNo) (now before : Option SwitchNo) (edge : Option ℕ) →
    now ≡ cond ((y.pod == x.pod) && (y.position == x.position)) (Some e) before → option_map (λ (s : SwitchNo). s.0) before ≡ edge →
    option_map (λ (s : SwitchNo). s.0) now ≡ cond ((x.pod == y.pod) && (x.position == y.position)) (Some e.0) edge
edge_now y x e now before edge is was =
    ap (option_map (λ (s : SwitchNo). s.0)) is
    ∙ by ((y.pod == x.pod) && (y.position == x.position))
    ∙ ap (λ t. cond t (Some e.0) edge) (ap₂ (λ a b. a && b) (turned y.pod x.pod) (turned y.position x.position))
  where
    by : (t : Bool) → option_map (λ (s : SwitchNo). s.0) (cond t (Some e) before) ≡ cond t (Some e.0) edge
    by true = refl
    by false = was

pub of_edge_by_tables : (plan : Plan) (past : List Entry) (a : Addresses) (x : Pmac) (e : SwitchNo) (edge : Option SwitchNo) (address : Option Pmac)
    (of_edge alike : Bool) → RunTo plan past →
    KeepsAddresses past a → edge ≡ lookup (same_pod_position (pod_position x)) a.edges.said.entries → address ≡ lookup (same_switch e) a.by_edge.said.entries →
    of_edge ≡ is_none_or (option_map (λ (s : SwitchNo). s.0) edge) e.0 → alike ≡ is_none_or_alike address x → (of_edge && alike) ≡ is_of_edge past x e.0
of_edge_by_tables plan past a x e edge address of_edge alike run keeps is_edge is_address one two =
    ap₂ (λ s t. s && t)
    (one ∙ ap (λ (o : Option ℕ). is_none_or o e.0) (ap (option_map (λ (s : SwitchNo). s.0)) is_edge ∙ keeps.edges x))
    (two ∙ ap (λ (o : Option Pmac). is_none_or_alike o x) (is_address ∙ keeps.by_edge e))
    ∙ sym (edge_by_tables plan past x e.0 run)

abbrev no_number : Option ℕ
no_number = None

pub granted_now : (past : List Entry) (a now : Addresses) (x : Pmac) (h : HostNo) (at : Point) (number : ℕ) → KeepsAddresses past a → number ≡ pmac_number x →
    ((k : ℕ) → lookup (λ y. k == y) now.grants.said.entries ≡ cond (number == k) (Some (record { host = h; point = at }))
    (lookup (λ y. k == y) a.grants.said.entries)) →
    ((k : ℕ) → lookup (λ y. k == y) now.numbers.said.entries ≡ cond (number == k) (Some no_number) (lookup (λ y. k == y) a.numbers.said.entries)) →
    now.highest ≡ a.highest →
    ((k : Stay) → lookup (same_stay k) now.stays.said.entries ≡ cond (same_stay (record { host = h; point = at }) k) (Some x)
    (lookup (same_stay k) a.stays.said.entries)) →
    ((k : Point) → is_some (lookup (same_point k) now.spent.said.entries)
    ≡ (((x.vmid == 65535) && same_point at k) || is_some (lookup (same_point k) a.spent.said.entries))) →
    ((k : PodPosition) → lookup (same_pod_position k) now.edges.said.entries ≡ cond (same_pod_position (pod_position x) k) (Some at.edge)
    (lookup (same_pod_position k) a.edges.said.entries)) →
    ((k : SwitchNo) → lookup (same_switch k) now.by_edge.said.entries ≡ cond (same_switch at.edge k) (Some x) (lookup (same_switch k) a.by_edge.said.entries)) →
    KeepsAddresses (Granted x h at.edge at.port ∷ past) now
granted_now past a now x h at number keeps is grants numbers most stays spent edges by_edge = record {
  grants = λ k. grants k ∙ ap₂ (λ (m : ℕ) (o : Option Grant). cond (m == k) (Some (record { host = h; point = at })) o) is (keeps.grants k);
  numbers = λ k.
      ap (λ (o : Option (Option ℕ)). unwrap_or o None) (numbers k) ∙ value_now (number == k) no_number None (lookup (λ y. k == y) a.numbers.said.entries)
      ∙ ap₂ (λ (m : ℕ) (o : Option ℕ). cond (m == k) None o) is (keeps.numbers k);
  highest = most ∙ keeps.highest;
  stays = λ k. stays k ∙ ap (λ (o : Option Pmac). cond (same_stay (record { host = h; point = at }) k) (Some x) o) (keeps.stays k);
  spent = λ k. spent k ∙ ap (λ b. ((x.vmid == 65535) && same_point at k) || b) (keeps.spent k);
  edges = λ y. edge_now x y at.edge (lookup (same_pod_position (pod_position y)) now.edges.said.entries)
      (lookup (same_pod_position (pod_position y)) a.edges.said.entries) (edge_of past y)
      (edges (pod_position y)) (keeps.edges y);
  by_edge = λ k. by_edge k ∙ ap (λ (o : Option Pmac). cond (same_switch at.edge k) (Some x) o) (keeps.by_edge k);
}

-- a larger number is the highest
raised : (m n : ℕ) → m < n → n ≡ max m n
raised m n above = omega (arith, above)

pub registered_now : (past : List Entry) (a now : Addresses) (x : Pmac) (n number : ℕ) → KeepsAddresses past a → number ≡ pmac_number x →
    ((k : ℕ) → lookup (λ y. k == y) now.numbers.said.entries ≡ cond (number == k) (Some (Some n)) (lookup (λ y. k == y) a.numbers.said.entries)) →
    now.highest ≡ n → highest past < n →
    now.grants.said.entries ≡ a.grants.said.entries → now.stays.said.entries ≡ a.stays.said.entries → now.spent.said.entries ≡ a.spent.said.entries →
    now.edges.said.entries ≡ a.edges.said.entries → now.by_edge.said.entries ≡ a.by_edge.said.entries → KeepsAddresses (Registered x n ∷ past) now
registered_now past a now x n number keeps is numbers most above grants stays spent edges by_edge = record {
  grants = λ k. ap (λ (es : List (ℕ × Grant)). lookup (λ y. k == y) es) grants ∙ keeps.grants k;
  numbers = λ k.
      ap (λ (o : Option (Option ℕ)). unwrap_or o None) (numbers k) ∙ value_now (number == k) (Some n) None (lookup (λ y. k == y) a.numbers.said.entries)
      ∙ ap₂ (λ (m : ℕ) (o : Option ℕ). cond (m == k) (Some n) o) is (keeps.numbers k);
  highest = most ∙ raised (highest past) n above;
  stays = λ k. ap (λ (es : List (Stay × Pmac)). lookup (same_stay k) es) stays ∙ keeps.stays k;
  spent = λ k. ap (λ (es : List (Point × Bool)). is_some (lookup (same_point k) es)) spent ∙ keeps.spent k;
  edges = λ y. ap (λ (es : List (PodPosition × SwitchNo)). option_map (λ (s : SwitchNo). s.0) (lookup (same_pod_position (pod_position y)) es)) edges
      ∙ keeps.edges y;
  by_edge = λ k. ap (λ (es : List (SwitchNo × Pmac)). lookup (same_switch k) es) by_edge ∙ keeps.by_edge k;
}

-- that an address is newer than another, by what the tables say of both
pub newer_than : (past : List Entry) (from to : ℕ) (b : Bool) (m n : Option ℕ) → holder past to ≡ holder past from → m ≡ number past from → n ≡ number past to →
    IsTrue b ↔ IsNewer m n → IsTrue b ↔ ((holder past to ≡ holder past from) × IsNewer (number past from) (number past to))
newer_than past from to b m n same at_m at_n newer = (
  λ t. (same, subst (λ o. IsNewer o (number past to)) at_m (subst (IsNewer m) at_n (newer.0 t))),
  λ both. newer.1 (subst (λ o. IsNewer o n) (sym at_m) (subst (IsNewer (number past from)) (sym at_n) both.1)),
)
