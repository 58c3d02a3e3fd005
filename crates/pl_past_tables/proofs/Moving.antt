-- Where hosts stand and have stood, once one of them moves.
use Rattle.std.proofs.Common.{◌≡◌, ℕ, zero, suc, ◌+◌, ◌<◌, ◌==◌, ◌&&◌, ◌||◌, Bool, true, false, not, cond, List, [], ◌∷◌, length, Option, Some, None, is_some, unwrap_or, slice_get, refl, sym, ap, ap₂, ◌∙◌, inl, inr, arith, add-one}
use Rattle.std.specs.Option.{option_map}
use Rattle.std.proofs.lemmas.Bool.{and_from, and_left, and_parts, and_right, cases_Bool, cases_eq, eqb-true, both_ways}
use Rattle.pl_lemmas.proofs.Exports.{or_false, or_swap}
use Rattle.std.specs.Map.{lookup}
use Rattle.pl_wiring.specs.declared.host.Host.{Host}
use Rattle.pl_wiring.specs.declared.label.SwitchNo.{SwitchNo}
use Rattle.pl_wiring.specs.declared.host.HostNo.{HostNo}
use Rattle.pl_wiring.specs.Plan.{IsPlan, Plan}
use Rattle.pl_journal.specs.declared.entry.Entry.{Entry}
use Rattle.pl_journal.specs.declared.entry.Entry.TheVariants.{Moved}
use Rattle.pl_journal.specs.Places.{EdgePort, at_port, edge_port_of, first_edge_port, has_stood, is_at, is_left_free, same_edge_port}
use Rattle.pl_journal.specs.Lossy.{RunTo}
use Rattle.pl_journal.proofs.Exports.{edge_port_of_moved, edge_port_of_others, hosts_apart}
use Rattle.pl_past.specs.Moves.{moved_at}
use Rattle.pl_past_tables.specs.declared.keys.Point.{Point}
use Rattle.pl_past_tables.specs.declared.keys.Stay.{Stay}
use Rattle.pl_past_tables.specs.declared.hosts.Hosts.{Hosts}
use Rattle.pl_past_tables.specs.declared.hosts.Move.{Move}
use Rattle.pl_past_tables.specs.Keys.{edge_port_at, point, same_host, same_point, same_stay}
use Rattle.pl_past_tables.specs.Hosts.{KeepsHosts, came_to, is_left_free_by, last_move, taken_in}
use Rattle.pl_past_tables.proofs.Said.{is_some_now, value_now}

abbrev pub stands_by : Option Move → Option EdgePort → Option EdgePort
stands_by None first = first
stands_by (Some m) first = Some (edge_port_at m.point)

pub stands_by_move : (plan : Plan) (past : List Entry) (host : ℕ) → edge_port_of plan past host ≡ stands_by (last_move past host) (first_edge_port plan host)
stands_by_move plan [] host = refl
stands_by_move plan (Moved h e p ∷ past) host = by (h.0 == host) (stands_by_move plan past host)
  where
    by : (t : Bool) → edge_port_of plan past host ≡ stands_by (last_move past host) (first_edge_port plan host) →
        cond t (Some (at_port e.0 p)) (edge_port_of plan past host)
        ≡ stands_by (cond t (Some (record { point = record { edge = e; port = p }; at = length past + 1 })) (last_move past host)) (first_edge_port plan host)
    by true before = refl
    by false before = before
stands_by_move plan (entry ∷ past) host = stands_by_move plan past host

abbrev pub number_of_move : Option Move → ℕ
number_of_move None = 0
number_of_move (Some m) = m.at

pub moved_at_by_move : (past : List Entry) (host : ℕ) → moved_at past host ≡ number_of_move (last_move past host)
moved_at_by_move [] host = refl
moved_at_by_move (Moved h e p ∷ past) host = by (h.0 == host) (moved_at_by_move past host)
  where
    by : (t : Bool) → moved_at past host ≡ number_of_move (last_move past host) →
        cond t (length past + 1) (moved_at past host)
        ≡ number_of_move (cond t (Some (record { point = record { edge = e; port = p }; at = length past + 1 })) (last_move past host))
    by true before = refl
    by false before = before
moved_at_by_move (entry ∷ past) host = moved_at_by_move past host

pub stood_by_moves : (plan : Plan) (past : List Entry) (host : ℕ) (there : EdgePort) →
    has_stood plan past host there ≡ (is_at (first_edge_port plan host) there || came_to past host there)
stood_by_moves plan [] host there = or_false (is_at (first_edge_port plan host) there)
stood_by_moves plan (Moved h e p ∷ past) host there =
    ap (λ b. (h.0 == host && same_edge_port (at_port e.0 p) there) || b) (stood_by_moves plan past host there)
    ∙ or_swap (h.0 == host && same_edge_port (at_port e.0 p) there) (is_at (first_edge_port plan host) there) (came_to past host there)
stood_by_moves plan (entry ∷ past) host there = stood_by_moves plan past host there

pub left_free_is : (plan : Plan) (past : List Entry) (there : EdgePort) (n : ℕ) →
    is_left_free plan past there n ≡ is_left_free_by (edge_port_of plan past) there n
left_free_is plan past there zero = refl
left_free_is plan past there (suc n) = ap (λ b. not (is_at (edge_port_of plan past n) there) && b) (left_free_is plan past there n)

-- a port where a host stands is not left free
taken_there : (stands : ℕ → Option EdgePort) (there : EdgePort) (n k : ℕ) → k < n → is_at (stands k) there ≡ true → is_left_free_by stands there n ≡ false
taken_there stands there zero k less at = absurd (omega arith)
taken_there stands there (suc n) k less at = elim (cases_eq k n) [
  | inl same ↦ and_left (not (is_at (stands n) there)) (is_left_free_by stands there n) (ap not (ap (λ m. is_at (stands m) there) (sym same) ∙ at))
  | inr other ↦ and_right (not (is_at (stands n) there)) (is_left_free_by stands there n) (taken_there stands there n k (omega arith) at)
]

free_where_none : (stands : ℕ → Option EdgePort) (there : EdgePort) (n : ℕ) → ((k : ℕ) → k < n → is_at (stands k) there ≡ false) →
    is_left_free_by stands there n ≡ true
free_where_none stands there zero none = refl
free_where_none stands there (suc n) none =
    and_from (not (is_at (stands n) there)) (is_left_free_by stands there n) (ap not (none n (omega arith)))
    (free_where_none stands there n (λ k less. none k (omega arith)))

left_alike : (f g : ℕ → Option EdgePort) (there : EdgePort) (n : ℕ) → ((k : ℕ) → k < n → is_at (f k) there ≡ is_at (g k) there) →
    is_left_free_by f there n ≡ is_left_free_by g there n
left_alike f g there zero alike = refl
left_alike f g there (suc n) alike = ap₂ (λ a b. not a && b) (alike n (omega arith)) (left_alike f g there n (λ k less. alike k (omega arith)))

-- it stands just there
at_is : (o : Option EdgePort) (there : EdgePort) → is_at o there ≡ true → o ≡ Some there
at_is None there at = absurd (both_ways false refl at)
at_is (Some a) there at =
    let parts = and_parts (a.edge == there.edge) (a.port == there.port) at in
    ap₂ (λ e p. Some (at_port e p)) (eqb-true a.edge there.edge parts.0) (eqb-true a.port there.port parts.1)

-- the ports that are taken once a host moves to a free port
pub taken_once_moved : (plan : Plan) (past : List Entry) (h : HostNo) (e : SwitchNo) (p : ℕ) (there : EdgePort) → IsPlan plan → RunTo plan past →
    h.0 < length plan.hosts →
    not (is_left_free_by (edge_port_of plan (Moved h e p ∷ past)) there (length plan.hosts))
    ≡ cond (same_edge_port (at_port e.0 p) there) true
    (cond (is_at (edge_port_of plan past h.0) there) false (not (is_left_free_by (edge_port_of plan past) there (length plan.hosts))))
taken_once_moved plan past h e p there is run within =
    by (same_edge_port (at_port e.0 p) there) (is_at (edge_port_of plan past h.0) there) refl refl
  where
    goes : is_at (edge_port_of plan (Moved h e p ∷ past) h.0) there ≡ same_edge_port (at_port e.0 p) there
    goes = ap (λ o. is_at o there) (edge_port_of_moved plan past h e p)

    others : (k : ℕ) → (h.0 ≡ k → ⊥) → is_at (edge_port_of plan (Moved h e p ∷ past) k) there ≡ is_at (edge_port_of plan past k) there
    others k other = ap (λ o. is_at o there) (edge_port_of_others plan past h e p k other)

    alone : (k : ℕ) → (h.0 ≡ k → ⊥) → is_at (edge_port_of plan past h.0) there ≡ true → is_at (edge_port_of plan past k) there ≡ false
    alone k other at = elim (cases_Bool (is_at (edge_port_of plan past k) there)) [
      | inl also ↦
          absurd (other (hosts_apart plan past h.0 k there is run (at_is (edge_port_of plan past h.0) there at) (at_is (edge_port_of plan past k) there also)))
      | inr free ↦ free
    ]

    by : (t u : Bool) → same_edge_port (at_port e.0 p) there ≡ t → is_at (edge_port_of plan past h.0) there ≡ u →
        not (is_left_free_by (edge_port_of plan (Moved h e p ∷ past)) there (length plan.hosts))
        ≡ cond t true (cond u false (not (is_left_free_by (edge_port_of plan past) there (length plan.hosts))))
    by true u to from = ap not (taken_there (edge_port_of plan (Moved h e p ∷ past)) there (length plan.hosts) h.0 within (goes ∙ to))
    by false true to from =
        ap not (free_where_none (edge_port_of plan (Moved h e p ∷ past)) there (length plan.hosts) (λ k less. elim (cases_eq h.0 k) [
          | inl same ↦ ap (λ m. is_at (edge_port_of plan (Moved h e p ∷ past) m) there) (sym same) ∙ goes ∙ to
          | inr other ↦ others k other ∙ alone k other from
        ]))
    by false false to from =
        ap not (left_alike (edge_port_of plan (Moved h e p ∷ past)) (edge_port_of plan past) there (length plan.hosts) (λ k less. elim (cases_eq h.0 k) [
          | inl same ↦
              ap (λ m. is_at (edge_port_of plan (Moved h e p ∷ past) m) there) (sym same) ∙ goes ∙ to ∙ sym from
              ∙ ap (λ m. is_at (edge_port_of plan past m) there) same
          | inr other ↦ others k other
        ]))

-- one more of the wiring's hosts
pub first_more : (stands : ℕ → Option EdgePort) (n : ℕ) (to there : EdgePort) → stands n ≡ Some to →
    cond (same_edge_port to there) true (not (is_left_free_by stands there n)) ≡ not (is_left_free_by stands there (n + 1))
first_more stands n to there is =
    by (same_edge_port to there) (ap (λ o. is_at o there) is) ∙ ap (λ m. not (is_left_free_by stands there m)) (sym (add-one n))
  where
    by : (t : Bool) → is_at (stands n) there ≡ t → cond t true (not (is_left_free_by stands there n)) ≡ not
        (not (is_at (stands n) there) && is_left_free_by stands there n)
    by true at = rw at refl
    by false at = rw at refl

-- what the last move tells
module _ (plan : Plan) (past : List Entry) (host : ℕ) where
  pub point_moved : (m : Move) → Some m ≡ last_move past host → Some (edge_port_at m.point) ≡ edge_port_of plan past host
  point_moved m is = sym (stands_by_move plan past host ∙ ap (λ (o : Option Move). stands_by o (first_edge_port plan host)) (sym is))

  pub point_first : ◌≡◌ {A = Option Move} None (last_move past host) → first_edge_port plan host ≡ edge_port_of plan past host
  point_first is = sym (stands_by_move plan past host ∙ ap (λ (o : Option Move). stands_by o (first_edge_port plan host)) (sym is))

  pub number_moved : (m : Move) → Some m ≡ last_move past host → m.at ≡ moved_at past host
  number_moved m is = sym (moved_at_by_move past host ∙ ap number_of_move (sym is))

  pub number_none : ◌≡◌ {A = Option Move} None (last_move past host) → 0 ≡ moved_at past host
  number_none is = sym (moved_at_by_move past host ∙ ap number_of_move (sym is))

-- a host goes from where it stands to a free port
pub moved_hosts : (plan : Plan) (past : List Entry) (hosts now : Hosts) (h : HostNo) (to : Point) (n : ℕ) (from : Option EdgePort)
    (mid : List (Point × Bool)) → IsPlan plan → RunTo plan past →
    KeepsHosts plan past hosts → h.0 < length plan.hosts → n ≡ length past + 1 → from ≡ edge_port_of plan past h.0 →
    ((k : Point) → taken_in mid k ≡ cond (is_at from (edge_port_at k)) false (taken_in hosts.taken.said.entries k)) →
    ((k : Point) → lookup (same_point k) now.taken.said.entries ≡ cond (same_point to k) (Some true) (lookup (same_point k) mid)) →
    ((k : HostNo) → lookup (same_host k) now.moves.said.entries ≡ cond (same_host h k) (Some (record { point = to; at = n }))
    (lookup (same_host k) hosts.moves.said.entries)) →
    ((k : Stay) → lookup (same_stay k) now.stood.said.entries ≡ cond (same_stay (record { host = h; point = to }) k) (Some true)
    (lookup (same_stay k) hosts.stood.said.entries)) →
    KeepsHosts plan (Moved h to.edge to.port ∷ past) now
moved_hosts plan past hosts now h to n from mid is run keeps within next at left came moves stood = record {
  moves = λ k. moves k
      ∙ ap₂ (λ (m : ℕ) (o : Option Move). cond (h.0 == k.0) (Some (record { point = to; at = m })) o) next (keeps.moves k);
  stood = λ k. ap (λ (o : Option Bool). is_some o) (stood k)
      ∙ is_some_now (same_stay (record { host = h; point = to }) k) true (lookup (same_stay k) hosts.stood.said.entries)
      ∙ ap (λ b. same_stay (record { host = h; point = to }) k || b) (keeps.stood k);
  taken = λ k. ap (λ (o : Option Bool). unwrap_or o false) (came k)
      ∙ value_now (same_point to k) true false (lookup (same_point k) mid)
      ∙ ap (λ b. cond (same_point to k) true b) (left k ∙ ap₂ (λ (o : Option EdgePort) b. cond (is_at o (edge_port_at k)) false b) at (keeps.taken k))
      ∙ sym (taken_once_moved plan past h to.edge to.port (edge_port_at k) is run within);
}

pub taken_more : (plan : Plan) (before now : List (Point × Bool)) (n : ℕ) (host : Host) (to : Point) → slice_get plan.hosts n ≡ Some host →
    to ≡ point host.edge host.port →
    ((k : Point) → taken_in before k ≡ not (is_left_free_by (first_edge_port plan) (edge_port_at k) n)) →
    ((k : Point) → lookup (same_point k) now ≡ cond (same_point to k) (Some true) (lookup (same_point k) before)) →
    (k : Point) → taken_in now k ≡ not (is_left_free_by (first_edge_port plan) (edge_port_at k) (n + 1))
taken_more plan before now n host to found is so_far came k =
    ap (λ (o : Option Bool). unwrap_or o false) (came k)
    ∙ value_now (same_point to k) true false (lookup (same_point k) before)
    ∙ ap (λ b. cond (same_point to k) true b) (so_far k)
    ∙ first_more (first_edge_port plan) n (edge_port_at to) (edge_port_at k)
    (ap (option_map (λ (h : Host). at_port h.edge.0 h.port)) found ∙ ap (λ (p : Point). Some (edge_port_at p)) (sym is))

pub stood_by_tables : (plan : Plan) (past : List Entry) (hosts : Hosts) (h : HostNo) (at : Point) (there : Option EdgePort) (found : Option Bool)
    (first came : Bool) → KeepsHosts plan past hosts →
    there ≡ first_edge_port plan h.0 → found ≡ lookup (same_stay (record { host = h; point = at })) hosts.stood.said.entries →
    first ≡ is_at there (edge_port_at at) → came ≡ is_some found →
    (first || came) ≡ has_stood plan past h.0 (edge_port_at at)
stood_by_tables plan past hosts h at there found first came keeps is_first is_found one two =
    ap₂ (λ a b. a || b)
    (one ∙ ap (λ (o : Option EdgePort). is_at o (edge_port_at at)) is_first)
    (two ∙ ap (λ (o : Option Bool). is_some o) is_found ∙ keeps.stood (record { host = h; point = at }))
    ∙ sym (stood_by_moves plan past h.0 (edge_port_at at))
