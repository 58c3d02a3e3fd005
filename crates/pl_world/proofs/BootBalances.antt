-- A world at its beginning is in order.
use Rattle.std.proofs.Common.{◌≡◌, ℕ, zero, suc, ◌+◌, ◌*◌, ◌/◌, ◌%◌, ◌^◌, ◌<◌, ◌≤◌, ◌==◌, ◌&&◌, not, Bool, true, false, if◌then◌else◌, List, [], ◌∷◌, length, map, replicate, None, All, Any, get_or, refl, sym, ◌∙◌, ap, arith, inl, inr}
use Rattle.std.specs.List.{AllByRecursion}
use Rattle.std.proofs.Math.ListN.{length-map}
use Rattle.std.proofs.lemmas.Bool.{and_parts, cases_lt, eqb-true}
use Rattle.std.proofs.lemmas.List.FromFn.{get_or-map-range_with_len, length-map-range_with_len}
use Rattle.std.proofs.lemmas.List.{length-replicate, get_or_past}
use Rattle.std.proofs.lemmas.Nat.{div-mul-add, mod-mul-add}
use Rattle.std.proofs.Math.Nat.{mul-le-mul_right}
use Rattle.pl_frame.specs.declared.address.SwitchId.{SwitchId}
use Rattle.pl_wiring.specs.declared.host.Host.{Host}
use Rattle.pl_wiring.specs.declared.link.Link.{Link}
use Rattle.pl_wiring.specs.declared.link.Peer.{Peer}
use Rattle.pl_wiring.specs.declared.link.Peer.TheVariants.{Switch}
use Rattle.pl_wiring.specs.FatTree.{IsAt}
use Rattle.pl_wiring.specs.Index.{port_index}
use Rattle.pl_wiring.specs.Labels.{edge_count, switch_count}
use Rattle.pl_wiring.specs.LiveLinks.{IsFor, is_live_at}
use Rattle.pl_wiring.specs.Peers.{peer_among, peer_of}
use Rattle.pl_wiring.specs.Plan.{IsPlan, Plan}
use Rattle.pl_wiring.proofs.Exports.{contained_at, entry_at-in_range, entry_at-out_of_range, IsPeer-is, port_index-below, tree_ends}
use Rattle.pl_node.specs.Accounting.{IsShaped}
use Rattle.pl_node.specs.HostDuties.{HoldsData}
use Rattle.pl_node.specs.HostViews.{boot_host}
use Rattle.pl_journal.specs.Places.{is_host_port}
use Rattle.pl_node.specs.SwitchFacts.{CanBoot, switch_at_boot}
use Rattle.pl_node.specs.SwitchViews.{SwitchView}
use Rattle.pl_node.proofs.Exports.{booted_is_shaped}
use Rattle.pl_world.specs.declared.limits.Limits.{Limits}
use Rattle.pl_world.specs.Booting.{CanBegin, all_live, booted, first_attachment, host_table, me_of}
use Rattle.pl_world.specs.Flying.{IsTreePort, IsCounted, IsDataItem, IsItem, times_in_all}
use Rattle.pl_world.proofs.Counts.{born_none}

-- what holds of each, of a list and of what is made of it
all_mapped : {S T : Type 0} (Q : S → Type 0) (P : T → Type 0) (f : S → T) → ((x : S) → Q x → P (f x)) → (xs : List S) → All Q xs → AllByRecursion P (map f xs)
all_mapped Q P f each [] all = tt
all_mapped Q P f each (x ∷ xs) all = (each x (all zero x (omega arith)), all_mapped Q P f each xs (λ n d within. all (suc n) d (omega arith)))

all_same : {T : Type 0} (P : T → Type 0) (n : ℕ) (x : T) → P x → AllByRecursion P (replicate n x)
all_same P zero x is = tt
all_same P (suc n) x is = (is, all_same P n x is)

no_times : (id n : ℕ) → times_in_all id (replicate n []) ≡ 0
no_times id zero = refl
no_times id (suc n) = omega (arith, no_times id n)

-- whether a port of the wiring has a link
abbrev has_link : Plan → ℕ → ℕ → Bool
has_link plan s p = not (is_host_port (peer_of plan s p))

live_is : (plan : Plan) (s p : ℕ) → s < switch_count plan.k → p < plan.k → is_live_at (all_live plan) s p ≡ has_link plan s p
live_is plan s p hs hp =
    entry_at-in_range false plan.k (all_live plan).flags s p hp
    ∙ get_or-map-range_with_len (λ n. has_link plan (n / plan.k) (n % plan.k)) 0 (switch_count plan.k * plan.k) (port_index plan.k s p) (s * plan.k + p) false
    (port_index-below plan.k s p (switch_count plan.k) hs hp) (omega arith)
    ∙ ap (λ t. has_link plan t ((s * plan.k + p) % plan.k)) (div-mul-add s plan.k p hp) ∙ ap (λ q. has_link plan s q) (mod-mul-add s plan.k p hp)

linked_by : (plan : Plan) (s p : ℕ) (peer : Peer) → peer ≡ peer_of plan s p → is_host_port peer ≡ false → has_link plan s p ≡ true
linked_by plan s p peer is there = let e : is_host_port (peer_of plan s p) ≡ false = ap is_host_port (sym is) ∙ there in rw e refl

pub lower_live : (plan : Plan) → IsPlan plan → (n : ℕ) (d : Link) → n < length plan.links →
    is_live_at (all_live plan) (get_or plan.links n d).lower.0 (get_or plan.links n d).lower_port ≡ true
lower_live plan is n d within =
    let l = get_or plan.links n d in
    let ends = tree_ends plan.k l (is.tree.no_other n d within) in
    let ports = is.tree.ports_in_range n d within in
    live_is plan l.lower.0 l.lower_port ends.0 ports.0
    ∙ linked_by plan l.lower.0 l.lower_port (Switch l.upper l.upper_port)
    (IsPeer-is plan.k plan.links l.lower.0 l.lower_port (Switch l.upper l.upper_port) is.tree
    (l, contained_at plan.links n d within, inl (refl, refl, refl, refl))) refl

upper_live : (plan : Plan) → IsPlan plan → (n : ℕ) (d : Link) → n < length plan.links →
    is_live_at (all_live plan) (get_or plan.links n d).upper.0 (get_or plan.links n d).upper_port ≡ true
upper_live plan is n d within =
    let l = get_or plan.links n d in
    let ends = tree_ends plan.k l (is.tree.no_other n d within) in
    let ports = is.tree.ports_in_range n d within in
    live_is plan l.upper.0 l.upper_port ends.1 ports.1
    ∙ linked_by plan l.upper.0 l.upper_port (Switch l.lower l.lower_port)
    (IsPeer-is plan.k plan.links l.upper.0 l.upper_port (Switch l.lower l.lower_port) is.tree
    (l, contained_at plan.links n d within, inr (refl, refl, refl, refl))) refl

-- a port that has a peer has a link
at_link : (links : List Link) (s p : ℕ) → not (is_host_port (peer_among links s p)) ≡ true → Any (λ l. IsAt l s p) links
at_link [] s p there = absurd (cc)
at_link (l ∷ links) s p there = by_lower ((l.lower.0 == s) && (l.lower_port == p)) ((l.upper.0 == s) && (l.upper_port == p)) refl refl there (at_link links s p)
  where
    ends : (a b c d : ℕ) → ((a == b) && (c == d)) ≡ true → (a ≡ b) × (c ≡ d)
    ends a b c d h = let both = and_parts (a == b) (c == d) h in (eqb-true a b both.0, eqb-true c d both.1)

    by_lower : (x y : Bool) → ((l.lower.0 == s) && (l.lower_port == p)) ≡ x → ((l.upper.0 == s) && (l.upper_port == p)) ≡ y →
        not (is_host_port (if x then Switch l.upper l.upper_port else if y then Switch l.lower l.lower_port else peer_among links s p)) ≡ true →
        (not (is_host_port (peer_among links s p)) ≡ true → Any (λ m. IsAt m s p) links) → Any (λ m. IsAt m s p) (l ∷ links)
    by_lower true y e f h later = (zero, l, omega arith, refl, inl (ends l.lower.0 s l.lower_port p e))
    by_lower false true e f h later = (zero, l, omega arith, refl, inr (ends l.upper.0 s l.upper_port p f))
    by_lower false false e f h later = let found = later h in (suc found.0, found.1, omega (arith, found.2), found.3, found.4)

live_has_link : (plan : Plan) (s p : ℕ) → is_live_at (all_live plan) s p ≡ true → Any (λ l. IsAt l s p) plan.links
live_has_link plan s p live = elim (cases_lt p plan.k) [
  | inr past ↦ let dead = entry_at-out_of_range false plan.k (all_live plan).flags s p past in absurd (cc)
  | inl hp ↦ elim (cases_lt s (switch_count plan.k)) [
    | inl hs ↦ at_link plan.links s p (sym (live_is plan s p hs hp) ∙ live)
    | inr past ↦
        let many : length (all_live plan).flags ≡ switch_count plan.k * plan.k =
        length-map-range_with_len (λ n. has_link plan (n / plan.k) (n % plan.k)) 0 (switch_count plan.k * plan.k) in
        let rows : switch_count plan.k * plan.k ≤ s * plan.k = mul-le-mul_right plan.k past in
        let dead = entry_at-in_range false plan.k (all_live plan).flags s p hp ∙ get_or_past (all_live plan).flags (port_index plan.k s p) false (omega (arith, many, rows)) in
        absurd (cc)
  ]
]

pub all_live_is_for : (plan : Plan) → IsPlan plan → IsFor plan (all_live plan)
all_live_is_for plan is = record {
  same_k = refl;
  room = length-map-range_with_len (λ n. has_link plan (n / plan.k) (n % plan.k)) 0 (switch_count plan.k * plan.k);
  agree = λ n d within. upper_live plan is n d within ∙ sym (lower_live plan is n d within);
  linked = live_has_link plan;
}

pub can_boot : (plan : Plan) → IsPlan plan → (id : SwitchId) → (1 ≤ id.0) × (id.0 < 2 ^ 48) → CanBoot id plan.k
can_boot plan is id within = record {
  named = within.0;
  within = within.1;
  size = record { low = is.arity.least; high = is.arity.most; even = is.arity.even };
}

edges_are_switches : (k n : ℕ) → n < edge_count k → n < switch_count k
edges_are_switches k n within = omega arith

pub booted_is_counted : (plan : Plan) (limits : Limits) → CanBegin plan → IsCounted (booted plan limits)
booted_is_counted plan limits can = let is = can.is_plan in record {
  formed = record {
    plan = is;
    links = all_live_is_for plan is;
    attachments = length-map plan.hosts first_attachment;
    at_ports = all_mapped (λ (h : Host). (h.edge.0 < edge_count plan.k) × (h.port < plan.k)) (IsTreePort plan.k) first_attachment
        (λ h at. record { edge = edges_are_switches plan.k h.edge.0 at.0; port = at.1 }) plan.hosts is.at_edges;
    heard = length-replicate (length plan.hosts) None;
    switches = length-map plan.ids (λ id. switch_at_boot id plan.k) ∙ is.ids_many;
    ports = all_mapped (λ (id : SwitchId). (1 ≤ id.0) × (id.0 < 2 ^ 48)) (λ (v : SwitchView). v.k ≡ plan.k) (λ id. switch_at_boot id plan.k)
        (λ id within. refl) plan.ids is.ids_in_range;
    hosts = length-map plan.hosts (λ host. boot_host (me_of host) (host_table plan));
    from_hosts = length-replicate (length plan.hosts) [];
    out = length-replicate (switch_count plan.k * plan.k) [];
    to_manager = length-replicate (switch_count plan.k) [];
    from_manager = length-replicate (switch_count plan.k) [];
  };
  shaped = all_mapped (λ (id : SwitchId). (1 ≤ id.0) × (id.0 < 2 ^ 48)) IsShaped (λ id. switch_at_boot id plan.k)
      (λ id within. booted_is_shaped id plan.k (can_boot plan is id within)) plan.ids is.ids_in_range;
  holding = all_mapped (λ (h : Host). length h.mac.0 ≡ 6) HoldsData (λ host. boot_host (me_of host) (host_table plan))
      (λ h six. record { me = six; cache = refl; held = refl }) plan.hosts can.addresses;
  in_host_queues = all_same (AllByRecursion IsDataItem) (length plan.hosts) [] tt;
  in_port_queues = all_same (AllByRecursion IsItem) (switch_count plan.k * plan.k) [] tt;
  begun = refl;
  flights = λ id. omega (arith, no_times id (length plan.hosts), no_times id (switch_count plan.k * plan.k), born_none id);
}
