-- What links say of the levels and the pods of the switches at their ends.
use Rattle.std.proofs.Common.{◌≡◌, ℕ, ◌⊎◌, Option, Some, None, refl, sym, ap, ◌∙◌, arith, inl, inr}
use Rattle.std.proofs.lemmas.Option.{same_Some}
use Rattle.pl_wiring.specs.declared.label.Label.{Label}
use Rattle.pl_wiring.specs.declared.label.Label.TheVariants.{Aggregation, Core, Edge}
use Rattle.pl_wiring.specs.declared.link.Peer.{Peer}
use Rattle.pl_wiring.specs.declared.link.Peer.TheVariants.{HostPort, Switch}
use Rattle.pl_wiring.specs.FatTree.{IsBelow}
use Rattle.pl_wiring.specs.Labels.{label_of}
use Rattle.pl_wiring.specs.Peers.{peer_of}
use Rattle.pl_wiring.specs.Plan.{IsPlan, Plan}
use Rattle.pl_node.specs.declared.neighbour.Neighbour.{Neighbour}
use Rattle.pl_node.specs.PortRecords.{heard_place, port_of}
use Rattle.pl_node.specs.SwitchViews.{SwitchView}
use Rattle.pl_law_control_plane.specs.ControlPlanes.{AreAdjacent, ControlPlane}
use Rattle.pl_law_control_plane.proofs.Exports.{adjacent_turned}
use Rattle.pl_law_places.specs.Known.{HasPod, IsZeroOf, pod_of, told_at}
use Rattle.pl_law_places.specs.Places.{ArePlaced, PositionsDiffer}
use Rattle.pl_journal.specs.Flights.{label_level}
use Rattle.pl_journal.proofs.Exports.{core_above}

-- an edge switch has aggregation switches of its pod above it
edge_below : (a b : Label) → IsBelow a b → label_level a ≡ 0 → (label_level b ≡ 1) × (pod_of a ≡ pod_of b)
edge_below (Edge p i) (Aggregation q j) below e = (refl, ap (λ x. Some x) below)
edge_below (Edge p i) (Edge q j) below e = absurd below
edge_below (Edge p i) (Core q j) below e = absurd below
edge_below (Aggregation p i) b below e = absurd (omega (arith, e))
edge_below (Core p i) b below e = absurd (omega (arith, e))

no_edge_above : (a b : Label) → IsBelow a b → label_level b ≡ 0 → ⊥
no_edge_above (Edge p i) (Aggregation q j) below e = omega (arith, e)
no_edge_above (Edge p i) (Edge q j) below e = below
no_edge_above (Edge p i) (Core q j) below e = below
no_edge_above (Aggregation p i) (Core q j) below e = omega (arith, e)
no_edge_above (Aggregation p i) (Edge q j) below e = below
no_edge_above (Aggregation p i) (Aggregation q j) below e = below
no_edge_above (Core p i) (Edge q j) below e = below
no_edge_above (Core p i) (Aggregation q j) below e = below
no_edge_above (Core p i) (Core q j) below e = below

other_end : (a b : Label) → IsBelow a b → label_level b ≡ 1 → label_level a ≡ 0
other_end (Edge p i) b below e = refl
other_end (Aggregation p i) (Core q j) below e = absurd (omega (arith, e))
other_end (Aggregation p i) (Edge q j) below e = absurd below
other_end (Aggregation p i) (Aggregation q j) below e = absurd below
other_end (Core p i) (Edge q j) below e = absurd below
other_end (Core p i) (Aggregation q j) below e = absurd below
other_end (Core p i) (Core q j) below e = absurd below

-- of two neighbours, in either order
pub near_edge : (a b : Label) → IsBelow a b ⊎ IsBelow b a → label_level b ≡ 0 → (label_level a ≡ 1) × (pod_of a ≡ pod_of b)
near_edge a b (inl below) e = absurd (no_edge_above a b below e)
near_edge a b (inr below) e = let x = edge_below b a below e in (x.0, sym x.1)

pub near_aggregation : (a b : Label) → IsBelow a b ⊎ IsBelow b a → label_level b ≡ 1 → (label_level a ≡ 0) ⊎ (label_level a ≡ 2)
near_aggregation a b (inl below) e = inl (other_end a b below e)
near_aggregation a b (inr below) e = inr (core_above b a below e)

pub turned_below : (a b : Label) → IsBelow a b ⊎ IsBelow b a → IsBelow b a ⊎ IsBelow a b
turned_below a b (inl x) = inr x
turned_below a b (inr x) = inl x

-- the one link of a port
pub one_peer : (plan : Plan) (s p t q a b : ℕ) → AreAdjacent plan s p t q → AreAdjacent plan s p a b → (t ≡ a) × (q ≡ b)
one_peer plan s p t q a b x y =
    let same : Switch (record { 0 = t }) q ≡ Switch (record { 0 = a }) b = sym x ∙ y in
    (ap peer_number same, ap peer_port same)
  where
    peer_number : Peer → ℕ
    peer_number (Switch t q) = t.0
    peer_number HostPort = 0

    peer_port : Peer → ℕ
    peer_port (Switch t q) = q
    peer_port HostPort = 0

-- two numbers for one pod are one, where no two of its edge switches have one position
pub one_number : (plan : Plan) (f : ControlPlane) (s t m n : ℕ) → PositionsDiffer plan f → pod_of (label_of plan.k s) ≡ pod_of (label_of plan.k t) →
    HasPod plan.k f.view s m → HasPod plan.k f.view t n → m ≡ n
one_number plan f s t m n differ same one other =
    let first = one.1 in
    let second = other.1 in
    let pods : first.pod ≡ second.pod = same_Some first.pod second.pod (sym first.of_pod ∙ same ∙ second.of_pod) in
    let edge : label_of plan.k other.0 ≡ Edge first.pod second.i = second.edge ∙ ap (λ x. Edge x second.i) (sym pods) in
    let switch : one.0 ≡ other.0 = differ first.pod first.i second.i 0 one.0 other.0 first.edge edge first.position second.position in
    same_Some m n (sym first.number ∙ ap (λ z. (f.view z).place.pod) switch ∙ second.number)

pub zero_of_pod : (k : ℕ) (view : ℕ → SwitchView) (s t n z : ℕ) → pod_of (label_of k s) ≡ pod_of (label_of k t) → IsZeroOf k view t n z → IsZeroOf k view s n z
zero_of_pod k view s t n z same is =
    record { pod = is.pod; i = is.i; of_pod = same ∙ is.of_pod; edge = is.edge; position = is.position; number = is.number }

-- a level that was told at a port is that of a neighbour there, and so is a pod
pub record IsNeighbour (plan : Plan) (f : ControlPlane) (s p x : ℕ) : Type 0 where
  pub t : ℕ
  pub q : ℕ
  pub adjacent : AreAdjacent plan t q s p
  pub level : (f.view t).place.level ≡ Some x
  pub pod : (y : ℕ) → (told_at (f.view s).ports p).pod ≡ Some y → (f.view t).place.pod ≡ Some y

pub neighbour_at : (plan : Plan) (f : ControlPlane) (s p x : ℕ) → IsPlan plan → ArePlaced plan f → (told_at (f.view s).ports p).level ≡ Some x → IsNeighbour plan f s p x
neighbour_at plan f s p x is old level = by (peer_of plan s p) refl
  where
    of_record : (t q : ℕ) → AreAdjacent plan t q s p → (o : Option Neighbour) → (port_of (f.view s) p).heard ≡ o → (heard_place o).level ≡ Some x →
        ((y : ℕ) → (told_at (f.view s).ports p).pod ≡ Some y → (heard_place o).pod ≡ Some y) → IsNeighbour plan f s p x
    of_record t q adjacent None e l pods = absurd (cc)
    of_record t q adjacent (Some n) e l pods =
        let told = (old.links t q s p adjacent).recorded.known n e in
        record { t = t; q = q; adjacent = adjacent; level = told.so.level x l; pod = λ y h. told.so.pod y (pods y h) }

    by : (peer : Peer) → peer_of plan s p ≡ peer → IsNeighbour plan f s p x
    by HostPort e = absurd (let none = old.strangers s p e in let l : (heard_place (port_of (f.view s) p).heard).level ≡ Some x = level in nothing (port_of (f.view s) p).heard none l)
      where
        nothing : (o : Option Neighbour) → o ≡ None → (heard_place o).level ≡ Some x → ⊥
        nothing None e h = cc
        nothing (Some n) e h = cc
    by (Switch t q) e =
        of_record t.0 q (adjacent_turned plan s p t.0 q is e) (port_of (f.view s) p).heard refl level (λ y h. h)
