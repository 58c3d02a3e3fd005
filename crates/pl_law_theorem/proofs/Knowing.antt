-- Where all of it is kept, what switches know of places and addresses is what the journal says.
use Rattle.std.proofs.Common.{◌≡◌, ◌&&◌, nat_lt, ℕ, zero, suc, Bool, true, false, get_or, List, [], ◌∷◌, Option, Some, None, slice_get, refl, sym, ap, ◌∙◌}
use Rattle.std.proofs.lemmas.Bool.{false≢true}
use Rattle.std.proofs.lemmas.Option.{get_or_from_slice_get, none-some, same_Some}
use Rattle.pl_layouts.specs.declared.place.Place.{Place}
use Rattle.pl_layouts.specs.Placement.{nowhere}
use Rattle.pl_wiring.specs.declared.label.Label.TheVariants.{Edge}
use Rattle.pl_wiring.specs.declared.label.SwitchNo.{SwitchNo}
use Rattle.pl_wiring.specs.declared.link.Peer.{Peer}
use Rattle.pl_wiring.specs.declared.link.Peer.TheVariants.{HostPort, Switch}
use Rattle.pl_wiring.specs.Peers.{peer_of}
use Rattle.pl_journal.specs.Places.{is_host_port}
use Rattle.pl_node.specs.declared.neighbour.Neighbour.{Neighbour}
use Rattle.pl_node.specs.PortRecords.{heard_echo, heard_place, is_id, is_usable, place_at, port_of}
use Rattle.pl_node.specs.SwitchViews.{SwitchView}
use Rattle.pl_world.specs.Worlds.{WorldView}
use Rattle.pl_law_control_plane.specs.ControlPlanes.{control_plane, no_switch}
use Rattle.pl_law_control_plane.proofs.Exports.{adjacent_turned}
use Rattle.pl_law_places.specs.Known.{pod_of}
use Rattle.pl_law_votes.proofs.Exports.{fixed_are_apart}
use Rattle.pl_law_invariant.specs.ControlInvariant.{ControlInvariant}
use Rattle.pl_law_flights.specs.OnTheWay.{known_place, place_in}
use Rattle.pl_law_flights.specs.Standing.{KnowsNeighbours, KnowsPlaces}

-- ---- places
pub place_is : (w : WorldView) (s : ℕ) → place_in w.switches s ≡ ((control_plane w).view s).place
place_is w s = at w.switches s
  where
    at : (switches : List SwitchView) (i : ℕ) → known_place (slice_get switches i) ≡ (get_or switches i no_switch).place
    at [] i = refl
    at (v ∷ switches) zero = refl
    at (v ∷ switches) (suc i) = at switches i

unusable : (u : SwitchView) (q : ℕ) → (port_of u q).heard ≡ None → is_usable u q ≡ false
unusable u q none = ap (λ (o : Option Neighbour). nat_lt (port_of u q).silent 3 && is_id (heard_echo o) u.id) none ∙ never (nat_lt (port_of u q).silent 3)
  where
    never : (b : Bool) → (b && false) ≡ false
    never true = refl
    never false = refl

module _ (w : WorldView) (kept : ControlInvariant w) where
  view_at : (t : ℕ) (v : SwitchView) → slice_get w.switches t ≡ Some v → (control_plane w).view t ≡ v
  view_at t v found = get_or_from_slice_get w.switches t v no_switch found

  pub knows_places : KnowsPlaces w.plan.k (place_in w.switches)
  knows_places =
      let f = control_plane w in
      record {
        level = λ s n is. sym ((kept.placed.own s).level n (ap (λ (p : Place). p.level) (sym (place_is w s)) ∙ is));
        one_pod = λ s t p i j x y edge up at_s at_t.
            let a = kept.placed.pods s x (ap (λ (q : Place). q.pod) (sym (place_is w s)) ∙ at_s) in
            let b = kept.placed.pods t y (ap (λ (q : Place). q.pod) (sym (place_is w t)) ∙ at_t) in
            let first : a.1.pod ≡ p = same_Some a.1.pod p (sym a.1.of_pod ∙ ap pod_of edge) in
            let second : b.1.pod ≡ p = same_Some b.1.pod p (sym b.1.of_pod ∙ ap pod_of up) in
            let one : a.0 ≡ b.0 =
            fixed_are_apart f.plan f.view f.says kept.counted.formed.plan kept.voting p a.1.i b.1.i 0 a.0 b.0 (a.1.edge ∙ ap (λ q. Edge q a.1.i) first)
            (b.1.edge ∙ ap (λ q. Edge q b.1.i) second)
            a.1.position b.1.position in
            same_Some x y (sym a.1.number ∙ ap (λ z. (f.view z).place.pod) one ∙ b.1.number);
      }

  -- what was heard at a port is what the neighbour knows
  heard_so : (t : ℕ) (v : SwitchView) (q : ℕ) (s : SwitchNo) (p : ℕ) (get : Place → Option ℕ) → ((a b : Place) → ((x : ℕ) → get nowhere ≡ Some x → ⊥)) →
      slice_get w.switches t ≡ Some v → peer_of w.plan t q ≡ Switch s p →
      ((n : Neighbour) → (port_of v q).heard ≡ Some n → (x : ℕ) → get n.place ≡ Some x → get ((control_plane w).view s.0).place ≡ Some x) →
      (x : ℕ) → get (place_at v q) ≡ Some x → get (place_in w.switches s.0) ≡ Some x
  heard_so t v q s p get none found peer so x is = by (port_of v q).heard refl is
    where
      by : (heard : Option Neighbour) → (port_of v q).heard ≡ heard → get (heard_place heard) ≡ Some x → get (place_in w.switches s.0) ≡ Some x
      by None e known = absurd (none nowhere nowhere x known)
      by (Some n) e known = ap get (place_is w s.0) ∙ so n e x known

  pub knows_neighbours : (t : ℕ) (v : SwitchView) → slice_get w.switches t ≡ Some v → KnowsNeighbours w.plan (place_in w.switches) t v
  unfolding view_at
  knows_neighbours t v found =
      let f = control_plane w in
      let here = view_at t v found in
      let told = λ (q : ℕ) (s : SwitchNo) (p : ℕ) (peer : peer_of w.plan t q ≡ Switch s p) (n : Neighbour) (heard : (port_of v q).heard ≡ Some n).
      ((kept.placed.links s.0 p t q (adjacent_turned f.plan t q s.0 p kept.counted.formed.plan peer)).recorded.known n
      (ap (λ (u : SwitchView). (port_of u q).heard) here ∙ heard)).so in
      record {
        own = ap (λ (u : SwitchView). u.place) (sym here) ∙ sym (place_is w t);
        level = λ q s p n peer is. heard_so t v q s p (λ (r : Place). r.level) (λ a b x e. none-some x e) found peer
            (λ m heard x known. (told q s p peer m heard).level x known) n is;
        position = λ q s p n peer is. heard_so t v q s p (λ (r : Place). r.position) (λ a b x e. none-some x e) found peer
            (λ m heard x known. (told q s p peer m heard).position x known) n is;
        pod = λ q s p n peer is. heard_so t v q s p (λ (r : Place). r.pod) (λ a b x e. none-some x e) found peer
            (λ m heard x known. (told q s p peer m heard).pod x known) n is;
        linked = λ q usable. by_peer q usable (peer_of w.plan t q) refl;
      }
    where
      by_peer : (q : ℕ) → is_usable v q ≡ true → (peer : Peer) → peer_of w.plan t q ≡ peer → is_host_port (peer_of w.plan t q) ≡ false
      by_peer q usable (Switch s p) is = ap is_host_port is
      by_peer q usable HostPort is =
          let none : (port_of v q).heard ≡ None = ap (λ (u : SwitchView). (port_of u q).heard) (sym (view_at t v found)) ∙ kept.placed.strangers t q is in
          absurd (false≢true (sym (unusable v q none) ∙ usable))
