-- A frame of a host keeps places true.
use Rattle.std.proofs.Common.{◌≡◌, ℕ, zero, suc, ◌<◌, ◌⊎◌, ◌&&◌, ◌||◌, Bool, true, false, if◌then◌else◌, List, [], ◌∷◌, Option, Some, None, is_some, is_none, get_or, refl, sym, ap, ◌∙◌, inl, inr}
use Rattle.std.specs.List.{cons_option, filter_map}
use Rattle.std.proofs.Common.{get_or-set_same}
use Rattle.std.proofs.lemmas.Bool.{and_from, and_parts}
use Rattle.std.proofs.lemmas.Option.{same_Some}
use Rattle.pl_lemmas.proofs.Exports.{is_none_is}
use Rattle.pl_layouts.specs.Placement.{is_known}
use Rattle.pl_layouts.proofs.Exports.{is_known_of, known_is}
use Rattle.pl_wiring.specs.declared.link.Peer.TheVariants.{HostPort}
use Rattle.pl_wiring.specs.Labels.{label_of, switch_count}
use Rattle.pl_wiring.specs.Peers.{peer_of}
use Rattle.pl_wiring.specs.Plan.{IsPlan, Plan}
use Rattle.pl_node.specs.declared.acts.Act.TheVariants as act
use Rattle.pl_node.specs.declared.neighbour.Neighbour.{Neighbour}
use Rattle.pl_node.specs.declared.neighbour.PortRecord.{PortRecord}
use Rattle.pl_node.specs.PortRecords.{heard_place, new_port, port_of}
use Rattle.pl_node.specs.SwitchViews.{SwitchView}
use Rattle.pl_steps.specs.Steps.{does}
use Rattle.pl_switch_rule.specs.Levels.{changes_to}
use Rattle.pl_law_control_plane.specs.ControlPlanes.{AreAdjacent, ControlPlane}
use Rattle.pl_law_control_plane.proofs.Exports.{adjacent_labels, adjacent_turned, changes_to_silent, comes_from_switch_silent, IsSilent, learns_source_silent, silent_then, still_does, takes_in_or_spent_silent}
use Rattle.pl_law_places.specs.Known.{IsSoundView, told_at}
use Rattle.pl_law_places.specs.Places.{ArePlaced}
use Rattle.pl_law_places.specs.Told.{has_heard}
use Rattle.pl_law_places.proofs.Later.{IsGoodTurn}
use Rattle.pl_law_places.proofs.TurnsWithoutControlFrames.{IsGoodView, homes_same, silent_turn, view_itself}
use Rattle.pl_wiring.specs.Labels.{edge_count}
use Rattle.pl_wiring.proofs.Exports.{label_of-edge}
use Rattle.pl_journal.specs.Flights.{first_of, label_level}
use Rattle.pl_journal.specs.declared.cause.Cause.TheVariants.{NotPlaced}
use Rattle.pl_node.specs.Accounting.{IsShaped}
use Rattle.pl_node.specs.PortRecords.{is_open_to_hosts, with_port}
use Rattle.pl_steps.specs.Steps.{◌▹◌}
use Rattle.pl_switch_rule.specs.Forwarding.{Choice}
use Rattle.pl_switch_rule.specs.Granting.{learns_source}
use Rattle.pl_switch_rule.specs.Intake.{comes_from_host, takes_in_or_spent}
use Rattle.pl_switch_rule.specs.Levels.{becomes_edge, finds_host, pod_told_before, told_pod}
use Rattle.pl_switch_rule.specs.SwitchRule.{IsChoice, comes_from_switch, data_comes}
use Rattle.pl_law_places.proofs.DiscoveryKeepsPlaces.{set_or_old}
use Rattle.pl_law_places.proofs.Neighbours.{near_edge, neighbour_at, zero_of_pod}

-- a pod that an aggregation switch told
told_pod_is : (r : PortRecord) (x : ℕ) → told_pod r ≡ Some x → ((heard_place r.heard).level ≡ Some 1) × ((heard_place r.heard).pod ≡ Some x)
told_pod_is r x h = by (is_known (heard_place r.heard).level 1) refl h
  where
    by : (b : Bool) → is_known (heard_place r.heard).level 1 ≡ b → (if b then (heard_place r.heard).pod else None) ≡ Some x →
        ((heard_place r.heard).level ≡ Some 1) × ((heard_place r.heard).pod ≡ Some x)
    by true e h = (known_is (heard_place r.heard).level 1 e, h)
    by false e h = absurd (cc)

told_pod_of : (r : PortRecord) (x : ℕ) → (heard_place r.heard).level ≡ Some 1 → (heard_place r.heard).pod ≡ Some x → told_pod r ≡ Some x
told_pod_of r x l p = rw (is_known_of (heard_place r.heard).level 1 l) p

first_told : (ports : List PortRecord) (x : ℕ) → first_of (filter_map told_pod ports) ≡ Some x → (p : ℕ) × (told_pod (get_or ports p new_port) ≡ Some x)
first_told [] x h = absurd (cc)
first_told (r ∷ ports) x h = by (told_pod r) refl (λ e. first_told ports x e) h
  where
    by : (o : Option ℕ) → told_pod r ≡ o → (first_of (filter_map told_pod ports) ≡ Some x → (p : ℕ) × (told_pod (get_or ports p new_port) ≡ Some x)) →
        first_of (cons_option o (filter_map told_pod ports)) ≡ Some x → (p : ℕ) × (told_pod (get_or (r ∷ ports) p new_port) ≡ Some x)
    by None e rest h = let found = rest h in (suc found.0, found.1)
    by (Some y) e rest h = (zero, e ∙ h)

none_told : (ports : List PortRecord) (p x : ℕ) → first_of (filter_map told_pod ports) ≡ None → told_pod (get_or ports p new_port) ≡ Some x → ⊥
none_told [] p x h e = cc
none_told (r ∷ ports) zero x h e = by (told_pod r) e h
  where
    by : (o : Option ℕ) → o ≡ Some x → first_of (cons_option o (filter_map told_pod ports)) ≡ None → ⊥
    by None e h = cc
    by (Some y) e h = cc
none_told (r ∷ ports) (suc p) x h e = by (told_pod r) (λ n. none_told ports p x n e) h
  where
    by : (o : Option ℕ) → (first_of (filter_map told_pod ports) ≡ None → ⊥) → first_of (cons_option o (filter_map told_pod ports)) ≡ None → ⊥
    by None rest h = rest h
    by (Some y) rest h = cc

level_or_none : (o : Option ℕ) → (o ≡ None) ⊎ ((x : ℕ) × (o ≡ Some x))
level_or_none None = inl refl
level_or_none (Some x) = inr (x, refl)

module _ (plan : Plan) (f : ControlPlane) (s : ℕ) (is : IsPlan plan) (old : ArePlaced plan f) (there : s < switch_count plan.k) (shaped : IsShaped (f.view s))
    (size : (f.view s).k ≡ plan.k) where
  -- over a link: what came there before was heard, so this is no host's frame
  pub carried_turn : (choose : Choice) (t q port : ℕ) (frame : List ℕ) → IsChoice choose → AreAdjacent plan t q s port → has_heard (f.view s) port ≡ true →
      IsGoodTurn plan f s (data_comes choose (f.view s) port frame).view (data_comes choose (f.view s) port frame).acts
  carried_turn choose t q port frame chooses adjacent heard =
      by (is_open_to_hosts (port_of (f.view s) port)) (closed (port_of (f.view s) port).heard (old.links t q s port adjacent).recorded.no_host heard)
    where
      closed : (o : Option Neighbour) → (port_of (f.view s) port).host ≡ false → is_some o ≡ true → ((port_of (f.view s) port).host || is_none o) ≡ false
      closed None no_host some = absurd (cc)
      closed (Some n) no_host some = rw no_host refl

      by : (b : Bool) → b ≡ false →
          IsGoodTurn plan f s (if b then comes_from_host choose (f.view s) port frame else comes_from_switch choose (f.view s) port frame).view
          (if b then comes_from_host choose (f.view s) port frame else comes_from_switch choose (f.view s) port frame).acts
      by true e = absurd (cc)
      by false e =
          silent_turn plan f s is old (f.view s) (comes_from_switch choose (f.view s) port frame) (view_itself plan f s is old there)
          (comes_from_switch_silent choose (f.view s) port frame chooses (old.sound s there).homes)

  module _ (port : ℕ) (at_edge : s < edge_count plan.k) (within : port < plan.k) (free : peer_of plan s port ≡ HostPort) where
    edge_level : label_level (label_of plan.k s) ≡ 0
    edge_level = rw (label_of-edge plan.k s at_edge) refl

    abbrev found : SwitchView
    found = with_port (f.view s) port (record (port_of (f.view s) port) { host = true })

    at_port : (p : ℕ) → ((p ≡ port) × (get_or found.ports p new_port ≡ record (port_of (f.view s) port) { host = true })) ⊎ (get_or found.ports p new_port ≡ get_or (f.view s).ports p new_port)
    at_port p = set_or_old (f.view s).ports port p (record (port_of (f.view s) port) { host = true }) new_port

    heard_same : (p : ℕ) → (get_or found.ports p new_port).heard ≡ (port_of (f.view s) p).heard
    heard_same p = elim (at_port p) [
      | inl new ↦ ap (λ (x : PortRecord). x.heard) new.1 ∙ ap (λ x. (port_of (f.view s) x).heard) (sym new.0)
      | inr same ↦ ap (λ (x : PortRecord). x.heard) same
    ]

    -- the view of an edge switch with this pod
    edge_view : (pod : Option ℕ) → ((x : ℕ) → (f.view s).place.pod ≡ Some x → pod ≡ Some x) →
        ((x : ℕ) → pod ≡ Some x → ((f.view s).place.pod ≡ Some x) ⊎ ((p : ℕ) × ((told_at (f.view s).ports p).level ≡ Some 1) × ((told_at (f.view s).ports p).pod ≡ Some x))) →
        ((p x : ℕ) → (told_at (f.view s).ports p).level ≡ Some 1 → (told_at (f.view s).ports p).pod ≡ Some x → pod ≡ None → ⊥) →
        IsGoodView plan f s (record found { place = record { level = Some 0; position = (f.view s).place.position; pod = pod } })
    edge_view pod later from all = record {
      id = refl;
      later = record { level = λ x e. ap (λ n. Some n) (sym edge_level ∙ sym ((old.own s).level x e)); position = λ x e. e; pod = later };
      own = record {
        level = λ x e. sym (same_Some 0 x e) ∙ sym edge_level;
        position = λ x e. (refl, ((old.own s).position x e).1);
        pod = λ x e. (
          inl refl,
          elim (from x e) [
            | inl was ↦ ((old.own s).pod x was).1
            | inr told ↦ (let n = neighbour_at plan f s told.0 1 is old told.1 in ((old.own n.t).pod x (n.pod x told.2)).1)
          ],
        );
      };
      heard = λ p h. ap is_some (heard_same p) ∙ h;
      pods = λ n e. inl (elim (from n e) [
        | inl was ↦ old.pods s n was
        | inr told ↦ (let a = neighbour_at plan f s told.0 1 is old told.1 in
            let has = old.pods a.t n (a.pod n told.2) in
            let near = near_edge (label_of plan.k a.t) (label_of plan.k s) (adjacent_labels plan a.t a.q s told.0 is a.adjacent) edge_level in
            (has.0, zero_of_pod plan.k f.view s a.t n has.0 (sym near.1) has.1))
      ]);
      recorded = λ t q p adjacent. elim (at_port p) [
        | inl new ↦ absurd (let back = adjacent_turned plan t q s p is adjacent in let e : peer_of plan s p ≡ HostPort = rw new.0 free in cc)
        | inr same ↦ rw same (old.links t q s p adjacent).recorded
      ];
      strangers = λ p none. heard_same p ∙ old.strangers s p none;
      sound = record {
        named = sound.named;
        full = record {
          host = λ p h. refl;
          one = λ p l n. absurd (cc);
          two = λ p q x y l m a b differ n. absurd (cc);
          up = λ p x own l a n. absurd (cc);
          down = λ p x own l a n. all p x (told_level p 1 l) (told_pod_at p x a) n;
        };
        able = sound.able;
        holders = sound.holders;
        homes = homes_same (f.view s) (record found { place = record { level = Some 0; position = (f.view s).place.position; pod = pod } }) more less refl refl refl sound.homes;
      };
    }
      where
        sound : IsSoundView (f.view s)
        sound = old.sound s there

        told_level : (p x : ℕ) → (told_at found.ports p).level ≡ Some x → (told_at (f.view s).ports p).level ≡ Some x
        told_level p x e = ap (λ h. (heard_place h).level) (sym (heard_same p)) ∙ e

        told_pod_at : (p x : ℕ) → (told_at found.ports p).pod ≡ Some x → (told_at (f.view s).ports p).pod ≡ Some x
        told_pod_at p x e = ap (λ h. (heard_place h).pod) (sym (heard_same p)) ∙ e

        more : (p : ℕ) → (port_of (f.view s) p).host ≡ true → (get_or found.ports p new_port).host ≡ true
        more p h = elim (at_port p) [ inl new ↦ ap (λ (x : PortRecord). x.host) new.1 | inr same ↦ ap (λ (x : PortRecord). x.host) same ∙ h ]

        less : (p : ℕ) → (get_or found.ports p new_port).host ≡ false → (port_of (f.view s) p).host ≡ false
        less p h = elim (at_port p) [
          | inl new ↦ absurd (let e = ap (λ (x : PortRecord). x.host) new.1 in cc)
          | inr same ↦ ap (λ (x : PortRecord). x.host) (sym same) ∙ h
        ]

    same_told : (p : ℕ) → told_at found.ports p ≡ told_at (f.view s).ports p
    same_told p = ap heard_place (heard_same p)

    found_view : IsGoodView plan f s (becomes_edge found)
    found_view = by (is_none (f.view s).place.level && is_none (f.view s).place.pod) refl
      where
        none_of : (o : Option ℕ) → o ≡ None → is_none o ≡ true
        none_of None e = refl
        none_of (Some n) e = absurd (cc)

        by : (b : Bool) → (is_none (f.view s).place.level && is_none (f.view s).place.pod) ≡ b →
            IsGoodView plan f s (record found { place = record { level = Some 0; position = (f.view s).place.position; pod = if b then pod_told_before found else (f.view s).place.pod } })
        by true e =
            let both = and_parts (is_none (f.view s).place.level) (is_none (f.view s).place.pod) e in
            let none = is_none_is (f.view s).place.pod both.1 in
            edge_view (pod_told_before found) (λ x was. absurd (cc))
            (λ x told. (let first = first_told found.ports x told in
            let at = told_pod_is (get_or found.ports first.0 new_port) x first.1 in
            inr (first.0, ap (λ z. z.level) (sym (same_told first.0)) ∙ at.0, ap (λ z. z.pod) (sym (same_told first.0)) ∙ at.1)))
            (λ p x l a n. none_told found.ports p x n (told_pod_of (get_or found.ports p new_port) x (ap (λ z. z.level) (same_told p) ∙ l) (ap (λ z. z.pod) (same_told p) ∙ a)))
        by false e =
            edge_view (f.view s).place.pod (λ x was. was) (λ x was. inl was)
            (λ p x l a n. elim (level_or_none (f.view s).place.level) [
              | inl none ↦ absurd (let both = and_from (is_none (f.view s).place.level) (is_none (f.view s).place.pod) (none_of (f.view s).place.level none) (none_of (f.view s).place.pod n) in cc)
              | inr known ↦ (let zero_level : known.0 ≡ 0 = (old.own s).level known.0 known.1 ∙ edge_level in
                  (old.sound s there).full.down p x (known.1 ∙ ap (λ y. Some y) zero_level) l a n)
            ])

    host_found : (get_or found.ports port new_port).host ≡ true
    host_found = ap (λ (x : PortRecord). x.host) (get_or-set_same (f.view s).ports port (record (port_of (f.view s) port) { host = true }) new_port (rw (shaped.ports, size) within))

    pub entered_turn : (choose : Choice) (frame : List ℕ) → IsChoice choose →
        IsGoodTurn plan f s (data_comes choose (f.view s) port frame).view (data_comes choose (f.view s) port frame).acts
    entered_turn choose frame chooses =
        by (is_open_to_hosts (port_of (f.view s) port)) (opened (port_of (f.view s) port).host (port_of (f.view s) port).heard (old.strangers s port free))
      where
        opened : (b : Bool) (o : Option Neighbour) → o ≡ None → (b || is_none o) ≡ true
        opened true o e = refl
        opened false o e = rw e refl

        whole : IsSilent (becomes_edge found) (changes_to (f.view s) (becomes_edge found) ▹ (λ w. learns_source w port frame) ▹ takes_in_or_spent choose port frame)
        whole =
            silent_then (becomes_edge found) (changes_to (f.view s) (becomes_edge found) ▹ (λ w. learns_source w port frame)) (takes_in_or_spent choose port frame)
            (silent_then (becomes_edge found) (changes_to (f.view s) (becomes_edge found)) (λ w. learns_source w port frame)
            (changes_to_silent (f.view s) (becomes_edge found) found_view.sound.homes)
            (λ w seen homes. learns_source_silent w port frame (rw seen.ports host_found) homes))
            (λ w seen homes. takes_in_or_spent_silent choose port frame w chooses (rw seen.ports host_found) homes)

        host : (b : Bool) → IsGoodTurn plan f s
            (if b then does (f.view s) (act.Drop NotPlaced ∷ []) else finds_host (f.view s) port ▹ (λ w. learns_source w port frame) ▹ takes_in_or_spent choose port frame).view
            (if b then does (f.view s) (act.Drop NotPlaced ∷ []) else finds_host (f.view s) port ▹ (λ w. learns_source w port frame) ▹ takes_in_or_spent choose port frame).acts
        host true =
            silent_turn plan f s is old (f.view s) (does (f.view s) (act.Drop NotPlaced ∷ [])) (view_itself plan f s is old there)
            (still_does (f.view s) (act.Drop NotPlaced ∷ []) (old.sound s there).homes (tt, tt))
        host false = silent_turn plan f s is old (becomes_edge found) _ found_view whole

        by : (b : Bool) → b ≡ true →
            IsGoodTurn plan f s (if b then comes_from_host choose (f.view s) port frame else comes_from_switch choose (f.view s) port frame).view
            (if b then comes_from_host choose (f.view s) port frame else comes_from_switch choose (f.view s) port frame).acts
        by true e = host (is_known (f.view s).place.level 1 || is_known (f.view s).place.level 2)
        by false e = absurd (cc)
