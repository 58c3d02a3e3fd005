-- A location discovery message keeps places true.
use Rattle.std.proofs.Common.{◌≡◌, ℕ, zero, suc, ◌/◌, ◌<◌, ◌⊎◌, true, List, [], ◌∷◌, Option, Some, None, Ok, Err, Result, get_or, set, refl, sym, ap, ◌∙◌, subst, arith, inl, inr}
use Rattle.std.specs.List.{AllByRecursion, list_any}
use Rattle.std.proofs.lemmas.Bool.{and_from, and_parts}
use Rattle.std.proofs.lemmas.Option.{same_Some}
use Rattle.pl_frame.specs.declared.address.SwitchId.{SwitchId}
use Rattle.pl_layouts.specs.declared.control.Control.{Control}
use Rattle.pl_layouts.specs.declared.control.Control.TheVariants as control
use Rattle.pl_layouts.specs.declared.control.ControlError.{ControlError}
use Rattle.pl_layouts.specs.declared.control.Ldm.{Ldm}
use Rattle.pl_layouts.specs.declared.place.Place.{Place}
use Rattle.pl_layouts.specs.Placement.{is_known}
use Rattle.pl_layouts.proofs.Exports.{is_known_of, known_is}
use Rattle.pl_ldp.specs.Writable.{IsWritableId}
use Rattle.pl_wiring.specs.declared.link.Peer.TheVariants.{HostPort}
use Rattle.pl_wiring.specs.FatTree.{IsBelow}
use Rattle.pl_wiring.specs.Labels.{label_of, switch_count}
use Rattle.pl_wiring.specs.Peers.{peer_of}
use Rattle.pl_wiring.specs.Plan.{IsPlan, Plan}
use Rattle.pl_node.specs.declared.neighbour.PortRecord.{PortRecord}
use Rattle.pl_node.specs.PortRecords.{heard_place, new_port, port_of}
use Rattle.pl_node.specs.SwitchViews.{SwitchView}
use Rattle.pl_steps.specs.Steps.{rests}
use Rattle.pl_switch_rule.specs.Levels.{after_message, changes_to, hears_message, is_of_other_pod, learns_level, learns_pod, level_after, notes_edge, other_pod, pod_after, share_a_pod, with_message}
use Rattle.pl_switch_rule.specs.SwitchRule.{hears_control}
use Rattle.pl_law_control_plane.specs.ControlPlanes.{AreAdjacent, ControlPlane, messages_of}
use Rattle.pl_law_control_plane.proofs.Exports.{adjacent_labels, adjacent_turned, changes_to_silent, still_does}
use Rattle.pl_law_places.specs.Known.{HasPod, HasAllGiven, IsSoundView, pod_of, told_at}
use Rattle.pl_law_places.specs.Places.{ArePlaced, PositionsDiffer}
use Rattle.pl_law_places.specs.Told.{IsGoodMessage, IsTrulyTold, IsTrueOf, has_heard}
use Rattle.pl_law_places.proofs.Later.{IsGoodTurn}
use Rattle.pl_law_places.proofs.TurnsWithoutControlFrames.{IsGoodView, homes_same, silent_turn, view_itself}
use Rattle.pl_law_places.proofs.Given.{GivesLevel, GivesPod, found_other, has_other, level_given, other_from, other_is, other_some, pod_given, share_levels, shares_down, shares_up}
use Rattle.pl_law_places.proofs.Given.GivesLevel.{FromEdge, FromPods, Stays, Unknown}
use Rattle.pl_law_places.proofs.Given.GivesPod.{KeptPod, ToldPod}
use Rattle.pl_law_places.proofs.Neighbours.{near_aggregation, near_edge, neighbour_at, one_number, one_peer, turned_below, zero_of_pod}
use Rattle.pl_law_places.proofs.Voting.{holds_view, noted_edge, proposal_turn, vote_turn}
use Rattle.pl_journal.specs.Flights.{label_level}

pub set_or_old : {T : Type 0} (xs : List T) (n m : ℕ) (x d : T) → ((m ≡ n) × (get_or (set xs n x) m d ≡ x)) ⊎ (get_or (set xs n x) m d ≡ get_or xs m d)
set_or_old [] n m x d = inr refl
set_or_old (y ∷ xs) zero zero x d = inl (refl, refl)
set_or_old (y ∷ xs) zero (suc m) x d = inr refl
set_or_old (y ∷ xs) (suc n) zero x d = inr refl
set_or_old (y ∷ xs) (suc n) (suc m) x d = elim (set_or_old xs n m x d) [ inl e ↦ inl (ap suc e.0, e.1) | inr e ↦ inr e ]

-- the level and the pod that come of a message
module _ (place told : Place) (ports : List PortRecord) where
  pub level_later : (level : Option ℕ) → GivesLevel place told ports level → (x : ℕ) → place.level ≡ Some x → level ≡ Some x
  level_later level (Stays n was now) x e = now ∙ sym was ∙ e
  level_later level (FromEdge none edge now) x e = absurd (cc)
  level_later level (FromPods none aggregation other now) x e = absurd (cc)
  level_later level (Unknown none edge other now) x e = absurd (cc)

  pub level_none : (level : Option ℕ) → GivesLevel place told ports level → level ≡ None → place.level ≡ None
  level_none level given none = by place.level refl
    where
      by : (o : Option ℕ) → place.level ≡ o → o ≡ None
      by None e = refl
      by (Some x) e = absurd (let now = level_later level given x e in cc)

  pod_later : (level pod : Option ℕ) → GivesPod (record place { level = level }) told pod → (x : ℕ) → place.pod ≡ Some x → pod ≡ Some x
  pod_later level pod (KeptPod same none) x e = same ∙ e
  pod_later level pod (ToldPod none share same) x e = absurd (cc)

  pod_none : (level pod : Option ℕ) → GivesPod (record place { level = level }) told pod → pod ≡ None → place.pod ≡ None
  pod_none level pod given none = by place.pod refl
    where
      by : (o : Option ℕ) → place.pod ≡ o → o ≡ None
      by None e = refl
      by (Some x) e = absurd (let now = pod_later level pod given x e in cc)

-- the place holds all that the records give, once the message is among them
module _ (place told : Place) (ports : List PortRecord) (port : ℕ) (r : PortRecord) (level pod : Option ℕ) (host : r.host ≡ (get_or ports port new_port).host)
    (heard : heard_place r.heard ≡ told) (given : GivesLevel place told (set ports port r) level) (pods : GivesPod (record place { level = level }) told pod)
    (full : HasAllGiven place ports) where
  told_or_old : (p : ℕ) → (told_at (set ports port r) p ≡ told) ⊎ (told_at (set ports port r) p ≡ told_at ports p)
  told_or_old p = elim (set_or_old ports port p r new_port) [
    | inl new ↦ inl (ap (λ (x : PortRecord). heard_place x.heard) new.1 ∙ heard)
    | inr same ↦ inr (ap (λ (x : PortRecord). heard_place x.heard) same)
  ]

  no_edge : level ≡ None → told.level ≡ Some 0 → ⊥
  no_edge none edge = by level given none
    where
      by : (l : Option ℕ) → GivesLevel place told (set ports port r) l → l ≡ None → ⊥
      by l (Stays n was now) e = cc
      by l (FromEdge was aggregation now) e = cc
      by l (FromPods was aggregation other now) e = cc
      by l (Unknown was never other now) e = never edge

  no_other : level ≡ None → told.level ≡ Some 1 → list_any (is_of_other_pod told.pod) (set ports port r) ≡ true → ⊥
  no_other none aggregation any = by level given none
    where
      by : (l : Option ℕ) → GivesLevel place told (set ports port r) l → l ≡ None → ⊥
      by l (Stays n was now) e = cc
      by l (FromEdge was edge now) e = cc
      by l (FromPods was edge other now) e = cc
      by l (Unknown was edge never now) e = never aggregation any

  -- a record of another pod than the told one
  other_found : (q x y : ℕ) → told.pod ≡ Some x → (told_at (set ports port r) q).level ≡ Some 1 → (told_at (set ports port r) q).pod ≡ Some y → (x ≡ y → ⊥) →
      list_any (is_of_other_pod told.pod) (set ports port r) ≡ true
  other_found q x y pod_is l p differ =
      has_other told.pod (set ports port r) q
      (and_from (is_known (told_at (set ports port r) q).level 1) (other_pod told.pod (told_at (set ports port r) q).pod) (is_known_of (told_at (set ports port r) q).level 1 l)
      (rw (pod_is, p) (other_from x y differ)))

  no_told_pod : (x : ℕ) → told.pod ≡ Some x → share_a_pod level told.level ≡ true → pod ≡ None → ⊥
  no_told_pod x told_is share none = by pod pods none
    where
      by : (o : Option ℕ) → GivesPod (record place { level = level }) told o → o ≡ None → ⊥
      by o (KeptPod same never) e = never (sym same ∙ e) share
      by o (ToldPod was shares same) e = cc

  was_level : (x : ℕ) → level ≡ Some x → (place.level ≡ Some x) ⊎ ((place.level ≡ None) × (x ≡ 0 → ⊥))
  was_level x now = by level given now
    where
      by : (l : Option ℕ) → GivesLevel place told (set ports port r) l → l ≡ Some x → (place.level ≡ Some x) ⊎ ((place.level ≡ None) × (x ≡ 0 → ⊥))
      by l (Stays n was is) e = inl (was ∙ sym is ∙ e)
      by l (FromEdge was edge is) e = let same = same_Some 1 x (sym is ∙ e) in inr (was, λ zero_x. omega arith)
      by l (FromPods was edge other is) e = let same = same_Some 2 x (sym is ∙ e) in inr (was, λ zero_x. omega arith)
      by l (Unknown was edge never is) e = absurd (cc)

  pub full_after : HasAllGiven (record { level = level; position = place.position; pod = pod }) (set ports port r)
  full_after = record {
    host = λ p h. elim (set_or_old ports port p r new_port) [
      | inl new ↦ level_later place told (set ports port r) level given 0 (full.host port (sym host ∙ ap (λ (x : PortRecord). x.host) (sym new.1) ∙ h))
      | inr same ↦ level_later place told (set ports port r) level given 0 (full.host p (ap (λ (x : PortRecord). x.host) (sym same) ∙ h))
    ];
    one = λ p l n. elim (told_or_old p) [
      | inl new ↦ no_edge n (ap (λ x. x.level) (sym new) ∙ l)
      | inr same ↦ full.one p (ap (λ x. x.level) (sym same) ∙ l) (level_none place told (set ports port r) level given n)
    ];
    two = λ p q x y l m a b differ n. elim (told_or_old p) [
      | inl new ↦ no_other n (ap (λ z. z.level) (sym new) ∙ l) (other_found q x y (ap (λ z. z.pod) (sym new) ∙ a) m b differ)
      | inr same ↦ elim (told_or_old q) [
        | inl new ↦ no_other n (ap (λ z. z.level) (sym new) ∙ m) (other_found p y x (ap (λ z. z.pod) (sym new) ∙ b) l a (λ e. differ (sym e)))
        | inr also ↦ full.two p q x y (ap (λ z. z.level) (sym same) ∙ l) (ap (λ z. z.level) (sym also) ∙ m) (ap (λ z. z.pod) (sym same) ∙ a)
            (ap (λ z. z.pod) (sym also) ∙ b) differ (level_none place told (set ports port r) level given n)
      ]
    ];
    up = λ p x own l a n. elim (told_or_old p) [
      | inl new ↦ no_told_pod x (ap (λ z. z.pod) (sym new) ∙ a) (shares_up level told.level own (ap (λ z. z.level) (sym new) ∙ l)) n
      | inr same ↦ elim (was_level 1 own) [
        | inl was ↦ full.up p x was (ap (λ z. z.level) (sym same) ∙ l) (ap (λ z. z.pod) (sym same) ∙ a) (pod_none place told (set ports port r) level pod pods n)
        | inr was ↦ full.one p (ap (λ z. z.level) (sym same) ∙ l) was.0
      ]
    ];
    down = λ p x own l a n. elim (told_or_old p) [
      | inl new ↦ no_told_pod x (ap (λ z. z.pod) (sym new) ∙ a) (shares_down level told.level own (ap (λ z. z.level) (sym new) ∙ l)) n
      | inr same ↦ elim (was_level 0 own) [
        | inl was ↦ full.down p x was (ap (λ z. z.level) (sym same) ∙ l) (ap (λ z. z.pod) (sym same) ∙ a) (pod_none place told (set ports port r) level pod pods n)
        | inr was ↦ was.1 refl
      ]
    ];
  }

module _ (plan : Plan) (f : ControlPlane) (s : ℕ) (is : IsPlan plan) (old : ArePlaced plan f) (differ : PositionsDiffer plan f) (there : s < switch_count plan.k)
    (t q port : ℕ) (adjacent : AreAdjacent plan t q s port) (id : SwitchId) (m : Ldm)
    (told : IsTrulyTold (f.view t).id (f.view t).place (has_heard (f.view t) q) id m.place m.echo) where
  labels : IsBelow (label_of plan.k s) (label_of plan.k t) ⊎ IsBelow (label_of plan.k t) (label_of plan.k s)
  labels = adjacent_labels plan s port t q is (adjacent_turned plan t q s port is adjacent)

  told_level : (x : ℕ) → m.place.level ≡ Some x → label_level (label_of plan.k t) ≡ x
  told_level x e = sym ((old.own t).level x (told.so.level x e))

  -- two aggregation switches of different pods are below a core switch
  core_level : (ports : List PortRecord) → ports ≡ set (f.view s).ports port (record { host = (port_of (f.view s) port).host; heard = Some (record { id = id; place = m.place; echo = m.echo }); silent = 0 }) →
      m.place.level ≡ Some 1 → list_any (is_of_other_pod m.place.pod) ports ≡ true → label_level (label_of plan.k s) ≡ 2
  core_level ports ports_are level any = elim (near_aggregation (label_of plan.k s) (label_of plan.k t) labels (told_level 1 level)) [
    | inl edge ↦
        let found = found_other m.place.pod ports any in
        let p : ℕ = found.0 in
        let parts = and_parts (is_known (told_at ports p).level 1) (other_pod m.place.pod (told_at ports p).pod) found.1 in
        let x = other_some m.place.pod (told_at ports p).pod parts.1 in
        let y = other_is m.place.pod (told_at ports p).pod x.0 parts.1 x.1 in
        absurd (elim (set_or_old (f.view s).ports port p (record { host = (port_of (f.view s) port).host; heard = Some (record { id = id; place = m.place; echo = m.echo }); silent = 0 }) new_port) [
          | inl new ↦ y.2 (same_Some x.0 y.0 (sym x.1 ∙ ap (λ (z : PortRecord). (heard_place z.heard).pod) (sym new.1) ∙ ap (λ z. (told_at z p).pod) (sym ports_are) ∙ y.1))
          | inr same ↦
              let at : told_at ports p ≡ told_at (f.view s).ports p = ap (λ z. told_at z p) ports_are ∙ ap (λ (z : PortRecord). heard_place z.heard) same in
              let u = neighbour_at plan f s p 1 is old (ap (λ z. z.level) (sym at) ∙ known_is (told_at ports p).level 1 parts.0) in
              let pod_t = old.pods t x.0 (told.so.pod x.0 x.1) in
              let pod_u = old.pods u.t y.0 (u.pod y.0 (ap (λ z. z.pod) (sym at) ∙ y.1)) in
              let near_t = near_edge (label_of plan.k t) (label_of plan.k s) (turned_below (label_of plan.k s) (label_of plan.k t) labels) edge in
              let near_u = near_edge (label_of plan.k u.t) (label_of plan.k s) (adjacent_labels plan u.t u.q s p is u.adjacent) edge in
              y.2 (one_number plan f t u.t x.0 y.0 differ (near_t.1 ∙ sym near_u.1) pod_t pod_u)
        ])
    | inr core ↦ core
  ]

  own_level : (ports : List PortRecord) → ports ≡ set (f.view s).ports port (record { host = (port_of (f.view s) port).host; heard = Some (record { id = id; place = m.place; echo = m.echo }); silent = 0 }) →
      (level : Option ℕ) → GivesLevel (f.view s).place m.place ports level → (x : ℕ) → level ≡ Some x → x ≡ label_level (label_of plan.k s)
  own_level ports ports_are level (Stays n was now) x e = (old.own s).level x (was ∙ sym now ∙ e)
  own_level ports ports_are level (FromEdge was edge now) x e =
      sym (same_Some 1 x (sym now ∙ e)) ∙ sym (near_edge (label_of plan.k s) (label_of plan.k t) labels (told_level 0 edge)).0
  own_level ports ports_are level (FromPods was aggregation other now) x e = sym (same_Some 2 x (sym now ∙ e)) ∙ sym (core_level ports ports_are aggregation other)
  own_level ports ports_are level (Unknown was edge other now) x e = absurd (cc)

  abbrev record_then : PortRecord
  record_then = record { host = (port_of (f.view s) port).host; heard = Some (record { id = id; place = m.place; echo = m.echo }); silent = 0 }

  -- the view once the record is replaced and level and pod were learnt
  learnt_view : (ports : List PortRecord) → ports ≡ set (f.view s).ports port (record { host = (port_of (f.view s) port).host; heard = Some (record { id = id; place = m.place; echo = m.echo }); silent = 0 }) →
      (level pod : Option ℕ) → GivesLevel (f.view s).place m.place (set (f.view s).ports port (record { host = (port_of (f.view s) port).host; heard = Some (record { id = id; place = m.place; echo = m.echo }); silent = 0 })) level →
      GivesPod (record (f.view s).place { level = level }) m.place pod →
      IsGoodView plan f s (record (f.view s) { ports = ports; place = record { level = level; position = (f.view s).place.position; pod = pod } })
  learnt_view ports ports_are level pod given pods = record {
    id = refl;
    later = later;
    own = record { level = own_level new_ports refl level given; position = own_position; pod = λ x e. own_pod x e pods };
    heard = λ p h. elim (at_port p) [ inl new ↦ rw new.1 refl | inr same ↦ rw same h ];
    pods = λ n e. inl (has_pod n e pods);
    recorded = λ a b p there_adjacent. elim (at_port p) [
      | inl new ↦
          let here : AreAdjacent plan a b s port = subst (λ x. AreAdjacent plan a b s x) new.0 there_adjacent in
          let one = one_peer plan s port a b t q (adjacent_turned plan a b s port is here) (adjacent_turned plan t q s port is adjacent) in
          rw (new.1, one.0, one.1) (record {
            no_host = (old.links t q s port adjacent).recorded.no_host;
            known = λ n e. rw (← same_Some (record { id = id; place = m.place; echo = m.echo }) n e) told;
          })
      | inr same ↦ rw same (old.links a b s p there_adjacent).recorded
    ];
    strangers = λ p free. elim (at_port p) [
      | inl new ↦ absurd (let back = adjacent_turned plan t q s port is adjacent in
          let here : peer_of plan s port ≡ HostPort = subst (λ x. peer_of plan s x ≡ HostPort) new.0 free in cc)
      | inr same ↦ rw same (old.strangers s p free)
    ];
    sound = record {
      named = sound.named;
      full = rw ports_are (full_after (f.view s).place m.place (f.view s).ports port record_then level pod refl refl given pods sound.full);
      able = sound.able;
      holders = sound.holders;
      homes = homes_same (f.view s) (record (f.view s) { ports = ports; place = record { level = level; position = (f.view s).place.position; pod = pod } })
          (λ p h. host_at p ∙ h) (λ p h. sym (host_at p) ∙ h) refl refl refl sound.homes;
    };
  }
    where
      new_ports : List PortRecord
      new_ports = set (f.view s).ports port (record { host = (port_of (f.view s) port).host; heard = Some (record { id = id; place = m.place; echo = m.echo }); silent = 0 })

      sound : IsSoundView (f.view s)
      sound = old.sound s there

      later : IsTrueOf (f.view s).place (record { level = level; position = (f.view s).place.position; pod = pod })
      later = record {
        level = level_later (f.view s).place m.place new_ports level given;
        position = λ x e. e;
        pod = pod_later (f.view s).place m.place new_ports level pod pods;
      }

      own_position : (x : ℕ) → (f.view s).place.position ≡ Some x → (level ≡ Some 0) × (x < plan.k / 2)
      own_position x e = let was = (old.own s).position x e in (later.level 0 was.0, was.1)

      own_pod : (x : ℕ) → pod ≡ Some x → GivesPod (record (f.view s).place { level = level }) m.place pod → ((level ≡ Some 0) ⊎ (level ≡ Some 1)) × (x < 65535)
      own_pod x e (KeptPod same none) =
          let was = (old.own s).pod x (sym same ∙ e) in
          (elim was.0 [ inl l ↦ inl (later.level 0 l) | inr l ↦ inr (later.level 1 l) ], was.1)
      own_pod x e (ToldPod none share same) =
          (elim (share_levels level m.place.level share) [ inl l ↦ inl l.0 | inr l ↦ inr l.0 ], ((old.own t).pod x (told.so.pod x (sym same ∙ e))).1)

      same_pod : share_a_pod level m.place.level ≡ true → pod_of (label_of plan.k s) ≡ pod_of (label_of plan.k t)
      same_pod share = elim (share_levels level m.place.level share) [
        | inl l ↦ sym (near_edge (label_of plan.k t) (label_of plan.k s) (turned_below (label_of plan.k s) (label_of plan.k t) labels) (sym (own_level new_ports refl level given 0 l.0))).1
        | inr l ↦ (near_edge (label_of plan.k s) (label_of plan.k t) labels (told_level 0 l.1)).1
      ]

      has_pod : (n : ℕ) → pod ≡ Some n → GivesPod (record (f.view s).place { level = level }) m.place pod → HasPod plan.k f.view s n
      has_pod n e (KeptPod same none) = old.pods s n (sym same ∙ e)
      has_pod n e (ToldPod none share same) =
          let has = old.pods t n (told.so.pod n (sym same ∙ e)) in
          (has.0, zero_of_pod plan.k f.view s t n has.0 (same_pod share) has.1)

      at_port : (p : ℕ) → ((p ≡ port) × (get_or ports p new_port ≡ record { host = (port_of (f.view s) port).host; heard = Some (record { id = id; place = m.place; echo = m.echo }); silent = 0 }))
          ⊎ (get_or ports p new_port ≡ get_or (f.view s).ports p new_port)
      at_port p = rw ports_are (set_or_old (f.view s).ports port p (record { host = (port_of (f.view s) port).host; heard = Some (record { id = id; place = m.place; echo = m.echo }); silent = 0 }) new_port)

      host_at : (p : ℕ) → (get_or ports p new_port).host ≡ (port_of (f.view s) p).host
      host_at p = elim (at_port p) [
        | inl new ↦ rw (new.1, new.0) refl
        | inr same ↦ ap (λ (x : PortRecord). x.host) same
      ]

  pub ldm_turn : IsWritableId id → IsGoodTurn plan f s (hears_message (f.view s) port id m).view (hears_message (f.view s) port id m).acts
  ldm_turn named =
      let v : SwitchView = f.view s in
      let w1 : SwitchView = with_message v port id m in
      let w2 : SwitchView = learns_pod (learns_level w1 m.place) m.place in
      let good = learnt_view w1.ports refl (level_after w1 m.place) (pod_after (record v.place { level = level_after w1 m.place }) m.place) (level_given w1 m.place)
      (pod_given (record v.place { level = level_after w1 m.place }) m.place) in
      let noted = holds_view plan f s is old w2 (notes_edge w2 id m.place) (noted_edge w2 id m.place named (old.sound s there).holders) good in
      silent_turn plan f s is old (after_message v port id m) (changes_to v (after_message v port id m)) noted
      (changes_to_silent v (after_message v port id m) noted.sound.homes)

-- A control frame that comes over a link keeps places true.
module _ (plan : Plan) (f : ControlPlane) (s : ℕ) (is : IsPlan plan) (old : ArePlaced plan f) (differ : PositionsDiffer plan f) (there : s < switch_count plan.k)
    (size : (f.view s).k ≡ plan.k) (t q port : ℕ) (adjacent : AreAdjacent plan t q s port) where
  pub control_turn : (r : Result Control ControlError) → AllByRecursion (IsGoodMessage (f.view t).id (f.view t).place (has_heard (f.view t) q)) (messages_of r) →
      IsGoodTurn plan f s (hears_control (f.view s) port r).view (hears_control (f.view s) port r).acts
  control_turn (Err e) good = silent_turn plan f s is old (f.view s) (rests (f.view s)) (view_itself plan f s is old there) (still_does (f.view s) [] (old.sound s there).homes tt)
  control_turn (Ok (control.Ldm id m)) good = ldm_turn plan f s is old differ there t q port adjacent id m good.0.of_sender good.0.writable.fits.0
  control_turn (Ok (control.Proposal id p)) good = proposal_turn plan f s is old there port id p good.0.writable
  control_turn (Ok (control.Vote id vote)) good = vote_turn plan f s is old there size port vote
