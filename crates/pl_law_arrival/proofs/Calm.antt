-- What is used of a settled fabric: what holds between its links, the views of its switches, and what the manager was told.
use Rattle.std.proofs.Common.{◌≡◌, ℕ, ◌<◌, ◌&&◌, nat_lt, Bool, true, false, Option, Some, None, refl, sym, ◌∙◌, subst}
use Rattle.std.specs.Prelude.{slice_index_or}
use Rattle.std.proofs.lemmas.Bool.{and_from, and_parts}
use Rattle.pl_frame.specs.declared.address.SwitchId.{SwitchId}
use Rattle.pl_wiring.specs.declared.label.Label.TheVariants.{Edge}
use Rattle.pl_wiring.specs.declared.link.Peer.{Peer}
use Rattle.pl_wiring.specs.declared.link.Peer.TheVariants.{HostPort, Switch}
use Rattle.pl_wiring.specs.Labels.{label_of, switch_count}
use Rattle.pl_wiring.specs.LiveLinks.{LivePorts, is_live_at}
use Rattle.pl_wiring.specs.Peers.{peer_of}
use Rattle.pl_wiring.specs.Plan.{IsPlan, Plan}
use Rattle.pl_node.specs.declared.neighbour.Neighbour.{Neighbour}
use Rattle.pl_node.specs.AvoidLists.{avoid_list}
use Rattle.pl_node.specs.ManagerViews.{Told, is_alive, is_told_usable, place_of}
use Rattle.pl_node.specs.PortRecords.{heard_echo, id_at, is_id, is_usable, place_at, port_of}
use Rattle.pl_node.specs.SwitchViews.{SwitchView}
use Rattle.pl_law_control_plane.specs.ControlPlanes.{AreAdjacent}
use Rattle.pl_law_control_plane.proofs.Exports.{adjacent_there, adjacent_turned}
use Rattle.pl_law_places.specs.Known.{HasAllGiven, IsPlaceOfLabel, pod_of}
use Rattle.pl_law_arrival.specs.Ways.{AreLinked, Fabric, LeadsBy}
use Rattle.pl_law_arrival.proofs.ArrivalLemmas.{not_both}

pub record Net : Type 0 where
  pub plan : Plan
  pub links : LivePorts
  pub view : ℕ → SwitchView
  pub told : Told

abbrev pub fabric : Net → Fabric
fabric n = record { plan = n.plan; links = n.links; place = λ s. (n.view s).place }

pub record Calm (n : Net) : Type 0 where
  pub is : IsPlan n.plan
  -- both ends of a link are live, or failed
  pub both : (s p t q : ℕ) → AreAdjacent n.plan s p t q → is_live_at n.links s p ≡ true → is_live_at n.links t q ≡ true
  pub size : (s : ℕ) → s < switch_count n.plan.k → (n.view s).k ≡ n.plan.k
  -- usable ports are those with a live link, and their records are what the neighbour is now
  pub usable : (s p t q : ℕ) → AreAdjacent n.plan s p t q → is_usable (n.view s) p ≡ is_live_at n.links s p
  pub place_there : (s p t q : ℕ) → AreAdjacent n.plan s p t q → is_live_at n.links s p ≡ true → place_at (n.view s) p ≡ (n.view t).place
  pub id_there : (s p t q : ℕ) → AreAdjacent n.plan s p t q → is_live_at n.links s p ≡ true → id_at (n.view s) p ≡ Some (n.view t).id
  pub strangers : (s p : ℕ) → peer_of n.plan s p ≡ HostPort → (port_of (n.view s) p).heard ≡ None
  -- the manager was told so, and of these switches and links alone
  pub alive : (s p t q : ℕ) → AreAdjacent n.plan s p t q → is_told_usable n.told (n.view s).id (n.view t).id ≡ is_live_at n.links s p
  pub places : (s : ℕ) → s < switch_count n.plan.k → place_of n.told (n.view s).id ≡ (n.view s).place
  pub avoids : (s : ℕ) → s < switch_count n.plan.k → (n.view s).avoid ≡ avoid_list n.told (n.view s).id
  pub known : (i : SwitchId) (x : ℕ) → (place_of n.told i).level ≡ Some x → (s : ℕ) × (s < switch_count n.plan.k) × ((n.view s).id ≡ i)
  pub linked : (s : ℕ) (u : SwitchId) → s < switch_count n.plan.k → is_told_usable n.told (n.view s).id u ≡ true →
      (p t q : ℕ) × AreAdjacent n.plan s p t q × ((n.view t).id ≡ u)
  -- places are true, and hold all that the records give
  pub own : (s : ℕ) → IsPlaceOfLabel n.plan.k (label_of n.plan.k s) (n.view s).place
  pub full : (s : ℕ) → s < switch_count n.plan.k → HasAllGiven (n.view s).place (n.view s).ports
  -- ids are those of the wiring and differ, positions of a pod differ, a pod has one number, and numbers of pods differ
  pub named : (s : ℕ) → (n.view s).id ≡ slice_index_or n.plan.ids s (record { 0 = 0 })
  pub ids : (s t : ℕ) → s < switch_count n.plan.k → t < switch_count n.plan.k → (n.view s).id ≡ (n.view t).id → s ≡ t
  pub positions : (pod i j x s t : ℕ) → label_of n.plan.k s ≡ Edge pod i → label_of n.plan.k t ≡ Edge pod j →
      (n.view s).place.position ≡ Some x → (n.view t).place.position ≡ Some x → s ≡ t
  pub one_number : (s t x y : ℕ) → pod_of (label_of n.plan.k s) ≡ pod_of (label_of n.plan.k t) →
      (n.view s).place.pod ≡ Some x → (n.view t).place.pod ≡ Some y → x ≡ y
  pub one_pod : (s t x : ℕ) → (n.view s).place.pod ≡ Some x → (n.view t).place.pod ≡ Some x →
      pod_of (label_of n.plan.k s) ≡ pod_of (label_of n.plan.k t)

module _ (n : Net) (calm : Calm n) where
  pub turned : (s p t : ℕ) (l : LeadsBy (fabric n) s p t) → LeadsBy (fabric n) t l.into s
  turned s p t l = record {
    into = p;
    adjacent = adjacent_turned n.plan s p t l.into calm.is l.adjacent;
    live = calm.both s p t l.into l.adjacent l.live;
  }

  pub back : (s t : ℕ) → AreLinked (fabric n) s t → AreLinked (fabric n) t s
  back s t l = record { port = l.by.into; by = turned s l.port t l.by }

  pub here : (s t : ℕ) → AreLinked (fabric n) s t → s < switch_count n.plan.k
  here s t l = (adjacent_there n.plan s l.port t l.by.into calm.is l.by.adjacent).0

  pub port_here : (s t : ℕ) (l : AreLinked (fabric n) s t) → l.port < n.plan.k
  port_here s t l = (adjacent_there n.plan s l.port t l.by.into calm.is l.by.adjacent).1

  pub there : (s t : ℕ) → AreLinked (fabric n) s t → t < switch_count n.plan.k
  there s t l = here t s (back s t l)

  -- a usable port has a live link
  pub usable_leads : (s p : ℕ) → is_usable (n.view s) p ≡ true → (t : ℕ) × LeadsBy (fabric n) s p t
  usable_leads s p usable = by (peer_of n.plan s p) refl
    where
      unheard : (o : Option Neighbour) → o ≡ None → (b : Bool) → (b && is_id (heard_echo o) (n.view s).id) ≡ false
      unheard None e true = refl
      unheard None e false = refl
      unheard (Some x) e b = absurd (cc e)

      by : (peer : Peer) → peer_of n.plan s p ≡ peer → (t : ℕ) × LeadsBy (fabric n) s p t
      by HostPort e = absurd (not_both (is_usable (n.view s) p) usable (unheard (port_of (n.view s) p).heard (calm.strangers s p e) (nat_lt (port_of (n.view s) p).silent 3)))
      by (Switch t q) e = (t.0, record { into = q; adjacent = e; live = sym (calm.usable s p t.0 q e) ∙ usable })

  pub port_usable : (s t : ℕ) (l : AreLinked (fabric n) s t) → is_usable (n.view s) l.port ≡ true
  port_usable s t l = calm.usable s l.port t l.by.into l.by.adjacent ∙ l.by.live

  pub place_of_port : (s p t : ℕ) → LeadsBy (fabric n) s p t → place_at (n.view s) p ≡ (n.view t).place
  place_of_port s p t l = calm.place_there s p t l.into l.adjacent l.live

  pub id_of_port : (s p t : ℕ) → LeadsBy (fabric n) s p t → id_at (n.view s) p ≡ Some (n.view t).id
  id_of_port s p t l = calm.id_there s p t l.into l.adjacent l.live

  pub told_alive : (s t : ℕ) → AreLinked (fabric n) s t → is_alive n.told (n.view s).id (n.view t).id ≡ true
  told_alive s t l =
      let other = back s t l in
      and_from (is_told_usable n.told (n.view s).id (n.view t).id) (is_told_usable n.told (n.view t).id (n.view s).id)
      (calm.alive s l.port t l.by.into l.by.adjacent ∙ l.by.live) (calm.alive t other.port s other.by.into other.by.adjacent ∙ other.by.live)

  pub alive_leads : (s : ℕ) (u : SwitchId) → s < switch_count n.plan.k → is_alive n.told (n.view s).id u ≡ true →
      (t : ℕ) × AreLinked (fabric n) s t × ((n.view t).id ≡ u)
  alive_leads s u within alive =
      let told = (and_parts (is_told_usable n.told (n.view s).id u) (is_told_usable n.told u (n.view s).id) alive).0 in
      let at = calm.linked s u within told in
      let live : is_live_at n.links s at.0 ≡ true =
      sym (calm.alive s at.0 at.1 at.2 at.3) ∙ subst (λ (x : SwitchId). is_told_usable n.told (n.view s).id x ≡ true) (sym at.4) told in
      (at.1, record { port = at.0; by = record { into = at.2; adjacent = at.3; live = live } }, at.4)
