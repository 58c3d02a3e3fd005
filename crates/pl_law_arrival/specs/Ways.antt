-- How a frame goes on in a settled fabric: over live links, by switches that know their places, down to the addressed edge switch.
use Rattle.std.specs.Prelude.{◌≡◌, ◌<◌, ◌⊎◌, ℕ, true, Some}
use Rattle.pl_pmac.specs.declared.pmac.Pmac.{Pmac}
use Rattle.pl_layouts.specs.declared.place.Place.{Place}
use Rattle.pl_wiring.specs.Labels.{switch_count}
use Rattle.pl_wiring.specs.LiveLinks.{LivePorts, is_live_at}
use Rattle.pl_wiring.specs.Plan.{Plan}
use Rattle.pl_node.specs.SwitchViews.{SwitchView}
use Rattle.pl_switch_rule.specs.declared.came.Came.{Came}
use Rattle.pl_switch_rule.specs.Forwarding.{is_candidate}
use Rattle.pl_law_control_plane.specs.ControlPlanes.{AreAdjacent, control_plane}
use Rattle.pl_world.specs.Worlds.{WorldView}

-- a wiring, its live links, and what its switches know of their places
pub record Fabric : Type 0 where
  pub plan : Plan
  pub links : LivePorts
  pub place : ℕ → Place

abbrev pub fabric_of : WorldView → Fabric
fabric_of w = record { plan = w.plan; links = w.links; place = λ s. ((control_plane w).view s).place }

-- a live link leads out of this port of the first switch to the second
pub record LeadsBy (f : Fabric) (s port t : ℕ) : Type 0 where
  pub into : ℕ
  pub adjacent : AreAdjacent f.plan s port t into
  pub live : is_live_at f.links s port ≡ true

-- a live link joins the two switches
pub record AreLinked (f : Fabric) (s t : ℕ) : Type 0 where
  pub port : ℕ
  pub by : LeadsBy f s port t

-- From a switch above the edge switches a way leads down to edge switch t of the pod: from an aggregation switch of that pod, which is linked
-- to it;
pub record IsLast (f : Fabric) (pod t a : ℕ) : Type 0 where
  pub level : (f.place a).level ≡ Some 1
  pub pod_is : (f.place a).pod ≡ Some pod
  pub linked : AreLinked f a t

-- from a core switch, which is linked to such a one;
pub record IsTop (f : Fabric) (pod t c : ℕ) : Type 0 where
  pub level : (f.place c).level ≡ Some 2
  pub last : ℕ
  pub linked : AreLinked f c last
  pub is_last : IsLast f pod t last

-- from an aggregation switch of another pod, which is linked to such a core switch.
pub record IsOfOtherPod (f : Fabric) (pod t a : ℕ) : Type 0 where
  pub level : (f.place a).level ≡ Some 1
  pub own : ℕ
  pub pod_is : (f.place a).pod ≡ Some own
  pub another : own ≡ pod → ⊥
  pub top : ℕ
  pub linked : AreLinked f a top
  pub is_top : IsTop f pod t top

-- a way leads up from an edge switch to such an aggregation switch
abbrev pub LeadsDown : Fabric → ℕ → ℕ → ℕ → Type 0
LeadsDown f pod t a = IsLast f pod t a ⊎ IsOfOtherPod f pod t a

-- Switch s, which knows v, has a port by which a frame for this address may leave that came so. Each such port has a live link, to a switch of
-- this kind.
pub record HasPortOn (f : Fabric) (v : SwitchView) (s : ℕ) (to : Pmac) (came : Came) (Kind : ℕ → Type 0) : Type 0 where
  pub port : ℕ
  pub within : port < v.k
  pub there : is_candidate v to came port ≡ true
  pub each : (p : ℕ) → is_candidate v to came p ≡ true → (u : ℕ) × LeadsBy f s p u × Kind u

-- Two fabrics of one wiring with the same live links, whose switches know the same of their places.
pub record Alike (f g : Fabric) : Type 0 where
  pub plan : g.plan ≡ f.plan
  pub live : (s p t q : ℕ) → AreAdjacent f.plan s p t q → is_live_at g.links s p ≡ is_live_at f.links s p
  pub place : (s : ℕ) → s < switch_count f.plan.k → g.place s ≡ f.place s
