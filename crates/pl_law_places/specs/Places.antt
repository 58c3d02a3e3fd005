-- Places are true: in each control plane of a run.
use Rattle.std.specs.Prelude.{◌≡◌, ℕ, ◌<◌, Some, None}
use Rattle.std.specs.List.{AllByRecursion}
use Rattle.pl_wiring.specs.declared.label.Label.TheVariants.{Edge}
use Rattle.pl_wiring.specs.declared.link.Peer.TheVariants.{HostPort}
use Rattle.pl_wiring.specs.Labels.{label_of, switch_count}
use Rattle.pl_wiring.specs.Peers.{peer_of}
use Rattle.pl_wiring.specs.Plan.{Plan}
use Rattle.pl_node.specs.declared.messages.ToSwitch.{ToSwitch}
use Rattle.pl_node.specs.declared.messages.ToSwitch.TheVariants.{Pod}
use Rattle.pl_node.specs.PortRecords.{port_of}
use Rattle.pl_law_control_plane.specs.ControlPlanes.{AreAdjacent, ControlPlane}
use Rattle.pl_law_places.specs.Known.{HasPod, IsPlaceOfLabel, IsSoundView}
use Rattle.pl_law_places.specs.Told.{IsGoodLink}

pub record ArePlaced (plan : Plan) (f : ControlPlane) : Type 0 where
  -- over each link what is said and recorded is true, and where a data frame comes the sender was heard; no port with a link is a host port
  pub links : (s p t q : ℕ) → AreAdjacent plan s p t q → IsGoodLink (f.view s) p (f.view t) q (f.says s p) (f.carries s p)
  -- at a port without a link nothing was heard
  pub strangers : (s p : ℕ) → peer_of plan s p ≡ HostPort → (port_of (f.view s) p).heard ≡ None
  pub own : (s : ℕ) → IsPlaceOfLabel plan.k (label_of plan.k s) (f.view s).place
  -- a known pod is that of the pod's edge switch of position 0
  pub pods : (s n : ℕ) → (f.view s).place.pod ≡ Some n → HasPod plan.k f.view s n
  pub sound : (s : ℕ) → s < switch_count plan.k → IsSoundView (f.view s)

-- no two edge switches of a pod have one position
abbrev pub PositionsDiffer : Plan → ControlPlane → Type 0
PositionsDiffer plan f = (pod i j x s t : ℕ) → label_of plan.k s ≡ Edge pod i → label_of plan.k t ≡ Edge pod j →
    (f.view s).place.position ≡ Some x → (f.view t).place.position ≡ Some x → s ≡ t

-- the number of a pod that a switch is told has not the code of an unknown one
abbrev pub IsPodNumber : ToSwitch → Type 0
IsPodNumber (Pod n) = n < 65535
IsPodNumber says = Unit {0}

abbrev pub ArePodNumbers : ControlPlane → Type 0
ArePodNumbers f = (s : ℕ) → AllByRecursion IsPodNumber (f.orders s)
