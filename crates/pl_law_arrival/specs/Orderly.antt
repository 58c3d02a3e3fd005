-- What holds in every run, as far as arrival stands on it.
use Rattle.std.specs.Prelude.{◌≡◌, ℕ, IsTrue, Contains, List, Some, slice_get}
use Rattle.pl_frame.specs.declared.address.SwitchId.{SwitchId}
use Rattle.pl_wiring.specs.Plan.{Plan}
use Rattle.pl_node.specs.ManagerViews.{ManagerView, is_heard}
use Rattle.pl_law_control_plane.specs.ControlPlanes.{control_plane}
use Rattle.pl_law_due.specs.Due.{due_plane}
use Rattle.pl_law_invariant.specs.ControlInvariant.{ControlInvariant}
use Rattle.pl_law_records.specs.Records.{HaveToldNeighbours}
use Rattle.pl_world.specs.declared.attachment.AttachmentPoint.{AttachmentPoint}
use Rattle.pl_world.specs.Worlds.{WorldView}

-- the manager heard the switches of the wiring alone
abbrev pub HearsWiring : Plan → ManagerView → Type 0
HearsWiring plan manager = (id : SwitchId) → IsTrue (is_heard manager id) → Contains plan.ids id

-- no two hosts stand at one port
abbrev pub AreApart : List AttachmentPoint → Type 0
AreApart attachments = (a b : ℕ) (attachment : AttachmentPoint) → slice_get attachments a ≡ Some attachment → slice_get attachments b ≡ Some attachment → a ≡ b

pub record IsOrderlyWorld (w : WorldView) : Type 0 where
  -- places, votes, numbers of pods and addresses are in order
  pub kept : ControlInvariant w
  pub heard : HearsWiring w.plan w.manager
  -- links to neighbours alone were told usable
  pub told : HaveToldNeighbours (due_plane (control_plane w))
  pub apart : AreApart w.attachments
