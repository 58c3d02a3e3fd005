-- The addresses of a control plane in any epoch of the fabric manager, and of a world.
use Rattle.pl_frame.specs.declared.address.Ip4.{Ip4}
use Rattle.pl_frame.specs.declared.address.Mac.{Mac}
use Rattle.std.specs.Prelude.{Option}
use Rattle.pl_world.specs.Worlds.{WorldView}
use Rattle.pl_law_control_plane.specs.ControlPlanes.{ControlPlane, control_plane}
use Rattle.pl_law_due.specs.Due.{due_plane}
use Rattle.pl_law_addresses.specs.OwnAddresses.{own_ip}
use Rattle.pl_law_epochs.specs.Addressed.{AreAddressed}
use Rattle.pl_law_epochs.specs.Leading.{TrapsLead}
use Rattle.pl_law_epochs.specs.Trapping.{TrapsAreReported}

-- They are in order by what is due; that a trap stands is told in reports alone; and each trap that stands leads to an address of the same host that is
-- somebody's.
pub record AddressesAreInOrder (own : Mac → Option Ip4) (f : ControlPlane) : Type 0 where
  pub addressed : AreAddressed own (due_plane f)
  pub reported : TrapsAreReported f
  pub lead : TrapsLead f

-- where each host has its own IPv4 address
abbrev pub IsAddressed : WorldView → Type 0
IsAddressed w = AddressesAreInOrder (λ mac. own_ip w.plan mac) (control_plane w)
