-- The invariant of the network: what holds where a fabric begins, and after each event of each of its runs.
use Rattle.std.specs.Prelude.{◌≡◌, ◌<◌, ℕ, Some, reverse, slice_get}
use Rattle.std.specs.List.{AllByRecursion}
use Rattle.pl_pmac.specs.declared.pmac.Pmac.{Pmac}
use Rattle.pl_journal.specs.Lossy.{GoodTrail, Run}
use Rattle.pl_node.specs.ManagerDuties.{with_number}
use Rattle.pl_node.specs.ManagerViews.{Registration, registration}
use Rattle.pl_node.specs.SwitchViews.{SwitchView}
use Rattle.pl_world.specs.Restarting.{CountsRestarts}
use Rattle.pl_world.specs.Worlds.{WorldView}
use Rattle.pl_fabric.specs.Settled.{IsSettled}
use Rattle.pl_law_control_plane.specs.ControlPlanes.{ControlPlane, control_plane}
use Rattle.pl_law_records.specs.Entries.{last_registration, place_written}
use Rattle.pl_law_invariant.specs.ControlInvariant.{ControlInvariant}
use Rattle.pl_law_placing.specs.Placing.{ArePlacing}
use Rattle.pl_law_due.specs.Due.{due_plane}
use Rattle.pl_law_records.specs.Records.{AreCurrent, HaveOrders, HaveReported, HaveToldLinks, HaveToldNeighbours, NoReportWaits, LinksAreCurrent, LinksAreOfNeighbours}
use Rattle.pl_law_copies.specs.Trees.{AreTrees}
use Rattle.pl_law_copies.specs.Alone.{AreAlone}
use Rattle.pl_law_copies.specs.Copies.{ComesOnce}
use Rattle.pl_law_copies.specs.Standing.{KnowTrees}
use Rattle.pl_law_members.specs.Joined.{HaveJoined}
use Rattle.pl_law_ledger.specs.Leading.{AreLed}
use Rattle.pl_law_ledger.specs.Ledgers.{AreInBounds, IsLedger}
use Rattle.pl_law_registration.specs.BeingRegistered.{AreBeingRegistered, AreRemembered, NothingWaits, AreAttachedApart}
use Rattle.pl_law_registration.specs.Registering.{AreRegistered}
use Rattle.pl_law_registration.specs.Stood.{AreStoodFor}
use Rattle.pl_law_settled.specs.AtPlace.{ReceiversArePlaced}
use Rattle.pl_law_settled.specs.Whole.{IsWholePod}
use Rattle.pl_law_flights.specs.OnTheWay.{IsJournaled}

-- How edge switches come to their places, beside what is known and said of them.
pub record PlacesAreInOrder (w : WorldView) : Type 0 where
  -- positions are refused and left for a reason, and those that ask for pods are edge switches with position 0
  pub placing : ArePlacing w
  -- each number of a pod that was given is below how many pods there are, and those of placed edge switches are of one byte, as their positions are
  pub below : AllByRecursion (λ g. g.pod < w.plan.k) w.manager.pods
  pub one_byte : AreInBounds w.switches

-- Addresses of hosts, beside what switches and manager know of them.
pub record HostsAreInOrder (w : WorldView) : Type 0 where
  -- no two hosts stand at one port
  pub apart : AreAttachedApart w.attachments
  -- an edge switch remembers the hosts that it heard until it is placed, and has addresses in use for them then
  pub remembered : AreRemembered w
  pub being_registered : AreBeingRegistered w
  -- the journal's grants are those of the switches, to hosts that stood there, and its numbers are those of the manager
  pub granted : IsLedger w
  -- each trap that stands at its edge switch, or waits for it, leads to a newer address of the same host, and both addresses are live
  pub led : AreLed w
  pub stood : AreStoodFor w.plan (reverse w.journal)

-- What the manager knows, and what it ordered.
pub record RecordsAreInOrder (f : ControlPlane) : Type 0 where
  -- the last word of each switch that is due, or was treated, on its place, its members and its links, is what it would tell now
  pub reports : HaveReported (due_plane f)
  pub links : HaveToldLinks (due_plane f)
  pub neighbours : HaveToldNeighbours (due_plane f)
  -- the last avoid list and the last parts of trees that each switch was sent follow from the records
  pub orders : HaveOrders f
  -- so where none of these waits, the records are current, and each switch holds the avoid list and the parts of trees that follow from them
  pub current : NoReportWaits f → AreCurrent f
  pub pairs : NoReportWaits f → LinksAreCurrent f
  pub joined : NoReportWaits f → LinksAreOfNeighbours f

-- What is told and ordered, and frames of groups.
pub record CopiesAreInOrder (w : WorldView) : Type 0 where
  -- what is told of places, links and members is so, and parts of trees lead up and down
  pub trees : AreTrees w.plan (due_plane (control_plane w))
  pub around : KnowTrees w
  -- of the frames of one root at most one comes, or may still come, to each port for hosts
  pub once : ComesOnce w
  -- and at most one is on its way up, and at most one waits in the queue out of each port
  pub alone : AreAlone w

pub record NetworkInvariant (w : WorldView) : Type 0 where
  -- each frame is counted, and what is known of places, votes, pods and addresses is in order
  pub kept : ControlInvariant w
  pub places : PlacesAreInOrder w
  pub hosts : HostsAreInOrder w
  pub records : RecordsAreInOrder (control_plane w)
  pub copies : CopiesAreInOrder w
  -- the manager knows how often it has restarted
  pub restarts : CountsRestarts w
  -- hosts have joined the groups that their frames said
  pub joined : HaveJoined w
  -- each frame that has not ended waits where the journal says, and the journal is a run of one lossy switch with good trails
  pub journaled : IsJournaled w
  pub run : Run w.plan w.journal
  pub trails : GoodTrail w.plan w.journal
  -- its last entry of a switch's place is what the switch knows, and a registered address has the number that it says last
  pub written : (s : ℕ) (v : SwitchView) → slice_get w.switches s ≡ Some v → place_written (reverse w.journal) s ≡ v.place
  pub numbered : (x : Pmac) (r : Registration) → registration w.manager.learnt x ≡ Some r → last_registration w.journal x ≡ Some (with_number r)
  -- where the fabric is settled, each edge switch that received a frame of a host, in a pod that lacks no link, knows its whole place
  pub placed : IsSettled w → (pod : ℕ) → IsWholePod w pod → ReceiversArePlaced w pod
  -- where nothing waits, each host is registered that its edge switch could learn of
  pub registered : NothingWaits w → AreRegistered w
