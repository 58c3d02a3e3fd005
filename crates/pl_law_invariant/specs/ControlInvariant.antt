-- What holds in every run of a fabric whose switches choose among candidate ports as they like.
use Rattle.pl_law_control_plane.specs.ControlPlanes.{control_plane}
use Rattle.pl_law_control_plane.specs.HostsAtEdges.{HostsAtEdges}
use Rattle.pl_law_due.specs.Gathering.{EpochsAgree, GathersWell, IsSized}
use Rattle.pl_law_places.specs.Places.{ArePlaced}
use Rattle.pl_law_votes.specs.Voting.{AreVoting}
use Rattle.pl_law_pods.specs.Numbering.{AreNumbered}
use Rattle.pl_law_addresses.specs.GrantedOnce.{AreGrantedOnce}
use Rattle.pl_law_addresses.specs.OwnFrames.{HostsAreOwn}
use Rattle.pl_law_epochs.specs.InOrder.{IsAddressed}
use Rattle.pl_world.specs.Flying.{IsCounted}
use Rattle.pl_world.specs.Worlds.{WorldView}

pub record ControlInvariant (w : WorldView) : Type 0 where
  -- each frame that began has ended once, or is in one place of one queue
  pub counted : IsCounted w
  -- hosts stand at ports of edge switches that have no link
  pub hosts : HostsAtEdges w
  -- what is known and said of places is true
  pub placed : ArePlaced w.plan (control_plane w)
  -- votes on positions are in order
  pub voting : AreVoting (control_plane w)
  -- numbers of pods are in order
  pub numbered : AreNumbered (control_plane w)
  -- addresses are in order: of grants, traps and registrations, by what is due
  pub addresses : IsAddressed w
  -- hosts hold and send frames of their own
  pub own : HostsAreOwn w
  -- no address was granted again before it was freed
  pub once : AreGrantedOnce w.switches w.journal
  -- the manager knows how many ports switches have
  pub size : IsSized (control_plane w)
  -- the reports to a manager that begins anew are gathered in order, and those that are missing are on their way
  pub gathered : GathersWell (control_plane w)
  -- a switch has the manager's epoch exactly where it is not silent
  pub epochs : EpochsAgree (control_plane w)
