-- What the other parts of the network give a step, for what is told to stay so.
use Rattle.std.specs.Prelude.{◌≡◌, ◌<◌, ℕ, true, false, List, [], ◌∷◌, Some, reverse, slice_get}
use Rattle.pl_frame.specs.declared.address.SwitchId.{SwitchId}
use Rattle.pl_frame.specs.Ethernet.{destination_of}
use Rattle.pl_layouts.specs.Memberships.{group_of, is_group}
use Rattle.pl_wiring.specs.declared.link.Peer.TheVariants.{HostPort}
use Rattle.pl_wiring.specs.Peers.{peer_of}
use Rattle.pl_wiring.specs.Plan.{Plan}
use Rattle.pl_journal.specs.declared.entry.Entry.{Entry}
use Rattle.pl_journal.specs.declared.entry.Entry.TheVariants.{Registered}
use Rattle.pl_journal.specs.Flights.{root, root_arrived_at}
use Rattle.pl_journal.specs.Lossy.{Needs, is_member}
use Rattle.pl_journal.specs.Places.{at_port}
use Rattle.pl_node.specs.declared.acts.HostAct.{HostAct}
use Rattle.pl_node.specs.declared.acts.ManagerAct.{ManagerAct}
use Rattle.pl_node.specs.declared.acts.ManagerAct.TheVariants.{Number, Say}
use Rattle.pl_node.specs.declared.messages.ToManager.{ToManager}
use Rattle.pl_node.specs.declared.reception.Reception.TheVariants.{Kept}
use Rattle.pl_node.specs.HostInputs.{HostRule}
use Rattle.pl_node.specs.HostInputs.HostAnswer.{Received}
use Rattle.pl_node.specs.HostInputs.HostInput.{Receives}
use Rattle.pl_node.specs.HostViews.{HostView}
use Rattle.pl_node.specs.ManagerDuties.{ManagerRule}
use Rattle.pl_node.specs.ManagerViews.{ManagerView}
use Rattle.pl_queues.specs.Queues.{items_at}
use Rattle.pl_world.specs.declared.item.Item.{Item}
use Rattle.pl_world.specs.declared.item.Item.TheVariants.{Data}
use Rattle.pl_world.specs.Changes.{out_of}
use Rattle.pl_world.specs.Restarting.{CountsRestarts}
use Rattle.pl_world.specs.Worlds.{WorldView}
use Rattle.pl_law_copies.specs.Standing.{KnowTrees}
use Rattle.pl_law_flights.specs.OnTheWay.{place_in}
use Rattle.pl_law_flights.specs.Standing.{FirstAddresses, IsMore, StandsOn, StandsOnHosts}

-- each address that the manager numbers may be numbered then
abbrev pub NumbersWell : Plan → List Entry → List ManagerAct → Type 0
NumbersWell plan past [] = Unit {0}
NumbersWell plan past (Say to says ∷ acts) = NumbersWell plan past acts
NumbersWell plan past (Number pmac n ∷ acts) = Needs plan past (Registered pmac n) × NumbersWell plan (Registered pmac n ∷ past) acts

-- whatever the manager does with what a switch tells it
abbrev pub ManagerNumbersWell : ManagerRule → WorldView → Type 0
ManagerNumbersWell manager w = (s : ℕ) (says : ToManager) (items : List ToManager) (id : SwitchId) (after : ManagerView) (acts : List ManagerAct) →
    items_at w.to_manager s ≡ says ∷ items → slice_get w.plan.ids s ≡ Some id → manager w.manager id says after acts →
    NumbersWell w.plan (reverse w.journal) acts

-- no frame of the same root arrived at this port before
abbrev pub ComesFirst : WorldView → ℕ → ℕ → ℕ → Type 0
ComesFirst w s port id = root_arrived_at w.plan (reverse w.journal) (root (reverse w.journal) id) (at_port s port) ≡ false

-- so it is where a frame of a group comes out of a port for hosts
abbrev pub GroupsComeFirst : WorldView → Type 0
GroupsComeFirst w = (s port id : ℕ) (frame : List ℕ) (items : List Item) → port < w.plan.k → peer_of w.plan s port ≡ HostPort →
    out_of w s port ≡ Data id frame ∷ items → is_group (destination_of frame) ≡ true → ComesFirst w s port id

-- a host that keeps a frame of a group is a member, by what is past
abbrev pub AreMembersByThePast : HostRule → WorldView → Type 0
AreMembersByThePast rule w = (h : ℕ) (before after : HostView) (acts : List HostAct) (frame : List ℕ) → slice_get w.hosts h ≡ Some before →
    rule before (Receives frame) after acts (Received Kept) → is_group (destination_of frame) ≡ true →
    is_member (reverse w.journal) h (group_of (destination_of frame)) ≡ true

-- Of a world and the one after a step: what switches know of places, addresses and hosts is so, what was known of places is known later, and first
-- addresses, numbers and frames of groups are as the lossy switch wants them, switches know the trees of groups around them, and the manager its epoch.
pub record IsGroundForStep (manager : ManagerRule) (host : HostRule) (w new : WorldView) : Type 0 where
  pub on : StandsOn w
  pub hosts : StandsOnHosts w
  pub more : IsMore (place_in w.switches) (place_in new.switches)
  pub first : FirstAddresses w new
  pub numbers : ManagerNumbersWell manager w
  pub come_first : GroupsComeFirst w
  pub members : AreMembersByThePast host w
  pub trees : KnowTrees w
  pub epochs : CountsRestarts w
