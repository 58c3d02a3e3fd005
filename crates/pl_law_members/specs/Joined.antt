-- What hosts have joined, by what they know and by the journal.
use Rattle.std.specs.Prelude.{◌≡◌, ℕ, ◌==◌, true, false, List, Some, reverse, slice_get}
use Rattle.pl_frame.specs.Ethernet.{destination_of}
use Rattle.pl_layouts.specs.Memberships.{flood, group_of, is_group}
use Rattle.pl_journal.specs.Lossy.{has_joined, is_member}
use Rattle.pl_node.specs.declared.acts.HostAct.{HostAct}
use Rattle.pl_node.specs.declared.reception.Reception.TheVariants.{Kept}
use Rattle.pl_node.specs.HostInputs.{HostRule}
use Rattle.pl_node.specs.HostInputs.HostAnswer.{Received}
use Rattle.pl_node.specs.HostInputs.HostInput.{Receives}
use Rattle.pl_node.specs.HostViews.{HostView, has_group}
use Rattle.pl_world.specs.Worlds.{WorldView}

-- each host has joined what its own frames said
abbrev pub HaveJoined : WorldView → Type 0
HaveJoined w = (h : ℕ) (view : HostView) → slice_get w.hosts h ≡ Some view → (n : ℕ) → has_group view.joined n ≡ has_joined (reverse w.journal) h n

-- A rule under which a host keeps a frame of a routed group only where it has joined the group.
abbrev pub HostsKeepTheirGroups : HostRule → Type 0
HostsKeepTheirGroups rule = (view : HostView) (frame : List ℕ) (after : HostView) (acts : List HostAct) (n : ℕ) → group_of (destination_of frame) ≡ Some n →
    (n == flood) ≡ false → rule view (Receives frame) after acts (Received Kept) → has_group view.joined n ≡ true

-- a host that keeps a frame of a group is a member, by the journal
abbrev pub AreMembers : HostRule → WorldView → Type 0
AreMembers rule w = (h : ℕ) (before after : HostView) (acts : List HostAct) (frame : List ℕ) → slice_get w.hosts h ≡ Some before →
    rule before (Receives frame) after acts (Received Kept) → is_group (destination_of frame) ≡ true →
    is_member (reverse w.journal) h (group_of (destination_of frame)) ≡ true
