-- What the count of copies needs of the other parts: what a switch knows of the tree around it.
use Rattle.std.specs.Prelude.{◌≡◌, ℕ, ◌+◌, ◌==◌, true, false, Contains, List, Some, None, slice_get}
use Rattle.std.specs.List.{AllByRecursion, list_any}
use Rattle.pl_frame.specs.declared.address.SwitchId.{SwitchId}
use Rattle.pl_wiring.specs.declared.label.SwitchNo.{SwitchNo}
use Rattle.pl_wiring.specs.declared.link.Peer.TheVariants.{HostPort, Switch}
use Rattle.pl_wiring.specs.Labels.{label_of}
use Rattle.pl_wiring.specs.Peers.{peer_of}
use Rattle.pl_wiring.specs.Plan.{Plan}
use Rattle.pl_node.specs.declared.messages.TreePart.{TreePart}
use Rattle.pl_node.specs.PortRecords.{id_at, is_open_to_hosts, place_at, port_of}
use Rattle.pl_node.specs.SwitchFacts.{part_of}
use Rattle.pl_node.specs.SwitchViews.{SwitchView}
use Rattle.pl_world.specs.declared.item.Item.TheVariants.{Data}
use Rattle.pl_world.specs.declared.attachment.AttachmentPoint.{AttachmentPoint}
use Rattle.pl_world.specs.Changes.{out_of}
use Rattle.pl_world.specs.Worlds.{WorldView}
use Rattle.pl_journal.specs.Flights.{label_level}

-- What switch t knows of levels is so; hosts and members are at ports without a link, and nothing was heard there; and its part of a group's tree
-- leads up to a switch of the next level, and down to switches of the level before.
pub record KnowsTree (plan : Plan) (t : ℕ) (v : SwitchView) : Type 0 where
  pub level : (n : ℕ) → v.place.level ≡ Some n → n ≡ label_level (label_of plan.k t)
  pub near : (q : ℕ) (u : SwitchNo) (r n : ℕ) → peer_of plan t q ≡ Switch u r → (place_at v q).level ≡ Some n → n ≡ label_level (label_of plan.k u.0)
  pub strangers : (q : ℕ) → peer_of plan t q ≡ HostPort → (port_of v q).heard ≡ None
  pub hosts : (q : ℕ) → (port_of v q).host ≡ true → peer_of plan t q ≡ HostPort
  pub members : AllByRecursion (λ m. (port_of v m.port).host ≡ true) v.members
  pub up : (group : ℕ) (part : TreePart) (q : ℕ) (u : SwitchNo) (r : ℕ) (id : SwitchId) → part_of v group ≡ Some part → peer_of plan t q ≡ Switch u r →
      id_at v q ≡ Some id → part.up ≡ Some id → label_level (label_of plan.k u.0) ≡ label_level (label_of plan.k t) + 1
  pub down : (group : ℕ) (part : TreePart) (q : ℕ) (u : SwitchNo) (r : ℕ) (id : SwitchId) → part_of v group ≡ Some part → peer_of plan t q ≡ Switch u r →
      id_at v q ≡ Some id → list_any (λ d. d.0 == id.0) part.down ≡ true → label_level (label_of plan.k u.0) + 1 ≡ label_level (label_of plan.k t)

-- So does each switch, and none takes what comes over a link for a host's. Hosts stand at ports without a link.
pub record KnowTrees (w : WorldView) : Type 0 where
  pub free : (h : ℕ) (attachment : AttachmentPoint) → slice_get w.attachments h ≡ Some attachment → peer_of w.plan attachment.edge.0 attachment.port ≡ HostPort
  pub each : (t : ℕ) (v : SwitchView) → slice_get w.switches t ≡ Some v → KnowsTree w.plan t v
  pub closed : (s port : ℕ) (t : SwitchNo) (q id : ℕ) (frame : List ℕ) (v : SwitchView) → peer_of w.plan s port ≡ Switch t q →
      Contains (out_of w s port) (Data id frame) → slice_get w.switches t.0 ≡ Some v → is_open_to_hosts (port_of v q) ≡ false
