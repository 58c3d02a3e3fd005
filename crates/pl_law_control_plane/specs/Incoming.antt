-- How data frames come in at the switches of a world.
use Rattle.std.specs.Prelude.{◌≡◌, ℕ, List, ◌∷◌, Some, slice_get}
use Rattle.pl_wiring.specs.declared.label.SwitchNo.{SwitchNo}
use Rattle.pl_wiring.specs.declared.link.Peer.TheVariants.{Switch}
use Rattle.pl_wiring.specs.Peers.{peer_of}
use Rattle.pl_node.specs.SwitchViews.{SwitchView}
use Rattle.pl_queues.specs.Queues.{items_at}
use Rattle.pl_world.specs.declared.attachment.AttachmentPoint.{AttachmentPoint}
use Rattle.pl_world.specs.declared.item.Item.{Item}
use Rattle.pl_world.specs.declared.item.Item.TheVariants.{Data}
use Rattle.pl_world.specs.Changes.{out_of}
use Rattle.pl_world.specs.Worlds.{WorldView}
use Rattle.pl_law_control_plane.specs.ControlPlanes.{control_plane}

-- this holds of a frame that a host sends next, and that of one that comes next over a link, by the view of the switch that it comes to and the port
pub record ComeInSo (host link : SwitchView → ℕ → List ℕ → Type 0) (w : WorldView) : Type 0 where
  pub hosts : (h : ℕ) (attachment : AttachmentPoint) (id : ℕ) (frame : List ℕ) (items : List Item) → items_at w.from_hosts h ≡ Data id frame ∷ items →
      slice_get w.attachments h ≡ Some attachment → host ((control_plane w).view attachment.edge.0) attachment.port frame
  pub links : (s port : ℕ) (t : SwitchNo) (q id : ℕ) (frame : List ℕ) (items : List Item) → peer_of w.plan s port ≡ Switch t q → out_of w s port ≡ Data id frame ∷ items →
      link ((control_plane w).view t.0) q frame
