-- Where hosts stand: at ports of edge switches that have no link.
use Rattle.std.specs.Prelude.{◌≡◌, ◌<◌}
use Rattle.std.specs.List.{AllByRecursion}
use Rattle.pl_wiring.specs.declared.link.Peer.TheVariants.{HostPort}
use Rattle.pl_wiring.specs.Labels.{edge_count}
use Rattle.pl_wiring.specs.Peers.{peer_of}
use Rattle.pl_wiring.specs.Plan.{Plan}
use Rattle.pl_world.specs.declared.attachment.AttachmentPoint.{AttachmentPoint}
use Rattle.pl_world.specs.Worlds.{WorldView}

pub record IsAtEdge (plan : Plan) (attachment : AttachmentPoint) : Type 0 where
  pub edge : attachment.edge.0 < edge_count plan.k
  pub port : attachment.port < plan.k
  pub free : peer_of plan attachment.edge.0 attachment.port ≡ HostPort

abbrev pub HostsAtEdges : WorldView → Type 0
HostsAtEdges w = AllByRecursion (IsAtEdge w.plan) w.attachments
