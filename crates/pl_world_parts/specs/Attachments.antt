-- What tells which host stands at a port.
use Rattle.std.specs.Prelude.{◌≡◌, ℕ, ◌==◌, ◌&&◌, Bool, List, Some, option_map, slice_get}
use Rattle.std.specs.List.{position}
use Rattle.std.specs.Map.{lookup}
use Rattle.pl_wiring.specs.declared.host.HostNo.{HostNo}
use Rattle.pl_world.specs.declared.attachment.AttachmentPoint.{AttachmentPoint}
use Rattle.pl_world.specs.Changes.{stands_at}

abbrev pub same_attachment : AttachmentPoint → AttachmentPoint → Bool
same_attachment a b = (a.edge.0 == b.edge.0) && (a.port == b.port)

pub record TellsWhoIsAttached (attachments : List AttachmentPoint) (entries : List (AttachmentPoint × HostNo)) : Type 0 where
  -- the entries have for each port the host that stands there
  pub found : (at : AttachmentPoint) → option_map (λ h. h.0) (lookup (same_attachment at) entries) ≡ position (stands_at at.edge.0 at.port) attachments
  -- and no two hosts stand at one port
  pub alone : (n : ℕ) (attachment : AttachmentPoint) → slice_get attachments n ≡ Some attachment → position (stands_at attachment.edge.0 attachment.port) attachments ≡ Some n
