-- What a switch knows can be told by its control frames.
use Rattle.std.specs.Prelude.{◌≡◌, ℕ, ◌<◌, ◌⊎◌, IfSome, List, Some, slice_index_or}
use Rattle.pl_frame.specs.declared.address.SwitchId.{SwitchId}
use Rattle.pl_layouts.specs.declared.place.Place.{Place}
use Rattle.pl_ldp.specs.Writable.{IsWritableId}
use Rattle.pl_node.specs.declared.neighbour.Neighbour.{Neighbour}
use Rattle.pl_node.specs.declared.neighbour.PortRecord.{PortRecord}
use Rattle.pl_node.specs.PortRecords.{new_port}
use Rattle.pl_node.specs.SwitchFacts.{IsTreeSize}

-- the greatest number of two bytes stands for a pod that is not known
abbrev pub IsPod : ℕ → Type 0
IsPod pod = pod < 65535

-- A level is 0, 1 or 2; a position is known at level 0 alone, and a pod at levels 0 and 1 alone.
pub record IsSoundPlace (place : Place) : Type 0 where
  pub level : IfSome place.level (λ level. level < 3)
  pub position : IfSome place.position (λ position. (place.level ≡ Some 0) × (position < 255))
  pub pod : IfSome place.pod (λ pod. ((place.level ≡ Some 0) ⊎ (place.level ≡ Some 1)) × IsPod pod)

-- the neighbour can be named, and its pod be told
abbrev pub IsSoundNeighbour : Neighbour → Type 0
IsSoundNeighbour n = IsWritableId n.id × IfSome n.place.pod IsPod

abbrev pub IsSoundRecord : PortRecord → Type 0
IsSoundRecord r = IfSome r.heard IsSoundNeighbour

abbrev pub AreSound : List PortRecord → Type 0
AreSound records = (port : ℕ) → IsSoundRecord (slice_index_or records port new_port)

pub record ArePorts (id : SwitchId) (k : ℕ) (place : Place) (records : List PortRecord) : Type 0 where
  pub named : IsWritableId id
  pub size : IsTreeSize k
  pub placed : IsSoundPlace place
  pub heard : AreSound records
