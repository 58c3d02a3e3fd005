-- What a core switch reaches, by what its aggregation switches serve.
use Rattle.std.specs.Prelude.{◌≡◌, Bool, List, Option, None, Some, ⊤}
use Rattle.pl_bits.specs.Rows.{either_row}
use Rattle.pl_frame.specs.declared.address.SwitchId.{SwitchId}
use Rattle.pl_node.specs.ManagerViews.{Told}
use Rattle.pl_node.specs.Trees.{reach}
use Rattle.pl_groups.specs.declared.cores.CoreReach.{CoreReach}

-- a row, with that of a switch that has one
abbrev pub with_row : List Bool → Option (List Bool) → List Bool
with_row row None = row
with_row row (Some more) = either_row row more

-- a core switch with its reach
abbrev pub reach_at : Told → List SwitchId → SwitchId → CoreReach
reach_at told needed core = record { core = core; edges = reach told needed core }

-- this is the reach of a core switch, if there is one
abbrev pub IsReachOf : Told → List SwitchId → Option CoreReach → Type 0
IsReachOf told needed None = ⊤
IsReachOf told needed (Some r) = r.edges ≡ reach told needed r.core
