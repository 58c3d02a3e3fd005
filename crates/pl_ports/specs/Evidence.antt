-- What the records of a switch's ports show of its level.
use Rattle.std.specs.Prelude.{ℕ, ◌&&◌, Bool, if◌then◌else◌, List, Option, Some, None}
use Rattle.std.specs.List.{list_any}
use Rattle.pl_node.specs.declared.neighbour.PortRecord.{PortRecord}
use Rattle.pl_node.specs.PortRecords.{heard_place}
use Rattle.pl_layouts.specs.Placement.{is_known}
use Rattle.pl_switch_rule.specs.Levels.{is_of_other_pod}

-- the neighbour that was heard told this level
abbrev pub is_of_level : ℕ → PortRecord → Bool
is_of_level level r = is_known (heard_place r.heard).level level

-- aggregation switches of two pods were heard
abbrev pub are_of_two_pods : List PortRecord → Bool
are_of_two_pods ports = list_any (λ r. is_of_level 1 r && list_any (is_of_other_pod (heard_place r.heard).pod) ports) ports

-- A switch with a host is an edge switch, one that has heard an edge switch is an aggregation switch, and one that has heard aggregation
-- switches of two pods is a core switch.
abbrev pub level_shown : List PortRecord → Option ℕ
level_shown ports =
    if list_any (λ r. r.host) ports then Some 0
    else if list_any (is_of_level 0) ports then Some 1
    else if are_of_two_pods ports then Some 2
    else None
