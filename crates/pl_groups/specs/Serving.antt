-- Which needed edge switches each aggregation switch serves, as a row that says yes or no of each.
use Rattle.std.specs.Prelude.{ℕ, Bool, if◌then◌else◌, List, Option, Some, None, map}
use Rattle.std.specs.List.{list_any}
use Rattle.pl_bits.specs.Rows.{trues}
use Rattle.pl_frame.specs.declared.address.SwitchId.{SwitchId}
use Rattle.pl_layouts.specs.Equality.{same_switch}
use Rattle.pl_node.specs.declared.messages.TreePart.{TreePart}
use Rattle.pl_node.specs.ManagerViews.{Told, has_level, is_alive, switches}
use Rattle.pl_node.specs.Trees.{part_under}
use Rattle.pl_reports.specs.declared.switch_report.SwitchReport.{SwitchReport}
use Rattle.pl_reports.specs.Kept.{report_of}

-- what each switch that told something told of itself, by rising id
abbrev pub all_reports : Told → List SwitchReport
all_reports told = map (report_of told) (switches told)

-- the row of a switch, if it is an aggregation switch: to which needed edge switches it has an alive link
abbrev pub served_at : Told → List SwitchId → SwitchId → Option (List Bool)
served_at told needed a = if has_level told a 1 then Some (map (is_alive told a) needed) else None

-- those of all switches that told something, by rising id
abbrev pub all_served : Told → List SwitchId → List (Option (List Bool))
all_served told needed = map (served_at told needed) (switches told)

-- how many a switch serves
abbrev pub many_served : Option (List Bool) → ℕ
many_served None = 0
many_served (Some row) = trues row

-- the part of a switch that told something, if there is a core switch
abbrev pub part_of_told : Told → List SwitchId → SwitchId → Option SwitchId → Option TreePart
part_of_told told needed s None = None
part_of_told told needed s (Some core) = if list_any (same_switch s) (switches told) then part_under told needed s core else None
