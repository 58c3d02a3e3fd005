use Rattle.std.proofs.Common.{◌≡◌, map, take}
use Rattle.std.specs.List.{list_any}
use Rattle.pl_frame.specs.declared.address.SwitchId.{SwitchId}
use Rattle.pl_layouts.specs.Equality.{same_switch}
use Rattle.pl_groups.proofs.serving.row_of.Given as goal

abbrev pub invariant-loop-neighbour : goal.invariant-loop-neighbour
invariant-loop-neighbour l =
    l.row ≡ map (λ (e : SwitchId). list_any (same_switch e) (take l.neighbour-index l.alive)) l.needed
