-- The edge switches with members of a group, one after another.
use Rattle.std.specs.Prelude.{ℕ, ◌==◌, ◌&&◌, Bool, List, if◌then◌else◌}
use Rattle.std.specs.BTreeSet.{insert_key}
use Rattle.pl_frame.specs.declared.address.SwitchId.{SwitchId}
use Rattle.pl_node.specs.ManagerViews.{id_cmp}

-- one more word on members: is the edge switch one of those?
abbrev pub with_member : ℕ → List SwitchId → (SwitchId × ℕ) × Bool → List SwitchId
with_member group edges m = if m.0.1 == group && m.1 then insert_key id_cmp edges m.0.0 else edges
