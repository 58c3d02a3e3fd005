-- The core switch of a tree, with its neighbours.
use Rattle.std.specs.Prelude.{◌≡◌}
use Rattle.pl_node.specs.ManagerViews.{Told, alive_neighbours}
use Rattle.pl_groups.specs.declared.root.Root.{Root}

-- those are its neighbours over links that are alive
abbrev pub IsRoot : Told → Root → Type 0
IsRoot told root = root.near ≡ alive_neighbours told root.core
