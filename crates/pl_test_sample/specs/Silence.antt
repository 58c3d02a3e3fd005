-- A manager that hears and says nothing.
use Rattle.std.specs.Prelude.{◌≡◌, []}
use Rattle.pl_node.specs.ManagerDuties.{ManagerRule}

abbrev pub SaysNothing : ManagerRule
SaysNothing before s says after acts = (after ≡ before) × (acts ≡ [])
