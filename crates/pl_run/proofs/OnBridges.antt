-- A script that was read for bridges repairs no link.
use Rattle.std.proofs.Common.{◌≡◌, ℕ, List, Ok, subst}
use Rattle.std.specs.List.{AllByRecursion}
use Rattle.pl_shelf.specs.Held.{Held}
use Rattle.pl_wiring.specs.Plan.{Plan}
use Rattle.pl_script.specs.declared.script.ScriptLine.{ScriptLine}
use Rattle.pl_script.specs.ForBridges.{LineRepairsNoLink}
use Rattle.pl_script.proofs.Exports.{bridge_script_repairs_none}
use Rattle.pl_inputs.specs.declared.words.Network.{Network}
use Rattle.pl_inputs.specs.declared.words.Network.TheVariants.{Bridges}
use Rattle.pl_inputs.specs.Inputs.{HasLines}

of_bridges : (held : List ℕ → Held) (name : List ℕ) (plan : Plan) (lines : List ScriptLine) → HasLines held Bridges name plan lines → AllByRecursion LineRepairsNoLink lines
of_bridges held name plan lines has = bridge_script_repairs_none plan has.0 lines has.2

pub none_repaired : (held : List ℕ → Held) (network : Network) (name : List ℕ) (plan : Plan) (lines : List ScriptLine) → network ≡ Bridges →
    HasLines held network name plan lines → AllByRecursion LineRepairsNoLink lines
none_repaired held network name plan lines is has = of_bridges held name plan lines (subst (λ n. HasLines held n name plan lines) is has)
