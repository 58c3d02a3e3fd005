-- A script that repairs no link is a run that repairs none.
use Rattle.std.proofs.Common.{◌≡◌, ℕ, List, [], ◌∷◌, Option}
use Rattle.std.specs.List.{AllByRecursion}
use Rattle.pl_script.specs.declared.command.Command.{Command}
use Rattle.pl_script.specs.declared.command.Command.TheVariants.{Repair}
use Rattle.pl_script.specs.declared.script.ScriptLine.{ScriptLine}
use Rattle.pl_script.specs.ForBridges.{LineRepairsNoLink, RepairsNoLink}
use Rattle.pl_inputs.specs.Records.{Recorded}
use Rattle.pl_node.specs.HostInputs.{HostRule}
use Rattle.pl_node.specs.ManagerDuties.{ManagerRule}
use Rattle.pl_node.specs.SwitchInputs.{SwitchRule}
use Rattle.pl_world.specs.Runs.{Moment, WorldRun}
use Rattle.pl_world.specs.Runs.Moment.{Mark, Step}
use Rattle.pl_law_bridge.specs.TreeWorld.{IsNoRepair, RepairsNothing}
use Rattle.pl_script_rule.specs.declared.stop.Stop.{Stop}
use Rattle.pl_script_rule.specs.Lines.{DoesLines}
use Rattle.pl_script_rule.specs.Scenes.{Scene}
use Rattle.pl_script_rule.proofs.ScriptRuns.{LetsHappen, OfMoment, does_lines}

no_repair : LetsHappen IsNoRepair RepairsNoLink
no_repair = record {
  starts = λ h. tt;
  plays = λ h frame original raw. tt;
  retries = λ h. tt;
  joins = λ h group. tt;
  leaves = λ h group. tt;
  moves = λ h s port. tt;
  fails = λ a b. tt;
  repairs = λ a b may. may;
  loses = λ s port. tt;
  delivers = λ name. tt;
  ticks = λ s. tt;
  restarts = tt;
}

moments_repair_nothing : (moments : List Moment) → AllByRecursion (OfMoment IsNoRepair) moments → AllByRecursion RepairsNothing moments
moments_repair_nothing [] all = tt
moments_repair_nothing (Step event ∷ moments) all = (all.0, moments_repair_nothing moments all.1)
moments_repair_nothing (Mark entry ∷ moments) all = (tt, moments_repair_nothing moments all.1)

lines_may : (lines : List ScriptLine) → AllByRecursion LineRepairsNoLink lines → AllByRecursion (λ (line : ScriptLine). RepairsNoLink line.command) lines
lines_may [] all = tt
lines_may (line ∷ lines) all = (all.0, lines_may lines all.1)

pub keeping_run : (switch : SwitchRule) (manager : ManagerRule) (host : HostRule) (records : List (List Recorded)) (lines : List ScriptLine) →
    AllByRecursion LineRepairsNoLink lines → (old : Scene) (end : Option (ℕ × Stop)) (new : Scene) → DoesLines switch manager host records lines old end new →
    (moments : List Moment) × AllByRecursion RepairsNothing moments × WorldRun switch manager host old.world moments new.world
keeping_run switch manager host records lines all old end new does =
    let run = does_lines switch manager host IsNoRepair RepairsNoLink no_repair records lines (lines_may lines all) old end new does in
    (run.0, moments_repair_nothing run.0 run.1, run.2)
