-- The meaning of a script that is played on learning bridges. These have no addresses of the fabric, no manager, no rounds and nothing that could settle, and a
-- link that was left out of their tree stays out: the lines that speak of that are refused.
use Rattle.std.specs.Prelude.{ℕ, List, [], ◌∷◌, Option, None, Some, Result, Ok, Err}
use Rattle.pl_wiring.specs.Plan.{Plan}
use Rattle.pl_script.specs.declared.command.Command.{Command}
use Rattle.pl_script.specs.declared.command.Command.TheVariants.{Drain, ExpectAddress, ExpectSettled, Random, Repair, Restart, Settle}
use Rattle.pl_script.specs.declared.error.ScriptError.{ScriptError}
use Rattle.pl_script.specs.declared.error.ScriptError.TheVariants.{Line}
use Rattle.pl_script.specs.declared.error.ScriptReason.TheVariants.{Word}
use Rattle.pl_script.specs.declared.script.ScriptLine.{ScriptLine}
use Rattle.pl_script.specs.Meaning.{script_of}

-- what a command asks of bridges, where they have it
abbrev pub for_bridges : Command → Option Command
for_bridges (Repair a b) = None
for_bridges (Random number steps) = None
for_bridges Restart = None
for_bridges (ExpectAddress h pmac) = None
for_bridges ExpectSettled = None
for_bridges (Settle sweeps) = Some (Drain sweeps)
for_bridges command = Some command

-- a line before others
abbrev pub line_before : ℕ → Option Command → Result (List ScriptLine) ScriptError → Result (List ScriptLine) ScriptError
line_before number None rest = Err (Line number Word)
line_before number (Some command) (Ok lines) = Ok (record { number = number; command = command } ∷ lines)
line_before number (Some command) (Err e) = Err e

-- all lines, or the first that is refused
abbrev pub lines_for_bridges : List ScriptLine → Result (List ScriptLine) ScriptError
lines_for_bridges [] = Ok []
lines_for_bridges (line ∷ lines) = line_before line.number (for_bridges line.command) (lines_for_bridges lines)

-- of a script that is accepted as a whole; else it is refused as any other
abbrev pub all_for_bridges : Result (List ScriptLine) ScriptError → Result (List ScriptLine) ScriptError
all_for_bridges (Ok lines) = lines_for_bridges lines
all_for_bridges (Err e) = Err e

unfoldable pub bridge_script_of : Plan → List ℕ → Result (List ScriptLine) ScriptError
bridge_script_of plan file = all_for_bridges (script_of plan file)

-- the command repairs no link
abbrev pub RepairsNoLink : Command → Type 0
RepairsNoLink (Repair a b) = ⊥
RepairsNoLink command = Unit {0}

abbrev pub LineRepairsNoLink : ScriptLine → Type 0
LineRepairsNoLink line = RepairsNoLink line.command
