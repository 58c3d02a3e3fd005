-- The meaning of a script: the commands of its lines, or the first line that is refused.
use Rattle.std.specs.Prelude.{ℕ, ◌+◌, nat_lt, if◌then◌else◌, List, [], ◌∷◌, ◌++◌, Option, Some, None, Result, Ok, Err}
use Rattle.std.specs.Str.{is_utf8}
use Rattle.std.specs.Str.Lines.{strip_carriage_return}
use Rattle.pl_wiring.specs.Plan.{Plan}
use Rattle.pl_script.specs.Forms.{command_of}
use Rattle.pl_script.specs.Reading.{◌>>=◌}
use Rattle.pl_script.specs.Texts.{lines_of, words_of, before_comment}
use Rattle.pl_script.specs.declared.command.Command.{Command}
use Rattle.pl_script.specs.declared.script.ScriptLine.{ScriptLine}
use Rattle.pl_script.specs.declared.error.ScriptReason.{ScriptReason}
use Rattle.pl_script.specs.declared.error.ScriptReason.TheVariants as reason
use Rattle.pl_script.specs.declared.error.ScriptError.{ScriptError}
use Rattle.pl_script.specs.declared.error.ScriptError.TheVariants as error

-- the command of these words, if there are any
abbrev pub command_if : Plan → List (List ℕ) → Result (Option Command) ScriptReason
command_if plan [] = Ok None
command_if plan (word ∷ words) = command_of plan word words >>= λ command. Ok (Some command)

-- the command of a text that is UTF-8, a comment left out
abbrev pub command_in_text : Plan → List ℕ → Result (Option Command) ScriptReason
command_in_text plan text = command_if plan (words_of (before_comment text))

-- the command of a line, without the one carriage return at its end
unfoldable pub command_in : Plan → List ℕ → Result (Option Command) ScriptReason
command_in plan line =
    let text = strip_carriage_return line in
    if is_utf8 text then command_in_text plan text else Err reason.NotUtf8

-- what is found in line n
abbrev pub numbered : ℕ → Result (Option Command) ScriptReason → Result (List ScriptLine) ScriptError
numbered n (Ok None) = Ok []
numbered n (Ok (Some command)) = Ok (record { number = n; command = command } ∷ [])
numbered n (Err reason) = Err (error.Line n reason)

-- the same of what a call answered
abbrev pub line_found : ℕ → Result (Option Command) ScriptError → Result (List ScriptLine) ScriptError
line_found n (Ok None) = Ok []
line_found n (Ok (Some command)) = Ok (record { number = n; command = command } ∷ [])
line_found n (Err e) = Err e

-- line n, of which the millionth may be the last
unfoldable pub line_at : Plan → ℕ → List ℕ → Result (List ScriptLine) ScriptError
line_at plan n line =
    if nat_lt 1000000 n then Err (error.Line n reason.TooManyLines) else numbered n (command_in plan line)

-- the lines from number n on
abbrev pub script_from : Plan → ℕ → List (List ℕ) → Result (List ScriptLine) ScriptError
script_from plan n [] = Ok []
script_from plan n (line ∷ lines) = line_at plan n line >>= λ first. script_from plan (n + 1) lines >>= λ others. Ok (first ++ others)

-- lines are counted from 1
unfoldable pub script_of : Plan → List ℕ → Result (List ScriptLine) ScriptError
script_of plan file = script_from plan 1 (lines_of file)
