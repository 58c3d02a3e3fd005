-- Reading the lines one by one.
use Rattle.std.proofs.Common.{◌≡◌, ℕ, ◌+◌, List, [], ◌∷◌, ◌++◌, Result, Ok, Err, refl, sym, ap, ◌∙◌, append-nil, append_assoc}
use Rattle.pl_wiring.specs.Plan.{Plan}
use Rattle.pl_script.specs.Meaning.{line_at, script_from, script_of}
use Rattle.pl_script.specs.Reading.{◌>>=◌}
use Rattle.pl_script.specs.Texts.{lines_of}
use Rattle.pl_script.specs.declared.script.ScriptLine.{ScriptLine}
use Rattle.pl_script.specs.declared.error.ScriptError.{ScriptError}

-- what is read behind what was read before
abbrev pub with_front : List ScriptLine → Result (List ScriptLine) ScriptError → Result (List ScriptLine) ScriptError
with_front front reading = reading >>= λ others. Ok (front ++ others)

pub with_front-two : (front first : List ScriptLine) (reading : Result (List ScriptLine) ScriptError) →
    with_front (front ++ first) reading ≡ with_front front (with_front first reading)
with_front-two front first (Ok others) = ap (λ lines. let r : Result (List ScriptLine) ScriptError = Ok lines in r) (append_assoc front first others)
with_front-two front first (Err e) = refl

with_front-none : (reading : Result (List ScriptLine) ScriptError) → with_front [] reading ≡ reading
with_front-none (Ok others) = refl
with_front-none (Err e) = refl

-- before the first line
pub begun : (plan : Plan) (file : List ℕ) → with_front [] (script_from plan 1 (lines_of file)) ≡ script_of plan file
unfolding script_of
begun plan file = with_front-none (script_from plan 1 (lines_of file))

-- one line on
pub next : (plan : Plan) (front first : List ScriptLine) (n : ℕ) (line : List ℕ) (lines : List (List ℕ)) (whole : Result (List ScriptLine) ScriptError) →
    with_front front (script_from plan n (line ∷ lines)) ≡ whole → Ok first ≡ line_at plan n line → with_front (front ++ first) (script_from plan (n + 1) lines) ≡ whole
next plan front first n line lines whole before found =
    with_front-two front first (script_from plan (n + 1) lines)
    ∙ ap (λ r. with_front front (r >>= λ first. with_front first (script_from plan (n + 1) lines))) found ∙ before

-- a line that is refused
pub refused : (plan : Plan) (front : List ScriptLine) (n : ℕ) (line : List ℕ) (lines : List (List ℕ)) (e : ScriptError) (whole : Result (List ScriptLine) ScriptError) →
    with_front front (script_from plan n (line ∷ lines)) ≡ whole → Err e ≡ line_at plan n line → whole ≡ Err e
refused plan front n line lines e whole before found =
    sym (ap (λ r. with_front front (r >>= λ first. with_front first (script_from plan (n + 1) lines))) found ∙ before)

-- behind the last line
pub ended : (plan : Plan) (front : List ScriptLine) (n : ℕ) (lines : List (List ℕ)) (whole : Result (List ScriptLine) ScriptError) →
    with_front front (script_from plan n lines) ≡ whole → lines ≡ [] → whole ≡ Ok front
ended plan front n lines whole before none =
    sym before ∙ ap (λ lines. with_front front (script_from plan n lines)) none ∙ ap (λ lines. let r : Result (List ScriptLine) ScriptError = Ok lines in r) (append-nil front)
