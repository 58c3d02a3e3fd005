-- The lines of a script on bridges, one after the other.
use Rattle.std.proofs.Common.{◌≡◌, ℕ, ◌+◌, ◌<◌, List, [], ◌∷◌, ◌++◌, length, drop, get_or, Option, Some, None, Result, Ok, Err, refl, sym, ap, ◌∙◌, subst, append_assoc}
use Rattle.std.specs.List.{AllByRecursion}
use Rattle.std.proofs.lemmas.List.{drop_more}
use Rattle.std.proofs.lemmas.Option.{same_Some}
use Rattle.pl_wiring.specs.Plan.{Plan}
use Rattle.pl_script.specs.declared.command.Command.{Command}
use Rattle.pl_script.specs.declared.command.Command.TheVariants.{Deliver, Drain, ExpectAddress, ExpectArrived, ExpectDropped, ExpectSettled, Fail, Join, Leave, Lose, Move, Random, Raw, Repair, Retry, Send, Settle, Start, Sweep, Tick, Restart}
use Rattle.pl_script.specs.declared.error.ScriptError.{ScriptError}
use Rattle.pl_script.specs.declared.error.ScriptError.TheVariants.{Line}
use Rattle.pl_script.specs.declared.error.ScriptReason.TheVariants.{Word}
use Rattle.pl_script.specs.declared.script.ScriptLine.{ScriptLine}
use Rattle.pl_script.specs.ForBridges.{LineRepairsNoLink, RepairsNoLink, all_for_bridges, bridge_script_of, for_bridges, line_before, lines_for_bridges}
use Rattle.pl_script.specs.Meaning.{script_of}
use Rattle.pl_script.proofs.Readings.{with_front}

abbrev numbered : ℕ → Command → ScriptLine
numbered number command = record { number = number; command = command }

taken : (front : List ScriptLine) (number : ℕ) (command : Command) (rest : Result (List ScriptLine) ScriptError) →
    with_front (front ++ numbered number command ∷ []) rest ≡ with_front front (line_before number (Some command) rest)
taken front number command (Ok lines) = ap Ok (append_assoc front (numbered number command ∷ []) lines)
taken front number command (Err e) = refl

module _ (lines front : List ScriptLine) (n : ℕ) (line : ScriptLine) (within : n < length lines) (is : line ≡ get_or lines n line) where
  first : drop n lines ≡ line ∷ drop (n + 1) lines
  first = drop_more lines n line within ∙ ap (λ x. x ∷ drop (n + 1) lines) (sym is)

  -- one more line is taken
  pub line_taken : (command : Command) → for_bridges line.command ≡ Some command → with_front front (lines_for_bridges (drop n lines)) ≡ lines_for_bridges lines →
      with_front (front ++ numbered line.number command ∷ []) (lines_for_bridges (drop (n + 1) lines)) ≡ lines_for_bridges lines
  line_taken command is_command whole =
      taken front line.number command (lines_for_bridges (drop (n + 1) lines))
      ∙ ap (λ c. with_front front (line_before line.number c (lines_for_bridges (drop (n + 1) lines)))) (sym is_command)
      ∙ ap (λ ls. with_front front (lines_for_bridges ls)) (sym first)
      ∙ whole

  -- or it is the first that is refused
  pub line_refused : for_bridges line.command ≡ None → with_front front (lines_for_bridges (drop n lines)) ≡ lines_for_bridges lines →
      lines_for_bridges lines ≡ Err (Line line.number Word)
  line_refused none whole =
      sym whole
      ∙ ap (λ ls. with_front front (lines_for_bridges ls)) first
      ∙ ap (λ c. with_front front (line_before line.number c (lines_for_bridges (drop (n + 1) lines)))) none

-- ---- what is asked of bridges repairs no link
kept : (command other : Command) → for_bridges command ≡ Some other → RepairsNoLink other
kept (Repair a b) other is = absurd (cc)
kept (Random number steps) other is = absurd (cc)
kept Restart other is = absurd (cc)
kept (ExpectAddress h pmac) other is = absurd (cc)
kept ExpectSettled other is = absurd (cc)
kept (Start who) other is = subst RepairsNoLink (same_Some (Start who) other is) tt
kept (Send h count) other is = subst RepairsNoLink (same_Some (Send h count) other is) tt
kept (Raw h count) other is = subst RepairsNoLink (same_Some (Raw h count) other is) tt
kept (Retry who) other is = subst RepairsNoLink (same_Some (Retry who) other is) tt
kept (Join h group) other is = subst RepairsNoLink (same_Some (Join h group) other is) tt
kept (Leave h group) other is = subst RepairsNoLink (same_Some (Leave h group) other is) tt
kept (Move h s port) other is = subst RepairsNoLink (same_Some (Move h s port) other is) tt
kept (Fail a b) other is = subst RepairsNoLink (same_Some (Fail a b) other is) tt
kept (Lose a b) other is = subst RepairsNoLink (same_Some (Lose a b) other is) tt
kept (Deliver from to) other is = subst RepairsNoLink (same_Some (Deliver from to) other is) tt
kept (Tick s) other is = subst RepairsNoLink (same_Some (Tick s) other is) tt
kept (Sweep times) other is = subst RepairsNoLink (same_Some (Sweep times) other is) tt
kept (Drain sweeps) other is = subst RepairsNoLink (same_Some (Drain sweeps) other is) tt
kept (ExpectArrived h many) other is = subst RepairsNoLink (same_Some (ExpectArrived h many) other is) tt
kept (ExpectDropped cause many) other is = subst RepairsNoLink (same_Some (ExpectDropped cause many) other is) tt
kept (Settle rounds) other is = subst RepairsNoLink (same_Some (Drain rounds) other is) tt

line_repairs_none : (number : ℕ) (found : Option Command) (rest : Result (List ScriptLine) ScriptError) (made : List ScriptLine) →
    ((command : Command) → found ≡ Some command → RepairsNoLink command) → ((lines : List ScriptLine) → rest ≡ Ok lines → AllByRecursion LineRepairsNoLink lines) →
    line_before number found rest ≡ Ok made → AllByRecursion LineRepairsNoLink made
line_repairs_none number None rest made first others is = absurd (cc)
line_repairs_none number (Some command) (Err e) made first others is = absurd (cc)
line_repairs_none number (Some command) (Ok lines) made first others is =
    let same : numbered number command ∷ lines ≡ made = cc in
    subst (λ (ls : List ScriptLine). AllByRecursion LineRepairsNoLink ls) same (first command refl, others lines refl)

lines_repair_none : (lines made : List ScriptLine) → lines_for_bridges lines ≡ Ok made → AllByRecursion LineRepairsNoLink made
lines_repair_none [] made is =
    let same : ◌≡◌ {A = List ScriptLine} [] made = cc in
    subst (λ (ls : List ScriptLine). AllByRecursion LineRepairsNoLink ls) same tt
lines_repair_none (line ∷ lines) made is =
    line_repairs_none line.number (for_bridges line.command) (lines_for_bridges lines) made (kept line.command) (lines_repair_none lines) is

all_repair_none : (reading : Result (List ScriptLine) ScriptError) (made : List ScriptLine) → all_for_bridges reading ≡ Ok made → AllByRecursion LineRepairsNoLink made
all_repair_none (Ok lines) made is = lines_repair_none lines made is
all_repair_none (Err e) made is = absurd (cc)

pub bridge_script_repairs_none : (plan : Plan) (file : List ℕ) (lines : List ScriptLine) → bridge_script_of plan file ≡ Ok lines → AllByRecursion LineRepairsNoLink lines
unfolding bridge_script_of
bridge_script_repairs_none plan file lines is = all_repair_none (script_of plan file) lines is
