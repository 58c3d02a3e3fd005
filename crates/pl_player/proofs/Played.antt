-- Lines that are played one after the other.
use Rattle.std.proofs.Common.{◌≡◌, ℕ, List, [], ◌∷◌, Option, Some, None, get_or, refl, subst}
use Rattle.pl_node.specs.HostInputs.{HostRule}
use Rattle.pl_node.specs.ManagerDuties.{ManagerRule}
use Rattle.pl_node.specs.SwitchInputs.{SwitchRule}
use Rattle.pl_script.specs.declared.command.Command.TheVariants.{Start}
use Rattle.pl_script.specs.declared.command.Who.TheVariants.{One}
use Rattle.pl_script.specs.declared.script.ScriptLine.{ScriptLine}
use Rattle.pl_inputs.specs.Records.{Recorded}
use Rattle.pl_script_rule.specs.declared.stop.Stop.{Stop}
use Rattle.pl_script_rule.specs.Lines.{DoesLine, DoesLines}
use Rattle.pl_script_rule.specs.Scenes.{Scene}

-- what is done to a scene, and where and why it was stopped, if it was
abbrev pub Playing : Type 1
Playing = Scene → Option (ℕ × Stop) → Scene → Type 0

-- the line at an index of a loop
abbrev pub line_at : List ScriptLine → ℕ → ScriptLine
line_at lines i = get_or lines i (record { number = 0; command = Start (One (record { 0 = 0 })) })

-- what is left to play from here, and the whole from the beginning
pub record PlaysOn (rest : Playing) (now : Scene) (whole : Playing) (old : Scene) : Type 0 where
  pub on : (end : Option (ℕ × Stop)) (new : Scene) → rest now end new → whole old end new

pub from_here : (all : Playing) (now : Scene) → PlaysOn all now all now
from_here all now = record { on = λ end new played. played }

module _ (switch : SwitchRule) (manager : ManagerRule) (host : HostRule) (records : List (List Recorded)) (line : ScriptLine) (left lines : List ScriptLine)
    (same : lines ≡ line ∷ left) (whole : Playing) (now between old : Scene) (leads : PlaysOn (DoesLines switch manager host records lines) now whole old) where
  more : PlaysOn (DoesLines switch manager host records (line ∷ left)) now whole old
  more = subst (λ (ls : List ScriptLine). PlaysOn (DoesLines switch manager host records ls) now whole old) same leads

  -- a line was played
  pub played_on : DoesLine switch manager host records line now None between → PlaysOn (DoesLines switch manager host records left) between whole old
  played_on done = record { on = λ end new rest. more.on end new (None, between, done, rest) }

  -- a line was stopped
  pub played_up_to : (s : Stop) → DoesLine switch manager host records line now (Some s) between → whole old (Some (line.number, s)) between
  played_up_to s stopped = more.on (Some (line.number, s)) between (Some s, between, stopped, (refl, refl))

-- no line is left
pub played_all : (switch : SwitchRule) (manager : ManagerRule) (host : HostRule) (records : List (List Recorded)) (left : List ScriptLine) (whole : Playing)
    (now old : Scene) → left ≡ [] → PlaysOn (DoesLines switch manager host records left) now whole old → whole old None now
played_all switch manager host records left whole now old none leads =
    let last = subst (λ (ls : List ScriptLine). PlaysOn (DoesLines switch manager host records ls) now whole old) none leads in
    last.on None now (refl, refl)
