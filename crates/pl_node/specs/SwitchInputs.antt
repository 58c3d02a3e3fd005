-- What comes at a switch, and how a switch may act.
use Rattle.std.specs.Prelude.{ℕ, List}
use Rattle.pl_node.specs.declared.acts.Act.{Act}
use Rattle.pl_node.specs.declared.messages.ToSwitch.{ToSwitch}
use Rattle.pl_node.specs.SwitchViews.{SwitchView}

-- what comes: a frame at a port, a tick, or a message of the fabric manager
pub data SwitchInput : Type 0 where
  Comes : (port : ℕ) (frame : List ℕ) → SwitchInput
  Tick : SwitchInput
  Says : (says : ToSwitch) → SwitchInput

abbrev pub SwitchRule : Type 1
SwitchRule = SwitchView → SwitchInput → SwitchView → List Act → Type 0
