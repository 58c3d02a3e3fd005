-- Rows of the rule that follow others, as steps of their own.
use Rattle.std.specs.Prelude.{ℕ, if◌then◌else◌, List}
use Rattle.pl_node.specs.SwitchViews.{SwitchView}
use Rattle.pl_steps.specs.Steps.{SwitchStep, ◌▹◌}
use Rattle.pl_switch_rule.specs.Delivering.{arrives_home, destination}
use Rattle.pl_switch_rule.specs.Forwarding.{Choice, came_by, forwards}
use Rattle.pl_switch_rule.specs.Granting.{is_local, learns_source}
use Rattle.pl_switch_rule.specs.Intake.{takes_in_or_spent}

-- a frame of a host at a port where one was found
abbrev pub learns_and_takes_in : Choice → ℕ → List ℕ → SwitchView → SwitchStep
learns_and_takes_in choose port frame v = learns_source v port frame ▹ takes_in_or_spent choose port frame

-- a unicast frame of a neighbour
abbrev pub passes_on : Choice → SwitchView → ℕ → List ℕ → SwitchStep
passes_on choose v port frame = if is_local v (destination frame) then arrives_home choose v frame else forwards choose v (came_by v port) frame
