-- A switch that asks for the number of its pod at each tick, and passes data frames on by its next port.
use Rattle.std.specs.Prelude.{◌≡◌, List, [], ◌∷◌}
use Rattle.pl_node.specs.declared.acts.Act.{Act}
use Rattle.pl_node.specs.declared.acts.Act.TheVariants.{Tell}
use Rattle.pl_node.specs.declared.messages.ToManager.TheVariants.{PodWanted}
use Rattle.pl_node.specs.SwitchInputs.{SwitchInput, SwitchRule}
use Rattle.pl_node.specs.SwitchInputs.SwitchInput.{Tick}
use Rattle.pl_node.specs.SwitchViews.{SwitchView}
use Rattle.pl_test_sample.specs.Passing.{passed_next}

abbrev pub asked : SwitchView → SwitchInput → List Act
asked v Tick = Tell PodWanted ∷ []
asked v input = passed_next v input

-- nothing changes
abbrev pub AsksForPods : SwitchRule
AsksForPods before input after acts = (after ≡ before) × (acts ≡ asked before input)
