-- A step of a switch: what it knows afterwards, and what it did.
use Rattle.std.specs.Prelude.{List, [], ◌++◌}
use Rattle.pl_node.specs.declared.acts.Act.{Act}
use Rattle.pl_node.specs.SwitchViews.{SwitchView}

pub record SwitchStep : Type 0 where
  pub view : SwitchView
  pub acts : List Act

-- nothing is done, and nothing changes
abbrev pub rests : SwitchView → SwitchStep
rests v = record { view = v; acts = [] }

-- these acts, and nothing changes
abbrev pub does : SwitchView → List Act → SwitchStep
does v acts = record { view = v; acts = acts }

infixl 20 ◌▹◌
-- one part of a step, and then the next, from what the switch knows by then
abbrev pub ◌▹◌ : SwitchStep → (SwitchView → SwitchStep) → SwitchStep
first ▹ next = record { view = (next first.view).view; acts = first.acts ++ (next first.view).acts }
