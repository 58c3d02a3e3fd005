-- A part of a step is taken: what the switch knows follows from what it knew, and what is done stands behind what was in the outbox.
use Rattle.std.specs.Prelude.{◌≡◌, List, ◌++◌}
use Rattle.pl_node.specs.declared.acts.Act.{Act}
use Rattle.pl_node.specs.SwitchViews.{SwitchView}
use Rattle.pl_steps.specs.Steps.{SwitchStep}

pub record IsTaken (step : SwitchStep) (after : SwitchView) (out_before out_after : List Act) : Type 0 where
  pub view : after ≡ step.view
  pub acts : out_after ≡ out_before ++ step.acts

-- where `put part v` is the view v with one part of the switch put in: that part takes a step, whatever else the switch knows
abbrev pub IsTakenByPart : {P : Type 0} → (P → SwitchView → SwitchView) → (SwitchView → SwitchStep) → P → P → List Act → List Act → Type 0
IsTakenByPart put row before after out_before out_after = (v : SwitchView) → IsTaken (row (put before v)) (put after v) out_before out_after

-- a step reads and changes one part alone: what the part becomes and what is done follow from that part
pub record IsOfPart {P : Type 0} (put : P → SwitchView → SwitchView) (row : SwitchView → SwitchStep) (becomes : P → P) (done : P → List Act) : Type 0 where
  pub view : (part : P) (v : SwitchView) → (row (put part v)).view ≡ put (becomes part) v
  pub acts : (part : P) (v : SwitchView) → (row (put part v)).acts ≡ done part

-- A step is taken up to the rest of it: the acts before the rest stand in the outbox, and the rest leads to the same view.
pub record IsTakenUpTo (rest step : SwitchStep) (out_before between : List Act) : Type 0 where
  pub view : step.view ≡ rest.view
  pub acts : between ++ rest.acts ≡ out_before ++ step.acts
