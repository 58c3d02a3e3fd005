-- A list has got more items at its end.
use Rattle.std.specs.Prelude.{◌≡◌, List, ◌++◌}

pub record Gains {T : Type 0} (before after : List T) (P : List T → Type 0) : Type 0 where
  pub items : List T
  pub gained : after ≡ before ++ items
  pub holds : P items
