-- The messages from the manager that are about one address.
use Rattle.std.specs.Prelude.{ℕ, if◌then◌else◌, List, [], ◌∷◌}
use Rattle.std.specs.List.{flat_map}
use Rattle.pl_pmac.specs.declared.pmac.Pmac.{Pmac}
use Rattle.pl_layouts.specs.Equality.{same_pmac}
use Rattle.pl_node.specs.declared.messages.ToSwitch.{ToSwitch}
use Rattle.pl_node.specs.declared.messages.ToSwitch.TheVariants as say

-- its host has a newer address with this number, or it is released
pub data Order : Type 0 where
  Recalls : (new : Pmac) (number : ℕ) → Order
  Releases : Order

abbrev pub order_of : Pmac → ToSwitch → List Order
order_of x (say.Invalidate old new number ip) = if same_pmac old x then Recalls new number ∷ [] else []
order_of x (say.Release pmac) = if same_pmac pmac x then Releases ∷ [] else []
order_of x says = []

-- those about it in a queue, the one that comes next first
abbrev pub orders_of : Pmac → List ToSwitch → List Order
orders_of x down = flat_map (order_of x) down
