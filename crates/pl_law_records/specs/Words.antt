-- What was said last of a thing.
use Rattle.std.specs.Prelude.{ℕ, ◌==◌, if◌then◌else◌, List, [], ◌∷◌, Option, Some, None, unwrap_or}
use Rattle.pl_frame.specs.declared.address.SwitchId.{SwitchId}
use Rattle.pl_node.specs.declared.messages.ToManager.{ToManager}
use Rattle.pl_node.specs.declared.messages.ToManager.TheVariants as tell
use Rattle.pl_node.specs.declared.messages.ToSwitch.{ToSwitch}
use Rattle.pl_node.specs.declared.messages.ToSwitch.TheVariants as say
use Rattle.pl_node.specs.declared.messages.TreePart.{TreePart}

-- the last that the words of a queue say, the newest of which stands last; or what stands before them, where they say nothing of it
abbrev pub last_said : {W X : Type 0} → (W → Option X) → X → List W → X
last_said said before [] = before
last_said said before (w ∷ words) = last_said said (unwrap_or (said w) before) words

-- what a word of the manager says of the avoid list of a switch; one that begins anew says none
abbrev pub avoid_said : ToSwitch → Option (List (SwitchId × ℕ × ℕ))
avoid_said (say.Avoid list) = Some list
avoid_said (say.Hello epoch) = Some []
avoid_said says = None

-- of its part of the tree of this group; one that begins anew says that it has none
abbrev pub part_said : ℕ → ToSwitch → Option (Option TreePart)
part_said group (say.Tree g part) = if g == group then Some part else None
part_said group (say.Hello epoch) = Some None
part_said group says = None

-- Words that say nothing of what the manager records, and nothing of lists and trees.

abbrev pub IsNoReport : ToManager → Type 0
IsNoReport (tell.Place place) = ⊥
IsNoReport (tell.Link neighbour usable) = ⊥
IsNoReport (tell.Members group any) = ⊥
IsNoReport told = Unit {0}

abbrev pub IsNoOrder : ToSwitch → Type 0
IsNoOrder (say.Avoid list) = ⊥
IsNoOrder (say.Hello epoch) = ⊥
IsNoOrder (say.Tree group part) = ⊥
IsNoOrder says = Unit {0}
