-- The numbers of pods that the manager gave, by switch.
use Rattle.std.specs.Prelude.{◌≡◌, ℕ, List, Some, slice_index_or}
use Rattle.pl_frame.specs.declared.address.SwitchId.{SwitchId}
use Rattle.pl_wiring.specs.Plan.{Plan}
use Rattle.pl_node.specs.declared.messages.ToSwitch.{ToSwitch}
use Rattle.pl_node.specs.declared.messages.ToSwitch.TheVariants.{Pod}
use Rattle.pl_node.specs.declared.pod_given.PodGiven.{PodGiven}
use Rattle.pl_node.specs.ManagerViews.{pod_given}

-- the id that the wiring gives to a switch
abbrev pub id_of : Plan → ℕ → SwitchId
id_of plan s = slice_index_or plan.ids s (record { 0 = 0 })

-- the number of a pod that is said to a switch is the one that it was given
abbrev pub IsPodGiven : List PodGiven → SwitchId → ToSwitch → Type 0
IsPodGiven pods id (Pod n) = pod_given pods id ≡ Some n
IsPodGiven pods id says = Unit {0}
