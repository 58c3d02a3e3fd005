-- The switches that have the number of a pod.
use Rattle.std.specs.Prelude.{List, map}
use Rattle.std.specs.List.{IsDistinct}
use Rattle.pl_frame.specs.declared.address.SwitchId.{SwitchId}
use Rattle.pl_layouts.specs.Equality.{same_switch}
use Rattle.pl_node.specs.declared.pod_given.PodGiven.{PodGiven}
use Rattle.pl_node.specs.ManagerViews.{id_cmp, in_order}

-- each switch was given one number
abbrev pub AreOnce : List PodGiven → Type 0
AreOnce pods = IsDistinct same_switch (map (λ g. g.switch) pods)

-- those that were given one, by rising id
abbrev pub pod_holders : List PodGiven → List SwitchId
pod_holders pods = in_order id_cmp (map (λ g. g.switch) pods)
