use Rattle.std.proofs.Common.{◌≡◌, fold, take}
use Rattle.std.specs.BTreeSet.{insert_key}
use Rattle.pl_node.specs.ManagerViews.{id_cmp}
use Rattle.pl_groups.proofs.needs.add_all.Given as goal

abbrev pub invariant-loop-switch : goal.invariant-loop-switch
invariant-loop-switch l =
    l.list ≡ fold (insert_key id_cmp) l.initial.list (take l.switch-index l.switches)
