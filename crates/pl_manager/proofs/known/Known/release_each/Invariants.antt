use Rattle.std.proofs.Common.{◌≡◌, fold, take}
use Rattle.pl_node.specs.ManagerViews.{ManagerView}
use Rattle.pl_manager_rule.specs.Treating.{then_releases}
use Rattle.pl_manager.specs.Manager.{put}
use Rattle.pl_manager.proofs.known.Known.release_each.Given as goal

-- what was gone through so far is released
abbrev pub invariant-loop-pmac : goal.invariant-loop-pmac
invariant-loop-pmac l =
    ((v : ManagerView) → fold then_releases (record { view = put l.initial.self v; acts = l.initial.out }) (take l.pmac-index l.those) ≡ record { view = put l.self v; acts = l.out })
    × (l.self.k ≡ l.initial.self.k)
