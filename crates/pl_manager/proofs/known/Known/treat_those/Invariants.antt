use Rattle.std.proofs.Common.{◌≡◌, map, take}
use Rattle.pl_gatherer.specs.Gatherers.{heard_of}
use Rattle.pl_node.specs.ManagerViews.{ManagerView}
use Rattle.pl_manager.specs.Manager.{CanTreat, done_so_far, put, treated_of}
use Rattle.pl_manager.proofs.known.Known.treat_those.Given as goal

-- what was gone through so far is treated
abbrev pub invariant-loop-one : goal.invariant-loop-one
invariant-loop-one l =
    ((v : ManagerView) → v.epoch ≡ l.epoch →
    treated_of l.wishes (take l.one-index l.kept) (done_so_far (put l.initial.self v) l.initial.aged.items l.initial.out) ≡ done_so_far (put l.self v) l.aged.items l.out)
    × CanTreat l.self (map heard_of l.kept) × (l.self.k ≡ l.initial.self.k)
