use Rattle.std.proofs.Common.{◌≡◌, ◌∷◌, [], take}
use Rattle.std.specs.Prelude.{fold}
use Rattle.pl_faults.specs.Listed.{with_told}
use Rattle.pl_faults.proofs.listed.with_hearers.Given as goal

abbrev pub invariant-loop-hearer : goal.invariant-loop-hearer
invariant-loop-hearer l = l.list ≡ fold (with_told l.reports) (l.fn.switch ∷ []) (take l.hearer-index l.hearer-items)
