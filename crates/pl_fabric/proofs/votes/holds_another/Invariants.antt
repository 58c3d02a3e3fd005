use Rattle.std.proofs.Common.{◌≡◌, ℕ, ◌<◌, false}
use Rattle.pl_fabric.specs.Settled.{is_another}
use Rattle.pl_fabric.proofs.votes.holds_another.Given as goal

abbrev pub invariant-loop-p : goal.invariant-loop-p
invariant-loop-p g l = (k : ℕ) → k < l.p → is_another (g.F.SwitchFacts.view l.above) l.edge l.position k ≡ false
