use Rattle.std.proofs.Common.{◌≡◌, ◌++◌, take, drop}
use Rattle.pl_switch_rule.specs.Positions.{freed_but}
use Rattle.pl_position.proofs.holds.free_others.Given as goal

-- what is done so far, and then the rest
abbrev pub invariant-loop-n : goal.invariant-loop-n
invariant-loop-n l = take l.n l.holds ++ freed_but l.position l.edge l.n (drop l.n l.holds) ≡ freed_but l.position l.edge 0 l.initial.holds
