use Rattle.pl_checker.proofs.Standings.{may_repair, not_adjacent, not_ordered}
use Rattle.pl_checker.proofs.past.Past.may_repair.Goals as goal

pub returns-then-a-b : goal.returns-then-a-b
returns-then-a-b c = λ text past keeps. (not_ordered c.args.wiring.now past c.args.a c.args.b c.if-a-b.true).1

pub returns-then-not-is_adjacent : goal.returns-then-not-is_adjacent
returns-then-not-is_adjacent c = λ text past keeps.
    (not_adjacent c.args.wiring.now past c.args.a c.args.b c.is_adjacent.result c.is_adjacent.ensures c.if-not-is_adjacent.true).1

pub returns : goal.returns
returns c = λ text past keeps.
    may_repair c.args.wiring.now past c.args.a c.args.b c.is_adjacent.result c.is_failed.result c.if-a-b.false c.is_adjacent.ensures c.if-not-is_adjacent.false
    (c.is_failed.ensures past keeps.links)
