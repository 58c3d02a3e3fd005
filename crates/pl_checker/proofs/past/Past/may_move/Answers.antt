use Rattle.std.proofs.Common.{arith}
use Rattle.pl_checker.proofs.Standings.{movable, no_such_host}
use Rattle.pl_checker.proofs.past.Past.may_move.Goals as goal

pub returns-then-host-host_count : goal.returns-then-host-host_count
returns-then-host-host_count c = λ text past keeps.
    no_such_host c.args.wiring.now past c.args.host c.args.point.edge c.args.point.port (omega (arith, c.host_count.ensures, c.if-host-host_count.true))

pub returns : goal.returns
returns c = λ text past keeps.
    movable c.args.wiring.now past c.args.host c.args.point.edge c.args.point.port c.is_free.result
    (omega (arith, c.host_count.ensures, c.if-host-host_count.false))
    (c.is_free.ensures past keeps.hosts)
