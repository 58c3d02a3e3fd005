use Rattle.pl_checker.proofs.Grants.{grantable, live_already, never_stood, other_port}
use Rattle.pl_checker.proofs.past.Past.may_grant.Goals as goal

pub returns-then-x-point : goal.returns-then-x-point
returns-then-x-point c = λ text past keeps. other_port c.args.wiring.now past c.args.x c.args.host c.args.point.edge c.args.point.port c.if-x-point.true

pub returns-then-is_live : goal.returns-then-is_live
returns-then-is_live c = λ text past keeps.
    live_already c.args.wiring.now past c.args.x c.args.host c.args.point.edge c.args.point.port c.number_of.result c.is_live.result c.number_of.ensures
    (c.is_live.ensures past keeps.holders) c.if-is_live.true

pub returns-then-not-has_stood : goal.returns-then-not-has_stood
returns-then-not-has_stood c = λ text past keeps.
    never_stood c.args.wiring.now past c.args.x c.args.host c.args.point.edge c.args.point.port c.has_stood.result (c.has_stood.ensures past keeps.hosts)
    c.if-not-has_stood.true

pub returns : goal.returns
returns c = λ text past keeps.
    let w = c.args.wiring.now in
    grantable w past c.args.x c.args.host c.args.point.edge c.args.point.port c.number_of.result c.is_live.result c.has_stood.result c.is_of_edge.result
    c.if-x-point.false c.number_of.ensures (c.is_live.ensures past keeps.holders) c.if-is_live.false (c.has_stood.ensures past keeps.hosts)
    c.if-not-has_stood.false
    (c.is_of_edge.ensures w past keeps.run keeps.addresses)
