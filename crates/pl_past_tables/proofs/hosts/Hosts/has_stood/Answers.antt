use Rattle.pl_past_tables.proofs.Moving.{stood_by_tables}
use Rattle.pl_past_tables.proofs.Said.{or_else, or_then}
use Rattle.pl_past_tables.proofs.hosts.Hosts.has_stood.Goals as goal

pub returns-then-first : goal.returns-then-first
returns-then-first c = λ past keeps.
    or_then c.is_at-first.result c.is_some-came.result _ c.if-first.true
    (stood_by_tables c.args.wiring.now past c.args.self.now c.args.host c.args.point _ c.get.result c.is_at-first.result c.is_some-came.result keeps
    c.first_point.ensures c.get.ensures c.is_at-first.ensures c.is_some-came.ensures)

pub returns-else-first : goal.returns-else-first
returns-else-first c = λ past keeps.
    or_else c.is_at-first.result c.is_some-came.result _ c.if-first.false
    (stood_by_tables c.args.wiring.now past c.args.self.now c.args.host c.args.point _ c.get.result c.is_at-first.result c.is_some-came.result keeps
    c.first_point.ensures c.get.ensures c.is_at-first.ensures c.is_some-came.ensures)
