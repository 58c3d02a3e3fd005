use Rattle.pl_edge.proofs.Delivered.{on_ok, three_parts}
use Rattle.pl_edge.specs.EdgeViews.{edge_in}
use Rattle.pl_edge.proofs.edge_table.EdgeTable.invalidate.Goals as goal

pub returns-in_ok-forget-in-Some-clause-taken : goal.returns-in_ok-forget-in-Some-clause-taken
returns-in_ok-forget-in-Some-clause-taken c =
    on_ok c.probe.result
    (λ probed v may. three_parts c.args.self.now c.set_trap.new.self c.forget.new.self c.args.old c.args.to c.in-Some.grant c.in_ok-grant.field-0
    c.args.out.now c.forget.new.out c.probe.new.out v c.in-Some.is (c.in_ok-grant.ensures.granted v may) (c.in_ok-grant.ensures.set v)
    (c.in_ok-forget-in-Some.ensures.taken v) (probed (edge_in c.forget.new.self v)))
    c.probe.ensures
