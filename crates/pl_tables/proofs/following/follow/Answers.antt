use Rattle.std.proofs.Common.{◌<◌, ◌≤◌, arith}
use Rattle.pl_tables.proofs.LeadsMoved.{followed_more}
use Rattle.pl_tables.proofs.following.follow.Goals as goal

pub loop-port-preserved : goal.loop-port-preserved
loop-port-preserved g c =
    let v = g.F.SwitchFacts.view c.args.facts.now in
    let is = c.k-port-end.ensures.known in
    let few : v.k ≤ 24 = let within = c.k-port-end.ensures.within in omega arith in
    let below : c.loop-port.port < v.k = let test = c.loop-port-test.true in omega arith in
    followed_more v c.loop-port.leads c.follow_port.new.leads c.loop-port.tables c.follow_port.new.tables c.loop-port.port below few c.loop-port.invariant
    c.in_ok-follow_port.ensures.leads c.in_ok-follow_port.ensures.tables
