use Rattle.pl_past_tables.proofs.Failing.{link_repaired}
use Rattle.pl_past_tables.proofs.links.Links.repair.Goals as goal

pub returns : goal.returns
returns c = λ past keeps order failed next.
    link_repaired past c.args.self.now (record { since = c.put.new.self }) c.args.a c.args.b c.args.n keeps order failed next (λ k. c.in_ok-put.ensures k)
