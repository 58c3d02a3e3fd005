use Rattle.pl_past_tables.proofs.Failing.{link_failed}
use Rattle.pl_past_tables.proofs.links.Links.fail.Goals as goal

pub returns : goal.returns
returns c = λ past keeps order. link_failed past c.args.self.now (record { since = c.put.new.self }) c.args.a c.args.b keeps order (λ k. c.in_ok-put.ensures k)
