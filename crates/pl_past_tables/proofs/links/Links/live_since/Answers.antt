use Rattle.pl_past_tables.proofs.Failing.{since_by_table}
use Rattle.pl_past_tables.proofs.links.Links.live_since.Goals as goal

pub returns-in-None : goal.returns-in-None
returns-in-None c = λ past keeps. since_by_table past c.args.self.now c.args.a c.args.b c.ends_of.result _ keeps c.ends_of.ensures c.in-None.ensures

pub returns-in-Some : goal.returns-in-Some
returns-in-Some c = λ past keeps. since_by_table past c.args.self.now c.args.a c.args.b c.ends_of.result _ keeps c.ends_of.ensures c.in-Some.ensures
