use Rattle.std.proofs.Common.{◌++◌, subst}
use Rattle.pl_node.specs.declared.neighbour.PortRecord.{PortRecord}
use Rattle.pl_node.specs.PortRecords.{port_of}
use Rattle.pl_watch.specs.News.{heard_news, silent_news}
use Rattle.pl_log_lines.specs.Telling.{Tells, node_in}
use Rattle.pl_watch.proofs.Learning.{tells_more}
use Rattle.pl_watch.proofs.news.Change.tell_port.Goals as goal

pub returns : goal.returns
returns g c =
    subst (λ (a : PortRecord). Tells c.args.page.now c.tell_silent.new.page c.args.told.now c.tell_silent.new.told
    (heard_news c.args.index.now (node_in c.args.told.now) (g.S.SwitchFacts.view c.args.self.now.after.now).id c.args.at (port_of (g.S.SwitchFacts.view c.args.self.now.before.now) c.args.at) a ++ silent_news (node_in c.args.told.now) c.args.at (port_of (g.S.SwitchFacts.view c.args.self.now.before.now) c.args.at).silent a.silent)) c.port-after.ensures
    (subst (λ (b : PortRecord). Tells c.args.page.now c.tell_silent.new.page c.args.told.now c.tell_silent.new.told
    (heard_news c.args.index.now (node_in c.args.told.now) (g.S.SwitchFacts.view c.args.self.now.after.now).id c.args.at b c.port-after.result ++ silent_news (node_in c.args.told.now) c.args.at b.silent c.port-after.result.silent)) c.port-before.ensures
    (tells_more c.args.page.now c.tell_heard.new.page c.tell_silent.new.page c.args.told.now c.tell_heard.new.told c.tell_silent.new.told
    (heard_news c.args.index.now (node_in c.args.told.now) (g.S.SwitchFacts.view c.args.self.now.after.now).id c.args.at c.port-before.result c.port-after.result) (λ n. silent_news n c.args.at c.port-before.result.silent c.port-after.result.silent)
    c.tell_heard.ensures c.tell_silent.ensures))
