use Rattle.std.proofs.Common.{◌≡◌, ◌∙◌, subst, arith}
use Rattle.std.specs.List.{flat_map, range_with_len}
use Rattle.pl_watch.specs.News.{port_news}
use Rattle.pl_log_lines.specs.Telling.{Tells, node_in}
use Rattle.pl_watch.proofs.Learning.{tells_at}
use Rattle.pl_log_lines.proofs.Exports.{tells_nothing}
use Rattle.pl_watch.proofs.news.Change.tell_ports.Goals as goal

pub loop-at-init : goal.loop-at-init
loop-at-init g c = tells_nothing c.args.page.now c.args.told.now

pub loop-at-preserved : goal.loop-at-preserved
loop-at-preserved g c =
    tells_at c.args.page.now c.loop-at.page c.tell_port.new.page c.args.told.now c.loop-at.told c.tell_port.new.told (λ node. port_news c.args.index.now node (g.S.SwitchFacts.view c.args.self.now.before.now) (g.S.SwitchFacts.view c.args.self.now.after.now))
    c.loop-at.at c.loop-at.invariant c.tell_port.ensures

pub returns : goal.returns
returns g c =
    let past : c.loop-at.at ≡ c.k-at-end.result = omega arith in
    subst (λ n. Tells c.args.page.now c.loop-at.page c.args.told.now c.loop-at.told (flat_map (port_news c.args.index.now (node_in c.args.told.now) (g.S.SwitchFacts.view c.args.self.now.before.now) (g.S.SwitchFacts.view c.args.self.now.after.now)) (range_with_len 0 n)))
    (past ∙ c.k-at-end.ensures.known) c.loop-at.invariant
