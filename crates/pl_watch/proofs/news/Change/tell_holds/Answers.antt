use Rattle.std.proofs.Common.{◌≡◌, ◌∙◌, ◌/◌, ap, subst, arith}
use Rattle.std.specs.List.{flat_map, range_with_len}
use Rattle.pl_watch.specs.News.{hold_news}
use Rattle.pl_log_lines.specs.Telling.{Tells, node_in}
use Rattle.pl_watch.proofs.Learning.{tells_at}
use Rattle.pl_log_lines.proofs.Exports.{tells_nothing}
use Rattle.pl_watch.proofs.news.Change.tell_holds.Goals as goal

pub loop-position-init : goal.loop-position-init
loop-position-init g c = tells_nothing c.args.page.now c.args.told.now

pub loop-position-preserved : goal.loop-position-preserved
loop-position-preserved g c =
    tells_at c.args.page.now c.loop-position.page c.tell_hold.new.page c.args.told.now c.loop-position.told c.tell_hold.new.told (λ node. hold_news c.args.index.now node (g.S.SwitchFacts.view c.args.self.now.before.now) (g.S.SwitchFacts.view c.args.self.now.after.now))
    c.loop-position.position c.loop-position.invariant c.tell_hold.ensures

pub returns : goal.returns
returns g c =
    let past : c.loop-position.position ≡ c.k-position-end.result / 2 = omega arith in
    subst (λ n. Tells c.args.page.now c.loop-position.page c.args.told.now c.loop-position.told (flat_map (hold_news c.args.index.now (node_in c.args.told.now) (g.S.SwitchFacts.view c.args.self.now.before.now) (g.S.SwitchFacts.view c.args.self.now.after.now)) (range_with_len 0 n)))
    (past ∙ ap (λ k. k / 2) c.k-position-end.ensures.known) c.loop-position.invariant
