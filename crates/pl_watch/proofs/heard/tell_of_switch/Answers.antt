use Rattle.std.proofs.Common.{◌++◌, map}
use Rattle.pl_world_parts.specs.OneStep.{input_from}
use Rattle.pl_log_lines.specs.Acts.{act_line, heard_lines}
use Rattle.pl_watch.specs.News.{news}
use Rattle.pl_log_lines.specs.Telling.{node_in}
use Rattle.pl_watch.proofs.Learning.{tells_more}
use Rattle.pl_watch.proofs.heard.tell_of_switch.Goals as goal

pub returns : goal.returns
returns g c =
    let heard = heard_lines c.args.index.now (node_in c.args.told.now) (input_from c.args.coming.now.incoming) c.args.coming.now.frame in
    let before = g.S.SwitchFacts.view c.args.change.now.before.now in
    let after = g.S.SwitchFacts.view c.args.change.now.after.now in
    tells_more c.args.page.now c.tell.new.page c.tell_acts.new.page c.args.told.now c.tell.new.told c.tell_acts.new.told
    (heard ++ news c.args.index.now (node_in c.args.told.now) before after) (λ node. map (act_line c.args.index.now node) c.args.acts.now)
    (tells_more c.args.page.now c.tell_heard.new.page c.tell.new.page c.args.told.now c.tell_heard.new.told c.tell.new.told
    heard (λ node. news c.args.index.now node before after) c.tell_heard.ensures c.in_ok-tell.ensures) c.tell_acts.ensures
