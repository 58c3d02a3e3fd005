use Rattle.std.proofs.Common.{◌∙◌, ap}
use Rattle.pl_log_lines.specs.declared.kind.Kind.TheVariants as kind
use Rattle.pl_watch.specs.News.{avoid_line, knowing}
use Rattle.pl_log_lines.specs.Rows.{below_of}
use Rattle.pl_log_lines.specs.Telling.{node_in}
use Rattle.pl_watch.proofs.Learning.{tells_mapped}
use Rattle.pl_log_lines.proofs.Exports.{tells_nothing}
use Rattle.pl_watch.proofs.news.tell_entries.Goals as goal

pub loop-entry-init : goal.loop-entry-init
loop-entry-init g c = tells_nothing c.args.page.now c.args.told.now

pub loop-entry-preserved : goal.loop-entry-preserved
loop-entry-preserved g c =
    tells_mapped (λ node. avoid_line c.args.index.now node c.args.sign.now) c.args.page.now c.loop-entry.page c.tell.new.self c.args.told.now c.loop-entry.told c.tell.new.told
    c.args.entries.now c.loop-entry.entry-index _ (below_of (node_in c.loop-entry.told) c.knows.result) c.loop-entry-test.true
    (c.knows.ensures (node_in c.loop-entry.told) ∙ ap (knowing (node_in c.loop-entry.told) kind.Avoid) c.avoid_words.ensures) c.loop-entry.invariant c.tell.ensures
