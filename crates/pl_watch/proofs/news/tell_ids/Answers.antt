use Rattle.std.proofs.Common.{◌∙◌, ap}
use Rattle.pl_log_lines.specs.declared.kind.Kind.TheVariants as kind
use Rattle.pl_watch.specs.News.{below_line_of, knowing}
use Rattle.pl_log_lines.specs.Rows.{below_of}
use Rattle.pl_log_lines.specs.Telling.{node_in}
use Rattle.pl_watch.proofs.Learning.{tells_mapped}
use Rattle.pl_log_lines.proofs.Exports.{tells_nothing}
use Rattle.pl_watch.proofs.news.tell_ids.Goals as goal

pub loop-id-init : goal.loop-id-init
loop-id-init g c = tells_nothing c.args.page.now c.args.told.now

pub loop-id-preserved : goal.loop-id-preserved
loop-id-preserved g c =
    tells_mapped (λ node. below_line_of c.args.index.now node c.args.group) c.args.page.now c.loop-id.page c.tell.new.self c.args.told.now c.loop-id.told c.tell.new.told
    c.args.ids.now c.loop-id.id-index _ (below_of (node_in c.loop-id.told) c.knows.result) c.loop-id-test.true
    (c.knows.ensures (node_in c.loop-id.told) ∙ ap (knowing (node_in c.loop-id.told) kind.Below) c.below_words.ensures) c.loop-id.invariant c.tell.ensures
