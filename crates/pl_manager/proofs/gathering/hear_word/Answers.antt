use Rattle.std.proofs.Common.{sym, ◌∙◌}
use Rattle.pl_manager.proofs.Gathers.{word_kept_ok, word_told_ok}
use Rattle.pl_manager.proofs.Pods.{can_hear_word}
use Rattle.pl_manager.proofs.gathering.hear_word.Goals as goal

pub hear-requires : goal.hear-requires
hear-requires c = can_hear_word c.args.known.now c.args.gatherer.now c.args.switch c.args.word.now c.requires

pub returns-then-is_whole-clause-told : goal.returns-then-is_whole-clause-told
returns-then-is_whole-clause-told c =
    word_told_ok c.hear.result c.args.known.now c.args.gatherer.now c.args.switch c.requires.many c.args.word.now c.epoch.result c.hear.new.self c.args.out.now c.hear.new.out
    (sym c.is_whole.ensures ∙ c.if-is_whole.true) c.epoch.ensures c.hear.ensures.heard

pub returns-else-is_whole-clause-told : goal.returns-else-is_whole-clause-told
returns-else-is_whole-clause-told c =
    word_kept_ok c.keep.result c.args.known.now c.args.gatherer.now c.args.switch c.requires.many c.args.word.now c.keep.new.self c.args.out.now
    (sym c.is_whole.ensures ∙ c.if-is_whole.false) c.keep.ensures.kept
