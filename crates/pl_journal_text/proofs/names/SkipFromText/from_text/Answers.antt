use Rattle.pl_journal.specs.Text.{skip_text}
use Rattle.pl_journal_text.specs.Verbs.{all_skips}
use Rattle.pl_journal_text.proofs.Everything.{each_skip}
use Rattle.pl_journal_text.proofs.NameLemmas.{word_read}
use Rattle.pl_journal_text.proofs.names.SkipFromText.from_text.Goals as goal

pub returns : goal.returns
returns c = word_read skip_text all_skips c.args.text.now c.skip_named.result each_skip c.skip_named.ensures
