use Rattle.pl_journal.specs.Text.{cause_text}
use Rattle.pl_journal_text.specs.Verbs.{all_causes}
use Rattle.pl_journal_text.proofs.Everything.{each_cause}
use Rattle.pl_journal_text.proofs.NameLemmas.{word_read}
use Rattle.pl_journal_text.proofs.names.CauseFromText.from_text.Goals as goal

pub returns : goal.returns
returns c = word_read cause_text all_causes c.args.text.now c.cause_named.result each_cause c.cause_named.ensures
