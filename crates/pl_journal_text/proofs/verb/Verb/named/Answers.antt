use Rattle.pl_journal_text.specs.Verbs.{all_verbs, verb_text}
use Rattle.pl_journal_text.proofs.Everything.{each_verb}
use Rattle.pl_journal_text.proofs.NameLemmas.{word_read}
use Rattle.pl_journal_text.proofs.verb.Verb.named.Goals as goal

pub returns : goal.returns
returns c = word_read verb_text all_verbs c.args.word.now c.find_verb.result each_verb c.find_verb.ensures
