use Rattle.pl_journal_text.proofs.Cuts.{strip_found, strip_none}
use Rattle.pl_journal_text.proofs.line.before_newline.Goals as goal

pub returns-clause-found : goal.returns-clause-found
returns-clause-found c = strip_found c.args.text.now c.strip_suffix.result c.strip_suffix.ensures.cases

pub returns-clause-none : goal.returns-clause-none
returns-clause-none c = strip_none c.args.text.now c.strip_suffix.result c.strip_suffix.ensures.cases
