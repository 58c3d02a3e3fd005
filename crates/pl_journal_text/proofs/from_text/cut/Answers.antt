use Rattle.pl_journal_text.proofs.Cuts.{cut_found, cut_none}
use Rattle.pl_journal_text.proofs.from_text.cut.Goals as goal

pub returns-clause-found : goal.returns-clause-found
returns-clause-found c = cut_found c.args.text.now c.split_once.result c.split_once.ensures.cases

pub returns-clause-none : goal.returns-clause-none
returns-clause-none c = cut_none c.args.text.now c.split_once.result c.split_once.ensures.cases
