use Rattle.pl_law_placing.proofs.Answering.{answered}
use Rattle.pl_law_placing.proofs.placing_laws.what_is_no_news_was_answered.Goals as goal

pub returns : goal.returns
returns c = answered
