use Rattle.pl_law_due.proofs.Restarting.{rest_whole}
use Rattle.pl_law_due.proofs.due_laws.no_report_is_missing_at_rest.Goals as goal

pub returns : goal.returns
returns c = rest_whole
