use Rattle.pl_law_records.proofs.RecordsInRuns.{run_reported}
use Rattle.pl_law_records.proofs.record_laws.reports_are_kept_in_every_run.Goals as goal

pub returns : goal.returns
returns g c = run_reported g.H.HostLogic.rule g.met.H.HostLogic.sends g.met.H.HostLogic.owns
