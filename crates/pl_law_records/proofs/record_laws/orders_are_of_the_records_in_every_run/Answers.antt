use Rattle.pl_law_records.proofs.RecordsInRuns.{run_ordered}
use Rattle.pl_law_records.proofs.record_laws.orders_are_of_the_records_in_every_run.Goals as goal

pub returns : goal.returns
returns g c = run_ordered g.H.HostLogic.rule g.met.H.HostLogic.sends g.met.H.HostLogic.owns
