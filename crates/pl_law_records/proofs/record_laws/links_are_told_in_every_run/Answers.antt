use Rattle.pl_law_records.proofs.LinkRuns.{run_links}
use Rattle.pl_law_records.proofs.record_laws.links_are_told_in_every_run.Goals as goal

pub returns : goal.returns
returns g c = run_links g.H.HostLogic.rule g.met.H.HostLogic.sends g.met.H.HostLogic.owns
