use Rattle.pl_law_records.proofs.LinkRuns.{run_neighbours}
use Rattle.pl_law_records.proofs.record_laws.links_to_neighbours_alone_are_told_usable_in_every_run.Goals as goal

pub returns : goal.returns
returns g c = run_neighbours g.H.HostLogic.rule g.met.H.HostLogic.sends g.met.H.HostLogic.owns
