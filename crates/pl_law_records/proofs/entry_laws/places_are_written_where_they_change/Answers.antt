use Rattle.pl_law_records.proofs.EntryRuns.{places_written}
use Rattle.pl_law_records.proofs.entry_laws.places_are_written_where_they_change.Goals as goal

pub returns : goal.returns
returns g c = places_written g.S.SwitchLogic.rule g.M.ManagerLogic.rule g.H.HostLogic.rule
