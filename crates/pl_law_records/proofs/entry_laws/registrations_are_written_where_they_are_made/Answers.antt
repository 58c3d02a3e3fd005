use Rattle.pl_law_records.proofs.EntryRuns.{registrations_written, restart_written}
use Rattle.pl_law_records.proofs.entry_laws.registrations_are_written_where_they_are_made.Goals as goal

pub returns-clause-numbers : goal.returns-clause-numbers
returns-clause-numbers g c = λ old event new step goes_on.
    registrations_written g.S.SwitchLogic.rule g.M.ManagerLogic.rule g.H.HostLogic.rule old event new step g.met.M.ManagerLogic.answers goes_on

pub returns-clause-restarts : goal.returns-clause-restarts
returns-clause-restarts g c = restart_written g.S.SwitchLogic.rule g.M.ManagerLogic.rule g.H.HostLogic.rule
