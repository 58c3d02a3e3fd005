use Rattle.pl_law_flights.proofs.EventsKeepFlights.{step_journaled}
use Rattle.pl_law_flights.proofs.flight_laws.each_step_keeps_the_journal_true.Goals as goal

pub returns : goal.returns
returns g c = step_journaled g.M.ManagerLogic.rule g.H.HostLogic.rule g.met.H.HostLogic.sends g.met.H.HostLogic.keeps
