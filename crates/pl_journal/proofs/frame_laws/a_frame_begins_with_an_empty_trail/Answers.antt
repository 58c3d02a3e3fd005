use Rattle.pl_journal.proofs.Unbegun.{flight_before, flight_made, flight_sent, live_before}
use Rattle.pl_journal.proofs.frame_laws.a_frame_begins_with_an_empty_trail.Goals as goal

pub returns-clause-before : goal.returns-clause-before
returns-clause-before c = flight_before

pub returns-clause-not_live : goal.returns-clause-not_live
returns-clause-not_live c = live_before

pub returns-clause-sent : goal.returns-clause-sent
returns-clause-sent c = flight_sent

pub returns-clause-made : goal.returns-clause-made
returns-clause-made c = flight_made
