use Rattle.pl_law_flights.proofs.NoFlightAtFirst.{booted_journaled}
use Rattle.pl_law_flights.proofs.flight_laws.the_journal_says_what_is_so_at_first.Goals as goal

pub returns : goal.returns
returns c = booted_journaled
