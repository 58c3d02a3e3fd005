use Rattle.pl_past.proofs.LiveLinks.{live_by_numbers}
use Rattle.pl_past.proofs.LegLemmas.{goes_well_by_kept}
use Rattle.pl_past.proofs.laws.two_numbers_tell_whether_a_link_was_live.Goals as goal

pub returns : goal.returns
returns c = record { link = live_by_numbers; crossing = goes_well_by_kept }
