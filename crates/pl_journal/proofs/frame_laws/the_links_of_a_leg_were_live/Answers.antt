use Rattle.pl_journal.proofs.LiveLegs.{leg_adjacent, leg_live}
use Rattle.pl_journal.proofs.frame_laws.the_links_of_a_leg_were_live.Goals as goal

pub returns : goal.returns
returns c = record { adjacent = leg_adjacent; live = leg_live }
