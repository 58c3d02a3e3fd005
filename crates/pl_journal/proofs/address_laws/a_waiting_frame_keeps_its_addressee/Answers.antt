use Rattle.pl_journal.proofs.Addressees.{held_stays}
use Rattle.pl_journal.proofs.address_laws.a_waiting_frame_keeps_its_addressee.Goals as goal

pub returns : goal.returns
returns c = held_stays
