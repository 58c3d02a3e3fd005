use Rattle.pl_delivery.proofs.Rest.{sender_told}
use Rattle.pl_delivery.proofs.laws.a_sender_is_told_behind_its_frame.Goals as goal

pub returns : goal.returns
returns c = sender_told
