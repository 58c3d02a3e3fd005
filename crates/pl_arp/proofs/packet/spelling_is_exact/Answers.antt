use Rattle.pl_arp.proofs.Spelling.{arp_in-layout, layout-arp_in}
use Rattle.pl_arp.proofs.packet.spelling_is_exact.Goals as goal

pub returns-clause-read : goal.returns-clause-read
returns-clause-read c = arp_in-layout

pub returns-clause-spelled : goal.returns-clause-spelled
returns-clause-spelled c = layout-arp_in
