use Rattle.pl_layouts.proofs.Arrived.{destination_of-arriving, length-arriving, packet_in-arriving, source_of-arriving}
use Rattle.pl_layouts.proofs.Kept.{others_are_kept}
use Rattle.pl_layouts.proofs.arrival_laws.a_frame_arrives_with_other_addresses_alone.Goals as goal

pub returns : goal.returns
returns c = record { length = length-arriving; destination = destination_of-arriving; source = source_of-arriving; packet = packet_in-arriving; others = others_are_kept }
