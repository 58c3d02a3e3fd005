-- What other crates may name of these proofs.
pub use Rattle.pl_layouts.proofs.Arrivals.{arriving_by, arriving_parts, dst_in, head_in, lengths_in, long_frame, packet_behind, packet_in-behind, parts, spa_in, tha_in, unreadable_parts}
pub use Rattle.pl_layouts.proofs.Arrived.{arriving_readable, arriving_unreadable, destination_of-arriving, is_readable, length-arriving, packet_in-arriving, six_dst, six_src, source_of-arriving}
pub use Rattle.pl_layouts.proofs.Kept.{others_are_kept}
pub use Rattle.pl_layouts.proofs.Known.{is_known_of, known_is}
pub use Rattle.pl_layouts.proofs.Sameness.{mac_is, mac_itself, place_is, place_itself, pmac_is, pmac_itself, switch_itself}
