-- What other crates may name of these proofs.
pub use Rattle.pl_law_counts.proofs.Acts.{KeptByActs}
pub use Rattle.pl_law_counts.proofs.Changes.{one_at_most, claim, empty_host, empty_out, IsPlain, move_one, note, of_root, of_root_less, one_there, send_one, take_any, take_host, take_out, weaker}
pub use Rattle.pl_law_counts.proofs.Counted.{once_by, once_control, once_copied, once_made, once_noted, once_over, once_passed, once_unsent, OnceAmid, used}
pub use Rattle.pl_law_counts.proofs.Events.{control_keeps, frame_keeps, host_frame_keeps, move_keeps, order_keeps, receiver_stands, taken_out, tick_keeps}
pub use Rattle.pl_law_counts.proofs.Ports.{CountsAlone, label_there, one_only, one_port, peer_back, Rung, rung, sum_of}
pub use Rattle.pl_law_counts.proofs.Ports.Rung.{DownFromCore, DownToEdge, UpFromEdge, UpToCore}
pub use Rattle.pl_law_counts.proofs.Queues.{count_all-one, count_in-cons, fewer_all, fewer_in, none_in}
