-- What other crates may name of these proofs.
pub use Rattle.pl_frame.proofs.Fields.{fields_of-frame_of, fields_of-with_destination, front_of, length-frame_of, rest_of}
pub use Rattle.pl_frame.proofs.Numbers.{big_bytes-big_number, big_bytes-big_number_front, bytes-drop, IsBytes}
pub use Rattle.pl_frame.proofs.Switches.{same_id}
