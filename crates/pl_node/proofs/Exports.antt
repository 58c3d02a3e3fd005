-- What other crates may name of these proofs.
pub use Rattle.pl_node.proofs.Addresses.{is_eq-ip_cmp, is_eq-nat_cmp}
pub use Rattle.pl_node.proofs.AddressUses.{in_use_has_no_trap, in_use_is_held}
pub use Rattle.pl_node.proofs.Among.{all_among, among_append, among_filter, among_filter_map, among_filter_mapped, among_filtered, among_flat_map, among_flat_mapped, among_in_order, among_insert, among_left, among_map, among_mapped, among_of_Contains, among_ordered, among_range, among_right, any_among, Contains-of_among, got_among, holds_of, id_total, IsAmong, member_passes, rising_in_order, rising_inserted}
pub use Rattle.pl_node.proofs.AvoidOrder.{avoided_exact, avoided_total, both_equal, id_exact}
pub use Rattle.pl_node.proofs.AvoidRows.{is_itself, is_same, of_number, same_test}
pub use Rattle.pl_node.proofs.Booted.{booted_is_shaped, unheld}
pub use Rattle.pl_node.proofs.Numbered.{nothing_learnt, nothing_numbered, nothing_registered}
pub use Rattle.pl_node.proofs.Ports.{aged_at, closed_by, direction_low, heard_aged}
pub use Rattle.pl_node.proofs.Ordering.{few_in_order, same_order, same_rising}
pub use Rattle.pl_node.proofs.Shown.{all_shown}
