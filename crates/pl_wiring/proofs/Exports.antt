-- What other crates may name of these proofs.
pub use Rattle.pl_wiring.proofs.Ends.{at_contained, contained_at, IsPeer-in_range, IsPeer-is, IsPeer-symmetric, IsPeer-turned, link_rises, same_switch}
pub use Rattle.pl_wiring.proofs.Entered.{entry_at-in_range, entry_at-out_of_range, entry_at-set_other, entry_at-set_same, kept_link, port_index-below, same_port, tree_ends}
pub use Rattle.pl_wiring.proofs.EntryLemmas.{is_label-Decides}
pub use Rattle.pl_wiring.proofs.HostAddresses.{ip_of_text-one, mac_of_text-one}
pub use Rattle.pl_wiring.proofs.LabelOrder.{half_at_least, label_of-aggregation, label_of-core, label_of-edge, label_of-IsLabel, label_of-number_of, number_of-below, number_of-edge_below, number_of-label_of, same_label, twice_half}
pub use Rattle.pl_wiring.proofs.LinkOrder.{IsFatTree-in_order, lower_at-below, same_link, upper_at-same_uplink}
pub use Rattle.pl_wiring.proofs.Linked.{one_between, peer_is_none, peer_is_switch, peer_says, same_between}
pub use Rattle.pl_wiring.proofs.Live.{changed, changes, live_says, made_for_changed, others}
pub use Rattle.pl_wiring.proofs.Ports.{IsPeer-host_port}
