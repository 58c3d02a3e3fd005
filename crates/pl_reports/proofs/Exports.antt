-- What other crates may name of these proofs.
pub use Rattle.pl_reports.proofs.Liveness.{any_alive}
pub use Rattle.pl_node.proofs.Exports.{same_order, same_rising}
pub use Rattle.pl_reports.proofs.Placing.{edges_linked, edges_placed, insert_nothing, is_edge, placed_in, without_none}
pub use Rattle.pl_reports.proofs.Sorting.{all_in_order, all_rising, filter_more, passing_done, passing_next, put_all, put_in}
pub use Rattle.pl_reports.proofs.Telling.{among_put_any, IsPair, key_of_near, link_total, near_started, other_neighbours, own_neighbours, switches_linked, switches_placed}
