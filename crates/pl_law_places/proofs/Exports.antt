-- What other crates may name of these proofs.
pub use Rattle.pl_law_places.proofs.PlacesAtFirst.{placed_at_first}
pub use Rattle.pl_law_places.proofs.HostFramesKeepPlaces.{carried_turn, entered_turn}
pub use Rattle.pl_law_places.proofs.DiscoveryKeepsPlaces.{control_turn, set_or_old}
pub use Rattle.pl_law_places.proofs.KeepingPlaces.{places_on}
pub use Rattle.pl_law_places.proofs.Later.{all_left, IsGoodTurn, left_keeps, true_later, true_of_itself}
pub use Rattle.pl_law_places.proofs.Neighbours.{near_edge, neighbour_at, one_number, one_peer, turned_below}
pub use Rattle.pl_law_places.proofs.Obeying.{order_turn}
pub use Rattle.pl_law_places.proofs.Ticking.{able_told, own_told, tick_turn}
pub use Rattle.pl_law_places.proofs.TurnsWithoutControlFrames.{homes_same}
