-- What other crates may name of these proofs.
pub use Rattle.pl_law_epochs.proofs.AtRest.{served_registered}
pub use Rattle.pl_law_epochs.proofs.Consequences.{registered_held, trapped_told}
pub use Rattle.pl_law_epochs.proofs.ForNothing.{nobodys_for_nothing}
pub use Rattle.pl_law_epochs.proofs.InWorlds.{world_first_in_order, world_in_order, world_stood, world_tables}
pub use Rattle.pl_law_epochs.proofs.Leading.{order_newer}
pub use Rattle.pl_law_epochs.proofs.Moves.{StoodSo}
pub use Rattle.pl_law_epochs.proofs.TrapsStood.{IsOrderedNext, TrapsStood}
