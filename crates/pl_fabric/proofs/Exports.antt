-- What other crates may name of these proofs.
pub use Rattle.pl_fabric.proofs.ExecutionRuns.{IsRun, rounds_are_run}
pub use Rattle.pl_fabric.proofs.ExecutionSteps.{ends_weaker, Keeps, Leads, leads_all, led_on, led_stops, then_on, then_stops, unless_weaker}
pub use Rattle.pl_fabric.proofs.Tests.{any_below, none_below}
pub use Rattle.pl_fabric.proofs.Visiting.{next_is_first}
