use Rattle.pl_law_records.proofs.DueOrders.{due_ordered, restart_ordered}
use Rattle.pl_law_records.proofs.RecordsInRuns.{step_ordered}
use Rattle.pl_law_records.proofs.record_laws.each_step_keeps_orders.Goals as goal

pub returns-clause-steps : goal.returns-clause-steps
returns-clause-steps g c = step_ordered g.H.HostLogic.rule

pub returns-clause-epochs : goal.returns-clause-epochs
returns-clause-epochs g c = λ old new is step has. due_ordered old new is has step

pub returns-clause-restarts : goal.returns-clause-restarts
returns-clause-restarts g c = λ old new is restarts has. restart_ordered old new is has restarts
