use Rattle.pl_manager_rule.proofs.WholeRule.{epoch_stays, reported_stays, same_step}
use Rattle.pl_manager_rule.proofs.manager_laws.the_first_epoch_goes_by_the_rule_of_one.Goals as goal

pub returns-clause-step : goal.returns-clause-step
returns-clause-step c = same_step

pub returns-clause-epoch : goal.returns-clause-epoch
returns-clause-epoch c = epoch_stays

pub returns-clause-reported : goal.returns-clause-reported
returns-clause-reported c = reported_stays
