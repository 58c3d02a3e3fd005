use Rattle.pl_manager_rule.proofs.Avoided.{alive_rise, groups_rise, needed_rise, neighbours_rise, switches_rise}
use Rattle.pl_manager_rule.proofs.Parts.{parts_rise}
use Rattle.pl_manager_rule.proofs.manager_laws.lists_of_switches_rise.Goals as goal

pub returns-clause-switches : goal.returns-clause-switches
returns-clause-switches c = switches_rise

pub returns-clause-neighbours : goal.returns-clause-neighbours
returns-clause-neighbours c = neighbours_rise

pub returns-clause-alive : goal.returns-clause-alive
returns-clause-alive c = alive_rise

pub returns-clause-needed : goal.returns-clause-needed
returns-clause-needed c = needed_rise

pub returns-clause-groups : goal.returns-clause-groups
returns-clause-groups c = groups_rise

pub returns-clause-parts : goal.returns-clause-parts
returns-clause-parts c = parts_rise
