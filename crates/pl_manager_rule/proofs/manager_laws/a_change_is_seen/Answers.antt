use Rattle.pl_manager_rule.proofs.Sameness.{avoid_lists_alike, parts_alike}
use Rattle.pl_manager_rule.proofs.manager_laws.a_change_is_seen.Goals as goal

pub returns-clause-avoid : goal.returns-clause-avoid
returns-clause-avoid c = avoid_lists_alike

pub returns-clause-part : goal.returns-clause-part
returns-clause-part c = parts_alike
