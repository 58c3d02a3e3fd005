use Rattle.pl_manager_rule.proofs.Avoided.{avoid_list_rises, avoided_is_listed, listed_is_avoided}
use Rattle.pl_manager_rule.proofs.manager_laws.an_avoid_list_is_what_its_switch_avoids.Goals as goal

pub returns-clause-listed : goal.returns-clause-listed
returns-clause-listed c = λ told s avoided. (listed_is_avoided told s avoided, avoided_is_listed told s avoided)

pub returns-clause-rising : goal.returns-clause-rising
returns-clause-rising c = avoid_list_rises
