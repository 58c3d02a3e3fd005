use Rattle.std.proofs.lemmas.Bool.{both_ways, or_left, or_right}
use Rattle.pl_node.specs.ManagerViews.{is_given_pod, is_taken, is_told_pod}
use Rattle.pl_manager_rule.proofs.FreePods.{given_is_free, given_taken, told_taken}
use Rattle.pl_manager_rule.proofs.Registered.{asker_has_pod}
use Rattle.pl_manager_rule.proofs.manager_laws.a_pod_is_free_when_it_is_given.Goals as goal

pub returns-clause-untold : goal.returns-clause-untold
returns-clause-untold c = λ told pods s t n none is stands.
    both_ways (is_taken told pods n) (given_is_free told pods s n none is).free
    (or_left (is_told_pod told n) (is_given_pod pods n) (told_taken told.places t n stands))

pub returns-clause-ungiven : goal.returns-clause-ungiven
returns-clause-ungiven c = λ told pods s t n none is given.
    both_ways (is_taken told pods n) (given_is_free told pods s n none is).free
    (or_right (is_told_pod told n) (is_given_pod pods n) (given_taken pods t n given))

pub returns-clause-smallest : goal.returns-clause-smallest
returns-clause-smallest c = λ told pods s n m none is less. (given_is_free told pods s n none is).smallest m less

pub returns-clause-asked : goal.returns-clause-asked
returns-clause-asked c = asker_has_pod
