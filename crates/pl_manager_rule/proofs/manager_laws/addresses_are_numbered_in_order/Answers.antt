use Rattle.std.proofs.Common.{sym, subst}
use Rattle.std.specs.List.{IsDistinct}
use Rattle.pl_layouts.specs.Equality.{same_pmac}
use Rattle.pl_node.specs.ManagerViews.{Registration, registered_as}
use Rattle.pl_manager_rule.specs.Histories.{known}
use Rattle.pl_manager_rule.proofs.History.{numbers_are_counted}
use Rattle.pl_manager_rule.proofs.Kept.{reached_in_order}
use Rattle.pl_manager_rule.proofs.Learning.{map_mapped}
use Rattle.pl_manager_rule.proofs.manager_laws.addresses_are_numbered_in_order.Goals as goal

pub returns-clause-numbers : goal.returns-clause-numbers
returns-clause-numbers c = numbers_are_counted

pub returns-clause-once : goal.returns-clause-once
returns-clause-once c = λ k words.
    subst (IsDistinct same_pmac) (sym (map_mapped (λ (r : Registration). r.pmac) registered_as (known k words).learnt.addresses)) (reached_in_order k words).addresses
