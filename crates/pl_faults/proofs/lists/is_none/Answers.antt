use Rattle.std.proofs.Common.{[]}
use Rattle.pl_manager_rule.proofs.Exports.{avoid_lists_alike}
use Rattle.pl_manager_rule.specs.ManagerRule.{same_avoid_list}
use Rattle.pl_node.proofs.Exports.{same_test}
use Rattle.pl_faults.proofs.lists.is_none.Goals as goal

pub returns : goal.returns
returns c =
    let alike = avoid_lists_alike c.args.list.now [] in
    same_test c.is_empty.result (same_avoid_list c.args.list.now []) (λ h. alike.1 (c.is_empty.ensures.0 h)) (λ h. c.is_empty.ensures.1 (alike.0 h))
