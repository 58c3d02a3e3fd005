use Rattle.std.proofs.Common.{◌∙◌, Bool, Some, ap, arith, filter, not, subst, sym}
use Rattle.std.proofs.lemmas.Grind.{common_steps}
use Rattle.std.specs.Option.{option_copied}
use Rattle.std.specs.List.Sorted.{IsStrictlySortedBy}
use Rattle.pl_frame.specs.declared.address.SwitchId.{SwitchId}
use Rattle.pl_node.specs.ManagerViews.{id_cmp, switches}
use Rattle.pl_manager_rule.specs.ManagerRule.{same_part}
use Rattle.pl_manager_rule.proofs.Exports.{switches_rise}
use Rattle.pl_groups.specs.Kept.{part_in_tree}
use Rattle.pl_reports.proofs.Exports.{passing_done, passing_next}
use Rattle.pl_groups.proofs.Bare.{none_differs}
use Rattle.pl_groups.proofs.groups.changed.Goals as goal

pub loop-i-preserved : goal.loop-i-preserved
loop-i-preserved c =
    passing_next (λ (s : SwitchId). not (same_part (part_in_tree (option_copied c.args.before) s) (part_in_tree (Some c.args.after.now) s)))
    c.switches-switches.result.now c.loop-i.i _ c.loop-i.changed c.add_if.new.list (not c.same_part-is_same.result)
    (grind (arith, common_steps)) c.loop-i.invariant c.in_ok-add_if.ensures
    (ap not (c.same_part-is_same.ensures ∙ λ i. same_part (c.part_of.ensures i) (c.part_of-in-loop-i.ensures i)))

pub returns-then-has_no_parts-2 : goal.returns-then-has_no_parts-2
returns-then-has_no_parts-2 c =
    c.new.ensures
    ∙ none_differs (part_in_tree (option_copied c.args.before)) (part_in_tree (Some c.args.after.now))
    (c.has_no_parts.ensures c.if-has_no_parts.true) (c.has_no_parts-then-has_no_parts.ensures c.if-has_no_parts-2.true) (switches c.args.reports.now)

pub returns : goal.returns
returns c =
    let differs : SwitchId → Bool = λ s. not (same_part (part_in_tree (option_copied c.args.before) s) (part_in_tree (Some c.args.after.now) s)) in
    passing_done differs c.switches-switches.result.now c.loop-i.i c.loop-i.changed c.loop-i-test.false c.loop-i.invariant
    (subst (IsStrictlySortedBy id_cmp) (sym c.switches-switches.ensures) (switches_rise c.args.reports.now))
    ∙ ap (filter differs) c.switches-switches.ensures
