use Rattle.std.proofs.Common.{◌≡◌, ◌∙◌, ◌==◌, ◌&&◌, Bool, List, None, ap, arith, filter, not, subst, sym}
use Rattle.std.proofs.lemmas.Grind.{common_steps}
use Rattle.std.specs.List.Sorted.{IsStrictlySortedBy}
use Rattle.pl_frame.specs.declared.address.SwitchId.{SwitchId}
use Rattle.pl_node.specs.declared.messages.TreePart.{TreePart}
use Rattle.pl_node.specs.ManagerViews.{alive_at_level, id_cmp}
use Rattle.pl_node.specs.Trees.{serves}
use Rattle.pl_manager_rule.proofs.Exports.{neighbours_rise}
use Rattle.pl_groups.specs.Serving.{many_served, served_at}
use Rattle.pl_groups.proofs.Branches.{core_down}
use Rattle.pl_groups.proofs.Reached.{is_adjacent}
use Rattle.pl_reports.proofs.Exports.{passing_done, passing_next}
use Rattle.pl_groups.proofs.parts.core_part.Goals as goal

pub loop-switch-preserved : goal.loop-switch-preserved
loop-switch-preserved c =
    passing_next (λ (a : SwitchId). is_adjacent c.args.reports.now c.args.core a && not (many_served (served_at c.args.reports.now c.args.needed.now a) == 0))
    c.neighbours-switch-items.result.now c.loop-switch.switch-index _ c.loop-switch.down c.add_if.new.list c.is_below-passes.result
    (grind (arith, common_steps)) c.loop-switch.invariant c.in_ok-add_if.ensures c.is_below-passes.ensures

pub returns : goal.returns
returns c =
    let told = c.args.reports.now in
    let below : SwitchId → Bool = λ a. is_adjacent told c.args.core a && not (many_served (served_at c.args.reports.now c.args.needed.now a) == 0) in
    let down : c.loop-switch.down ≡ filter (serves told c.args.needed.now) (alive_at_level told c.args.core 1) =
    passing_done below c.neighbours-switch-items.result.now c.loop-switch.switch-index c.loop-switch.down c.loop-switch-test.false c.loop-switch.invariant
    (subst (IsStrictlySortedBy id_cmp) (sym c.neighbours-switch-items.ensures) (neighbours_rise told c.args.core))
    ∙ ap (filter below) c.neighbours-switch-items.ensures
    ∙ core_down told c.args.needed.now c.args.core in
    ap (λ (xs : List SwitchId). let part : TreePart = record { up = None; down = xs } in part) down
