use Rattle.std.proofs.Common.{◌≡◌, ◌≤◌, ◌∙◌, ◌<◌, ap, arith, length, map, subst, sym}
use Rattle.std.specs.List.Sorted.{IsStrictlySortedBy}
use Rattle.std.proofs.lemmas.List.{take_all}
use Rattle.pl_frame.specs.declared.address.SwitchId.{SwitchId}
use Rattle.pl_node.specs.ManagerViews.{id_cmp, switches}
use Rattle.pl_node.specs.Trees.{part_under}
use Rattle.pl_manager_rule.proofs.Exports.{switches_rise}
use Rattle.pl_reports.proofs.Exports.{all_rising, put_all}
use Rattle.pl_groups.specs.Kept.{part_beside}
use Rattle.pl_groups.proofs.Beside.{beside_mapped}
use Rattle.pl_groups.proofs.Placed.{mapped_next, report_is, taken_next}
use Rattle.pl_groups.proofs.tree.parts_under.Goals as goal

pub part_under-requires-clause-report : goal.part_under-requires-clause-report
part_under-requires-clause-report c =
    let ss = c.switches-switches.result.now in let d : SwitchId = record { 0 = 0 } in
    let within : c.loop-i.i < length ss = omega arith in
    c.index-all-i.is ∙ report_is c.args.reports.now c.args.all.now ss c.loop-i.i c.index-all-i.result d c.requires.all c.switches-switches.ensures within

pub loop-i-preserved : goal.loop-i-preserved
loop-i-preserved c =
    let told = c.args.reports.now in let ss = c.switches-switches.result.now in let d : SwitchId = record { 0 = 0 } in
    let within : c.loop-i.i < length ss = omega arith in
    mapped_next (λ (s : SwitchId). part_under told c.args.needed.now s c.args.core) (switches told) c.loop-i.i _ c.loop-i.parts.items c.push.new.self.items
    c.in_ok-part.part (taken_next told ss c.loop-i.i d c.switches-switches.ensures within) c.loop-i.invariant c.in_ok-push.ensures.items
    (c.in_ok-part.ensures ∙ ap (part_under told c.args.needed.now _) c.in_ok-root.ensures.core)

pub returns : goal.returns
returns c = λ s.
    let told = c.args.reports.now in let ss = c.switches-switches.result.now in
    let same : length ss ≡ length (switches told) = ap length c.switches-switches.ensures in
    let past : length (switches told) ≤ c.loop-i.i = omega (arith, same, c.loop-i-test.false) in
    let f = λ (t : SwitchId). part_under told c.args.needed.now t c.args.core in
    let all = c.in_ok-add_all.ensures ∙ (λ i. put_all (c.new-list.ensures i) ss)
    ∙ all_rising ss (subst (IsStrictlySortedBy id_cmp) (sym c.switches-switches.ensures) (switches_rise told)) ∙ c.switches-switches.ensures in
    let parts = c.loop-i.invariant ∙ ap (map f) (take_all c.loop-i.i (switches told) past) in
    (λ i. part_beside (all i) (parts i) s) ∙ beside_mapped f (switches told) s
