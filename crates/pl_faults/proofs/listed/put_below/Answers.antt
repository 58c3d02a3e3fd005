use Rattle.std.proofs.Common.{◌∙◌, ap, cond, get_or, sym}
use Rattle.std.specs.BTreeSet.{insert_key}
use Rattle.std.proofs.lemmas.List.Sums.{fold_more}
use Rattle.pl_frame.specs.declared.address.SwitchId.{SwitchId}
use Rattle.pl_node.specs.AvoidLists.{is_level_above}
use Rattle.pl_node.specs.ManagerViews.{id_cmp, place_of}
use Rattle.pl_faults.specs.Listed.{with_lower}
use Rattle.pl_faults.proofs.listed.put_below.Goals as goal

pub loop-switch-preserved : goal.loop-switch-preserved
loop-switch-preserved c =
    let told = c.args.reports.now in let step = with_lower told c.args.above in let ts = c.args.hearers.now in
    let i = c.loop-switch.switch-index in let d : SwitchId = record { 0 = 0 } in let t = get_or ts i d in let was = c.loop-switch.list in
    c.in_ok-put_lower.ensures
    ∙ ap (λ p. cond (is_level_above (place_of told t).level p.level) (insert_key id_cmp was t) was) c.place_of-high.ensures
    ∙ ap (λ list. step list t) c.loop-switch.invariant
    ∙ sym (fold_more step c.args.list.now ts i d c.loop-switch-test.true)
