use Rattle.std.proofs.Common.{◌+◌, ap, get_or, subst, sym, take}
use Rattle.std.specs.BTreeMap.{is_at}
use Rattle.std.proofs.lemmas.List.{take_all}
use Rattle.std.proofs.lemmas.List.Folds.{list_any_more}
use Rattle.pl_frame.specs.declared.address.SwitchId.{SwitchId}
use Rattle.pl_node.specs.ManagerViews.{id_cmp}
use Rattle.pl_faults.specs.Listed.{is_in}
use Rattle.pl_faults.specs.Missed.{AreApart}
use Rattle.pl_faults.proofs.Anew.{no_table_renewed, one_table_renewed, tables_renewed_of}
use Rattle.pl_faults.proofs.Shared.{shared_at}
use Rattle.pl_faults.proofs.tables.Tables.renew_lists.Goals as goal

pub loop-switch-init : goal.loop-switch-init
loop-switch-init c led = (
  no_table_renewed c.args.self.now,
  record { leading = led; apart = λ h. subst AreApart (c.as_slice.ensures.value) (c.are_apart-apart.ensures h); shared = tt },
)

pub loop-switch-preserved : goal.loop-switch-preserved
loop-switch-preserved c led =
    let ss = c.args.asked.now in let i = c.loop-switch.switch-index in let d : SwitchId = record { 0 = 0 } in
    let so = (c.loop-switch.invariant led).0 in let last = (c.loop-switch.invariant led).1 in let mid = c.loop-switch.self in
    let apart = c.are_apart-apart.result in let known = shared_at apart c.loop-switch.last (sym so.told) (sym so.leading) last in (
      one_table_renewed c.args.self.now (is_in (take i ss)) (is_in (take (i + 1) ss)) (get_or ss i d) mid c.renew_list.new.self
          (λ t. list_any_more (is_at (id_cmp t)) ss i d c.loop-switch-test.true) so (c.in_ok-last.ensures.list known),
      shared_at apart c.in_ok-last.last so.told so.leading (c.in_ok-last.ensures.next known),
    )

pub returns : goal.returns
returns c led =
    let ss = c.args.asked.now in let i = c.loop-switch.switch-index in
    tables_renewed_of c.args.self.now (is_in (take i ss)) (is_in ss) c.loop-switch.self
    (λ t. ap (λ xs. is_in xs t) (take_all i ss c.loop-switch-test.false)) (c.loop-switch.invariant led).0
