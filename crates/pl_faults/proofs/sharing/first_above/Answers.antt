use Rattle.std.proofs.Common.{◌∙◌, ap, arith, length, sym}
use Rattle.std.specs.List.{filter}
use Rattle.std.proofs.lemmas.List.{take_all}
use Rattle.pl_frame.specs.declared.address.SwitchId.{SwitchId}
use Rattle.pl_layouts.specs.declared.place.Place.{Place}
use Rattle.pl_node.specs.AvoidLists.{is_level_above}
use Rattle.pl_node.specs.ManagerViews.{place_of}
use Rattle.pl_faults.proofs.Shared.{none_before_more}
use Rattle.pl_faults.proofs.sharing.first_above.Goals as goal

pub loop-i-preserved : goal.loop-i-preserved
loop-i-preserved c =
    let told = c.args.reports.now in let d : SwitchId = record { 0 = 0 } in
    none_before_more (λ u. is_level_above c.args.level (place_of told u).level) c.args.switches.now c.loop-i.i d (omega arith)
    (ap (λ (p : Place). is_level_above c.args.level p.level) (sym c.place_of.ensures) ∙ sym c.is_level_above.ensures ∙ c.if-is_level_above.false)
    c.loop-i.invariant

pub returns-clause-above : goal.returns-clause-above
returns-clause-above c =
    let ss = c.args.switches.now in
    ap (filter (λ u. is_level_above c.args.level (place_of c.args.reports.now u).level))
    (take_all (length ss) ss (omega arith) ∙ sym (take_all c.loop-i.i ss (omega arith)))
    ∙ c.loop-i.invariant
