use Rattle.std.proofs.Common.{◌∙◌, false, length, map, refl, sym, take, take_all}
use Rattle.std.specs.List.{list_any}
use Rattle.std.proofs.lemmas.List.Folds.{list_any_more}
use Rattle.std.proofs.lemmas.Simd.{splat_is_map}
use Rattle.pl_frame.specs.declared.address.SwitchId.{SwitchId}
use Rattle.pl_layouts.specs.Equality.{same_switch}
use Rattle.pl_groups.proofs.Edges.{alive_back, served_by_neighbours}
use Rattle.pl_groups.proofs.serving.row_of.Goals as goal

pub loop-neighbour-init : goal.loop-neighbour-init
loop-neighbour-init c = c.in_ok-row.ensures ∙ splat_is_map c.args.needed.now (length c.args.needed.now) false refl

pub loop-neighbour-preserved : goal.loop-neighbour-preserved
loop-neighbour-preserved c =
    let us = c.args.alive.now in let i = c.loop-neighbour.neighbour-index in let d : SwitchId = record { 0 = 0 } in
    c.mark-near.ensures (λ e. list_any (same_switch e) (take i us)) c.loop-neighbour.invariant
    ∙ (λ j. map (λ (e : SwitchId). sym (list_any_more (same_switch e) us i d c.loop-neighbour-test.true) j) c.args.needed.now)

pub returns : goal.returns
returns c told s are =
    c.loop-neighbour.invariant
    ∙ (λ j. map (λ (e : SwitchId). list_any (same_switch e)
    ((take_all c.loop-neighbour.neighbour-index c.args.alive.now c.loop-neighbour-test.false ∙ are) j)) c.args.needed.now)
    ∙ (λ j. map (λ (e : SwitchId). (served_by_neighbours told s e ∙ alive_back told e s) j) c.args.needed.now)
