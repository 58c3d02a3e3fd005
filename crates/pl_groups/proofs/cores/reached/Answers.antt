use Rattle.std.proofs.Common.{◌∙◌, List, ap, arith, false, length, map, refl, take_all}
use Rattle.std.proofs.lemmas.Grind.{common_steps}
use Rattle.std.proofs.lemmas.Simd.{splat_is_map}
use Rattle.pl_frame.specs.declared.address.SwitchId.{SwitchId}
use Rattle.pl_groups.proofs.Rows.{reached_all, reached_in, reached_next}
use Rattle.pl_groups.proofs.cores.reached.Goals as goal

pub loop-switch-init : goal.loop-switch-init
loop-switch-init c = c.in_ok-reached.ensures ∙ splat_is_map c.args.needed.now (length c.args.needed.now) false refl

pub loop-switch-preserved : goal.loop-switch-preserved
loop-switch-preserved c =
    reached_next c.args.reports.now c.args.needed.now c.alive_neighbours-switch-items.result.now c.loop-switch.switch-index _
    c.loop-switch.reached c.reach_by-at.new.reached (grind (arith, common_steps)) c.loop-switch.invariant c.reach_by-at.ensures

pub returns : goal.returns
returns c =
    c.loop-switch.invariant
    ∙ ap (λ (xs : List SwitchId). map (reached_in c.args.reports.now xs) c.args.needed.now)
    (take_all c.loop-switch.switch-index c.alive_neighbours-switch-items.result.now c.loop-switch-test.false ∙ c.alive_neighbours-switch-items.ensures.value)
    ∙ reached_all c.args.reports.now c.args.needed.now c.args.core
