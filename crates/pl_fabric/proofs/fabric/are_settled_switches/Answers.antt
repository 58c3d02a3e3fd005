use Rattle.std.proofs.Common.{◌≡◌, ◌<◌, length, Some, get_or, slice_get, refl, ap, arith, below_more}
use Rattle.std.proofs.lemmas.Option.{slice_get-get_or, slice_get_within}
use Rattle.pl_wiring.specs.Labels.{switch_count}
use Rattle.pl_node.specs.SwitchFacts.{switch_at_boot}
use Rattle.pl_node.specs.SwitchViews.{SwitchView}
use Rattle.pl_fabric.specs.Settled.{IsSettledSwitch}
use Rattle.pl_fabric.proofs.fabric.are_settled_switches.Goals as goal

any_view : SwitchView
any_view = switch_at_boot (record { 0 = 0 }) 0

pub returns-then-not-is_settled_switch : goal.returns-then-not-is_settled_switch
returns-then-not-is_settled_switch g c =
    let w = c.args.world.now in
    let many = c.requires.formed.switches in
    let count = c.switch_count-s-end.ensures.count in
    let k = ap (λ plan. switch_count plan.k) c.wiring.ensures in
    let there : slice_get w.switches c.loop-s.s ≡ Some (get_or w.switches c.loop-s.s any_view) = slice_get-get_or w.switches c.loop-s.s any_view (omega arith) in
    (λ no. absurd (cc), λ all. (c.if-not-is_settled_switch.ensures (get_or w.switches c.loop-s.s any_view) there).1 (all c.loop-s.s _ there))

pub loop-s-preserved : goal.loop-s-preserved
loop-s-preserved g c = λ k v low found.
    let w = c.args.world.now in
    below_more (λ n. (v : SwitchView) → slice_get w.switches n ≡ Some v → IsSettledSwitch w n v) c.loop-s.s
    (λ n below v found. c.loop-s.invariant n v below found)
    (λ v found. (c.if-not-is_settled_switch.ensures v found).0 refl)
    k low v found

pub returns : goal.returns
returns g c =
    let w = c.args.world.now in
    let many = c.requires.formed.switches in
    let count = c.switch_count-s-end.ensures.count in
    let k = ap (λ plan. switch_count plan.k) c.wiring.ensures in (
      λ yes s v found.
          let within : s < length w.switches = slice_get_within w.switches s v found in
          c.loop-s.invariant s v (omega arith) found,
      λ all. refl,
    )
