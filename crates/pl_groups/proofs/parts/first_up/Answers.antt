use Rattle.std.proofs.Common.{◌∙◌, ◌&&◌, Bool, ap, arith, sym, take_all}
use Rattle.std.specs.List.{find}
use Rattle.std.proofs.lemmas.Grind.{common_steps}
use Rattle.pl_frame.specs.declared.address.SwitchId.{SwitchId}
use Rattle.pl_node.specs.ManagerViews.{has_level, has_pod, is_alive}
use Rattle.pl_groups.proofs.Branches.{found_next, none_next, up_found}
use Rattle.pl_groups.proofs.parts.first_up.Goals as goal

pub returns-then-leads_up : goal.returns-then-leads_up
returns-then-leads_up c s are =
    let told = c.args.reports.now in let core = c.args.root.now.core in
    let leads : SwitchId → Bool = λ a. has_level told a 1 && (has_pod told a c.args.pod && is_alive told a core) in
    sym (ap (find leads) (sym are)
    ∙ found_next leads c.args.alive.now c.loop-neighbour.neighbour-index _ (grind (arith, common_steps)) c.loop-neighbour.invariant
    (sym c.leads_up.ensures ∙ c.if-leads_up.true))
    ∙ up_found told s (λ a. has_pod told a c.args.pod && is_alive told a core)

pub loop-neighbour-preserved : goal.loop-neighbour-preserved
loop-neighbour-preserved c =
    let told = c.args.reports.now in let core = c.args.root.now.core in
    none_next (λ (a : SwitchId). has_level told a 1 && (has_pod told a c.args.pod && is_alive told a core))
    c.args.alive.now c.loop-neighbour.neighbour-index _ (grind (arith, common_steps)) c.loop-neighbour.invariant
    (sym c.leads_up.ensures ∙ c.if-leads_up.false)

pub returns : goal.returns
returns c s are =
    let told = c.args.reports.now in let core = c.args.root.now.core in
    let leads : SwitchId → Bool = λ a. has_level told a 1 && (has_pod told a c.args.pod && is_alive told a core) in
    sym c.loop-neighbour.invariant
    ∙ ap (find leads) (take_all c.loop-neighbour.neighbour-index c.args.alive.now c.loop-neighbour-test.false
    ∙ are)
    ∙ up_found told s (λ a. has_pod told a c.args.pod && is_alive told a core)
