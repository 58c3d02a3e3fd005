use Rattle.std.proofs.Common.{◌≡◌, subst, arith}
use Rattle.pl_lemmas.proofs.Exports.{all_found}
use Rattle.pl_wiring.specs.Peers.{IsPort}
use Rattle.pl_fabric.proofs.switches.is_settled_towards.Goals as goal

pub is_settled_end-requires-clause-here : goal.is_settled_end-requires-clause-here
is_settled_end-requires-clause-here g c =
    let w = c.args.world.now in
    let same = all_found (λ v. v.k ≡ w.plan.k) w.switches c.args.s.0 (g.S.SwitchFacts.view c.switch.result.now) c.requires.counted.formed.ports c.switch.ensures in
    omega arith

pub is_settled_end-requires-clause-there : goal.is_settled_end-requires-clause-there
is_settled_end-requires-clause-there g c =
    let w = c.args.world.now in
    let same = all_found (λ v. v.k ≡ w.plan.k) w.switches c.in-Switch.t.0 (g.S.SwitchFacts.view c.switch-in-Switch.result.now) c.requires.counted.formed.ports
    c.switch-in-Switch.ensures in
    let port = subst (IsPort w.plan.k) c.in-Switch.is c.requires.there in
    omega (arith, port.1)
