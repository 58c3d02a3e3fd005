use Rattle.std.proofs.Common.{refl, ap, arith, below_more}
use Rattle.pl_fabric.proofs.switches.are_settled_ports.Goals as goal

pub loop-port-preserved : goal.loop-port-preserved
loop-port-preserved g c = λ v found. below_more _ _ (c.loop-port.invariant v found) ((c.if-not-is_settled_port.ensures v found).0 refl)

pub returns : goal.returns
returns g c =
    let k = ap (λ plan. plan.k) c.wiring.ensures in
    let port_end = c.k-port-end.ensures.k in
    λ v found. (λ yes port low. c.loop-port.invariant v found port (omega arith), λ all. refl)
