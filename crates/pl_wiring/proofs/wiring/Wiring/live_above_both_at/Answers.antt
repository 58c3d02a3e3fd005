use Rattle.std.proofs.Common.{◌∙◌, sym, ap, eq-eqb}
use Rattle.pl_wiring.specs.LiveLinks.{IsLive}
use Rattle.pl_wiring.proofs.Climbing.{one_switch}
use Rattle.pl_wiring.proofs.wiring.Wiring.live_above_both_at.Goals as goal

pub returns-else-eq-clause-none : goal.returns-else-eq-clause-none
returns-else-eq-clause-none c = λ top to_left to_right.
    let left = one_switch c.args.self.now (IsLive c.args.links.now) c.args.a c.args.uplink c.in_ok-left.left top c.in_ok-left.ensures.found to_left in
    let right = one_switch c.args.self.now (IsLive c.args.links.now) c.args.b c.args.uplink c.in_ok-right.right top c.in_ok-right.ensures.found to_right in
    let same = left ∙ sym right in
    let test = eq-eqb c.in_ok-left.left.0 c.in_ok-right.right.0 (ap (λ s. s.0) same) in cc (test, c.if-eq.ensures)
