use Rattle.std.proofs.Common.{Option, None, Some, IfNone}
use Rattle.pl_wiring.specs.LiveLinks.{IsLive}
use Rattle.pl_wiring.proofs.Climbing.{above_edge-range, one_switch, path_over_core}
use Rattle.pl_wiring.proofs.wiring.Wiring.live_path_at.Goals as goal

none_as : {X P : Type 0} (o : Option X) → P → IfNone o P
none_as None p = p
none_as (Some x) p = tt

pub returns-in_err-left-clause-none : goal.returns-in_err-left-clause-none
returns-in_err-left-clause-none c = none_as c.from_residual.result (λ left right to_left to_right top up_left up_right. c.in_err-left.ensures.none left to_left)

pub returns-in_err-right-clause-none : goal.returns-in_err-right-clause-none
returns-in_err-right-clause-none c =
    none_as c.from_residual-in_err-right.result (λ left right to_left to_right top up_left up_right. c.in_err-right.ensures.none right to_right)

pub live_above_both-requires-clause-a : goal.live_above_both-requires-clause-a
live_above_both-requires-clause-a c =
    (above_edge-range c.args.self.now (IsLive c.args.links.now) c.args.start c.args.uplink c.in_ok-left.left c.in_ok-left.ensures.plan
    c.requires.start c.requires.uplink c.in_ok-left.ensures.found).1

pub live_above_both-requires-clause-b : goal.live_above_both-requires-clause-b
live_above_both-requires-clause-b c =
    (above_edge-range c.args.self.now (IsLive c.args.links.now) c.args.end c.args.uplink c.in_ok-right.right c.in_ok-right.ensures.plan
    c.requires.end c.requires.uplink c.in_ok-right.ensures.found).1

pub returns-in_err-core-clause-none : goal.returns-in_err-core-clause-none
returns-in_err-core-clause-none c = none_as c.from_residual-in_err-core.result (λ left right to_left to_right top up_left up_right.
    let plan = c.args.self.now in
    let live = IsLive c.args.links.now in
    let is_left = one_switch plan live c.args.start c.args.uplink left c.in_ok-left.left to_left c.in_ok-left.ensures.found in
    let is_right = one_switch plan live c.args.end c.args.uplink right c.in_ok-right.right to_right c.in_ok-right.ensures.found in
    c.in_err-core.ensures.none top (rw (← is_left) up_left) (rw (← is_right) up_right))

pub returns-clause-found : goal.returns-clause-found
returns-clause-found c =
    rw c.over_core.ensures (path_over_core c.args.self.now (IsLive c.args.links.now) c.args.start c.in_ok-left.left c.in_ok-core.core c.in_ok-right.right c.args.end
    c.args.uplink c.in_ok-left.ensures.plan c.requires.start c.requires.end c.requires.uplink c.requires.apart c.requires.not_below
    c.in_ok-left.ensures.found c.in_ok-right.ensures.found c.in_ok-core.ensures.found.0 c.in_ok-core.ensures.found.1)
