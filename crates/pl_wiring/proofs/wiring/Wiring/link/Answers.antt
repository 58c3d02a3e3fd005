use Rattle.std.proofs.Common.{IfNone, Option, None, Some, arith, ◌≤◌}
use Rattle.pl_wiring.proofs.Ends.{none_between, turned_none}
use Rattle.pl_wiring.proofs.wiring.Wiring.link.Goals as goal

if_none : {X P Q : Type 0} (o : Option X) → (P → Q) → IfNone o P → IfNone o Q
if_none None f h = f h
if_none (Some x) f h = h

pub returns-then-a-b-clause-none : goal.returns-then-a-b-clause-none
returns-then-a-b-clause-none c =
    let order : c.args.a.0 ≤ c.args.b.0 = omega arith in
    if_none c.link_up.result
    (none_between c.args.self.now.k c.args.self.now.links c.args.a c.args.b c.link_up.ensures.plan.tree order) c.link_up.ensures.none

pub returns-else-a-b-clause-none : goal.returns-else-a-b-clause-none
returns-else-a-b-clause-none c =
    let up = c.link_up-else-a-b in
    if_none up.result
    (λ none. turned_none c.args.self.now.links c.args.b.0 c.args.a.0
    (none_between c.args.self.now.k c.args.self.now.links c.args.b c.args.a up.ensures.plan.tree c.if-a-b.false none)) up.ensures.none
