use Rattle.std.proofs.Common.{sym, ◌∙◌}
use Rattle.pl_topology.proofs.FoundLemmas.{not_there, was_there}
use Rattle.pl_topology.proofs.PortLemmas.{seen_free, seen_push, taken_free, taken_out, taken_push, taken_used}
use Rattle.pl_topology.proofs.used_ports.take_port.Goals as goal

pub returns-in_default-clause-exact : goal.returns-in_default-clause-exact
returns-in_default-clause-exact c = λ before sees. taken_out c.args.k before c.args.taken.now c.bad_port.result c.bad_port.ensures c.in_default.ensures.none

pub returns-then-not-taken-clause-exact : goal.returns-then-not-taken-clause-exact
returns-then-not-taken-clause-exact c = λ before sees.
    seen_free c.args.k before c.args.taken.now c.in-Some.number c.in-Some.ensures.found c.if-not-taken.true c.in-Some.ensures.below

pub returns-then-not-taken-clause-sees : goal.returns-then-not-taken-clause-sees
returns-then-not-taken-clause-sees c = λ before sees.
    seen_push c.args.used.now before c.args.taken.now c.in-Some.number c.in-Some.ensures.found c.if-not-taken.true sees

pub returns-then-not-branch-clause-exact : goal.returns-then-not-branch-clause-exact
returns-then-not-branch-clause-exact c = λ before sees.
    taken_used c.args.k before c.args.taken.now c.in-Some.number c.bad_port-then-not-branch.result c.in-Some.ensures.found c.if-not-taken.false c.bad_port-then-not-branch.ensures
    (sym (sees c.args.taken.now.switch.0 c.in-Some.number) ∙ was_there _ _ c.in_ok-insert.ensures.added c.if-not-branch.true)

pub returns-clause-exact : goal.returns-clause-exact
returns-clause-exact c = λ before sees.
    taken_free c.args.k before c.args.taken.now c.in-Some.number c.in-Some.ensures.found c.if-not-taken.false c.in-Some.ensures.below
    (sym (sees c.args.taken.now.switch.0 c.in-Some.number) ∙ not_there _ _ c.in_ok-insert.ensures.added c.if-not-branch.false)

pub returns-clause-sees : goal.returns-clause-sees
returns-clause-sees c = λ before sees.
    taken_push c.args.used.now c.insert.new.self before c.args.taken.now c.in-Some.number c.in-Some.ensures.found c.if-not-taken.false sees c.in_ok-insert.ensures.updates
