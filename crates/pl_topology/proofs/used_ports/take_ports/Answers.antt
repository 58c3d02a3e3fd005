use Rattle.std.proofs.Common.{◌<◌, ◌++◌, length, take, get_or, refl, ◌∙◌, arith}
use Rattle.std.proofs.lemmas.Result.{err_from_is_err_and}
use Rattle.pl_topology.specs.Checks.{port_is_free}
use Rattle.pl_topology.proofs.PortLemmas.{no_use}
use Rattle.pl_topology.proofs.RefusalLemmas.{ReadingGives-exit, each_beside-first, each_beside-next, front_more}
use Rattle.pl_topology.proofs.used_ports.take_ports.Goals as goal

pub returns-in_err-take_port-clause-exact : goal.returns-in_err-take_port-clause-exact
returns-in_err-take_port-clause-exact c = λ before sees.
    let p = err_from_is_err_and c.from_residual.result c.from_residual.ensures.1 in
    let uses = c.args.uses.now in
    let i = c.loop-taken.taken-index in
    let within : i < length uses = omega arith in
    let inv = c.loop-taken.invariant in
    let first = each_beside-first (port_is_free c.args.k) (before ++ take i uses) uses i _ _ within refl in
    rw (← inv.rest before sees, first)
    (ReadingGives-exit (λ u. u) c.from_residual.result (λ u. u) c.take_port.result p.0 c.in_err-take_port.field-0.0 _ _ p.1 p.2 c.in_err-take_port.was
    (c.take_port.ensures.exact (before ++ take i uses) (inv.seen before sees)))

pub loop-taken-preserved : goal.loop-taken-preserved
loop-taken-preserved c =
    let uses = c.args.uses.now in
    let i = c.loop-taken.taken-index in
    let within : i < length uses = omega arith in
    let inv = c.loop-taken.invariant in
    record {
      seen = λ before sees. rw (front_more before uses i no_use (get_or uses i no_use) within refl) (c.in_ok-take_port.ensures.sees (before ++ take i uses) (inv.seen before sees));
      rest = λ before sees.
          each_beside-next (port_is_free c.args.k) before uses i no_use (get_or uses i no_use) within refl (c.in_ok-take_port.ensures.exact (before ++ take i uses) (inv.seen before sees)) ∙ inv.rest before sees;
    }
