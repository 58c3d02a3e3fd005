use Rattle.std.proofs.Common.{◌+◌, ◌<◌, ◌++◌, length, take, drop, get_or, refl, ap, ◌∙◌, arith}
use Rattle.std.proofs.lemmas.Result.{err_from_is_err_and}
use Rattle.std.specs.List.{flat_map}
use Rattle.pl_topology.specs.Checks.{link_uses, port_is_free}
use Rattle.pl_topology.specs.Refusal.{each_beside}
use Rattle.pl_topology.proofs.PortLemmas.{no_link}
use Rattle.pl_topology.proofs.RefusalLemmas.{ReadingGives-exit, each_beside-turn, flat_more, turn_ok}
use Rattle.pl_topology.proofs.used_ports.link_ports.Goals as goal

pub returns-in_err-take_ports-clause-exact : goal.returns-in_err-take_ports-clause-exact
returns-in_err-take_ports-clause-exact c = λ before sees.
    let p = err_from_is_err_and c.from_residual.result c.from_residual.ensures.1 in
    let entries = c.args.entries.now in
    let i = c.loop-entry.entry-index in
    let within : i < length entries = omega arith in
    let inv = c.loop-entry.invariant in
    let front = before ++ flat_map (link_uses c.args.k) (take i entries) in
    let turn = each_beside-turn (port_is_free c.args.k) (link_uses c.args.k) front entries i no_link (get_or entries i no_link) within refl in
    let given = (rw c.link_uses.ensures at (c.take_ports.ensures.exact front (inv.seen before sees))) in
    rw (← inv.rest before sees, turn)
    (ReadingGives-exit (λ u. u) c.from_residual.result (λ u. u) c.take_ports.result p.0 c.in_err-take_ports.field-0.0 _ _ p.1 p.2 c.in_err-take_ports.was given)

pub loop-entry-preserved : goal.loop-entry-preserved
loop-entry-preserved c =
    let entries = c.args.entries.now in
    let i = c.loop-entry.entry-index in
    let within : i < length entries = omega arith in
    let inv = c.loop-entry.invariant in
    record {
      seen = λ before sees.
          let front = before ++ flat_map (link_uses c.args.k) (take i entries) in
          let seen = (rw c.link_uses.ensures at (c.in_ok-take_ports.ensures.sees front (inv.seen before sees))) in
          rw (flat_more (link_uses c.args.k) before entries i no_link (get_or entries i no_link) within refl) seen;
      rest = λ before sees.
          let front = before ++ flat_map (link_uses c.args.k) (take i entries) in
          let passed = (rw c.link_uses.ensures at (c.in_ok-take_ports.ensures.exact front (inv.seen before sees))) in
          ap (λ b. each_beside (port_is_free c.args.k) b (flat_map (link_uses c.args.k) (drop (i + 1) entries))) (flat_more (link_uses c.args.k) before entries i no_link (get_or entries i no_link) within refl)
          ∙ turn_ok (port_is_free c.args.k) (link_uses c.args.k) front entries i no_link (get_or entries i no_link) within refl passed ∙ inv.rest before sees;
    }
