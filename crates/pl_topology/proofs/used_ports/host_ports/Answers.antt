use Rattle.std.proofs.Common.{◌+◌, ◌<◌, ◌++◌, length, take, drop, ap, ◌∙◌, arith}
use Rattle.std.proofs.lemmas.Result.{err_from_is_err_and}
use Rattle.std.specs.List.{flat_map}
use Rattle.pl_topology.specs.Checks.{host_uses, port_is_free}
use Rattle.pl_topology.specs.Refusal.{each_beside}
use Rattle.pl_topology.proofs.RefusalLemmas.{ReadingGives-exit, each_beside-turn, flat_more, turn_ok}
use Rattle.pl_topology.proofs.used_ports.host_ports.Goals as goal

pub returns-in_err-take_ports : goal.returns-in_err-take_ports
returns-in_err-take_ports c = λ before sees.
    let p = err_from_is_err_and c.from_residual.result c.from_residual.ensures.1 in
    let hosts = c.args.hosts.now in
    let i = c.loop-host.host-index in
    let within : i < length hosts = omega arith in
    let inv = c.loop-host.invariant in
    let front = before ++ flat_map host_uses (take i hosts) in
    let turn = each_beside-turn (port_is_free c.args.k) host_uses front hosts i c.host-item.result c.host-item.result within c.host-item.is in
    let given = (rw c.host_uses.ensures at (c.take_ports.ensures.exact front (inv.seen before sees))) in
    rw (← inv.rest before sees, turn)
    (ReadingGives-exit (λ u. u) c.from_residual.result (λ u. u) c.take_ports.result p.0 c.in_err-take_ports.field-0.0 _ _ p.1 p.2 c.in_err-take_ports.was given)

pub loop-host-preserved : goal.loop-host-preserved
loop-host-preserved c =
    let hosts = c.args.hosts.now in
    let i = c.loop-host.host-index in
    let within : i < length hosts = omega arith in
    let inv = c.loop-host.invariant in
    record {
      seen = λ before sees.
          let front = before ++ flat_map host_uses (take i hosts) in
          let seen = (rw c.host_uses.ensures at (c.in_ok-take_ports.ensures.sees front (inv.seen before sees))) in
          rw (flat_more host_uses before hosts i c.host-item.result c.host-item.result within c.host-item.is) seen;
      rest = λ before sees.
          let front = before ++ flat_map host_uses (take i hosts) in
          let passed = (rw c.host_uses.ensures at (c.in_ok-take_ports.ensures.exact front (inv.seen before sees))) in
          ap (λ b. each_beside (port_is_free c.args.k) b (flat_map host_uses (drop (i + 1) hosts))) (flat_more host_uses before hosts i c.host-item.result c.host-item.result within c.host-item.is)
          ∙ turn_ok (port_is_free c.args.k) host_uses front hosts i c.host-item.result c.host-item.result within c.host-item.is passed ∙ inv.rest before sees;
    }
