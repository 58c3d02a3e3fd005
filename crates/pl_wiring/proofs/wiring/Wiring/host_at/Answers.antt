use Rattle.std.proofs.Common.{ℕ, sym}
use Rattle.pl_wiring.specs.declared.host.Host.{Host}
use Rattle.pl_wiring.specs.Index.{look_at}
use Rattle.pl_wiring.specs.Plan.{IsAttachedAt}
use Rattle.pl_wiring.proofs.Entered.{IsIndex-nothing}
use Rattle.pl_wiring.proofs.wiring.Wiring.host_at.Goals as goal

pub returns-in-None-clause-none : goal.returns-in-None-clause-none
returns-in-None-clause-none c =
    rw (← c.self.view_is) (IsIndex-nothing (look_at c.self.inside.k c.self.inside.host_at.items) (λ (h : Host) (key : ℕ × ℕ). IsAttachedAt h key.0 key.1)
    c.self.inside.hosts.items (c.args.switch.0, c.args.port) c.self.invariant.hosts_by_port (sym (rw c.deref.ensures.value at c.in-None.ensures)))

pub returns-in-Some-clause-found : goal.returns-in-Some-clause-found
returns-in-Some-clause-found c =
    rw (← c.self.view_is) (c.self.invariant.hosts_by_port.says (c.args.switch.0, c.args.port) c.in-Some.number (sym (rw c.deref.ensures.value at c.in-Some.ensures)))
