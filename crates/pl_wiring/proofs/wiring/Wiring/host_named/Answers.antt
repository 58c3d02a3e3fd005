use Rattle.std.proofs.Common.{◌≡◌, ℕ, List, sym}
use Rattle.std.specs.HashMap.{get_by_text}
use Rattle.pl_wiring.specs.declared.host.Host.{Host}
use Rattle.pl_wiring.proofs.Entered.{IsIndex-nothing}
use Rattle.pl_wiring.proofs.wiring.Wiring.host_named.Goals as goal

pub returns-in-None-clause-none : goal.returns-in-None-clause-none
returns-in-None-clause-none c =
    rw (← c.self.view_is) (IsIndex-nothing (get_by_text c.self.inside.names) (λ (h : Host) (text : List ℕ). h.name ≡ text)
    c.self.inside.hosts.items c.args.name.now c.self.invariant.hosts_by_name (sym c.in-None.ensures.value))

pub returns-in-Some-clause-found : goal.returns-in-Some-clause-found
returns-in-Some-clause-found c =
    rw (← c.self.view_is) (c.self.invariant.hosts_by_name.says c.args.name.now c.in-Some.number.now (sym c.in-Some.ensures.value))
