use Rattle.std.proofs.Common.{◌∙◌, [], ap, sym, take_all}
use Rattle.std.specs.List.{find}
use Rattle.pl_arp.specs.declared.cache.Me.{Me}
use Rattle.pl_layouts.specs.Equality.{same_mac}
use Rattle.pl_host.proofs.Finding.{found_next, none_next}
use Rattle.pl_host.proofs.owners.first_with.Goals as goal

abbrev nobody : Me
nobody = record { mac = record { 0 = [] }; ip = record { 0 = 0 } }

pub returns-then-eq : goal.returns-then-eq
returns-then-eq c =
    sym (found_next (λ host. same_mac host.mac c.args.mac) c.args.hosts.now c.loop-host.host-index nobody c.loop-host-test.true
    c.loop-host.invariant (sym c.eq.ensures ∙ c.if-eq.true))

pub loop-host-preserved : goal.loop-host-preserved
loop-host-preserved c =
    none_next (λ host. same_mac host.mac c.args.mac) c.args.hosts.now c.loop-host.host-index nobody c.loop-host-test.true
    c.loop-host.invariant (sym c.eq.ensures ∙ c.if-eq.false)

pub returns : goal.returns
returns c =
    sym c.loop-host.invariant
    ∙ ap (find (λ host. same_mac host.mac c.args.mac)) (take_all c.loop-host.host-index c.args.hosts.now c.loop-host-test.false)
