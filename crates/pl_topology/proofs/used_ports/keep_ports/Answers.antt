use Rattle.pl_topology.proofs.PortLemmas.{SeesPorts-spoken, SeesPorts-unspoken}
use Rattle.pl_topology.proofs.used_ports.keep_ports.Goals as goal

pub returns-in-Some : goal.returns-in-Some
returns-in-Some c = λ given before finds sees.
    SeesPorts-spoken c.args.used.now given before c.args.link.now c.entry_between.result c.in-Some.field-0 c.in-Some.is (c.entry_between.ensures.found given finds) sees

pub returns-in_ok-insert-in-None-2 : goal.returns-in_ok-insert-in-None-2
returns-in_ok-insert-in-None-2 c = λ given before finds sees.
    SeesPorts-unspoken c.args.used.now c.insert.new.self c.insert-in-None.new.self given before c.args.link.now c.entry_between.result c.in-None.is (c.entry_between.ensures.found given finds) sees
    c.in_ok-insert-in-None.ensures.updates c.in_ok-insert-in-None-2.ensures.updates
