use Rattle.std.proofs.Common.{◌≡◌, ◌+◌, None, sym, ap, subst, get_or, slice_set, arith}
use Rattle.pl_migrate.proofs.AllLearnt.{IsLearning, learning_done, learning_first, learning_more}
use Rattle.pl_migrate.proofs.address_table.AddressTable.learn_all_remembered.Goals as goal

pub loop-port-init : goal.loop-port-init
loop-port-init c = learning_first c.args.k c.args.self.now c.args.remembered.now c.args.out.now

pub loop-port-preserved : goal.loop-port-preserved
loop-port-preserved c =
    let e = c.in_ok-learn_remembered.ensures in
    let read = ap (λ n. get_or c.loop-port.remembered n None) c.from.ensures in
    let within = c.loop-port-test.true in
    subst (λ n. IsLearning c.args.k (c.loop-port.port + 1) c.learn_remembered.new.self c.args.self.now
    (slice_set c.loop-port.remembered n None) c.args.remembered.now c.learn_remembered.new.out c.args.out.now)
    (sym c.from-in-loop-port.ensures)
    (learning_more c.args.k c.loop-port.port c.loop-port.self c.learn_remembered.new.self c.args.self.now c.loop-port.remembered c.args.remembered.now
    (get_or c.loop-port.remembered c.from.result None) c.loop-port.out c.learn_remembered.new.out c.args.out.now
    within read e.taken e.kept e.traps e.caught_up c.loop-port.invariant)

pub returns-clause-taken : goal.returns-clause-taken
returns-clause-taken c =
    let all : c.loop-port.port ≡ c.args.k = omega arith in
    learning_done c.args.k c.loop-port.port c.loop-port.self c.args.self.now c.loop-port.remembered c.args.remembered.now c.loop-port.out c.args.out.now
    all c.loop-port.invariant
