use Rattle.std.proofs.Common.{◌≡◌, sym, ap, ◌∙◌, arith}
use Rattle.pl_switch_rule.specs.Delivering.{last_trap}
use Rattle.pl_migrate.specs.AddressTables.{address_table_in}
use Rattle.pl_migrate.proofs.Led.{last_end, last_further, last_none}
use Rattle.pl_migrate.proofs.address_table.AddressTable.last_trap.Goals as goal

pub loop-left-preserved : goal.loop-left-preserved
loop-left-preserved c = λ v.
    sym (last_further c.loop-left.left (address_table_in c.args.self.now v) c.loop-left.last c.in-Some.next c.loop-left-test.true (sym c.in-Some.is
    ∙ c.next_trap.ensures))
    ∙ c.loop-left.invariant v

pub returns-in-None : goal.returns-in-None
returns-in-None c = λ v.
    sym (last_end c.loop-left.left (address_table_in c.args.self.now v) c.loop-left.last (sym c.in-None.is ∙ c.next_trap.ensures))
    ∙ c.loop-left.invariant v ∙ ap (λ n. last_trap n (address_table_in c.args.self.now v) c.args.trap) c.addresses-left.ensures

pub returns : goal.returns
returns c = λ v.
    let done : c.loop-left.left ≡ 0 = omega arith in
    sym (ap (λ n. last_trap n (address_table_in c.args.self.now v) c.loop-left.last) done ∙ last_none (address_table_in c.args.self.now v) c.loop-left.last)
    ∙ c.loop-left.invariant v ∙ ap (λ n. last_trap n (address_table_in c.args.self.now v) c.args.trap) c.addresses-left.ensures
