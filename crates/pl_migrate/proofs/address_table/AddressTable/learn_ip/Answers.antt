use Rattle.std.proofs.Common.{Option, None, OnOk, subst, sym}
use Rattle.pl_frame.specs.declared.address.Ip4.{Ip4}
use Rattle.pl_node.specs.SwitchViews.{SwitchView}
use Rattle.pl_steps.specs.Taken.{IsTaken, IsTakenByPart}
use Rattle.pl_switch_rule.specs.Granting.{granted, learns_ip}
use Rattle.pl_migrate.specs.AddressTables.{address_table_in, granted_in, used_if}
use Rattle.pl_migrate.proofs.Uses.{no_ip, taken_resting}
use Rattle.pl_migrate.proofs.address_table.AddressTable.learn_ip.Goals as goal

pub returns-in-Some-clause-taken : goal.returns-in-Some-clause-taken
returns-in-Some-clause-taken c =
    subst (λ (ip : Option Ip4). OnOk c.learn_given_ip.result
    (IsTakenByPart address_table_in (λ v. learns_ip v c.args.pmac (granted v c.args.pmac) ip) c.args.self.now c.learn_given_ip.new.self c.args.out.now
    c.learn_given_ip.new.out))
    (sym c.in-Some.is) c.learn_given_ip.ensures.taken

pub returns-in-None-clause-taken : goal.returns-in-None-clause-taken
returns-in-None-clause-taken c = λ v.
    let w : SwitchView = address_table_in c.args.self.now v in
    subst (λ (ip : Option Ip4). IsTaken (learns_ip w c.args.pmac (granted_in c.args.self.now c.args.pmac) ip)
    (address_table_in c.used.new.self v) c.args.out.now c.args.out.now)
    (sym c.in-None.is)
    (taken_resting (learns_ip w c.args.pmac (granted_in c.args.self.now c.args.pmac) None) (used_if w c.args.pmac (granted_in c.args.self.now c.args.pmac))
    (address_table_in c.used.new.self v) c.args.out.now (c.used.ensures.step v) (no_ip w c.args.pmac (granted_in c.args.self.now c.args.pmac)))
