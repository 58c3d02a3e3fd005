use Rattle.std.proofs.Common.{◌≡◌, ◌<◌, ◌∙◌, None, Some, ap, length, refl, subst, sym}
use Rattle.pl_node.specs.SwitchViews.{SwitchView}
use Rattle.pl_steps.specs.Steps.{SwitchStep}
use Rattle.pl_steps.specs.Taken.{IsTaken}
use Rattle.pl_switch_rule.specs.Granting.{granted, grants_at, grants_new, grants_or_learns, in_use, learns_ip}
use Rattle.pl_migrate.specs.AddressTables.{address_in_use, address_table_in, next_address}
use Rattle.pl_migrate.proofs.Granted.{IsNextGranted, any_switch, next_granted}
use Rattle.pl_migrate.proofs.Laws.{used_is_own}
use Rattle.pl_migrate.proofs.Uses.{learns_known, learns_next, learns_nothing, next_port, taken_resting, taken_same}
use Rattle.pl_migrate.proofs.address_table.AddressTable.learn.Goals as goal

pub learn_ip-requires : goal.learn_ip-requires
learn_ip-requires c = (used_is_own c.args.self.now c.args.port c.args.amac c.in-Some.pmac (sym c.in_use.ensures.used ∙ c.in-Some.is)).used

pub returns-in_ok-learn_ip-in-Some-clause-taken : goal.returns-in_ok-learn_ip-in-Some-clause-taken
returns-in_ok-learn_ip-in-Some-clause-taken c =
    taken_same (λ v. learns_ip v c.in-Some.pmac (granted v c.in-Some.pmac) c.args.ip)
    (λ v. grants_or_learns v c.args.port c.args.amac c.args.ip (in_use (grants_at v c.args.port) c.args.amac))
    c.args.self.now c.learn_ip.new.self c.args.out.now c.learn_ip.new.out
    (learns_known c.args.self.now c.args.port c.args.amac c.args.ip c.in-Some.pmac (sym c.in_use.ensures.used
    ∙ c.in-Some.is)) c.in_ok-learn_ip-in-Some.ensures.taken

pub grant_and_tell-requires-clause-port : goal.grant_and_tell-requires-clause-port
grant_and_tell-requires-clause-port c = subst (λ n. n < length c.args.self.now.grants)
    (sym (next_port c.args.self.now c.args.port c.in-Some-next_address.pmac (sym c.next_address.ensures.next ∙ c.in-Some-next_address.is))) c.requires

pub grant_and_tell-requires-clause-unused : goal.grant_and_tell-requires-clause-unused
grant_and_tell-requires-clause-unused c = ap (λ n. address_in_use c.args.self.now n c.args.amac)
    (next_port c.args.self.now c.args.port c.in-Some-next_address.pmac (sym c.next_address.ensures.next ∙ c.in-Some-next_address.is))
    ∙ (sym c.in_use.ensures.used ∙ c.in-None.is)

pub grant_and_tell-requires-clause-next : goal.grant_and_tell-requires-clause-next
grant_and_tell-requires-clause-next c = ap (next_address c.args.self.now)
    (next_port c.args.self.now c.args.port c.in-Some-next_address.pmac (sym c.next_address.ensures.next ∙ c.in-Some-next_address.is))
    ∙ (sym c.next_address.ensures.next ∙ c.in-Some-next_address.is)

taken : (c : goal.In_ok-grant_and_tell-in-Some-next_address) → (v : SwitchView) →
    IsTaken (grants_new (address_table_in c.args.self.now v) c.args.port c.args.amac c.args.ip c.in-Some-next_address.pmac)
    (address_table_in c.grant_and_tell.new.self v) c.args.out.now c.grant_and_tell.new.out
taken c = λ v.
    subst (λ n. IsTaken (grants_new (address_table_in c.args.self.now v) n c.args.amac c.args.ip c.in-Some-next_address.pmac)
    (address_table_in c.grant_and_tell.new.self v)
    c.args.out.now c.grant_and_tell.new.out) (next_port c.args.self.now c.args.port c.in-Some-next_address.pmac (sym c.next_address.ensures.next
    ∙ c.in-Some-next_address.is)) (c.in_ok-grant_and_tell-in-Some-next_address.ensures.taken v)

given : (c : goal.In_ok-grant_and_tell-in-Some-next_address) → IsNextGranted c.args.self.now c.grant_and_tell.new.self c.args.port c.args.amac
    c.in-Some-next_address.pmac
given c =
    next_granted c.args.self.now c.grant_and_tell.new.self c.args.port c.args.amac c.args.ip c.in-Some-next_address.pmac c.requires
    (sym c.in_use.ensures.used ∙ c.in-None.is) (sym c.next_address.ensures.next ∙ c.in-Some-next_address.is)
    c.in-Some-next_address.ensures.nobodys (taken c any_switch).view

pub returns-in_ok-grant_and_tell-in-Some-next_address-clause-taken : goal.returns-in_ok-grant_and_tell-in-Some-next_address-clause-taken
returns-in_ok-grant_and_tell-in-Some-next_address-clause-taken c = λ v.
    subst (λ (s : SwitchStep). IsTaken s (address_table_in c.grant_and_tell.new.self v) c.args.out.now c.grant_and_tell.new.out)
    (learns_next c.args.self.now c.args.port c.args.amac c.args.ip c.in-Some-next_address.pmac (sym c.in_use.ensures.used
    ∙ c.in-None.is) (sym c.next_address.ensures.next ∙ c.in-Some-next_address.is) v) (taken c v)

pub returns-in_ok-grant_and_tell-in-Some-next_address-clause-address : goal.returns-in_ok-grant_and_tell-in-Some-next_address-clause-address
returns-in_ok-grant_and_tell-in-Some-next_address-clause-address c = sym (given c).used

pub returns-in_ok-grant_and_tell-in-Some-next_address-clause-once : goal.returns-in_ok-grant_and_tell-in-Some-next_address-clause-once
returns-in_ok-grant_and_tell-in-Some-next_address-clause-once c = (given c).once

pub returns-in_ok-grant_and_tell-in-Some-next_address-clause-kept : goal.returns-in_ok-grant_and_tell-in-Some-next_address-clause-kept
returns-in_ok-grant_and_tell-in-Some-next_address-clause-kept c = (given c).kept

pub returns-in_ok-grant_and_tell-in-Some-next_address-clause-traps : goal.returns-in_ok-grant_and_tell-in-Some-next_address-clause-traps
returns-in_ok-grant_and_tell-in-Some-next_address-clause-traps c = (given c).traps

pub returns-in-None-next_address-clause-taken : goal.returns-in-None-next_address-clause-taken
returns-in-None-next_address-clause-taken c = λ v.
    taken_resting (grants_or_learns (address_table_in c.args.self.now v) c.args.port c.args.amac c.args.ip (in_use (grants_at
    (address_table_in c.args.self.now v) c.args.port) c.args.amac))
    (address_table_in c.args.self.now v) (address_table_in c.args.self.now v) c.args.out.now refl
    (learns_nothing c.args.self.now c.args.port c.args.amac c.args.ip (sym c.in_use.ensures.used ∙ c.in-None.is) (sym c.next_address.ensures.next
    ∙ c.in-None-next_address.is) v)
