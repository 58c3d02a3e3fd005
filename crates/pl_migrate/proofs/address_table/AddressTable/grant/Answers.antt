use Rattle.std.proofs.Common.{◌≡◌, ◌<◌, ◌∙◌, None, Some, ap, inl, length, subst, sym}
use Rattle.pl_pmac.specs.declared.pmac.Pmac.{Pmac}
use Rattle.pl_node.specs.SwitchViews.{SwitchView}
use Rattle.pl_steps.specs.Steps.{SwitchStep}
use Rattle.pl_switch_rule.specs.Granting.{grants_new, learns_ip}
use Rattle.pl_migrate.specs.AddressTables.{address_in_use, address_table_in, granted_in, next_address}
use Rattle.pl_migrate.proofs.Granted.{IsNextGranted, any_switch, next_granted}
use Rattle.pl_migrate.proofs.Laws.{used_is_own}
use Rattle.pl_migrate.proofs.Uses.{learns_known, learns_next, next_port, used_learns}
use Rattle.pl_migrate.proofs.address_table.AddressTable.grant.Goals as goal

pub used-requires : goal.used-requires
used-requires c = (used_is_own c.args.self.now c.args.port c.args.amac c.in-Some.pmac (sym c.in_use.ensures.used ∙ c.in-Some.is)).used

pub returns-in-Some-clause-step : goal.returns-in-Some-clause-step
returns-in-Some-clause-step c = λ v.
    c.used.ensures.step v ∙ used_learns (address_table_in c.args.self.now v) c.in-Some.pmac (granted_in c.args.self.now c.in-Some.pmac)
    ∙ ap (λ (s : SwitchStep). s.view) (learns_known c.args.self.now c.args.port c.args.amac None c.in-Some.pmac (sym c.in_use.ensures.used ∙ c.in-Some.is) v)

pub grant_next-requires-clause-port : goal.grant_next-requires-clause-port
grant_next-requires-clause-port c = subst (λ n. n < length c.args.self.now.grants)
    (sym (next_port c.args.self.now c.args.port c.in-Some-next_address.pmac (sym c.next_address.ensures.next ∙ c.in-Some-next_address.is))) c.requires

pub grant_next-requires-clause-unused : goal.grant_next-requires-clause-unused
grant_next-requires-clause-unused c = ap (λ n. address_in_use c.args.self.now n c.args.amac)
    (next_port c.args.self.now c.args.port c.in-Some-next_address.pmac (sym c.next_address.ensures.next ∙ c.in-Some-next_address.is))
    ∙ (sym c.in_use.ensures.used ∙ c.in-None.is)

pub grant_next-requires-clause-next : goal.grant_next-requires-clause-next
grant_next-requires-clause-next c = ap (next_address c.args.self.now) (next_port c.args.self.now c.args.port c.in-Some-next_address.pmac
    (sym c.next_address.ensures.next ∙ c.in-Some-next_address.is)) ∙ (sym c.next_address.ensures.next ∙ c.in-Some-next_address.is)

step : (c : goal.In_ok-grant_next-in-Some-next_address) → (v : SwitchView) →
    address_table_in c.grant_next.new.self v ≡ (grants_new (address_table_in c.args.self.now v) c.args.port c.args.amac None c.in-Some-next_address.pmac).view
step c = λ v.
    c.in_ok-grant_next-in-Some-next_address.ensures.step v
    ∙ ap (λ n. (grants_new (address_table_in c.args.self.now v) n c.args.amac None c.in-Some-next_address.pmac).view)
    (next_port c.args.self.now c.args.port c.in-Some-next_address.pmac (sym c.next_address.ensures.next ∙ c.in-Some-next_address.is))

granted : (c : goal.In_ok-grant_next-in-Some-next_address) → IsNextGranted c.args.self.now c.grant_next.new.self c.args.port c.args.amac
    c.in-Some-next_address.pmac
granted c =
    next_granted c.args.self.now c.grant_next.new.self c.args.port c.args.amac None c.in-Some-next_address.pmac c.requires (sym c.in_use.ensures.used
    ∙ c.in-None.is) (sym c.next_address.ensures.next ∙ c.in-Some-next_address.is)
    c.in-Some-next_address.ensures.nobodys (step c any_switch)

pub returns-in_ok-grant_next-in-Some-next_address-clause-address : goal.returns-in_ok-grant_next-in-Some-next_address-clause-address
returns-in_ok-grant_next-in-Some-next_address-clause-address c = (granted c).used

pub returns-in_ok-grant_next-in-Some-next_address-clause-once : goal.returns-in_ok-grant_next-in-Some-next_address-clause-once
returns-in_ok-grant_next-in-Some-next_address-clause-once c = (granted c).once

pub returns-in_ok-grant_next-in-Some-next_address-clause-step : goal.returns-in_ok-grant_next-in-Some-next_address-clause-step
returns-in_ok-grant_next-in-Some-next_address-clause-step c = λ v.
    step c v ∙ ap (λ (s : SwitchStep). s.view) (learns_next c.args.self.now c.args.port c.args.amac None c.in-Some-next_address.pmac
    (sym c.in_use.ensures.used ∙ c.in-None.is) (sym c.next_address.ensures.next ∙ c.in-Some-next_address.is) v)

pub returns-in_ok-grant_next-in-Some-next_address-clause-kept : goal.returns-in_ok-grant_next-in-Some-next_address-clause-kept
returns-in_ok-grant_next-in-Some-next_address-clause-kept c = (granted c).kept

pub returns-in_ok-grant_next-in-Some-next_address-clause-traps : goal.returns-in_ok-grant_next-in-Some-next_address-clause-traps
returns-in_ok-grant_next-in-Some-next_address-clause-traps c = (granted c).traps
