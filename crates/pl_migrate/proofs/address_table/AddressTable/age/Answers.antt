use Rattle.std.proofs.Common.{refl, ap, subst, ◌∙◌, ◌+◌}
use Rattle.pl_migrate.specs.AddressTables.{AddressTableView, address_table_in}
use Rattle.pl_migrate.specs.Keeping.{IsOlder, KeepsGrants}
use Rattle.pl_migrate.specs.Tenancies.{table_view}
use Rattle.pl_switch_rule.specs.Aging.{with_older}
use Rattle.pl_migrate.proofs.Older.{in_order_later, is_older, keeps_later, view_later}
use Rattle.pl_migrate.proofs.AllLearnt.{keeps_itself}
use Rattle.pl_migrate.proofs.address_table.AddressTable.age.Goals as goal

pub returns-then-self-clause-kept : goal.returns-then-self-clause-kept
returns-then-self-clause-kept c = keeps_itself c.args.self.now

pub invariant_of-self : goal.invariant_of-self
invariant_of-self c =
    let s = c.self.inside in in_order_later s.pod s.position s.tick (s.tick + 1) s.ports.items s.orders refl c.self.invariant

pub returns-clause-older : goal.returns-clause-older
returns-clause-older c = λ v.
    let s = c.self.inside in
    view_later s.pod s.position s.tick (s.tick + 1) s.ports.items s.orders refl c.self.invariant v
    ∙ ap (λ (t : AddressTableView). with_older (address_table_in t v)) c.self.view_is

pub returns-clause-same : goal.returns-clause-same
returns-clause-same c =
    let s = c.self.inside in
    subst (λ (t : AddressTableView). IsOlder t (table_view s.pod s.position (s.tick + 1) s.ports.items s.orders)) c.self.view_is
    (is_older s.pod s.position s.tick (s.tick + 1) s.ports.items s.orders refl c.self.invariant)

pub returns-clause-kept : goal.returns-clause-kept
returns-clause-kept c =
    let s = c.self.inside in
    subst (λ (t : AddressTableView). KeepsGrants t (table_view s.pod s.position (s.tick + 1) s.ports.items s.orders)) c.self.view_is
    (keeps_later s.pod s.position s.tick (s.tick + 1) s.ports.items s.orders)
