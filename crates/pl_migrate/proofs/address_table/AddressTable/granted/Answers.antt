use Rattle.std.proofs.Common.{◌≡◌, ◌∙◌, ap, List, None, Option, Some, refl, subst, sym, true}
use Rattle.pl_node.specs.declared.switch_records.Grant.{Grant}
use Rattle.pl_migrate.specs.AddressTables.{AddressTableView, granted_in, is_here}
use Rattle.pl_migrate.specs.declared.tenancy.Tenancy.{Tenancy}
use Rattle.pl_migrate.specs.Tenancies.{grant_of, tenancy_at}
use Rattle.pl_migrate.proofs.Ages.{granted_new, granted_of}
use Rattle.pl_migrate.proofs.Entries.{past_of}
use Rattle.pl_migrate.proofs.address_table.AddressTable.granted.Goals as goal

pub returns-in_err-tenancy : goal.returns-in_err-tenancy
returns-in_err-tenancy c =
    let s = c.self.inside in
    c.from_residual.ensures
    ∙ sym (ap (λ (t : AddressTableView). granted_in t c.args.pmac) (sym c.self.view_is)
    ∙ granted_new s.pod s.position s.tick s.ports.items s.orders c.args.pmac (sym (c.tenancy_at.ensures
    ∙ ap (λ (ports : List (List Tenancy)). tenancy_at ports c.args.pmac) c.as_slice.ensures.value) ∙ c.in_err-tenancy.was))

pub grant-requires : goal.grant-requires
grant-requires c = past_of c.self.inside.tick c.self.inside.ports.items c.args.pmac c.in_ok-tenancy.tenancy c.self.invariant.past (sym
    (c.tenancy_at.ensures ∙ ap (λ (ports : List (List Tenancy)). tenancy_at ports c.args.pmac) c.as_slice.ensures.value) ∙ c.in_ok-tenancy.was)

pub returns : goal.returns
returns c =
    let s = c.self.inside in
    ap (λ (g : Grant). Some g) c.grant.ensures
    ∙ sym (granted_of s.pod s.position s.tick s.ports.items s.orders c.args.pmac c.in_ok-tenancy.tenancy
    (ap (λ (t : AddressTableView). is_here t c.args.pmac) c.self.view_is ∙ sym c.is_local.ensures ∙ c.if-not-is_local.false) (sym (c.tenancy_at.ensures
    ∙ ap (λ (ports : List (List Tenancy)). tenancy_at ports c.args.pmac) c.as_slice.ensures.value) ∙ c.in_ok-tenancy.was))
    ∙ ap (λ (t : AddressTableView). granted_in t c.args.pmac) c.self.view_is
