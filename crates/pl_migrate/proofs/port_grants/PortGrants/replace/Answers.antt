use Rattle.std.proofs.Common.{◌-◌, List, slice_set, sym, subst}
use Rattle.pl_migrate.specs.declared.tenancy.Tenancy.{Tenancy}
use Rattle.pl_migrate.specs.PortGrants.{ArePortGrants, TakesPlaceOf}
use Rattle.pl_migrate.specs.Tenancies.{tenancy_number}
use Rattle.pl_migrate.proofs.PortUses.{one_each_replace}
use Rattle.pl_migrate.proofs.port_grants.PortGrants.replace.Goals as goal

pub invariant_of-self : goal.invariant_of-self
invariant_of-self c =
    let fits : TakesPlaceOf c.self.inside.tenancies.items c.args.tenancy (tenancy_number c.self.inside.tenancies.items c.args.vmid) =
    subst (λ (ts : List Tenancy). TakesPlaceOf ts c.args.tenancy (tenancy_number ts c.args.vmid)) (sym c.self.view_is) c.requires in
    subst (λ n. ArePortGrants (slice_set c.self.inside.tenancies.items (n - 1) c.args.tenancy)) (sym c.from.ensures)
    (one_each_replace c.self.inside.tenancies.items c.args.vmid c.args.tenancy fits c.self.invariant)
