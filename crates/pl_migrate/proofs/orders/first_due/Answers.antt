use Rattle.std.proofs.Common.{◌≡◌, ◌≤◌, ◌-◌, ◌∙◌, None, Option, Some, sym, subst}
use Rattle.pl_pmac.specs.declared.pmac.Pmac.{Pmac}
use Rattle.pl_migrate.specs.declared.tenancy.Tenancy.{Tenancy}
use Rattle.pl_migrate.specs.Tenancies.{IsDue, addresses_in}
use Rattle.pl_migrate.proofs.Moving.{due_of_first, none_due_of_empty, none_due_of_none, young_of_first}
use Rattle.std.proofs.lemmas.Bool.{both_ways}
use Rattle.pl_migrate.proofs.orders.first_due.Goals as goal

pub returns-in_err-pmac : goal.returns-in_err-pmac
returns-in_err-pmac c =
    subst (λ (o : Option (Pmac × Tenancy)). IsDue c.args.ports.now (addresses_in c.args.orders.now c.args.list) c.args.now c.args.ticks o)
    (sym c.from_residual.ensures)
    (none_due_of_empty c.args.ports.now (addresses_in c.args.orders.now c.args.list) c.args.now c.args.ticks (sym c.first_of.ensures ∙ c.in_err-pmac.was))

pub returns-in_err-tenancy : goal.returns-in_err-tenancy
returns-in_err-tenancy c =
    subst (λ (o : Option (Pmac × Tenancy)). IsDue c.args.ports.now (addresses_in c.args.orders.now c.args.list) c.args.now c.args.ticks o)
    (sym c.from_residual-in_err-tenancy.ensures)
    (none_due_of_none c.args.ports.now (addresses_in c.args.orders.now c.args.list) c.args.now c.args.ticks c.in_ok-pmac.pmac
    (sym c.first_of.ensures ∙ c.in_ok-pmac.was) (sym c.tenancy_at.ensures ∙ c.in_err-tenancy.was))

pub returns-then-has_lasted : goal.returns-then-has_lasted
returns-then-has_lasted c =
    due_of_first c.args.ports.now (addresses_in c.args.orders.now c.args.list) c.args.now c.args.ticks c.in_ok-pmac.pmac c.in_ok-tenancy.tenancy
    (sym c.first_of.ensures ∙ c.in_ok-pmac.was) (sym c.tenancy_at.ensures ∙ c.in_ok-tenancy.was) (c.has_lasted.ensures.0 c.if-has_lasted.true)

pub returns-else-has_lasted : goal.returns-else-has_lasted
returns-else-has_lasted c =
    young_of_first c.args.ports.now (addresses_in c.args.orders.now c.args.list) c.args.now c.args.ticks c.in_ok-pmac.pmac c.in_ok-tenancy.tenancy
    (sym c.first_of.ensures ∙ c.in_ok-pmac.was) (sym c.tenancy_at.ensures ∙ c.in_ok-tenancy.was)
    (λ lasted. both_ways c.has_lasted.result c.if-has_lasted.false (c.has_lasted.ensures.1 lasted))
