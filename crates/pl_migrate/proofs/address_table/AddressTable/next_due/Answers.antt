use Rattle.std.proofs.Common.{◌≡◌, ◌∙◌, ℕ, List, None, Option, Some, ap, sym, subst, arith, length}
use Rattle.std.specs.Option.{MatchOption}
use Rattle.pl_pmac.specs.declared.pmac.Pmac.{Pmac}
use Rattle.pl_migrate.specs.Standings.{number_behind}
use Rattle.pl_migrate.specs.declared.tenancy.Tenancy.{Tenancy}
use Rattle.pl_migrate.specs.Keeping.{IsNextDue, NothingIsDue}
use Rattle.pl_migrate.specs.Tenancies.{IsNext, table_view}
use Rattle.pl_switch_rule.specs.Aging.{ticks_to_rest}
use Rattle.pl_migrate.proofs.Due.{due_shown, next_is_due, nothing_is_due}
use Rattle.pl_migrate.proofs.address_table.AddressTable.next_due.Goals as goal

pub next_to_rest-requires : goal.next_to_rest-requires
next_to_rest-requires c = let many = c.self.invariant.lists in omega arith

pub returns-in_err-pmac : goal.returns-in_err-pmac
returns-in_err-pmac c =
    let s = c.self.inside in
    let none = nothing_is_due s.pod s.position s.tick s.ports.items s.orders c.self.invariant
    (subst (λ (o : Option (Pmac × Tenancy)). IsNext s.ports.items s.orders s.tick ticks_to_rest o) c.in_err-pmac.was (subst (λ (ports : List
    (List Tenancy)). IsNext ports c.self.inside.orders c.self.inside.tick ticks_to_rest c.next_to_rest.result) c.as_slice.ensures.value
    c.next_to_rest.ensures)) in
    subst (λ (o : Option (Pmac × ℕ)). MatchOption o (NothingIsDue c.args.self.now) (λ due. IsNextDue c.args.self.now due.0 due.1))
    (sym c.from_residual.ensures) (subst NothingIsDue c.self.view_is none)

pub returns : goal.returns
returns c =
    let s = c.self.inside in
    let due = next_is_due s.pod s.position s.tick s.ports.items s.orders c.self.invariant (c.in_ok-pmac.pmac, c.in_ok-pmac.tenancy)
    (subst (λ (o : Option (Pmac × Tenancy)). IsNext s.ports.items s.orders s.tick ticks_to_rest o) c.in_ok-pmac.was (subst (λ (ports : List
    (List Tenancy)). IsNext ports c.self.inside.orders c.self.inside.tick ticks_to_rest c.next_to_rest.result) c.as_slice.ensures.value
    c.next_to_rest.ensures)) in
    due_shown (table_view s.pod s.position s.tick s.ports.items s.orders) c.args.self.now c.in_ok-pmac.pmac c.number_behind.result
    (number_behind c.in_ok-pmac.tenancy.standing)
    c.self.view_is c.number_behind.ensures due
