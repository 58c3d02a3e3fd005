use Rattle.std.proofs.Common.{◌≡◌, ◌<◌, ◌-◌, ℕ, true, false, [], length, drop, get_or, Some, None, sym, ap, subst, ◌∙◌, arith}
use Rattle.std.specs.List.{list_any}
use Rattle.pl_migrate.specs.declared.tenancy.Standing.TheVariants.{Fresh}
use Rattle.pl_migrate.specs.declared.tenancy.Tenancy.{Tenancy}
use Rattle.pl_migrate.specs.PortGrants.{is_used_by}
use Rattle.pl_migrate.proofs.OneEach.{found_at, found_nowhere}
use Rattle.pl_migrate.proofs.port_grants.newest_in_use.Goals as goal

abbrev no_tenancy : Tenancy
no_tenancy = record { amac = record { 0 = [] }; ip = None; standing = Fresh; since = 0; key = record { slot = 0 } }

pub returns-then-is_used_by : goal.returns-then-is_used_by
returns-then-is_used_by c =
    let within : c.loop-n.n - 1 < length c.args.tenancies.now = omega arith in
    let passes : is_used_by c.args.amac (get_or c.args.tenancies.now (c.loop-n.n - 1) no_tenancy) ≡ true = sym c.is_used_by.ensures ∙ c.if-is_used_by.true in
    ap (λ (n : ℕ). Some n) (omega arith)
    ∙ sym (found_at (is_used_by c.args.amac) 1 c.args.tenancies.now (c.loop-n.n - 1) no_tenancy (c.requires.one_each c.args.amac) within passes)

pub returns : goal.returns
returns c =
    let done : c.loop-n.n ≡ 0 = omega arith in
    let none : list_any (is_used_by c.args.amac) c.args.tenancies.now ≡ false =
    subst (λ n. list_any (is_used_by c.args.amac) (drop n c.args.tenancies.now) ≡ false) done c.loop-n.invariant in
    sym (found_nowhere (is_used_by c.args.amac) 1 c.args.tenancies.now none)
