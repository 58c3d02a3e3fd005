use Rattle.std.proofs.Common.{◌≡◌, ◌≤◌, ◌+◌, ◌∙◌, [], List, ap, arith, replicate, subst, sym}
use Rattle.pl_pool.specs.Pool.{Lists}
use Rattle.pl_pmac.specs.declared.pmac.Pmac.{Pmac}
use Rattle.pl_migrate.specs.declared.tenancy.Tenancy.{Tenancy}
use Rattle.pl_migrate.specs.Tenancies.{AreInOrder, table_view}
use Rattle.pl_migrate.proofs.Empty.{empty_in_order, empty_is, no_lists}
use Rattle.pl_migrate.proofs.address_table.AddressTable.new.Goals as goal

ports : (c : goal.In_ok-new) → c.loop.ports.items ≡ replicate c.args.k []
ports c = let done : c.loop.counter ≡ c.args.k = omega arith in c.loop.invariant ∙ ap (λ n. replicate n []) done

lists : (c : goal.In_ok-new) → c.in_ok-new.field-0 ≡ no_lists (4 + c.from-2.result)
lists c = c.in_ok-new.ensures

pub invariant_of-result : goal.invariant_of-result
invariant_of-result c =
    let k : c.from-2.result ≡ c.args.k = c.from-2.ensures in
    subst (λ (ps : List (List Tenancy)). AreInOrder c.args.pod c.args.position 0 ps c.in_ok-new.field-0) (sym (ports c))
    (subst (λ (o : Lists Pmac). AreInOrder c.args.pod c.args.position 0 (replicate c.args.k []) o) (sym (lists c))
    (empty_in_order c.args.pod c.args.position c.args.k (4 + c.from-2.result) (let low = c.ranges.k in omega arith) (omega arith)))

pub returns : goal.returns
returns c =
    ap (λ (ps : List (List Tenancy)). table_view c.args.pod c.args.position 0 ps c.in_ok-new.field-0) (ports c)
    ∙ ap (λ (o : Lists Pmac). table_view c.args.pod c.args.position 0 (replicate c.args.k []) o) (lists c)
    ∙ empty_is c.args.pod c.args.position c.args.k (4 + c.from-2.result)
