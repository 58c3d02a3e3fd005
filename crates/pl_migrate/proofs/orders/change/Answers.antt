use Rattle.std.proofs.Common.{◌≡◌, ◌<◌, ◌∙◌, List, Some, ap, length, subst, sym}
use Rattle.pl_pool.specs.Pool.{has_key, item_at, list_at}
use Rattle.pl_migrate.specs.declared.tenancy.Tenancy.{Tenancy}
use Rattle.pl_migrate.specs.PortGrants.{TakesPlaceOf}
use Rattle.pl_migrate.specs.Tenancies.{list_of, tenancy_number}
use Rattle.pl_migrate.proofs.Entries.{is_kept, tenancies_of}
use Rattle.pl_migrate.proofs.Moving.{changed, has_key_of, placed_fits}
use Rattle.pl_migrate.proofs.Stands.{read_port}
use Rattle.pl_migrate.proofs.orders.change.Goals as goal

pub move_to-key-requires-clause-there : goal.move_to-key-requires-clause-there
move_to-key-requires-clause-there c =
    has_key_of (list_at c.args.orders.now c.list-from.result) c.args.old.key c.args.pmac
    (ap (λ n. item_at (list_at c.args.orders.now n) c.args.old.key) c.list-from.ensures ∙ c.requires.placed)

pub index_mut-requires : goal.index_mut-requires
index_mut-requires c =
    subst (λ n. c.from.result < n) (sym c.args.ports.now.ok.0) (subst (λ n. n < length c.args.ports.now.items) (sym c.from.ensures)
    ((is_kept c.args.ports.now.items c.args.pmac c.args.old c.requires.there).within))

pub replace-requires : goal.replace-requires
replace-requires c =
    placed_fits c.args.ports.now.items c.args.pmac c.args.old c.args.new c.move_to-key.result c.index_mut.result.now
    (read_port c.args.ports.now.items c.from.result c.args.pmac.port c.index_mut.result.now c.index_mut.ensures.value c.from.ensures
    ((is_kept c.args.ports.now.items c.args.pmac c.args.old c.requires.there).within)) c.requires.there c.requires.unused

pub returns : goal.returns
returns c =
    changed c.args.ports.now.items c.args.orders.now c.move_to-key.new.orders c.args.pmac c.args.old c.args.new c.move_to-key.result c.from.result
    c.index_mut.result.now c.replace.new.self
    c.list-from.result c.list-to.result c.list-from.ensures c.list-to.ensures c.requires.placed c.move_to-key.ensures c.from.ensures
    (read_port c.args.ports.now.items c.from.result c.args.pmac.port c.index_mut.result.now c.index_mut.ensures.value c.from.ensures
    ((is_kept c.args.ports.now.items c.args.pmac c.args.old c.requires.there).within)) c.replace.ensures
