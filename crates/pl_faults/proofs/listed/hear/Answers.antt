use Rattle.std.proofs.Common.{◌∙◌, sym, ap, Some, cond}
use Rattle.std.specs.BTreeMap.{is_at}
use Rattle.std.specs.BTreeSet.{insert_key}
use Rattle.pl_node.specs.ManagerViews.{id_cmp, value_at}
use Rattle.pl_reports.proofs.Exports.{near_started}
use Rattle.pl_faults.proofs.listed.hear.Goals as goal

pub returns-in_ok-insert-in-None-2 : goal.returns-in_ok-insert-in-None-2
returns-in_ok-insert-in-None-2 c t =
    near_started c.args.hearers.now.entries c.insert-in-None-2.new.self.entries c.args.neighbour c.args.switch c.insert-in-None.new.self t
    (sym c.in-None.ensures.value)
    (c.in_ok-insert-in-None.ensures.ok ∙ ap (λ xs. insert_key id_cmp xs c.args.switch) c.new-list.ensures)
    (c.in_ok-insert-in-None-2.ensures.updates.0 t
    ∙ ap (λ m. cond (is_at (id_cmp c.args.neighbour) t) (Some c.insert-in-None.new.self) (value_at id_cmp m.entries t)) c.get_mut.follows.holds-at-none)
