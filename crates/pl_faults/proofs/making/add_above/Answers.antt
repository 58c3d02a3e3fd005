use Rattle.std.proofs.Common.{◌∙◌, ap, cond, map, sym}
use Rattle.std.specs.Prelude.{fold}
use Rattle.std.specs.BTreeSet.{insert_key}
use Rattle.pl_node.specs.AvoidLists.{avoided_cmp, is_level_above}
use Rattle.pl_node.specs.ManagerViews.{place_of}
use Rattle.pl_faults.specs.Making.{entry_at}
use Rattle.pl_faults.proofs.Shared.{none_above}
use Rattle.pl_faults.proofs.making.add_above.Goals as goal

pub returns-in_ok-add_if_above-in-Some : goal.returns-in_ok-add_if_above-in-Some
returns-in_ok-add_if_above-in-Some c =
    let u = c.args.neighbour in let list = c.args.list.now in
    c.in_ok-add_if_above-in-Some.ensures
    ∙ ap (λ es. cond (is_level_above c.args.level (place_of c.args.reports.now u).level) (fold (insert_key avoided_cmp) list (map (entry_at u) es)) list)
    c.in-Some.ensures

pub returns-in-None : goal.returns-in-None
returns-in-None c =
    none_above c.args.reports.now c.args.misses.now.entries c.args.level c.args.neighbour c.args.list.now (sym c.in-None.ensures)
