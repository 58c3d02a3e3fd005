use Rattle.std.proofs.Common.{◌∙◌, ap, subst, sym}
use Rattle.std.specs.List.Sorted.{IsStrictlySortedBy}
use Rattle.pl_node.specs.ManagerViews.{id_cmp}
use Rattle.pl_manager_rule.proofs.Exports.{switches_rise}
use Rattle.pl_groups.specs.Reaching.{with_row}
use Rattle.pl_groups.proofs.Placed.{served_is, unserved}
use Rattle.pl_groups.proofs.cores.reach_by.Goals as goal

pub position-requires : goal.position-requires
position-requires c = subst (IsStrictlySortedBy id_cmp) (sym c.switches.ensures) (switches_rise c.args.reports.now)

pub returns-in-Some : goal.returns-in-Some
returns-in-Some c =
    c.add_row.ensures
    ∙ ap (with_row c.args.reached.now) (c.row_in.ensures
    ∙ served_is c.args.reports.now c.args.needed.now c.args.served.now c.switches.result.now c.in-Some.at c.args.neighbour c.requires c.switches.ensures c.in-Some.ensures.some)

pub returns-in-None : goal.returns-in-None
returns-in-None c =
    ap (with_row c.args.reached.now)
    (unserved c.args.reports.now c.args.needed.now c.switches.result.now c.args.neighbour c.switches.ensures c.in-None.ensures.none)
