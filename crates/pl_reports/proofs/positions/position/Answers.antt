use Rattle.pl_lists.proofs.Exports.{found_inserts_nothing, missed_inserts}
use Rattle.pl_node.proofs.Exports.{id_total}
use Rattle.pl_reports.proofs.Placing.{none_at_gap}
use Rattle.pl_reports.proofs.positions.position.Goals as goal

pub returns-clause-there : goal.returns-clause-there
returns-clause-there c =
    found_inserts_nothing id_total c.args.switch c.args.list.now c.requires c.binary_search.result c.binary_search.ensures.bound
    c.binary_search.ensures.position

pub returns-clause-gap : goal.returns-clause-gap
returns-clause-gap c =
    missed_inserts id_total c.args.switch c.args.list.now c.requires c.binary_search.result c.binary_search.ensures.bound
    c.binary_search.ensures.position

pub returns-clause-none : goal.returns-clause-none
returns-clause-none c =
    none_at_gap c.args.list.now c.args.switch c.requires c.binary_search.result
    (missed_inserts id_total c.args.switch c.args.list.now c.requires c.binary_search.result c.binary_search.ensures.bound
    c.binary_search.ensures.position)
