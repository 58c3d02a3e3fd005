use Rattle.pl_lists.proofs.Exports.{missed_inserts}
use Rattle.std.proofs.Common.{Err}
use Rattle.pl_node.proofs.Exports.{id_total}
use Rattle.pl_groups.proofs.Standing.{found_there, missing_there}
use Rattle.pl_groups.proofs.positions.search.Goals as goal

pub returns-in-Ok-clause-some : goal.returns-in-Ok-clause-some
returns-in-Ok-clause-some c = found_there c.args.list.now c.args.switch c.in-Ok.at c.in-Ok.ensures.bound c.in-Ok.ensures.ok

pub returns-in-Err-clause-none : goal.returns-in-Err-clause-none
returns-in-Err-clause-none c =
    let list = c.args.list.now in let i = c.in-Err.field-0 in
    missing_there list c.args.switch i c.requires c.in-Err.ensures.bound
    (missed_inserts id_total c.args.switch list c.requires (Err i) c.in-Err.ensures.bound c.in-Err.ensures.position)
