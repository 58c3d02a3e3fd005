use Rattle.pl_tables.proofs.ListChanges.{beyond_set}
use Rattle.pl_tables.proofs.lists.set_beyond.Goals as goal

pub returns : goal.returns
returns c =
    beyond_set c.args.rows.now c.set_all.new.rows c.args.leads.now c.in_ok-beyond.beyond c.args.list.now c.args.other.now c.args.is_in c.set_all.result
    c.in_ok-beyond.ensures c.set_all.ensures
