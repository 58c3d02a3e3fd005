use Rattle.pl_tables.proofs.LeadsMoved.{moves_ok}
use Rattle.pl_tables.proofs.following.change_lead.Goals as goal

pub returns : goal.returns
returns c = moves_ok c.args.tables.now c.move_lead.new.tables c.args.list.now c.args.port c.args.was c.args.now c.move_lead.result c.move_lead.ensures
