use Rattle.pl_steps.proofs.Ports.{told_where}
use Rattle.pl_steps.proofs.tells_at_port.one_act_where.Goals as goal

pub returns : goal.returns
returns c = told_where
