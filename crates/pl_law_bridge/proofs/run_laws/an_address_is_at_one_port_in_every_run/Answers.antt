use Rattle.pl_law_bridge.proofs.Tables.{tables_in_every_run}
use Rattle.pl_law_bridge.proofs.run_laws.an_address_is_at_one_port_in_every_run.Goals as goal

pub returns : goal.returns
returns g c = tables_in_every_run g.M.ManagerLogic.rule g.H.HostLogic.rule
