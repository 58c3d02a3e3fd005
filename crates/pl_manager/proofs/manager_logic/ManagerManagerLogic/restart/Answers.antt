use Rattle.pl_manager.proofs.Anew.{anew_ok}
use Rattle.pl_manager.proofs.manager_logic.ManagerManagerLogic.restart.Goals as goal

pub returns-clause-anew : goal.returns-clause-anew
returns-clause-anew c =
    anew_ok c.begin_anew.result c.begin_anew.new.known c.args.self.now.known.k c.args.epoch c.begin_anew.new.gatherer c.args.self.now.gatherer c.begin_anew.ensures.known
    c.begin_anew.ensures.gatherer
