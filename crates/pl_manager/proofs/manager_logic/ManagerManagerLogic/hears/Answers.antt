use Rattle.pl_manager.proofs.Gathers.{begun_step_ok, ended_step_ok, tells_word, told_step_ok}
use Rattle.pl_manager.proofs.Pods.{can_gather}
use Rattle.pl_manager.proofs.manager_logic.ManagerManagerLogic.hears.Goals as goal

pub end_report-requires : goal.end_report-requires
end_report-requires c =
    can_gather c.args.self.now.known c.args.self.now.gatherer c.args.switch c.args.self.now.size c.args.self.now.many c.requires

pub hear_word-requires : goal.hear_word-requires
hear_word-requires c =
    can_gather c.args.self.now.known c.args.self.now.gatherer c.args.switch c.args.self.now.size c.args.self.now.many c.requires

pub returns-in-Begin-clause-step : goal.returns-in-Begin-clause-step
returns-in-Begin-clause-step c =
    begun_step_ok c.begin.result c.args.self.now.known c.args.self.now.gatherer c.args.switch c.args.self.now.many c.args.says.now c.in-Begin.epoch c.begin.new.self c.args.out.now
    c.in-Begin.is c.begin.ensures.begun

pub returns-in-End-clause-step : goal.returns-in-End-clause-step
returns-in-End-clause-step c =
    ended_step_ok c.end_report.result c.args.self.now.known c.args.self.now.gatherer c.args.switch c.args.self.now.many c.args.says.now c.in-End.epoch c.end_report.new.known
    c.end_report.new.gatherer c.args.out.now c.end_report.new.out c.in-End.is c.end_report.ensures.ended

pub returns-in_default-clause-step : goal.returns-in_default-clause-step
returns-in_default-clause-step c =
    told_step_ok c.hear_word.result c.args.self.now.known c.args.self.now.gatherer c.args.switch c.args.self.now.many c.args.says.now c.hear_word.new.known
    c.hear_word.new.gatherer c.args.out.now c.hear_word.new.out (tells_word c.args.says.now c.in_default.not-Begin c.in_default.not-End) c.hear_word.ensures.told
