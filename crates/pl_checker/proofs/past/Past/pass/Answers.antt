use Rattle.pl_checker.proofs.Quiet.{quiet_kept}
use Rattle.pl_checker.proofs.past.Past.pass.Goals as goal

pub returns : goal.returns
returns c = λ text past entry quiet keeps. quiet_kept c.args.wiring.now text past c.args.self.now entry quiet keeps
