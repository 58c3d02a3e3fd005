use Rattle.pl_verify.proofs.Judging.{said_legal, said_illegal}
use Rattle.pl_verify.proofs.judge.Judge.verdict.Goals as goal

pub returns-in-None : goal.returns-in-None
returns-in-None c = λ plan text journal judged. said_legal plan text journal c.args.self.now judged c.in-None.is

pub returns-in-Some : goal.returns-in-Some
returns-in-Some c = λ plan text journal judged. said_illegal plan text journal c.args.self.now judged c.in-Some.n c.in-Some.is
