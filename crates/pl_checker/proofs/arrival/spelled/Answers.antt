use Rattle.pl_checker.proofs.Unaltered.{decoded}
use Rattle.pl_checker.proofs.arrival.spelled.Goals as goal

pub returns-in-Ok : goal.returns-in-Ok
returns-in-Ok c = λ bytes are is. decoded c.args.digits.now bytes c.in-Ok.bytes.items are is c.in-Ok.ensures.ok
