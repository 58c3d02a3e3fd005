use Rattle.pl_wiring.proofs.Live.{live_says}
use Rattle.pl_wiring.proofs.links.LinkStates.live.Goals as goal

pub returns-clause-says : goal.returns-clause-says
returns-clause-says c = λ plan for. rw c.flag.ensures (live_says plan c.args.self.now c.args.switch.0 c.args.port for)
