use Rattle.pl_law_bridge.proofs.journal_laws.frames_arrive_as_they_were_sent.Goals as goal

pub returns : goal.returns
returns c = λ w is. is.travels.arrived
