use Rattle.pl_verify.proofs.verifying.verify.Goals as goal

pub hear_all-requires : goal.hear_all-requires
hear_all-requires c = c.in_ok-judge.ensures c.args.journal.now
