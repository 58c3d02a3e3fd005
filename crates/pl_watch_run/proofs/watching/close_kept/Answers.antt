use Rattle.pl_watch_run.proofs.watching.close_kept.Goals as goal

pub close_shown-requires : goal.close_shown-requires
close_shown-requires g c = rw c.in-Some.is at c.requires

pub returns-in-Some : goal.returns-in-Some
returns-in-Some g c = c.close_shown.ensures
