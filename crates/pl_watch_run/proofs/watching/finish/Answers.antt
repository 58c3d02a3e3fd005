use Rattle.pl_watch_run.proofs.watching.finish.Goals as goal

pub close_kept-requires : goal.close_kept-requires
close_kept-requires g c = c.requires

pub returns : goal.returns
returns g c = c.close_kept.ensures
