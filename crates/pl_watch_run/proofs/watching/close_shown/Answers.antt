use Rattle.std.proofs.Common.{subst}
use Rattle.pl_log_lines.specs.declared.look.Look.{Look}
use Rattle.pl_watch_run.specs.Answers.{EndsWatching}
use Rattle.pl_watch_run.proofs.Ending.{if_ok}
use Rattle.pl_watch_run.proofs.watching.close_shown.Goals as goal

pub close-requires : goal.close-requires
close-requires g c = c.requires

pub returns : goal.returns
returns g c =
    if_ok c.close.result _ _
    (λ ended shows i played.
    subst (λ (look : Look). EndsWatching g.S.SwitchLogic.rule g.M.ManagerLogic.rule g.H.HostLogic.rule look i (g.D.Shelf.moment ended.0) ended.1)
    (c.shows.ensures c.if-not-shows.false) (shows i played))
    c.close.ensures
