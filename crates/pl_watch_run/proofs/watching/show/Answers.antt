use Rattle.pl_inputs.specs.Loaded.{inputs_of}
use Rattle.pl_watch_run.specs.Answers.Answers.{IsShown}
use Rattle.pl_watch_run.proofs.Ending.{if_ok, still_empty}
use Rattle.pl_watch_run.proofs.watching.show.Goals as goal

pub play-requires : goal.play-requires
play-requires g c = still_empty _ _ c.in-Ok.ensures.same c.requires

pub returns-in-Ok : goal.returns-in-Ok
returns-in-Ok g c =
    if_ok c.play.result _ _ (λ ended shows. IsShown (inputs_of c.in-Ok.inputs) c.in-Ok.ensures.read c.in-Ok.look c.in-Ok.ensures.look shows) c.play.ensures

pub returns-in-Err : goal.returns-in-Err
returns-in-Err g c = c.in-Err.ensures.refused
