use Rattle.pl_inputs.specs.Loaded.{inputs_of}
use Rattle.pl_playing.specs.Outcomes.{run_limits}
use Rattle.pl_watch_run.proofs.Ending.{if_ok}
use Rattle.pl_watch_run.proofs.watching.play.Goals as goal

pub begin-requires : goal.begin-requires
begin-requires g c = c.requires

pub play_before-requires : goal.play_before-requires
play_before-requires g c = c.in_ok-log.ensures run_limits

pub finish-requires : goal.finish-requires
finish-requires g c = c.in_ok-played.ensures.seen

pub returns : goal.returns
returns g c = if_ok c.finish.result _ _ (λ ended shows. shows (inputs_of c.args.inputs) c.in_ok-played.ensures.played) c.finish.ensures
