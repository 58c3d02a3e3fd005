use Rattle.pl_sure_example.proofs.Computed.{worked}
use Rattle.pl_sure_example.proofs.worked_run.a_frame_is_sure_until_it_arrives.Goals as goal

pub returns : goal.returns
returns c = worked
