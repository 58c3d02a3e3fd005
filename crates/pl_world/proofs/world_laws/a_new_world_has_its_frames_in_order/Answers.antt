use Rattle.pl_world.proofs.BootBalances.{booted_is_counted}
use Rattle.pl_world.proofs.world_laws.a_new_world_has_its_frames_in_order.Goals as goal

pub returns : goal.returns
returns c = booted_is_counted
