use Rattle.pl_world_parts.proofs.SameSaid.{same_said}
use Rattle.pl_world_parts.proofs.said.is_same.Goals as goal

pub returns : goal.returns
returns c = same_said c.args.a.now c.args.b.now c.eq.result c.eq.ensures
