use Rattle.pl_law_copies.proofs.Alone.{alone}
use Rattle.pl_law_copies.proofs.copy_laws.frames_of_a_root_are_alone.Goals as goal

pub returns : goal.returns
returns c = λ w counted come. alone w counted.formed.plan come
