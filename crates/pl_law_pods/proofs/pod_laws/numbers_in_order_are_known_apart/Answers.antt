use Rattle.pl_law_pods.proofs.NumberingGround.{known_below, one_pod}
use Rattle.pl_law_pods.proofs.NumberingKept.{numbers_told}
use Rattle.pl_law_pods.proofs.pod_laws.numbers_in_order_are_known_apart.Goals as goal

pub returns-clause-told : goal.returns-clause-told
returns-clause-told c = numbers_told

pub returns-clause-known : goal.returns-clause-known
returns-clause-known c = λ plane s n placed all known. known_below plane placed all s n known

pub returns-clause-pods : goal.returns-clause-pods
returns-clause-pods c = λ plane s t n placed all first second. one_pod plane placed all s t n first second
