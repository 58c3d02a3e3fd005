use Rattle.pl_law_pods.proofs.ToldPods.{pods_are_told}
use Rattle.pl_law_pods.proofs.pod_laws.known_pods_are_told_behind_all_reports.Goals as goal

pub returns : goal.returns
returns c = λ switch n kept known has told. pods_are_told switch n kept known has told
