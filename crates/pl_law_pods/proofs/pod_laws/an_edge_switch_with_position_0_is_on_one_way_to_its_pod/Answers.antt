use Rattle.pl_law_pods.proofs.WaysDue.{ways_anew, ways_at_first, ways_kept}
use Rattle.pl_law_pods.proofs.pod_laws.an_edge_switch_with_position_0_is_on_one_way_to_its_pod.Goals as goal

pub returns-clause-first : goal.returns-clause-first
returns-clause-first c = ways_at_first

pub returns-clause-steps : goal.returns-clause-steps
returns-clause-steps c = ways_kept

pub returns-clause-restarts : goal.returns-clause-restarts
returns-clause-restarts c = ways_anew
