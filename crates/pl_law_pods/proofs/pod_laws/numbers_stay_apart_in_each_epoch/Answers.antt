use Rattle.pl_law_pods.proofs.Apart.{anew_apart, asked_apart, placed_apart, taken_apart}
use Rattle.pl_law_pods.proofs.pod_laws.numbers_stay_apart_in_each_epoch.Goals as goal

pub returns-clause-asked : goal.returns-clause-asked
returns-clause-asked c = λ id known told pods asker apart none. asked_apart id known told pods apart asker none

pub returns-clause-placed : goal.returns-clause-placed
returns-clause-placed c = λ id known told pods switch place apart has. placed_apart id known told pods apart switch place has

pub returns-clause-taken : goal.returns-clause-taken
returns-clause-taken c = λ id known after told pods apart takes ids. taken_apart id known told pods apart after takes ids

pub returns-clause-anew : goal.returns-clause-anew
returns-clause-anew c = anew_apart
