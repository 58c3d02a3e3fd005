use Rattle.pl_law_epochs.proofs.epoch_laws.an_ip_address_that_is_known_is_its_hosts_own.Goals as goal

pub returns-clause-kept : goal.returns-clause-kept
returns-clause-kept c = λ own f a s id named x g found. ((a.edges s id named).grants x g found).own_ip

pub returns-clause-told : goal.returns-clause-told
returns-clause-told c = λ own f a x ip known. a.registry.ips x ip known

pub returns-clause-due : goal.returns-clause-due
returns-clause-due c = λ own f a s id named loud x g ip found used has. ((a.edges s id named).grants x g found).told_ip loud used ip has
