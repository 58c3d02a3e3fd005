use Rattle.pl_arp.proofs.Tables.{hardware_of-with_pair, hardware_of-others, with_pair-unknown}
use Rattle.pl_arp.proofs.cache.a_pair_is_put_in.Goals as goal

pub returns-clause-kept : goal.returns-clause-kept
returns-clause-kept c = hardware_of-with_pair

pub returns-clause-others : goal.returns-clause-others
returns-clause-others c = hardware_of-others

pub returns-clause-unknown : goal.returns-clause-unknown
returns-clause-unknown c = with_pair-unknown
