use Rattle.pl_migrate.proofs.Laws.{used_is_own}
use Rattle.pl_migrate.proofs.address_laws.an_address_in_use_is_its_hosts.Goals as goal

pub returns : goal.returns
returns c = used_is_own
