use Rattle.pl_migrate.proofs.Laws.{newest_stands}
use Rattle.pl_migrate.proofs.address_laws.the_newest_trap_stands.Goals as goal

pub returns : goal.returns
returns c = newest_stands
