use Rattle.std.proofs.Common.{subst}
use Rattle.pl_migrate.specs.PortGrants.{AtMostOne, is_used_by}
use Rattle.pl_migrate.proofs.port_grants.PortGrants.in_use.Goals as goal

pub returns-clause-only : goal.returns-clause-only
returns-clause-only c = subst (AtMostOne (is_used_by c.args.amac)) c.self.view_is (c.self.invariant.one_each c.args.amac)
