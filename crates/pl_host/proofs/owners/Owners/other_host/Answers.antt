use Rattle.std.proofs.Common.{rules, sym}
use Rattle.pl_host.proofs.Finding.{find-oneself}
use Rattle.pl_host.proofs.owners.Owners.other_host.Goals as goal

pub returns-then-eq-clause-found : goal.returns-then-eq-clause-found
returns-then-eq-clause-found c = sym (find-oneself c.args.self.now c.args.mac c.args.me.mac (search (rules, c.eq.ensures, c.if-eq.true)))
