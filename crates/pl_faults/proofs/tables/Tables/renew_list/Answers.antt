use Rattle.std.proofs.Common.{subst}
use Rattle.pl_faults.specs.Kept.{IsListRenewed}
use Rattle.pl_faults.proofs.tables.Tables.renew_list.Goals as goal

pub returns-clause-list : goal.returns-clause-list
returns-clause-list c known =
    subst (λ l. IsListRenewed c.args.switch l c.args.self.now c.renew.new.self) (c.in_ok-list.ensures.list known) c.in_ok-renew.ensures
