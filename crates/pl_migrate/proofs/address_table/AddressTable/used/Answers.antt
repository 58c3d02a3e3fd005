use Rattle.std.proofs.Common.{◌∙◌}
use Rattle.pl_migrate.specs.AddressTables.{address_table_in, granted_in}
use Rattle.pl_migrate.proofs.Granted.{any_switch}
use Rattle.pl_migrate.proofs.Uses.{StaysUsed, can_use, fresh_is_used, stays_used}
use Rattle.pl_migrate.proofs.address_table.AddressTable.used.Goals as goal

pub stand-requires : goal.stand-requires
stand-requires c = can_use (granted_in c.args.self.now c.args.pmac) c.requires

stays : (c : goal.After-stand) → StaysUsed c.args.self.now c.stand.new.self
stays c = stays_used c.args.self.now c.stand.new.self c.args.pmac c.requires (c.stand.ensures.step any_switch)

pub returns-clause-step : goal.returns-clause-step
returns-clause-step c = λ v.
    c.stand.ensures.step v ∙ fresh_is_used (address_table_in c.args.self.now v) c.args.pmac (granted_in c.args.self.now c.args.pmac)

pub returns-clause-used : goal.returns-clause-used
returns-clause-used c = (stays c).used

pub returns-clause-kept : goal.returns-clause-kept
returns-clause-kept c = (stays c).kept

pub returns-clause-traps : goal.returns-clause-traps
returns-clause-traps c = (stays c).traps
