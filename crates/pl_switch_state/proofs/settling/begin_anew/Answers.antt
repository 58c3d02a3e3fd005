use Rattle.std.proofs.Common.{sym, ◌∙◌}
use Rattle.pl_switch_state.proofs.settling.begin_anew.Goals as goal

pub returns-then-is_placed-clause-address_table : goal.returns-then-is_placed-clause-address_table
returns-then-is_placed-clause-address_table c = c.requires.address_table (sym c.is_placed.ensures ∙ c.if-is_placed.true)
