use Rattle.pl_past.proofs.Table.{none_changes, one_begins, one_changes}
use Rattle.pl_past.proofs.laws.one_place_of_the_table_changes.Goals as goal

pub returns : goal.returns
returns c = record { one = one_changes; more = one_begins; none = none_changes }
