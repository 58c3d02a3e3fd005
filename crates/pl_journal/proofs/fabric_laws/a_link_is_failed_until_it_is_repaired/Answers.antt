use Rattle.pl_journal.proofs.Links.{failed_either_way, failed_is_adjacent, failed_now, live_is_not_failed, repaired_now}
use Rattle.pl_journal.proofs.fabric_laws.a_link_is_failed_until_it_is_repaired.Goals as goal

pub returns : goal.returns
returns c = record { failed = failed_now; repaired = repaired_now; either_way = failed_either_way; adjacent = failed_is_adjacent; live_now = live_is_not_failed }
