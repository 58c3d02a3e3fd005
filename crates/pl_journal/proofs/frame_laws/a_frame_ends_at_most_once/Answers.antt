use Rattle.pl_journal.proofs.Numbered.{ends_after_it_begins, ends_once, flies_or_ended}
use Rattle.pl_journal.proofs.frame_laws.a_frame_ends_at_most_once.Goals as goal

pub returns : goal.returns
returns c = record { once = ends_once; not_before_it_begins = ends_after_it_begins; either = flies_or_ended }
