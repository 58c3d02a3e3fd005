-- What other crates may name of these proofs.
pub use Rattle.pl_law_due.proofs.Beginnings.{each_tells}
pub use Rattle.pl_law_due.proofs.Beginning.{agree_at_first, gathers_at_first}
pub use Rattle.pl_law_due.proofs.Chains.{due_unheard, part_alike, part_loud, parts_alike, parts_loud, through_parts}
pub use Rattle.pl_law_due.proofs.Hearing.{after_all, manager_is, many_then, now_is, orderly_now, plan_is, st, treat}
pub use Rattle.pl_law_due.proofs.Ids.{at_named, ids_apart, named_there, switch_is, there_named}
pub use Rattle.pl_law_due.proofs.Plain.{ordered_other, releases_other, word_other}
pub use Rattle.pl_law_due.proofs.OnDue.{on_agrees, on_due, on_gathers, on_sized, restarts_here}
pub use Rattle.pl_law_due.proofs.Restarting.{none_loud, nothing_due, rest_whole, restart_due, restart_missing, whole_due}
pub use Rattle.pl_law_due.proofs.OneWord.{heard_or_noted, is_note, IsRelease, Learns, releases_learn}
pub use Rattle.pl_law_due.proofs.Sifting.{silent_part}
pub use Rattle.pl_law_due.proofs.Staying.{silent_after}
pub use Rattle.pl_law_due.proofs.Words.{read_append}
pub use Rattle.pl_law_due.proofs.Stepping.{come_due, step_due, step_gathers, step_releases}
