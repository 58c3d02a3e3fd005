-- What other crates may name of these proofs.
pub use Rattle.pl_law_addresses.proofs.AddressesInRuns.{first_ordered, granted_at_most_once, granted_once, mark_ordered, one_step, one_step_keeps, since_then}
pub use Rattle.pl_law_addresses.proofs.Asides.{changes_silent, floods_aside, forgets_members_aside, makes_aside, probes_aside, proposal_aside, switch_frame_aside, takes_in_aside, tells_aside}
pub use Rattle.pl_law_addresses.proofs.EventsKeepAddresses.{Facts, facts_of}
pub use Rattle.pl_law_addresses.proofs.Finding.{found_by_name, found_if_any, none_if_not_any, place_is}
pub use Rattle.pl_law_addresses.proofs.FreeLists.{freed_free, held_free, in_use_for, IsNextVmid, next_granted, table_alike, table_with_free, table_with_grants}
pub use Rattle.pl_law_addresses.proofs.Granting.{address_table_with_source}
pub use Rattle.pl_law_addresses.proofs.GrantsByNumber.{first_passes, granted_here, granted_within, IsInUse, known_same, local_here, local_settled, none_passes, none_used, now_at, number_one_more, number_past, number_push_other, number_push_same, number_set_other, number_set_same, number_within, others_at, used_is}
pub use Rattle.pl_law_addresses.proofs.OlderAddresses.{granted_older, held_still, older_number, older_vmids, probes_are_aside, trap_still, use_still, younger}
pub use Rattle.pl_law_addresses.proofs.OwnHosts.{own_frame}
pub use Rattle.pl_law_addresses.proofs.Placing.{edge_placing, has_place, IsPlacing, keeps_changes, message_placing, pod_placing, vote_placing}
pub use Rattle.pl_law_addresses.proofs.RowsLeaveAddresses.{AreSilent, aside_does, aside_then, IsSilentWord, LeavesAddresses, not_held, StaysTo, told_append, told_by}
pub use Rattle.pl_law_addresses.proofs.SwitchSteps.{IsOfHost}
pub use Rattle.pl_law_addresses.proofs.TurnsKeepAddresses.{exists_at, filled_within}
pub use Rattle.pl_law_addresses.proofs.AddressLemmas.{any_before, any_behind, any_rest, find_passes, get-set_other, get-set_same, is_or_other, one_index, other_turned, same_by}
