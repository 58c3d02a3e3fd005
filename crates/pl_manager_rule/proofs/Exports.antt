-- What other crates may name of these proofs.
pub use Rattle.pl_node.proofs.Exports.{avoided_exact, avoided_total, id_exact}
pub use Rattle.pl_manager_rule.proofs.Aging.{AreReleases, aged_keeps, aged_registration, aged_releases, find_gone, find_kept, forgotten_registration, IsReleaseOf, other_registration}
pub use Rattle.pl_manager_rule.proofs.Avoided.{among_placed, among_switches, avoided_is_listed, groups_rise, id_among, id_is, id_itself, IsPlacedAs, listed_is_avoided, neighbours_rise, placed_among, same_is, switches_rise, teller_of_level}
pub use Rattle.pl_manager_rule.proofs.History.{ip_after, value_after, word_after}
pub use Rattle.pl_manager_rule.proofs.Kept.{boots_in_order, ip_exact, ip_total, link_exact, link_total, members_exact, members_total, near_usable, stays_in_order}
pub use Rattle.pl_manager_rule.proofs.Learning.{any_mapped, any_registered, find_mapped}
pub use Rattle.pl_manager_rule.proofs.Newest.{alone_filtered, alone_mapped, alone_recalled, each_alone, find_without, found_apart, found_passes, newest_again, none_recalled, others_recalled}
pub use Rattle.pl_manager_rule.proofs.FreePods.{apart_then, asks_again, asks_first, first_is_free, free_given, least_free, number_stays, of_either, one_free, own_number}
pub use Rattle.pl_manager_rule.proofs.Registered.{asker_has_pod, pmac_turned, switch_turned}
pub use Rattle.pl_manager_rule.proofs.Reported.{IsReleaseTo, released_to}
pub use Rattle.pl_manager_rule.proofs.Repeated.{no_avoid_acts, no_tree_acts, none_differ}
pub use Rattle.pl_manager_rule.proofs.Sameness.{avoid_lists_alike, ids_alike, parts_alike}
pub use Rattle.pl_manager_rule.proofs.Speakers.{among_is_heard, gathered_speaks, known_among, now_or_before, spoke_or_gathered}
pub use Rattle.pl_manager_rule.proofs.WholeDuties.{treated_speaks, whole_answers}
pub use Rattle.pl_manager_rule.proofs.Tables.{among_put, found_key, keys_inserted, rising_put, value_put}
