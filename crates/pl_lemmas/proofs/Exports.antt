-- What other crates may name of these proofs.
pub use Rattle.pl_lemmas.proofs.Bools.{and_false, and_true, and_turned, cond_and, false_before, or_behind, or_false, or_swap, or_true, or_twice, same_truth, second_false, still_is}
pub use Rattle.pl_lemmas.proofs.Lists.{all_append, all_at, all_behind, all_contained, all_filter, all_found, all_front, all_push, all_weaker, found_once, found_within, from_map, next_part, other_bytes, range_more, range_parts, replicated, replicated_empty, replicated_none, same_bytes, set_get, set_get_other, set_there}
pub use Rattle.pl_lemmas.proofs.Options.{and_then_some, if_ok, is_none_is, is_some-option_map, none_of, option_map_some, option_or_none, some_number, true_inside}
pub use Rattle.pl_lemmas.proofs.Pigeonhole.{enough}
