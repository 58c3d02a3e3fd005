-- What other crates may name of these proofs.
pub use Rattle.pl_world.proofs.AlongRuns.{run_along}
pub use Rattle.pl_world.proofs.Balances.{emptied_host_balance, emptied_out_balance, head_is_item, Owes, sent_is_item, took_host_balance, took_out_balance}
pub use Rattle.pl_world.proofs.Begun.{all_are_live, begun_counted, begun_within, booted_more, parts_formed, parts_make}
pub use Rattle.pl_world.proofs.Beside.{Any, any_of_switches, by_event_but, by_host, by_manager, by_switch, ByTurns, one_more_step, or_moved, OrMoved, out_by_hosts, step_limits, step_plan}
pub use Rattle.pl_world.proofs.Beside.OrMoved.{HasMoved, NotMoved}
pub use Rattle.pl_world.proofs.Births.{born_once}
pub use Rattle.pl_world.proofs.BootBalances.{all_live_is_for, booted_is_counted, lower_live}
pub use Rattle.pl_world.proofs.Counts.{all_at, all_found, all_set, begun-append, begun_cons, born_more, born_none, ends-append, ends-cons, ends_of-begun, one, times_in-data, times_in_all-set, within_queue}
pub use Rattle.pl_world.proofs.Drops.{step_drops, step_takes}
pub use Rattle.pl_world.proofs.Happenings.{asked_by, Happened, happened}
pub use Rattle.pl_world.proofs.Happenings.Happened.{Asked, BeganAnew, Departed, Failed, FromHost, Lost, Ordered, OutOfPort, OverLink, PlayedFrame, Repaired, Reported, Ticked}
pub use Rattle.pl_world.proofs.Hearing.{can_hear_each, heard_one_more, switches_of_tree}
pub use Rattle.pl_world.proofs.KeptSwitches.{acts_switches}
pub use Rattle.pl_world.proofs.Knowing.{step_within}
pub use Rattle.pl_world.proofs.Leaving.{acts_left, Amid, anew_left, emptied_out_left, empties_of, failed_left, host_acts_left, manager_acts_left, moved_left, repaired_left, switch_acts_left, SwitchesWrite, Takes, Writes}
pub use Rattle.pl_world.proofs.Looser.{run_allowed, run_looser}
pub use Rattle.pl_world.proofs.Refusing.{live_before, place_is_free, port_exists, port_within, there_is}
pub use Rattle.pl_world.proofs.Runs.{marked_counted, marked_within, run_is_counted}
pub use Rattle.pl_world.proofs.SameLinks.{same_states}
pub use Rattle.pl_world.proofs.SettledQueues.{is_announced-decides, none_in, none_is_pending}
pub use Rattle.pl_world.proofs.Stands.{stands_there, ticked_heard}
pub use Rattle.pl_world.proofs.StepBalances.{attachments_rest, counted, data_is_frame, event_is_not_refused, fails, found_contained, heard_rest, host_act, hosts_rest, hosts_within, noted_owes, peer_is_port, said_sound, same_refusal, Sound, sound, step_is_counted, switches_rest, tested}
pub use Rattle.pl_world.proofs.SwitchActBalances.{act_said, act_steady, amid, HasRest, IsLegal, IsSteady, owed_by, owes_nothing, said_by, said_is_legal, says_rest, Steady, told_rest}
pub use Rattle.pl_world.proofs.Turning.{at_switch_left, event_left, heard_left, host_left, Left, lost_left, manager_left, MovesAndLinks, out_left, receives_left, reception_left, skip_left, switch_left, Turned, turned, Turns}
pub use Rattle.pl_world.proofs.Turning.Left.{LinkFails, Moves, Repairs, Restarts, Stays}
pub use Rattle.pl_world.proofs.Turning.Turned.{NoTurn, OfFailed, OfHost, OfManager, OfMoved, OfRepaired, OfRestarted, OfSwitch}
