-- What other crates may name of these proofs.
pub use Rattle.pl_switch_rule.proofs.AccountedSteps.{exact_is_loose, exact_steps_are_accounted, loose_steps_are_accounted}
pub use Rattle.pl_switch_rule.proofs.AgingParts.{older_at}
pub use Rattle.pl_switch_rule.proofs.AgingViews.{ages_alone, granted_older}
pub use Rattle.pl_switch_rule.proofs.Candidates.{candidate_usable}
pub use Rattle.pl_switch_rule.proofs.CausesHere.{destination_of-arp_frame}
pub use Rattle.pl_switch_rule.proofs.CausesOfSteps.{loose_drops_for_first_cause}
pub use Rattle.pl_switch_rule.proofs.ControlParts.{quiet_neighbours}
pub use Rattle.pl_switch_rule.proofs.ControlSteps.{quiet_control_comes}
pub use Rattle.pl_switch_rule.proofs.DataFrames.{arp_frame_made}
pub use Rattle.pl_switch_rule.proofs.FirstCauses.{no_first_drop}
pub use Rattle.pl_switch_rule.proofs.GoingHome.{AreGrantedAt, held_at}
pub use Rattle.pl_switch_rule.proofs.GrantingParts.{quiet_learns_source}
pub use Rattle.pl_switch_rule.proofs.Grants.{free_one, granted_parts, held_in_use, held_of, held_one, held_parts, none_granted, none_of_empty, numbered_at}
pub use Rattle.pl_switch_rule.proofs.Lengths.{length_freed}
pub use Rattle.pl_switch_rule.proofs.LevelParts.{quiet_finds_host}
pub use Rattle.pl_switch_rule.proofs.MessageParts.{quiet_forgets_members, quiet_hears_pod, quiet_sets_trap}
pub use Rattle.pl_switch_rule.proofs.ReportParts.{addresses_there, greeted_acts, links_acts}
pub use Rattle.pl_switch_rule.proofs.RowActs.{ages_acts, all_age_out_acts, announced_acts, any_group, any_way, AreWays, arp_acts, ChangeActs, changes_acts, floods_acts, FrameActs, frees_acts, GrantActs, groups_acts, idle_acts, IsAnyPort, learns_source_acts, makes_acts, packet_taken_acts, probes_acts, proposal_acts, redirects_acts, sends_in_acts, settles_in_acts, switch_frame_acts, told_acts}
pub use Rattle.pl_switch_rule.proofs.RowViews.{ages_learn, answers_stay, begins_stays, changes_learn, floods_stay, frees_learn, home_stays, host_frame_learns, invalidates_learns, LearnsHosts, LearnsSources, probes_stay, proposal_holds, sends_in_stays, settles_in_learns, source_learns, sources_are_of_hosts, Stays, stays_learns, switch_frame_stays, taken_in, with_host}
pub use Rattle.pl_switch_rule.proofs.SentFrames.{six_of_mac}
pub use Rattle.pl_switch_rule.proofs.Shapes.{all_or, all_range}
pub use Rattle.pl_switch_rule.proofs.StepActs.{control_acts, data_acts, data_acts_by, host_frame_acts, HostActs, manager_acts, neighbours_acts, step_acts, ticks_acts}
pub use Rattle.pl_switch_rule.proofs.StepParts.{IsQuiet, quiet_then_quiet}
