-- What other crates may name of these proofs.
pub use Rattle.pl_law_control_plane.proofs.Adjacent.{adjacent_differ, adjacent_labels, adjacent_there, adjacent_turned}
pub use Rattle.pl_law_control_plane.proofs.KeptInRuns.{step_keeps_hosts}
pub use Rattle.pl_law_control_plane.proofs.PlaneQueues.{any_append, booted_view, flat_map_append, nothing_said, told_all, unless_all}
pub use Rattle.pl_law_control_plane.proofs.Reading.{grant_writable, ldm_writable, proposal_writable, refusal_writable, written_is_read}
pub use Rattle.pl_law_control_plane.proofs.Silent.{changes_to_silent, changes_told_still, IsSilent, IsStill, learns_source_silent, mute_sends_none, silent_then, still_does, still_mute, still_step, well_passes}
pub use Rattle.pl_law_control_plane.proofs.SilentAges.{ages_silent, frees_silent}
pub use Rattle.pl_law_control_plane.proofs.SilentFrames.{comes_from_switch_silent}
pub use Rattle.pl_law_control_plane.proofs.SilentHosts.{answers_silent, floods_silent, invalidates_silent, takes_in_or_spent_silent}
pub use Rattle.pl_law_control_plane.proofs.HostsAtEdgePorts.{hosts_at_first}
pub use Rattle.pl_law_control_plane.proofs.HostsStayWithoutMoves.{plan_same}
pub use Rattle.pl_law_control_plane.proofs.StepsOfPlane.{frames_come_so, step_on_plane}
pub use Rattle.pl_law_control_plane.proofs.Taking.{nothing_left}
pub use Rattle.pl_law_control_plane.proofs.TurnsInControlPlane.{solid, switch_turns}
