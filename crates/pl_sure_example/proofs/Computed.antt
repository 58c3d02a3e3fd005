-- The run, computed.
use Rattle.std.proofs.Common.{◌≡◌, true, false, List, [], ◌∷◌, ◌++◌, Option, Some, option_map, refl}
use Rattle.std.specs.List.{list_any}
use Rattle.hex.specs.Hex.{decode_pairs}
use Rattle.pl_layouts.specs.ArpFrames.{arp_frame}
use Rattle.pl_layouts.specs.Control.{control_bytes, control_frame, control_in}
use Rattle.pl_journal.specs.declared.entry.Entry.TheVariants.{Arrived, Crossed, Sent}
use Rattle.pl_node.specs.AvoidLists.{avoid_list}
use Rattle.pl_node.specs.Trees.{core_of, tree_part}
use Rattle.pl_host_rule.specs.HostRule.{skip_of}
use Rattle.pl_node.specs.HostViews.{groups_after}
use Rattle.pl_manager_rule.specs.ManagerRule.{manager_hears}
use Rattle.pl_manager_rule.specs.WholeRule.{manager_steps}
use Rattle.pl_switch_rule.specs.Aging.{all_age_out}
use Rattle.pl_switch_rule.specs.Granting.{grants_remembered}
use Rattle.pl_world.specs.declared.event.Event.{Event}
use Rattle.pl_world.specs.declared.event.Event.TheVariants as event
use Rattle.pl_world.specs.Worlds.{WorldView}
use Rattle.pl_examples.specs.ExampleFrames.{a_to_b, a_to_b_arrived}
use Rattle.pl_examples.specs.FirstPath.{a, b, e00}
use Rattle.pl_sure_example.specs.Scene.{arrived, at_rest, begun, crossed, cut, is_sent, round, sent, snapshot, start, sure_with, ticks}
use Rattle.pl_sure_example.specs.Executing.{all_made}
use Rattle.pl_sure_example.specs.Worked.{IsWorked}
use Rattle.pl_sure_example.proofs.Executions.{AllLead, lead_all, lead_start, lead_swept}
use Rattle.pl_sure_example.proofs.Sure.{assembled}

rest_is : option_map (λ w. list_any (is_sent 3) w.journal) at_rest ≡ Some false
unfolding all_age_out arp_frame control_frame control_in control_bytes manager_steps manager_hears avoid_list core_of tree_part grants_remembered
rest_is = refl

sent_is : option_map snapshot sent ≡ Some (sure_with true 0 (Some (Sent 3 a a_to_b)))
unfolding all_age_out arp_frame control_frame control_in control_bytes manager_steps manager_hears avoid_list core_of tree_part grants_remembered decode_pairs skip_of groups_after
sent_is = refl

crossed_is : option_map snapshot crossed ≡ Some (sure_with true 0 (Some (Crossed 3 e00)))
unfolding all_age_out arp_frame control_frame control_in control_bytes manager_steps manager_hears avoid_list core_of tree_part grants_remembered decode_pairs skip_of groups_after
crossed_is = refl

arrived_is : option_map snapshot arrived ≡ Some (sure_with true 1 (Some (Arrived 3 b a_to_b_arrived)))
unfolding all_age_out arp_frame control_frame control_in control_bytes manager_steps manager_hears avoid_list core_of tree_part grants_remembered decode_pairs skip_of groups_after
arrived_is = refl

lead_round : (o : Option WorldView) → AllLead start o → AllLead start (round o)
lead_round o all = lead_swept start 40 (all_made o ticks) (lead_all start o all ticks)

abbrev hosts_start : List Event
hosts_start = cut ++ (event.Start a ∷ event.Start b ∷ [])

lead_begun : AllLead start begun
lead_begun = lead_swept start 4 (all_made (Some start) hosts_start) (lead_all start (Some start) (lead_start start) hosts_start)

lead_at_rest : AllLead start at_rest
lead_at_rest = lead_round _ (lead_round _ (lead_round _ (lead_round _ (lead_round _ (lead_round begun lead_begun)))))

pub worked : IsWorked
worked = assembled at_rest lead_at_rest rest_is sent_is crossed_is arrived_is
