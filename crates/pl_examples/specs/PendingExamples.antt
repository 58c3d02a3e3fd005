-- What is pending in a small world.
use Rattle.std.specs.Prelude.{◌≡◌, ℕ, List, [], ◌∷◌, refl, slice_set}
use Rattle.pl_node.specs.declared.messages.ToManager.TheVariants.{PodWanted, Query}
use Rattle.pl_node.specs.declared.messages.ToSwitch.TheVariants.{Flood, Pod}
use Rattle.pl_node.specs.Announcements.{announcement}
use Rattle.pl_layouts.specs.Control.{control_bytes, control_frame}
use Rattle.pl_examples.specs.ExampleFrames.{pmac_a}
use Rattle.pl_node.specs.SwitchFacts.{switch_at_boot}
use Rattle.pl_world.specs.declared.item.Item.TheVariants.{Control, Data}
use Rattle.pl_world.specs.Pending.{is_stale, pending}
use Rattle.pl_examples.specs.WorldExamples.{start, with_queue}
use Rattle.pl_world.specs.Worlds.{WorldView}

-- what e0.0, whose id is 1, announces out of its port 2 at first
abbrev pub e00_announces : List ℕ
e00_announces = announcement (switch_at_boot (record { 0 = 1 }) 4) 2

nothing_is_pending_at_first : pending start ≡ 0
nothing_is_pending_at_first = refl

a_message_that_is_sent_again_is_not_pending : pending (with_queue start 2 (Control e00_announces ∷ Data 1 [] ∷ [])) ≡ 0
unfolding control_bytes control_frame is_stale
a_message_that_is_sent_again_is_not_pending = refl

-- out of port 0 of a0.0
the_message_of_another_switch_is : pending (with_queue start 32 (Control e00_announces ∷ Data 1 [] ∷ [])) ≡ 1
unfolding control_bytes control_frame is_stale
the_message_of_another_switch_is = refl

-- e0.0 asks who has an address, and wants a pod; all hosts are to be asked, and e0.1 gets its pod
abbrev pub messages_wait : WorldView
messages_wait = record start {
  to_manager = slice_set start.to_manager 0 (Query pmac_a (record { 0 = 1 }) (record { 0 = 2 }) ∷ PodWanted ∷ []);
  from_manager = slice_set start.from_manager 1 (Flood pmac_a (record { 0 = 1 }) (record { 0 = 2 }) ∷ Pod 3 ∷ []);
}

all_messages_are_but_questions_and_answers : pending messages_wait ≡ 2
all_messages_are_but_questions_and_answers = refl
