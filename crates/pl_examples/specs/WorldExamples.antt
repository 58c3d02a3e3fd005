-- Steps of a small world, whose switches, hosts and manager have rules of a line. Hosts a and b stand at ports 0 and 1 of e0.0.
use Rattle.std.specs.Prelude.{◌≡◌, ℕ, true, false, List, [], ◌∷◌, Some, None, refl, replicate, slice_set}
use Rattle.pl_wiring.specs.declared.label.SwitchNo.{SwitchNo}
use Rattle.pl_wiring.specs.declared.link.Link.{Link}
use Rattle.pl_node.specs.declared.acts.Act.{Act}
use Rattle.pl_node.specs.declared.acts.Act.TheVariants as act
use Rattle.pl_node.specs.declared.acts.HostAct.TheVariants.{Send}
use Rattle.pl_journal.specs.declared.cause.Cause.TheVariants as cause
use Rattle.pl_journal.specs.declared.entry.Entry.{Entry}
use Rattle.pl_journal.specs.declared.entry.Entry.TheVariants.{Arrived, Copied, Crossed, Dropped, LinkDown, Made, Moved, Redirected, Restarted, Sent, Taken}
use Rattle.pl_world.specs.declared.event.Event.TheVariants.{Deliver, Fail, Lose, Move, Repair, Restart}
use Rattle.pl_world.specs.declared.event.QueueName.TheVariants as queue
use Rattle.pl_node.specs.declared.messages.ToManager.TheVariants.{PodWanted}
use Rattle.pl_node.specs.declared.messages.ToSwitch.TheVariants.{Hello, Pod}
use Rattle.pl_node.specs.declared.reception.Reception.TheVariants.{Kept}
use Rattle.pl_layouts.specs.ArpFrames.{arp_frame}
use Rattle.pl_examples.specs.ExampleFrames.{mac_a, pmac_a, pmac_b}
use Rattle.pl_examples.specs.FirstPath.{a, b, e00, switch, two_hosts}
use Rattle.pl_host_rule.specs.HostRule.{start_frame}
use Rattle.pl_node.specs.HostInputs.{HostRule}
use Rattle.pl_node.specs.HostInputs.HostAnswer.{Nothing, Received}
use Rattle.pl_node.specs.ManagerDuties.{ManagerRule}
use Rattle.pl_node.specs.SwitchInputs.{SwitchRule}
use Rattle.pl_node.specs.SwitchInputs.SwitchInput.{Comes}
use Rattle.pl_world.specs.declared.error.StepError.TheVariants.{AlreadySo, NoSuch, NothingThere, Occupied, StepsSpent}
use Rattle.pl_world.specs.declared.item.Item.{Item}
use Rattle.pl_world.specs.declared.item.Item.TheVariants.{Control, Data}
use Rattle.pl_world.specs.declared.spoken_frame.SpokenFrame.TheVariants.{Waiting}
use Rattle.pl_world.specs.Booting.{booted}
use Rattle.pl_world.specs.LinksAndMoves.{with_link}
use Rattle.pl_world.specs.Refusals.{refusal}
use Rattle.pl_world.specs.SwitchActs.{acts_done, begins, with_late}
use Rattle.pl_world.specs.WorldRule.{WorldStep}
use Rattle.pl_world.specs.Worlds.{WorldView}

-- host a asks for its own address
abbrev pub a_starts : List ℕ
a_starts = start_frame (record { mac = mac_a; ip = record { 0 = 0x0a000001 } })

-- a switch that passes each frame on by its port 1, a manager that does nothing, and a host that keeps what arrives
abbrev pub PassesOn : SwitchRule
PassesOn before (Comes port frame) after acts = (after ≡ before) × (acts ≡ act.Pass 1 frame ∷ [])
PassesOn before input after acts = ⊥

abbrev pub ManagerRests : ManagerRule
ManagerRests before s told after acts = (after ≡ before) × (acts ≡ [])

abbrev pub Keeps : HostRule
Keeps before input after acts answer = (after ≡ before) × (acts ≡ []) × (answer ≡ Received Kept)

-- and one that begins again wherever it comes to
abbrev pub StartsAgain : HostRule
StartsAgain before input after acts answer = (after ≡ before) × (acts ≡ Send a_starts ∷ []) × (answer ≡ Nothing)

abbrev pub start : WorldView
start = booted two_hosts (record { steps = 100; entries = 100; bytes = 10000 })

-- the switches e0.1 and a0.0
abbrev pub e01 : SwitchNo
e01 = switch 1

abbrev pub a00 : SwitchNo
a00 = switch 8

-- a world in which these items wait out of ports of e0.0 (number 0 to 3) and of a0.0 (32 to 35), four queues a switch
abbrev pub with_queue : WorldView → ℕ → List Item → WorldView
with_queue w at items = record w { out = slice_set w.out at items }

-- host a has sent its first frame
abbrev pub a_has_sent : WorldView
a_has_sent = record start { from_hosts = (Data 1 a_starts ∷ []) ∷ [] ∷ []; journal = Sent 1 a a_starts ∷ []; begun = 1 }

-- it is delivered to e0.0, which passes it on; host a is heard
abbrev pub e00_has_passed_it_on : WorldView
e00_has_passed_it_on = record start {
  heard = Some 0 ∷ None ∷ [];
  out = slice_set start.out 1 (Data 1 a_starts ∷ []);
  journal = Sent 1 a a_starts ∷ Crossed 1 e00 ∷ [];
  begun = 1;
  steps = 1;
}

-- and then to host b
abbrev pub b_has_it : WorldView
b_has_it = record start {
  heard = Some 0 ∷ None ∷ [];
  journal = Sent 1 a a_starts ∷ Crossed 1 e00 ∷ Arrived 1 b a_starts ∷ [];
  begun = 1;
  steps = 2;
}

a_frame_crosses_the_switch_of_its_host : WorldStep PassesOn ManagerRests Keeps a_has_sent (Deliver (queue.FromHost a)) e00_has_passed_it_on
unfolding arp_frame
a_frame_crosses_the_switch_of_its_host =
    record { before = _; after = _; acts = act.Pass 1 a_starts ∷ []; found = refl; ruled = (refl, refl); changed = refl }

it_arrives_at_the_host_at_the_other_port : WorldStep PassesOn ManagerRests Keeps e00_has_passed_it_on (Deliver (queue.Port e00 1)) b_has_it
unfolding arp_frame
it_arrives_at_the_host_at_the_other_port =
    record { reception = Kept; turn = record { before = _; after = _; acts = []; found = refl; ruled = (refl, refl, refl); changed = refl } }

-- Items wait on both ways of the link of e0.0 and a0.0, which is at port 2 of the one and port 0 of the other.
abbrev pub crowded_link : WorldView
crowded_link = with_queue (with_queue start 2 (Data 4 [] ∷ Control [] ∷ Data 2 [] ∷ [])) 32 (Data 3 [] ∷ [])

abbrev pub the_link : Link
the_link = record { lower = e00; lower_port = 2; upper = a00; upper_port = 0 }

-- it fails
abbrev pub emptied_link : WorldView
emptied_link = record start {
  links = with_link start.links the_link false;
  journal = LinkDown e00 a00 ∷ Dropped 4 cause.LinkDown ∷ Dropped 2 cause.LinkDown ∷ Dropped 3 cause.LinkDown ∷ [];
  steps = 1;
}

a_failed_link_ends_its_frames_those_on_their_way_up_first : WorldStep PassesOn ManagerRests Keeps crowded_link (Fail a00 e00) emptied_link
a_failed_link_ends_its_frames_those_on_their_way_up_first = refl

-- Frames wait in the queue of host a and in the queue to it.
abbrev pub crowded_host : WorldView
crowded_host = record (with_queue start 0 (Control [] ∷ Data 1 [] ∷ [])) { from_hosts = (Data 2 [] ∷ []) ∷ [] ∷ []; begun = 2 }

-- it moves to port 0 of e0.1
abbrev pub a_has_moved : WorldView
a_has_moved = record start {
  attachments = record { edge = e01; port = 0 } ∷ record { edge = e00; port = 1 } ∷ [];
  from_hosts = (Data 3 a_starts ∷ []) ∷ [] ∷ [];
  journal = Moved a e01 0 ∷ Dropped 2 cause.HostGone ∷ Dropped 1 cause.HostGone ∷ Sent 3 a a_starts ∷ [];
  begun = 3;
  steps = 1;
}

a_host_that_moves_leaves_its_frames_behind : WorldStep PassesOn ManagerRests StartsAgain crowded_host (Move a e01 0) a_has_moved
a_host_that_moves_leaves_its_frames_behind =
    record { before = _; after = _; acts = Send a_starts ∷ []; found = refl; ruled = (refl, refl, refl); changed = refl }

-- what is written of acts of e0.0 on frame 1, where its link to a0.0 is failed
abbrev pub written : List Act → List Entry
written acts = (with_late (acts_done 0 (begins (record start { links = with_link start.links the_link false; begun = 1 }) (Waiting 1 false)) acts)).journal

a_frame_that_is_redirected_crosses_the_switch_again :
    written (act.Redirect pmac_a pmac_b ∷ act.Pass 3 [] ∷ []) ≡ Redirected 1 pmac_a pmac_b ∷ Crossed 1 e00 ∷ []
a_frame_that_is_redirected_crosses_the_switch_again = refl

-- a frame goes out by three ports, the first of them failed, and then another one is made and taken
ends_on_failed_links_are_written_behind_the_copies :
    written (act.Pass 2 [] ∷ act.Pass 3 [] ∷ act.Pass 2 [] ∷ act.Make [] ∷ act.Take ∷ [])
    ≡ Copied 1 2 ∷ Copied 1 3 ∷ Dropped 1 cause.LinkDown ∷ Dropped 3 cause.LinkDown ∷ Made 4 e00 [] ∷ Crossed 4 e00 ∷ Taken 4 e00 ∷ []
ends_on_failed_links_are_written_behind_the_copies = refl

an_empty_queue_has_no_head : refusal start (Deliver (queue.FromHost a)) ≡ Some NothingThere
an_empty_queue_has_no_head = refl

there_is_no_port_4 : refusal start (Deliver (queue.Port e00 4)) ≡ Some NoSuch
there_is_no_port_4 = refl

-- no link joins e0.0 and e0.1
-- A word waits to the manager and one from it, and a frame at its host.
abbrev pub words_wait : WorldView
words_wait = record a_has_sent {
  manager = record start.manager { members = ((record { 0 = 1 }, 256), true) ∷ [] };
  to_manager = slice_set start.to_manager 0 (PodWanted ∷ []);
  from_manager = slice_set start.from_manager 8 (Pod 0 ∷ []);
}

-- the manager begins anew for the first time
abbrev pub manager_began_anew : WorldView
manager_began_anew = record a_has_sent {
  manager = record start.manager { epoch = 1; learnt = record { addresses = []; reported = []; owners = []; count = 4294967296 } };
  from_manager = replicate 20 (Hello 1 ∷ []);
  journal = Sent 1 a a_starts ∷ Restarted 1 ∷ [];
  steps = 1;
}

a_manager_that_begins_anew_loses_the_words_that_wait_and_no_frame : WorldStep PassesOn ManagerRests Keeps words_wait Restart manager_began_anew
unfolding arp_frame
a_manager_that_begins_anew_loses_the_words_that_wait_and_no_frame = refl

that_it_begins_anew_is_not_refused : refusal words_wait Restart ≡ None
unfolding arp_frame
that_it_begins_anew_is_not_refused = refl

but_for_a_limit : refusal (record start { steps = 100 }) Restart ≡ Some StepsSpent
but_for_a_limit = refl

what_is_not_linked_does_not_fail : refusal start (Fail e00 e01) ≡ Some NoSuch
what_is_not_linked_does_not_fail = refl

a_live_link_is_not_repaired : refusal start (Repair a00 e00) ≡ Some AlreadySo
a_live_link_is_not_repaired = refl

a_failed_link_is : refusal emptied_link (Repair a00 e00) ≡ None
a_failed_link_is = refl

and_does_not_fail_again : refusal emptied_link (Fail e00 a00) ≡ Some AlreadySo
and_does_not_fail_again = refl

nothing_is_lost_at_a_host_port : refusal e00_has_passed_it_on (Lose e00 1) ≡ Some NoSuch
unfolding arp_frame
nothing_is_lost_at_a_host_port = refl

no_host_moves_to_where_another_stands : refusal start (Move a e00 1) ≡ Some Occupied
no_host_moves_to_where_another_stands = refl

or_to_where_it_stands : refusal start (Move b e00 1) ≡ Some AlreadySo
or_to_where_it_stands = refl

or_to_a_link : refusal start (Move a e00 2) ≡ Some NoSuch
or_to_a_link = refl

or_to_an_aggregation_switch : refusal start (Move a a00 0) ≡ Some NoSuch
or_to_an_aggregation_switch = refl

after_the_last_step_none_is_made : refusal (record start { steps = 100 }) (Fail e00 e01) ≡ Some StepsSpent
after_the_last_step_none_is_made = refl
