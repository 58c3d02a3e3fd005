-- What steps drop: by their turns, and by what they wrote.
use Rattle.std.specs.Prelude.{◌≡◌, false, [], ◌∷◌, Some, None, refl}
use Rattle.pl_node.specs.declared.acts.Act.TheVariants as act
use Rattle.pl_node.specs.SwitchInputs.{SwitchRule}
use Rattle.pl_node.specs.SwitchInputs.SwitchInput.{Comes}
use Rattle.pl_layouts.specs.ArpFrames.{arp_frame}
use Rattle.pl_journal.specs.declared.cause.Cause.TheVariants.{LinkDown, NoNextHop, NotPlaced}
use Rattle.pl_journal.specs.declared.entry.Entry.TheVariants.{Crossed, Dropped, Sent}
use Rattle.pl_world.specs.declared.event.Event.TheVariants.{Deliver, Fail}
use Rattle.pl_world.specs.declared.event.QueueName.TheVariants as queue
use Rattle.pl_world.specs.Changes.{is_failed_at}
use Rattle.pl_world.specs.Drops.{coming, dropped, dropped_by_acts, drops_in, made_by_acts, turn_of, written}
use Rattle.pl_world.specs.Drops.Turn.{OfSwitch}
use Rattle.pl_world.specs.LinksAndMoves.{with_link}
use Rattle.pl_world.specs.WorldRule.{WorldStep}
use Rattle.pl_world.specs.Worlds.{WorldView}
use Rattle.pl_examples.specs.FirstPath.{a, e00}
use Rattle.pl_examples.specs.WorldExamples.{Keeps, PassesOn, ManagerRests, a00, a_has_sent, a_starts, crowded_link, e00_has_passed_it_on, emptied_link, start, the_link}

-- a switch that drops whatever comes
abbrev DropsAll : SwitchRule
DropsAll before (Comes port frame) after acts = (after ≡ before) × (acts ≡ act.Drop NotPlaced ∷ [])
DropsAll before input after acts = ⊥

abbrev e00_has_dropped_it : WorldView
e00_has_dropped_it = record start {
  heard = Some 0 ∷ None ∷ [];
  journal = Sent 1 a a_starts ∷ Crossed 1 e00 ∷ Dropped 1 NotPlaced ∷ [];
  begun = 1;
  steps = 1;
}

it_drops_the_frame : WorldStep DropsAll ManagerRests Keeps a_has_sent (Deliver (queue.FromHost a)) e00_has_dropped_it
unfolding arp_frame
it_drops_the_frame = record { before = _; after = _; acts = act.Drop NotPlaced ∷ []; found = refl; ruled = (refl, refl); changed = refl }

the_frame_of_a_comes_at_e00 : coming a_has_sent (Deliver (queue.FromHost a)) ≡ Some (record { switch = 0; input = Comes 0 a_starts; frame = Some 1 })
the_frame_of_a_comes_at_e00 = refl

its_turn_is_that_switchs : turn_of DropsAll ManagerRests Keeps a_has_sent (Deliver (queue.FromHost a)) e00_has_dropped_it it_drops_the_frame ≡ OfSwitch (act.Drop NotPlaced ∷ [])
unfolding arp_frame it_drops_the_frame
its_turn_is_that_switchs = refl

its_turn_says_so : dropped a_has_sent (Deliver (queue.FromHost a)) (OfSwitch (act.Drop NotPlaced ∷ [])) ≡ (1, NotPlaced) ∷ []
its_turn_says_so = refl

and_it_is_written : drops_in (written a_has_sent e00_has_dropped_it) ≡ (1, NotPlaced) ∷ []
unfolding arp_frame
and_it_is_written = refl

-- a frame that is passed on is not dropped
nothing_is_said : dropped a_has_sent (Deliver (queue.FromHost a)) (OfSwitch (act.Pass 1 a_starts ∷ [])) ≡ []
nothing_is_said = refl

nothing_is_written : drops_in (written a_has_sent e00_has_passed_it_on) ≡ []
unfolding arp_frame
nothing_is_written = refl

-- a link fails, with frames on both its ways
abbrev the_link_fails : WorldStep PassesOn ManagerRests Keeps crowded_link (Fail a00 e00) emptied_link
the_link_fails = refl

both_ways_are_lost : dropped crowded_link (Fail a00 e00) (turn_of PassesOn ManagerRests Keeps crowded_link (Fail a00 e00) emptied_link the_link_fails)
    ≡ (4, LinkDown) ∷ (2, LinkDown) ∷ (3, LinkDown) ∷ []
both_ways_are_lost = refl

and_they_are_written : drops_in (written crowded_link emptied_link) ≡ (4, LinkDown) ∷ (2, LinkDown) ∷ (3, LinkDown) ∷ []
and_they_are_written = refl

-- Frame 1 goes out by three ports, of which 2 has that failed link; then another one is made and dropped.
abbrev failed : WorldView
failed = record start { links = with_link start.links the_link false; begun = 1 }

it_goes_out_by_three_ports :
    dropped_by_acts (is_failed_at failed 0) 1 (Some 1) (act.Pass 2 [] ∷ act.Pass 3 [] ∷ act.Pass 2 [] ∷ act.Make [] ∷ act.Drop NoNextHop ∷ [])
    ≡ (1, LinkDown) ∷ (3, LinkDown) ∷ (4, NoNextHop) ∷ []
it_goes_out_by_three_ports = refl

the_other_one_is_number_four : made_by_acts 1 (Some 1) (act.Pass 2 [] ∷ act.Pass 3 [] ∷ act.Pass 2 [] ∷ act.Make [] ∷ act.Drop NoNextHop ∷ []) ≡ 4 ∷ []
the_other_one_is_number_four = refl
