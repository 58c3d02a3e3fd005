-- Two edge switches, 5 and 9, propose the same position to two aggregation switches, 30 and 31: the one with the smaller id gets it, and the other
-- one the next. Each has four ports.
use Rattle.std.specs.Prelude.{◌≡◌, ℕ, Bool, true, false, List, [], ◌∷◌, drop, Option, Some, None, refl}
use Rattle.pl_frame.specs.declared.address.SwitchId.{SwitchId}
use Rattle.pl_node.specs.declared.acts.Act.{Act}
use Rattle.pl_node.specs.declared.acts.Act.TheVariants.{Control, Tell}
use Rattle.pl_layouts.specs.declared.control.Control.TheVariants as control
use Rattle.pl_layouts.specs.declared.control.Proposal.{Proposal}
use Rattle.pl_layouts.specs.declared.control.Vote.{Vote}
use Rattle.pl_node.specs.declared.messages.ToManager.TheVariants.{Place as TellPlace, PodWanted}
use Rattle.pl_node.specs.declared.neighbour.PortRecord.{PortRecord}
use Rattle.pl_layouts.specs.declared.place.Place.{Place}
use Rattle.pl_switch_rule.specs.Aging.{all_age_out}
use Rattle.pl_switch_rule.specs.Announcing.{ticks}
use Rattle.pl_layouts.specs.Control.{control_frame}
use Rattle.pl_switch_rule.specs.Levels.{changes_to}
use Rattle.pl_node.specs.PortRecords.{new_port}
use Rattle.pl_switch_rule.specs.Positions.{after_vote, hears_proposal, notes_position}
use Rattle.pl_node.specs.SwitchFacts.{switch_at_boot}
use Rattle.pl_node.specs.declared.switch_records.Hold.{Hold}
use Rattle.pl_node.specs.SwitchViews.{SwitchView}

abbrev pub switch : ℕ → SwitchId
switch n = record { 0 = n }

abbrev pub level : ℕ → Place
level n = record { level = Some n; position = None; pod = None }

-- a port at which that switch was heard just now, and has heard this one
abbrev pub port_to : SwitchId → SwitchId → Place → PortRecord
port_to me id place = record { host = false; heard = Some (record { id = id; place = place; echo = Some me }); silent = 0 }

-- ports 2 and 3 lead up
abbrev pub edge : ℕ → SwitchView
edge n = record (switch_at_boot (switch n) 4) {
  place = level 0;
  ports = new_port ∷ new_port ∷ port_to (switch n) (switch 30) (level 1) ∷ port_to (switch n) (switch 31) (level 1) ∷ [];
}

-- ports 0 and 1 lead down
abbrev pub aggregation : ℕ → SwitchView
aggregation n = record (switch_at_boot (switch n) 4) {
  place = level 1;
  ports = port_to (switch n) (switch 5) (level 0) ∷ port_to (switch n) (switch 9) (level 0) ∷ new_port ∷ new_port ∷ [];
}

abbrev pub propose : ℕ → ℕ → Proposal
propose attempt position = record { attempt = attempt; position = position }

abbrev pub grant : ℕ → ℕ → Vote
grant attempt position = record { attempt = attempt; position = position; granted = true; holder = None; fixed = false }

abbrev pub refusal : ℕ → ℕ → ℕ → Bool → Vote
refusal attempt position holder fixed =
    record { attempt = attempt; position = position; granted = false; holder = Some (switch holder); fixed = fixed }

abbrev pub held : ℕ → Bool → Option Hold
held edge fixed = Some (record { edge = switch edge; fixed = fixed })

abbrev pub vote_out : ℕ → ℕ → Vote → List Act
vote_out port from vote = Control port (control_frame (control.Vote (switch from) vote)) ∷ []

-- 30 hears 5 first, and then 9
abbrev pub heard_5 : SwitchView
heard_5 = (hears_proposal (aggregation 30) 0 (switch 5) (propose 1 0)).view

the_first_is_granted : (hears_proposal (aggregation 30) 0 (switch 5) (propose 1 0)).acts ≡ vote_out 0 30 (grant 1 0)
the_first_is_granted = refl

the_second_is_refused : (hears_proposal heard_5 1 (switch 9) (propose 1 0)).acts ≡ vote_out 1 30 (refusal 1 0 5 false)
the_second_is_refused = refl

the_first_holds_it : (hears_proposal heard_5 1 (switch 9) (propose 1 0)).view.holds ≡ held 5 false ∷ None ∷ []
the_first_holds_it = refl

-- and 31 hears 9 first
abbrev pub heard_9 : SwitchView
heard_9 = (hears_proposal (aggregation 31) 1 (switch 9) (propose 1 0)).view

the_smaller_is_refused_too : (hears_proposal heard_9 0 (switch 5) (propose 1 0)).acts ≡ vote_out 0 31 (refusal 1 0 9 false)
the_smaller_is_refused_too = refl

-- one grant of two is not enough
one_is_no_majority : (after_vote (edge 5) 2 (grant 1 0)).place ≡ level 0
one_is_no_majority = refl

-- 9 gives way to 5
abbrev pub moved_on : SwitchView
moved_on = after_vote (after_vote (edge 9) 3 (grant 1 0)) 2 (refusal 1 0 5 false)

the_larger_moves_on : moved_on ≡ record (edge 9) { attempt = 2; proposed = 1 }
the_larger_moves_on = refl

-- and 5 proposes the same again
abbrev pub stays : SwitchView
stays = after_vote (after_vote (edge 5) 2 (grant 1 0)) 3 (refusal 1 0 9 false)

the_smaller_stays : stays ≡ record (edge 5) { granted = 2 ∷ [] }
the_smaller_stays = refl

-- the next proposal of 9 frees what 31 held for it
abbrev pub freed : SwitchView
freed = (hears_proposal heard_9 1 (switch 9) (propose 2 1)).view

it_frees_the_other : freed.holds ≡ None ∷ held 9 false ∷ []
it_frees_the_other = refl

it_is_granted_then : (hears_proposal freed 0 (switch 5) (propose 1 0)).acts ≡ vote_out 0 31 (grant 1 0)
it_is_granted_then = refl

-- with the second grant the position is fixed; the manager is told, and asked for the number of the pod
abbrev pub at_position : ℕ → Place
at_position n = record { level = Some 0; position = Some n; pod = None }

its_position_is_fixed : (changes_to stays (after_vote stays 3 (grant 1 0))).acts ≡ Tell (TellPlace (at_position 0)) ∷ Tell PodWanted ∷ []
its_position_is_fixed = refl

the_other_asks_for_no_pod : (changes_to moved_on (after_vote (record moved_on { granted = 2 ∷ [] }) 3 (grant 2 1))).acts ≡ Tell (TellPlace (at_position 1)) ∷ []
the_other_asks_for_no_pod = refl

-- a vote of an earlier attempt does not count
an_old_vote_does_not_count : after_vote moved_on 2 (grant 1 0) ≡ moved_on
an_old_vote_does_not_count = refl

-- nor does any vote once the position is fixed
nothing_moves_a_fixed_one : after_vote (record (edge 9) { place = at_position 0 }) 2 (refusal 1 0 5 true) ≡ record (edge 9) { place = at_position 0 }
nothing_moves_a_fixed_one = refl

-- a smaller one gives way to a position that is fixed
a_fixed_holder_stays : after_vote (edge 5) 2 (refusal 1 0 9 true) ≡ record (edge 5) { attempt = 2; proposed = 1 }
a_fixed_holder_stays = refl

no_attempt_follows_the_last : after_vote (record (edge 9) { attempt = 4294967295 }) 2 (refusal 4294967295 0 5 true) ≡ record (edge 9) { attempt = 4294967295 }
no_attempt_follows_the_last = refl

-- a message with a position marks it, and frees the others that were held for that switch
a_position_is_marked : (notes_position (record (aggregation 30) { holds = held 5 false ∷ held 9 false ∷ [] }) (switch 9) (Some 1)).holds
    ≡ held 5 false ∷ held 9 true ∷ []
a_position_is_marked = refl

it_frees_what_it_left : (notes_position (record (aggregation 30) { holds = held 9 false ∷ None ∷ [] }) (switch 9) (Some 1)).holds
    ≡ None ∷ held 9 true ∷ []
it_frees_what_it_left = refl

-- an edge switch without a position proposes to those that have not granted
the_others_are_asked : drop 4 (ticks stays).acts ≡ Control 3 (control_frame (control.Proposal (switch 5) (propose 1 0))) ∷ []
unfolding all_age_out
the_others_are_asked = refl
