-- Switches of a tree of four ports, and what they do with frames. Edge switches have the ids 1 to 8, aggregation switches 9 to 16, core switches
-- 17 to 20. The hosts are those of the example frames.
use Rattle.std.specs.Prelude.{◌≡◌, ℕ, ◌+◌, ◌*◌, [], ◌∷◌, map, Some, None, refl}
use Rattle.pl_pmac.specs.declared.pmac.Pmac.{Pmac}
use Rattle.pl_switch_rule.specs.declared.came.Came.TheVariants.{FromAbove, FromBelow, FromHost}
use Rattle.pl_layouts.specs.declared.place.Place.{Place}
use Rattle.pl_switch_rule.specs.Forwarding.{candidates}
use Rattle.pl_node.specs.PortRecords.{new_port}
use Rattle.pl_node.specs.SwitchFacts.{switch_at_boot}
use Rattle.pl_node.specs.SwitchViews.{SwitchView}
use Rattle.pl_examples.specs.VoteExamples.{port_to, switch}

abbrev pub edge_at : ℕ → ℕ → Place
edge_at pod position = record { level = Some 0; position = Some position; pod = Some pod }

abbrev pub aggregation_of : ℕ → Place
aggregation_of pod = record { level = Some 1; position = None; pod = Some pod }

abbrev pub core : Place
core = record { level = Some 2; position = None; pod = None }

-- e0.0, whose ports 2 and 3 lead to a0.0 and a0.1
abbrev pub e00 : SwitchView
e00 = record (switch_at_boot (switch 1) 4) {
  place = edge_at 0 0;
  ports = new_port ∷ new_port ∷ port_to (switch 1) (switch 9) (aggregation_of 0) ∷ port_to (switch 1) (switch 10) (aggregation_of 0) ∷ [];
}

-- a0.0, whose ports 0 and 1 lead to e0.0 and e0.1, and ports 2 and 3 to c0.0 and c0.1
abbrev pub a00 : SwitchView
a00 = record (switch_at_boot (switch 9) 4) {
  place = aggregation_of 0;
  ports = port_to (switch 9) (switch 1) (edge_at 0 0) ∷ port_to (switch 9) (switch 2) (edge_at 0 1)
      ∷ port_to (switch 9) (switch 17) core ∷ port_to (switch 9) (switch 18) core ∷ [];
}

-- c0.0, whose ports lead to the first aggregation switch of each pod
abbrev pub c00 : SwitchView
c00 = record (switch_at_boot (switch 17) 4) {
  place = core;
  ports = map (λ pod. port_to (switch 17) (switch (9 + 2 * pod)) (aggregation_of pod)) (0 ∷ 1 ∷ 2 ∷ 3 ∷ []);
}

abbrev pub address : ℕ → ℕ → Pmac
address pod position = record { pod = pod; position = position; port = 0; vmid = 1 }

-- The candidates at each kind of place.

up_from_the_edge : candidates e00 (address 1 0) FromHost ≡ 2 ∷ 3 ∷ []
unfolding candidates
up_from_the_edge = refl

up_from_an_aggregation_switch : candidates a00 (address 1 0) FromBelow ≡ 2 ∷ 3 ∷ []
unfolding candidates
up_from_an_aggregation_switch = refl

down_from_the_core : candidates c00 (address 1 0) FromBelow ≡ 1 ∷ []
unfolding candidates
down_from_the_core = refl

down_within_the_pod : candidates a00 (address 0 1) FromAbove ≡ 1 ∷ []
unfolding candidates
down_within_the_pod = refl

across_the_pod : candidates a00 (address 0 1) FromBelow ≡ 1 ∷ []
unfolding candidates
across_the_pod = refl

-- what came down does not go up again
never_up_again : candidates a00 (address 1 0) FromAbove ≡ []
unfolding candidates
never_up_again = refl

never_up_from_the_edge_again : candidates e00 (address 1 0) FromAbove ≡ []
unfolding candidates
never_up_from_the_edge_again = refl

-- an avoided neighbour is no candidate
abbrev pub with_avoided : SwitchView → ℕ → ℕ → ℕ → SwitchView
with_avoided v n pod position = record v { avoid = (switch n, pod, position) ∷ [] }

an_avoided_port : candidates (with_avoided e00 9 1 0) (address 1 0) FromHost ≡ 3 ∷ []
unfolding candidates
an_avoided_port = refl

for_another_address_it_is_one : candidates (with_avoided e00 9 1 0) (address 1 1) FromHost ≡ 2 ∷ 3 ∷ []
unfolding candidates
for_another_address_it_is_one = refl

avoided_by_an_aggregation_switch : candidates (with_avoided a00 18 1 0) (address 1 0) FromBelow ≡ 2 ∷ []
unfolding candidates
avoided_by_an_aggregation_switch = refl

-- nor is a port that was silent for three ticks, or whose neighbour has not heard this switch
abbrev pub silent_a00 : SwitchView
silent_a00 = record a00 {
  ports = new_port ∷ new_port ∷ record (port_to (switch 9) (switch 17) core) { silent = 3 } ∷ port_to (switch 10) (switch 18) core ∷ [];
}

no_port_is_usable : candidates silent_a00 (address 1 0) FromBelow ≡ []
unfolding candidates
no_port_is_usable = refl
