-- What is done at each port of a switch in turn.
use Rattle.std.specs.Prelude.{ℕ, Bool, if◌then◌else◌, List, [], ◌∷◌}
use Rattle.std.specs.List.{flat_map}
use Rattle.pl_node.specs.declared.acts.Act.{Act}
use Rattle.pl_node.specs.PortRecords.{ports_of_switch}

-- what is done at one port, for each of the k ports, rising
abbrev pub at_each_port : (ℕ → List Act) → ℕ → List Act
at_each_port told k = flat_map told (ports_of_switch k)

-- one act at a port that passes a test, and none at another
abbrev pub done_where : (ℕ → Bool) → (ℕ → Act) → ℕ → List Act
done_where test act port = if test port then act port ∷ [] else []
