-- Switches that pass each data frame on by their next ports, and do nothing else.
use Rattle.std.specs.Prelude.{◌≡◌, ℕ, ◌+◌, ◌%◌, if◌then◌else◌, List, [], ◌∷◌}
use Rattle.pl_frame.specs.declared.address.SwitchId.{SwitchId}
use Rattle.pl_node.specs.declared.acts.Act.{Act}
use Rattle.pl_node.specs.declared.acts.Act.TheVariants.{Pass}
use Rattle.pl_node.specs.Announcements.{announcement}
use Rattle.pl_layouts.specs.Control.{is_control}
use Rattle.pl_node.specs.SwitchFacts.{switch_at_boot}
use Rattle.pl_node.specs.SwitchInputs.{SwitchInput, SwitchRule}
use Rattle.pl_node.specs.SwitchInputs.SwitchInput.{Comes}
use Rattle.pl_node.specs.SwitchViews.{SwitchView}

-- the port that is so many after a port; the first one comes after the last
abbrev pub port_after : ℕ → ℕ → ℕ → ℕ
port_after k port steps = (port + steps) % k

-- a data frame goes on by the next port
abbrev pub passed_next : SwitchView → SwitchInput → List Act
passed_next v (Comes port frame) = if is_control frame then [] else Pass (port_after v.k port 1) frame ∷ []
passed_next v input = []

-- and a copy of it by the one after that
abbrev pub passed_two : SwitchView → SwitchInput → List Act
passed_two v (Comes port frame) =
    if is_control frame then [] else Pass (port_after v.k port 1) frame ∷ Pass (port_after v.k port 2) frame ∷ []
passed_two v input = []

-- nothing changes
abbrev pub PassesNext : SwitchRule
PassesNext before input after acts = (after ≡ before) × (acts ≡ passed_next before input)

abbrev pub PassesTwo : SwitchRule
PassesTwo before input after acts = (after ≡ before) × (acts ≡ passed_two before input)

-- what a switch tells its neighbours as long as it knows its id alone
abbrev pub first_announcement : SwitchId → List ℕ
first_announcement id = announcement (switch_at_boot id 0) 0
