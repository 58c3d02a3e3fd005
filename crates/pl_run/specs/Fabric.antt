-- What the program plays a script on: switches that pass frames on by their flows, the fabric manager and hosts; or learning bridges, a manager that says
-- nothing and the same hosts, on the tree that is left of the links. Each goes by its rule.
use Rattle.std.specs.Prelude.{ℕ, List, Option}
use Rattle.pl_shelf.specs.Held.{Held, ShelfMoment}
use Rattle.pl_inputs.specs.declared.status.Status.{Status}
use Rattle.pl_inputs.specs.declared.words.Network.{Network}
use Rattle.pl_inputs.specs.declared.words.Network.TheVariants as network
use Rattle.pl_inputs.specs.Inputs.{Inputs}
use Rattle.pl_bridge_rule.specs.BridgeRule.{Bridges}
use Rattle.pl_bridge_rule.specs.QuietManager.{IsQuiet}
use Rattle.pl_host_rule.specs.HostRule.{host_rule}
use Rattle.pl_manager_rule.specs.WholeRule.{whole_rule}
use Rattle.pl_switch_rule.specs.SwitchRule.{Exact}
use Rattle.pl_script_rule.specs.declared.stop.Stop.{Stop}
use Rattle.pl_script_rule.specs.Scenes.{Scene}
use Rattle.pl_output.specs.Saved.{Saving}
use Rattle.pl_playing.specs.Networks.{on_bridges, on_fabric}
use Rattle.pl_playing.specs.Outcomes.{Play}
use Rattle.pl_playing.specs.Outcomes as playing
use Rattle.pl_playing.specs.Prepared as prepared

abbrev pub play_on : Network → Play
play_on network.Fabric = on_fabric Exact whole_rule host_rule
play_on network.Bridges = on_bridges Bridges IsQuiet host_rule

-- The script of what was read is played on this network.
abbrev pub PlaysTo : Network → Inputs → Option (ℕ × Stop) → Scene → Type 0
PlaysTo network = (play_on network).leads

-- It was played to its end, and this is known of it.
abbrev pub IsPlayed : Network → Inputs → Type 0
IsPlayed network = playing.IsPlayed (play_on network)

-- It was stopped.
abbrev pub IsStopped : Network → Inputs → Status → Type 0
IsStopped network = playing.IsStopped (play_on network).leads

-- what is saved of what was played, or printed
abbrev pub texts_of : (network : Network) → List ℕ → (i : Inputs) → IsPlayed network i → List Saving
texts_of network = playing.texts_of (play_on network)

abbrev pub printed_of : (network : Network) (i : Inputs) → IsPlayed network i → List Saving
printed_of network = playing.printed_of (play_on network)

-- what is known of them then: each entry of a journal that is saved is one that the types of its parts can hold
abbrev pub fits_of : (network : Network) (i : Inputs) → IsPlayed network i → Type 0
fits_of network = playing.fits_of (play_on network)

abbrev pub nothing_of : (network : Network) (i : Inputs) → IsPlayed network i → Type 0
nothing_of network = playing.nothing_of (play_on network)

-- what comes of inputs that were read
abbrev pub Comes : (network : Network) → ShelfMoment → ShelfMoment → (i : Inputs) → (IsPlayed network i → Type 0) → (IsPlayed network i → List Saving) → Status → Type 0
Comes network = playing.Comes (play_on network)

-- there is room for what is saved of them
abbrev pub HasRoomFor : (network : Network) → (List ℕ → Option ℕ) → (List ℕ → Held) → (i : Inputs) → (IsPlayed network i → List Saving) → Type 0
HasRoomFor network = prepared.HasRoomFor (play_on network)
