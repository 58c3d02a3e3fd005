-- Which switches received a frame of a host, by what the journal says. The entries that are past have the newest first.
use Rattle.std.specs.Prelude.{◌≡◌, ◌<◌, ◌≤◌, ◌==◌, ◌&&◌, ◌||◌, ℕ, Bool, true, false, List, [], ◌∷◌, Some, None, is_some, reverse}
use Rattle.std.specs.List.{AllByRecursion}
use Rattle.pl_journal.specs.declared.entry.Entry.{Entry}
use Rattle.pl_journal.specs.declared.entry.Entry.TheVariants.{Crossed}
use Rattle.pl_journal.specs.Flights.{is_empty, sender, trail}
use Rattle.pl_world.specs.declared.item.Item.{Item}
use Rattle.pl_world.specs.declared.item.Item.TheVariants.{Control, Data}
use Rattle.pl_world.specs.Worlds.{WorldView}
use Rattle.pl_law_control_plane.specs.ControlPlanes.{control_plane}

-- a host sent the frame, and it crossed no switch yet
abbrev pub comes_from_host : List Entry → ℕ → Bool
comes_from_host past id = is_some (sender past id) && is_empty (trail past id)

-- a frame of a host crossed this switch before any other
abbrev pub has_received : List Entry → ℕ → Bool
has_received [] s = false
has_received (Crossed id t ∷ past) s = ((t.0 == s) && comes_from_host past id) || has_received past s
has_received (entry ∷ past) s = has_received past s

-- a frame of one of these numbers that crossed a switch
pub record HasCrossed (past : List Entry) (many id : ℕ) : Type 0 where
  pub begun : id ≤ many
  pub some : is_empty (trail past id) ≡ false

abbrev pub ItemHasCrossed : List Entry → ℕ → Item → Type 0
ItemHasCrossed past many (Control frame) = Unit {0}
ItemHasCrossed past many (Data id frame) = HasCrossed past many id

-- each frame behind a port of a switch crossed a switch, and no host sent one of a number that is yet to come
pub record HaveCrossed (past : List Entry) (out : List (List Item)) (many : ℕ) : Type 0 where
  pub items : AllByRecursion (AllByRecursion (ItemHasCrossed past many)) out
  pub unsent : (id : ℕ) → many < id → sender past id ≡ None

-- a switch that received a frame of a host has level 0
abbrev pub HaveLevels : WorldView → Type 0
HaveLevels w = (s : ℕ) → has_received (reverse w.journal) s ≡ true → ((control_plane w).view s).place.level ≡ Some 0
