-- How often a journal says that an address was granted, and that it was freed.
use Rattle.std.specs.Prelude.{◌≡◌, ◌≤◌, ◌⊎◌, ℕ, ◌+◌, Bool, false, if◌then◌else◌, List, [], ◌∷◌, Some, slice_get}
use Rattle.pl_pmac.specs.declared.pmac.Pmac.{Pmac}
use Rattle.pl_journal.specs.declared.entry.Entry.{Entry}
use Rattle.pl_journal.specs.declared.entry.Entry.TheVariants.{Freed, Granted}
use Rattle.pl_node.specs.SwitchViews.{SwitchView}
use Rattle.pl_layouts.specs.Equality.{same_pmac}
use Rattle.pl_switch_rule.specs.Granting.{granted}
use Rattle.pl_law_addresses.specs.Addressed.{StayGranted}
use Rattle.pl_law_addresses.specs.EdgeAddresses.{IsHeld}

-- an entry says so
abbrev pub grants : Pmac → Entry → Bool
grants x (Granted pmac host switch port) = same_pmac pmac x
grants x entry = false

abbrev pub frees : Pmac → Entry → Bool
frees x (Freed pmac) = same_pmac pmac x
frees x entry = false

abbrev pub times_granted : Pmac → List Entry → ℕ
times_granted x [] = 0
times_granted x (entry ∷ journal) = (if grants x entry then 1 else 0) + times_granted x journal

abbrev pub times_freed : Pmac → List Entry → ℕ
times_freed x [] = 0
times_freed x (entry ∷ journal) = (if frees x entry then 1 else 0) + times_freed x journal

-- what was a host's at a switch is so still at a later moment, unless the journal says that it was freed since
abbrev pub StayUnlessFreed : List SwitchView → List Entry → List SwitchView → List Entry → Type 0
StayUnlessFreed before journal after later = StayGranted before after (λ x. times_freed x later ≡ times_freed x journal)

-- it is somebody's at some switch
pub record HasGranted (switches : List SwitchView) (x : Pmac) : Type 0 where
  pub switch : ℕ
  pub view : SwitchView
  pub found : slice_get switches switch ≡ Some view
  pub held : IsHeld (λ y. granted view y) x

-- it was freed as often as granted, or granted once more, and then it is somebody's
abbrev pub IsOnce : List SwitchView → ℕ → ℕ → Pmac → Type 0
IsOnce switches times_given times_free x = (times_given ≤ times_free) ⊎ ((times_given ≡ times_free + 1) × HasGranted switches x)

-- each address
abbrev pub AreGrantedOnce : List SwitchView → List Entry → Type 0
AreGrantedOnce switches journal = (x : Pmac) → IsOnce switches (times_granted x journal) (times_freed x journal) x
