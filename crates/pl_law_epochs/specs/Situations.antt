-- The life of one address over all epochs of the fabric manager: the situations that a run leads to.
use Rattle.std.specs.Prelude.{◌≡◌, ◌⊎◌, ◌<◌, ℕ, Bool, true, false, List, [], ◌∷◌, ◌++◌, Option, Some, None}
use Rattle.std.specs.List.{AllByRecursion, list_any}
use Rattle.pl_node.specs.ManagerViews.{Recall, number_behind}
use Rattle.pl_law_epochs.specs.Tenures.{Knowledge, Order, Said, Tenure, Use, treats}
use Rattle.pl_law_epochs.specs.Tenures.Knowledge.{Knows, Nothing}
use Rattle.pl_law_epochs.specs.Tenures.Order.{Recalls, Releases}
use Rattle.pl_law_epochs.specs.Tenures.Said.{Ages, Learns, Traps}
use Rattle.pl_law_epochs.specs.Tenures.Use.{Leads, Nobodys, Rests, Serves}

abbrev pub is_learns : Said → Bool
is_learns Learns = true
is_learns word = false

-- words that change nothing of a trap of this number: that the address is told, and that it aged behind one of a smaller number
abbrev pub IsCalm : ℕ → Said → Type 0
IsCalm number Learns = Unit {0}
IsCalm number (Traps to) = ⊥
IsCalm number (Ages n) = n < number

abbrev pub AreCalm : ℕ → List Said → Type 0
AreCalm number due = AllByRecursion (IsCalm number) due

-- traps have numbers from 1 on
abbrev pub IsNumbered : Use → Type 0
IsNumbered (Leads to) = 0 < to.number
IsNumbered use_is = Unit {0}

-- what is known of an address that leads there, or nowhere
abbrev pub known_to : Bool → Option Recall → Knowledge
known_to registered (Some to) = Knows registered (Some to) false
known_to true None = Knows true None false
known_to false None = Nothing

-- An address in use is registered or told. One whose trap is known by a report alone has not been told since, and is not going to be.
abbrev pub IsToldOrKnown : Option Recall → Bool → List Said → Type 0
IsToldOrKnown None known due = (known ≡ true) ⊎ (list_any is_learns due ≡ true)
IsToldOrKnown (Some to) known due = known ≡ false → due ≡ []

-- Reports are of later epochs than the first.
pub data Situation (later : Bool) : Type 0 where
  -- its switch has not heard of the epoch, and what it tells is dropped
  Silent : (use_is : Use) (due : List Said) → IsNumbered use_is → later ≡ true → Situation later
  -- in use; and so until its switch hears that its host has a newer address
  Used : (due : List Said) → AreCalm 0 due → (known : Bool) → IsToldOrKnown None known due → Situation later
  Recalled : (to : Recall) → 0 < to.number → (due : List Said) → AreCalm to.number due → Situation later
  -- a trap stands, of which the manager knows; or its report tells of it
  Led : (to : Recall) → 0 < to.number → (due : List Said) → AreCalm to.number due → (known : Bool) → IsToldOrKnown (Some to) known due → Situation later
  LedTold : (to : Recall) → 0 < to.number → later ≡ true → Situation later
  -- it rests, and that is due: behind other words, in a report, or behind the trap that its report tells of
  Resting : (behind : Option Recall) (due : List Said) → AreCalm (number_behind behind) due → (known : Bool) → IsToldOrKnown behind known due → Situation later
  RestTold : (number : ℕ) → later ≡ true → Situation later
  RestLedTold : (to : Recall) → later ≡ true → Situation later
  -- the manager counted that
  Counted : (number : ℕ) (behind : Option Recall) (known : Bool) → (number ≡ number_behind behind) ⊎ (known ≡ false) → Situation later
  -- or had sent a newer address of its host before that counted
  RestRecalled : (to : Recall) → 0 < to.number → (due : List Said) → AreCalm to.number due → Situation later
  -- the manager has forgotten it
  Released : (number : ℕ) → Situation later
  -- never granted, or free
  Gone : Situation later

abbrev stands : Use → List Said → List Order → Knowledge → Tenure
stands use_is due orders known = record { use_is = use_is; due = due; orders = orders; known = known; silent = false }

abbrev pub tenure_of : {later : Bool} → Situation later → Tenure
tenure_of (Silent use_is due numbered now) = record { use_is = use_is; due = due; orders = []; known = Nothing; silent = true }
tenure_of (Used due calm known told) = stands Serves due [] (known_to known None)
tenure_of (Recalled to some due calm) = stands Serves due (Recalls to ∷ []) (Knows true (Some to) false)
tenure_of (Led to some due calm known fresh) = stands (Leads to) due [] (Knows known (Some to) false)
tenure_of (LedTold to some now) = stands (Leads to) (Traps to ∷ []) [] Nothing
tenure_of (Resting behind due calm known told) = stands (Rests (number_behind behind)) (due ++ Ages (number_behind behind) ∷ []) [] (known_to known behind)
tenure_of (RestTold number now) = stands (Rests number) (Ages number ∷ []) [] Nothing
tenure_of (RestLedTold to now) = stands (Rests to.number) (Traps to ∷ Ages to.number ∷ []) [] Nothing
tenure_of (Counted number behind known at) = stands (Rests number) [] [] (Knows known behind true)
tenure_of (RestRecalled to some due calm) = stands (Rests 0) due (Recalls to ∷ []) (Knows true (Some to) false)
tenure_of (Released number) = stands (Rests number) [] (Releases ∷ []) Nothing
tenure_of Gone = stands Nobodys [] [] Nothing

-- it is in one of them
abbrev pub IsIn : Bool → Tenure → Type 0
IsIn later t = (s : Situation later) × (tenure_of s ≡ t)

-- the manager treats the first word that is due
abbrev pub first_treated : Bool → Tenure → List Said → Tenure
first_treated later t [] = t
first_treated later t (word ∷ due) = record t { due = due; known = treats later t.known word }

-- what its switch tells of it in a report
abbrev pub reported : Use → List Said
reported Serves = Learns ∷ []
reported (Leads to) = Traps to ∷ []
reported (Rests number) = Ages number ∷ []
reported Nobodys = []
