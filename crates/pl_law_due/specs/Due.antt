-- What the fabric manager is going to treat of each switch, in the place of what waits of it: of this the control plane speaks.
use Rattle.std.specs.Prelude.{ℕ, suc, Bool, true, false, if◌then◌else◌, List, [], ◌∷◌, map, Option, Some, None, slice_get}
use Rattle.std.specs.List.{list_any}
use Rattle.pl_frame.specs.declared.address.SwitchId.{SwitchId}
use Rattle.pl_layouts.specs.Equality.{same_switch}
use Rattle.pl_gathering.specs.Gathering.{Report, due, words}
use Rattle.pl_node.specs.declared.messages.ToManager.{ToManager}
use Rattle.pl_node.specs.declared.messages.ToSwitch.{ToSwitch}
use Rattle.pl_node.specs.declared.messages.ToSwitch.TheVariants.{Hello}
use Rattle.pl_node.specs.ManagerViews.{ManagerView}
use Rattle.pl_manager_rule.specs.Treating.{as_report}
use Rattle.pl_manager_rule.specs.WholeRule.{gathered}
use Rattle.pl_law_control_plane.specs.ControlPlanes.{ControlPlane}

-- what waits, as a manager that gathers reports reads it
abbrev pub read : List ToManager → List (Report ToManager)
read queue = map as_report queue

-- `Begin` and `End` are no words
abbrev pub words_of : List ToManager → List ToManager
words_of queue = words (read queue)

-- what is due of a switch of this id, of which this waits
abbrev pub due_of : ManagerView → Option SwitchId → List ToManager → List ToManager
due_of manager None queue = []
due_of manager (Some id) queue = due (gathered manager) (λ t. read queue) id

-- what the manager knows by all that it treated
abbrev pub treated : ManagerView → ManagerView
treated manager = record manager { begun = []; ended = []; kept = [] }

abbrev pub due_plane : ControlPlane → ControlPlane
due_plane f = record f { reports = λ s. due_of f.manager (slice_get f.plan.ids s) (f.reports s); manager = treated f.manager }

-- A switch is silent that has not heard yet that the manager began anew: what it tells is for the manager that was.
abbrev pub is_hello : ToSwitch → Bool
is_hello (Hello epoch) = true
is_hello says = false

abbrev pub is_silent : (ℕ → List ToSwitch) → ℕ → Bool
is_silent orders s = list_any is_hello (orders s)

-- what stands at the place of an id among these
abbrev pub at_id : {T : Type 0} → T → List SwitchId → (ℕ → T) → SwitchId → T
at_id none [] at id = none
at_id none (x ∷ ids) at id = if same_switch id x then at 0 else at_id none ids (λ s. at (suc s)) id

-- what waits of a switch, and whether it is silent, by its id
abbrev pub queue_of : List SwitchId → (ℕ → List ToManager) → SwitchId → List (Report ToManager)
queue_of ids reports id = at_id [] ids (λ s. read (reports s)) id

abbrev pub silent_of : List SwitchId → (ℕ → List ToSwitch) → SwitchId → Bool
silent_of ids orders id = at_id false ids (is_silent orders) id
