-- What is due at a moment after a restart: of a switch that has begun its report, of one that is going to, and of one that has not heard of it.
use Rattle.std.specs.Prelude.{◌≡◌, ℕ, zero, suc, true, false, List, [], ◌∷◌, refl}
use Rattle.pl_layouts.specs.Placement.{nowhere}
use Rattle.pl_wiring.specs.Plan.{Plan}
use Rattle.pl_node.specs.declared.messages.ToManager.{ToManager}
use Rattle.pl_node.specs.declared.messages.ToManager.TheVariants.{Begin, End, Place, PodWanted}
use Rattle.pl_node.specs.declared.messages.ToSwitch.{ToSwitch}
use Rattle.pl_node.specs.declared.messages.ToSwitch.TheVariants.{Hello}
use Rattle.pl_node.specs.ManagerViews.{ManagerView, restarted_manager}
use Rattle.pl_law_control_plane.specs.ControlPlanes.{ControlPlane, no_switch}
use Rattle.pl_law_due.specs.Due.{due_plane, is_silent}

-- five switches, which is a tree of k = 2
abbrev wiring : Plan
wiring = record { k = 2; ids = record { 0 = 7 } ∷ record { 0 = 8 } ∷ record { 0 = 9 } ∷ record { 0 = 10 } ∷ record { 0 = 11 } ∷ []; links = []; hosts = [] }

-- the first has begun, and told its place; of the second a wish stands in front of its report; the third asked before it heard of the restart
abbrev queues : ℕ → List ToManager
queues zero = PodWanted ∷ End 1 ∷ []
queues (suc zero) = PodWanted ∷ Begin 1 ∷ Place nowhere ∷ []
queues (suc (suc s)) = PodWanted ∷ []

abbrev orders : ℕ → List ToSwitch
orders zero = []
orders (suc zero) = []
orders (suc (suc s)) = Hello 1 ∷ []

abbrev missing : ManagerView
missing = record (restarted_manager 2 1) { begun = record { 0 = 7 } ∷ []; kept = record { switch = record { 0 = 7 }; word = Place nowhere } ∷ [] }

-- all five reports have ended
abbrev whole : ManagerView
whole = record (restarted_manager 2 1) { ended = record { 0 = 7 } ∷ record { 0 = 8 } ∷ record { 0 = 9 } ∷ record { 0 = 10 } ∷ record { 0 = 11 } ∷ [] }

abbrev moment : ManagerView → ControlPlane
moment manager = record {
  plan = wiring;
  view = λ s. no_switch;
  says = λ s port. [];
  carries = λ s port. false;
  reports = queues;
  orders = orders;
  manager = manager;
}

-- what was kept of it, and what waits; where a report ends is no word
pub begun : (due_plane (moment missing)).reports 0 ≡ Place nowhere ∷ PodWanted ∷ []
begun = refl

-- what stands behind the begin of its report
pub going_to : (due_plane (moment missing)).reports 1 ≡ Place nowhere ∷ []
going_to = refl

-- nothing
pub silent : (due_plane (moment missing)).reports 2 ≡ []
silent = refl

pub it_is_silent : is_silent (moment missing).orders 2 ≡ true
it_is_silent = refl

-- of a number that is no switch nothing either
pub stranger : (due_plane (moment missing)).reports 5 ≡ []
stranger = refl

-- once no report is missing, each word that waits
pub then_all : (due_plane (moment whole)).reports 1 ≡ PodWanted ∷ Place nowhere ∷ []
then_all = refl

-- of whom it heard a report, and what it kept, is nothing that the manager knows of the tree
pub nothing_else : (due_plane (moment missing)).manager ≡ restarted_manager 2 1
nothing_else = refl
