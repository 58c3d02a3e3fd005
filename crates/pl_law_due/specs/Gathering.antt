-- The manager gathers the reports of the switches in order, whatever waits.
use Rattle.std.specs.Prelude.{◌≡◌, ◌⊎◌, ◌<◌, ℕ, Bool, true, false, List, [], ◌∷◌, Some, slice_get}
use Rattle.std.specs.List.{AllByRecursion}
use Rattle.pl_frame.specs.declared.address.SwitchId.{SwitchId}
use Rattle.pl_gathering.specs.Gathering.{Gathered, Report, is_among, is_whole}
use Rattle.pl_gathering.specs.Gathering.Report.{Tells}
use Rattle.pl_gathering.specs.Orderly.{AreComing, IsOrderly, begins}
use Rattle.pl_node.specs.declared.messages.ToManager.{ToManager}
use Rattle.pl_node.specs.declared.messages.ToManager.TheVariants.{End}
use Rattle.pl_node.specs.declared.messages.ToSwitch.{ToSwitch}
use Rattle.pl_node.specs.declared.messages.ToSwitch.TheVariants.{Hello}
use Rattle.pl_node.specs.ManagerViews.{ManagerView, restarted_manager}
use Rattle.pl_node.specs.SwitchViews.{SwitchView}
use Rattle.pl_manager_rule.specs.Treating.{Treating, as_report}
use Rattle.pl_manager_rule.specs.WholeRule.{gathered}
use Rattle.pl_law_control_plane.specs.ControlPlanes.{ControlPlane}
use Rattle.pl_law_due.specs.Due.{is_silent, queue_of, read, silent_of, treated}

-- a word that is kept is neither `Begin` nor `End`
abbrev pub IsWord : ToManager → Type 0
IsWord told = as_report told ≡ Tells told

-- what was told before the present epoch was heard of: no report of it has begun, nor does one begin in the queue
pub record IsOld (g : Gathered Treating ToManager) (id : SwitchId) (queue : List (Report ToManager)) : Type 0 where
  pub not_begun : is_among id g.begun ≡ false
  pub begins_none : AllByRecursion (λ r. begins g.epoch r ≡ false) queue

-- that the manager began anew is all that waits for a switch, or nothing does
abbrev pub IsHelloAlone : ℕ → List ToSwitch → Type 0
IsHelloAlone epoch orders = (orders ≡ []) ⊎ (orders ≡ Hello epoch ∷ [])

-- while a report is missing nothing is known, and no other order waits
pub record IsAnew (ids : List SwitchId) (manager : ManagerView) (orders : ℕ → List ToSwitch) : Type 0 where
  pub knows_nothing : treated manager ≡ restarted_manager manager.k manager.epoch
  pub orders_alone : (s : ℕ) (id : SwitchId) → slice_get ids s ≡ Some id → IsHelloAlone manager.epoch (orders s)

pub record GathersBy (ids : List SwitchId) (manager : ManagerView) (reports : ℕ → List ToManager) (orders : ℕ → List ToSwitch) : Type 0 where
  -- those that began and ended are switches of the wiring, each once; where no report is missing nothing is kept, and of a switch only once it began
  pub orderly : IsOrderly ids (gathered manager)
  pub plain : AllByRecursion (λ h. IsWord h.word) manager.kept
  -- the report of each switch that is not silent, and that has not ended, is on its way
  pub coming : AreComing ids (gathered manager) (silent_of ids orders) (queue_of ids reports)
  -- of a silent switch all is old
  pub old : (s : ℕ) (id : SwitchId) → slice_get ids s ≡ Some id → is_silent orders s ≡ true → IsOld (gathered manager) id (read (reports s))
  pub anew : is_whole (gathered manager) ≡ false → IsAnew ids manager orders
  -- and where no report is missing no switch is silent
  pub loud : is_whole (gathered manager) ≡ true → (s : ℕ) (id : SwitchId) → slice_get ids s ≡ Some id → is_silent orders s ≡ false

abbrev pub GathersWell : ControlPlane → Type 0
GathersWell f = GathersBy f.plan.ids f.manager f.reports f.orders

-- a switch that is silent: nothing is due of it, that the manager began anew is all that waits for it, and the manager knows nothing
pub record IsUnheard (f : ControlPlane) (s : ℕ) : Type 0 where
  pub nothing : f.reports s ≡ []
  pub alone : f.orders s ≡ Hello f.manager.epoch ∷ []
  pub anew : f.manager ≡ restarted_manager f.manager.k f.manager.epoch

abbrev pub AreUnheard : ControlPlane → Type 0
AreUnheard f = (s : ℕ) (id : SwitchId) → slice_get f.plan.ids s ≡ Some id → is_silent f.orders s ≡ true → IsUnheard f s

-- a word at which no report ends
abbrev pub IsNoEnd : ToManager → Type 0
IsNoEnd (End epoch) = ⊥
IsNoEnd told = Unit {0}

-- a switch that is not silent has the manager's epoch, and one that is an earlier one
pub record HasEpoch (v : SwitchView) (hushed : Bool) (epoch : ℕ) : Type 0 where
  pub loud : hushed ≡ false → v.epoch ≡ epoch
  pub silent : hushed ≡ true → v.epoch < epoch

abbrev pub EpochsAgree : ControlPlane → Type 0
EpochsAgree f = (s : ℕ) (id : SwitchId) → slice_get f.plan.ids s ≡ Some id → HasEpoch (f.view s) (is_silent f.orders s) f.manager.epoch

-- the manager's switches have as many ports as those of the wiring
abbrev pub IsSized : ControlPlane → Type 0
IsSized f = f.manager.k ≡ f.plan.k
