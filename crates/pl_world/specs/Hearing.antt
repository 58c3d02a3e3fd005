-- What the manager has heard is within the wiring, so that it can hear each switch at each moment.
use Rattle.std.specs.Prelude.{◌≡◌, ◌≤◌, ℕ, ◌+◌, Contains, IsTrue}
use Rattle.pl_frame.specs.declared.address.SwitchId.{SwitchId}
use Rattle.pl_wiring.specs.Plan.{Plan}
use Rattle.pl_node.specs.ManagerDuties.{load}
use Rattle.pl_node.specs.ManagerViews.{ManagerView, is_heard, numbers_before}
use Rattle.pl_world.specs.Worlds.{WorldView}

-- the manager of this wiring heard no switches but those of the wiring, and learnt and keeps no more addresses in its epoch than steps were made
pub record HeardWithin (plan : Plan) (manager : ManagerView) (steps : ℕ) : Type 0 where
  pub same_k : manager.k ≡ plan.k
  pub heard : (t : SwitchId) → IsTrue (is_heard manager t) → Contains plan.ids t
  pub addresses : load manager ≤ numbers_before manager.epoch + steps

-- so it is in this world, whose limit is fewer steps than there are numbers for addresses
pub record IsWithinHearing (w : WorldView) : Type 0 where
  pub within : HeardWithin w.plan w.manager w.steps
  pub few_steps : w.limits.steps ≤ 4000000000
