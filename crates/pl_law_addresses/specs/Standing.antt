-- Traps that stand, and addresses that stand for nothing.
use Rattle.std.specs.Prelude.{◌≡◌, ◌⊎◌, ℕ, Contains, List, [], Option, Some, None, slice_get}
use Rattle.pl_frame.specs.declared.address.Ip4.{Ip4}
use Rattle.pl_pmac.specs.declared.pmac.Pmac.{Pmac}
use Rattle.pl_node.specs.declared.messages.ToSwitch.{ToSwitch}
use Rattle.pl_node.specs.declared.messages.ToSwitch.TheVariants.{Invalidate}
use Rattle.pl_node.specs.AddressUses.{standing_trap}
use Rattle.pl_node.specs.declared.switch_records.Grant.{Grant}
use Rattle.pl_node.specs.declared.trap.Trap.{Trap}
use Rattle.pl_node.specs.ManagerViews.{registration}
use Rattle.pl_node.specs.SwitchViews.{SwitchView}
use Rattle.pl_queues.specs.Queues.{items_at}
use Rattle.pl_switch_rule.specs.Granting.{granted}
use Rattle.pl_world.specs.Worlds.{WorldView}
use Rattle.pl_law_addresses.specs.Orders.{orders_of}

-- an edge switch has set a trap from one address to another, with this number
pub record HasTrap (v : SwitchView) (old new : Pmac) (number : ℕ) : Type 0 where
  pub grant : Grant
  pub trap : Trap
  pub found : granted v old ≡ Some grant
  pub set : standing_trap grant.held ≡ Some trap
  pub leads_to : trap.new ≡ new
  pub carries : trap.number ≡ number

-- or is going to: the message that says so waits
pub record IsOrdered (down : List ToSwitch) (old new : Pmac) (number : ℕ) : Type 0 where
  pub ip : Option Ip4
  pub waits : Contains down (Invalidate old new number ip)

-- a trap stands from the moment at which the manager sends it
abbrev pub IsStanding : SwitchView → List ToSwitch → Pmac → Pmac → ℕ → Type 0
IsStanding v down old new number = HasTrap v old new number ⊎ IsOrdered down old new number

-- The fabric manager does not know an address. No trap stands from it or to it, and no message to an edge switch speaks of it.
pub record StandsForNothing (w : WorldView) (x : Pmac) : Type 0 where
  pub unknown : registration w.manager.learnt x ≡ None
  pub leads_nowhere : (s : ℕ) (v : SwitchView) (new : Pmac) (number : ℕ) → slice_get w.switches s ≡ Some v → IsStanding v (items_at w.from_manager s) x new number → ⊥
  pub led_from_nowhere : (s : ℕ) (v : SwitchView) (old : Pmac) (number : ℕ) → slice_get w.switches s ≡ Some v → IsStanding v (items_at w.from_manager s) old x number → ⊥
  pub silent : (s : ℕ) (v : SwitchView) → slice_get w.switches s ≡ Some v → orders_of x (items_at w.from_manager s) ≡ []
