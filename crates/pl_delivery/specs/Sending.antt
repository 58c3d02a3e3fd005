-- What is left to be done of a row of the switch's rule.
use Rattle.std.specs.Prelude.{◌≡◌, ℕ, List, length, Option, Some, None}
use Rattle.pl_node.specs.declared.acts.Act.{Act}
use Rattle.pl_node.specs.SwitchViews.{SwitchView}
use Rattle.pl_delivery.specs.declared.sent.Sent.{Sent}
use Rattle.pl_delivery.specs.declared.sent.Sent.TheVariants.{Here, Upward}
use Rattle.pl_migrate.specs.AddressTables.{AddressTableView, address_table_in}
use Rattle.pl_steps.specs.Steps.{SwitchStep, rests}
use Rattle.pl_steps.specs.Taken.{IsTakenUpTo}
use Rattle.pl_switch_rule.specs.declared.came.Came.TheVariants.{FromHost}
use Rattle.pl_switch_rule.specs.Delivering.{makes}
use Rattle.pl_switch_rule.specs.Forwarding.{Choice, forwards}

-- a frame that ended here is done with, and one for another edge switch is forwarded
abbrev pub left_to_do : Choice → Sent → SwitchView → SwitchStep
left_to_do choose Here v = rests v
left_to_do choose (Upward frame) v = forwards choose v (Some FromHost) frame

-- Whatever else a switch with this address table knows, and however it chooses a port, a frame went as a row says, up to what is left to do of it.
abbrev pub IsSentBy : (Choice → SwitchView → SwitchStep) → AddressTableView → List Act → List Act → Sent → Type 0
IsSentBy row address_table out_before between sent =
    (choose : Choice) → (v : SwitchView) → IsTakenUpTo (left_to_do choose sent (address_table_in address_table v)) (row choose (address_table_in address_table v)) out_before between

-- a frame that goes on is as long as this
abbrev pub HasLength : ℕ → Sent → Type 0
HasLength n Here = Unit {0}
HasLength n (Upward frame) = length frame ≡ n

-- a frame that is made begins here
abbrev pub makes_any : Choice → Option (List ℕ) → SwitchView → SwitchStep
makes_any choose None v = rests v
makes_any choose (Some frame) v = makes choose frame v
