-- What an address that was granted is used for.
use Rattle.std.specs.Prelude.{Bool, true, false, Option, Some, None}
use Rattle.pl_node.specs.declared.address_use.AddressUse.{AddressUse}
use Rattle.pl_node.specs.declared.address_use.AddressUse.TheVariants.{InUse, Trapped, Resting, Free}
use Rattle.pl_node.specs.declared.trap.Trap.{Trap}

-- its host has it in use
abbrev pub is_in_use : AddressUse → Bool
is_in_use (InUse idle) = true
is_in_use (Trapped trap age) = false
is_in_use (Resting number) = false
is_in_use Free = false

-- it is not free
abbrev pub is_held : AddressUse → Bool
is_held (InUse idle) = true
is_held (Trapped trap age) = true
is_held (Resting number) = true
is_held Free = false

-- the trap that stands for it
abbrev pub standing_trap : AddressUse → Option Trap
standing_trap (InUse idle) = None
standing_trap (Trapped trap age) = Some trap
standing_trap (Resting number) = None
standing_trap Free = None
