-- What is left to do of a row of the rule, of a frame that can be read.
use Rattle.std.specs.Prelude.{ℕ, ◌≤◌, List, length, Option, Some, None}
use Rattle.pl_delivery.specs.declared.sent.Sent.{Sent}
use Rattle.pl_delivery.specs.declared.sent.Sent.TheVariants.{Here, Upward}

-- a frame that goes on has its header
abbrev pub IsLong : Sent → Type 0
IsLong Here = Unit {0}
IsLong (Upward frame) = 14 ≤ length frame

-- and so has one that is made
abbrev pub IsLongIfAny : Option (List ℕ) → Type 0
IsLongIfAny None = Unit {0}
IsLongIfAny (Some frame) = 14 ≤ length frame
