-- What a host is told or hears, what it answers, and how it may act.
use Rattle.std.specs.Prelude.{ℕ, List, Option}
use Rattle.pl_frame.specs.declared.address.Ip4.{Ip4}
use Rattle.pl_node.specs.declared.acts.HostAct.{HostAct}
use Rattle.pl_journal.specs.declared.cause.Skip.{Skip}
use Rattle.pl_node.specs.declared.reception.Reception.{Reception}
use Rattle.pl_node.specs.HostViews.{HostView}

-- What a host is told, or hears. A recorded frame comes with the length that it had on the wire; it is played, or played raw.
pub data HostInput : Type 0 where
  Starts : HostInput
  Retries : HostInput
  HasMoved : HostInput
  Plays : (frame : List ℕ) (original : ℕ) → HostInput
  PlaysRaw : (frame : List ℕ) (original : ℕ) → HostInput
  Joins : (group : Ip4) → HostInput
  Leaves : (group : Ip4) → HostInput
  Receives : (frame : List ℕ) → HostInput

-- What a host answers: nothing, why it did not play a recorded frame, or what it makes of a frame that arrived.
pub data HostAnswer : Type 0 where
  Nothing : HostAnswer
  Played : (skip : Option Skip) → HostAnswer
  Received : (reception : Reception) → HostAnswer

-- a host's rule: which steps it may take, by the views before and after, what it is told, what it does and its answer
abbrev pub HostRule : Type 1
HostRule = HostView → HostInput → HostView → List HostAct → HostAnswer → Type 0
