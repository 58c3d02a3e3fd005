-- Calls of the shelf that failed, and the answer.
use Rattle.std.specs.Prelude.{◌≡◌, ◌<◌, ℕ, List}
use Rattle.pl_inputs.specs.declared.status.Status.{Status}
use Rattle.pl_inputs.specs.declared.status.Status.TheVariants as status
use Rattle.pl_shelf.specs.Held.{ShelfMoment}

-- the answer names a read that failed
abbrev pub IsReadFault : Status → Type 0
IsReadFault e = (name : List ℕ) × (e ≡ status.ReadFault name)

-- or a write
abbrev pub IsWriteFault : Status → Type 0
IsWriteFault e = (name : List ℕ) × (e ≡ status.WriteFault name)

-- where more calls have failed than before, the answer says so
pub record TellsFaults (old new : ShelfMoment) (e : Status) : Type 0 where
  pub reads : old.read_faults < new.read_faults → IsReadFault e
  pub writes : old.write_faults < new.write_faults → IsWriteFault e
