-- Counts of failed calls.
use Rattle.std.specs.Prelude.{◌≡◌, ℕ, ◌-◌, ◌^◌, ◌<◌, ◌≤◌, Result, Ok, Err, OnOk, OnErr}
use Rattle.pl_shelf.specs.Held.{ShelfMoment}
use Rattle.pl_shelf.specs.declared.errors.LoadError.{LoadError}
use Rattle.pl_shelf.specs.declared.errors.LoadError.TheVariants.{Fault, TooLong, Memory}

-- a count rose, or stands at the last value of its type
abbrev pub Rose : ℕ → ℕ → Type 0
Rose old new = new < 2 ^ 64 - 1 → old < new

-- a call and its counts: they never fall, an Ok leaves both, an Err comes only where this one rose
pub record Counts {T E : Type 0} (result : Result T E) (old new other_old other_new : ℕ) : Type 0 where
  pub grows : old ≤ new
  pub other : other_new ≡ other_old
  pub ok : OnOk result (new ≡ old)
  pub err : OnErr result (Rose old new)

-- the same of a call that reads, and of one that writes
abbrev pub CountsReads : {T E : Type 0} → Result T E → ShelfMoment → ShelfMoment → Type 0
CountsReads result old new = Counts result old.read_faults new.read_faults old.write_faults new.write_faults

abbrev pub CountsWrites : {T E : Type 0} → Result T E → ShelfMoment → ShelfMoment → Type 0
CountsWrites result old new = Counts result old.write_faults new.write_faults old.read_faults new.read_faults

-- `load` and the count of failed reads: only a fault moves it
abbrev pub ReadCount : {T : Type 0} → Result T LoadError → ℕ → ℕ → Type 0
ReadCount (Ok found) old new = new ≡ old
ReadCount (Err Fault) old new = (old ≤ new) × Rose old new
ReadCount (Err TooLong) old new = new ≡ old
ReadCount (Err Memory) old new = new ≡ old
