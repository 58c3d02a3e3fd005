-- Whom a frame is for, by the numbers of entries. The entries that are past have the newest first.
use Rattle.std.specs.Prelude.{ℕ, ◌+◌, ◌==◌, nat_le, if◌then◌else◌, List, [], ◌∷◌, length, Option, Some, None}
use Rattle.pl_pmac.specs.Pmac.{pmac_number}
use Rattle.pl_journal.specs.declared.entry.Entry.{Entry}
use Rattle.pl_journal.specs.declared.entry.Entry.TheVariants.{Copied, Crossed, Freed, Granted}
use Rattle.pl_journal.specs.Flights.{before_copy, has_just_crossed}

-- the number of the entry as of which whom a frame is for is asked: its last crossing, or the grant that directly follows that one; 0 where it
-- crossed nothing
abbrev pub asked_at : List Entry → ℕ → ℕ
asked_at [] id = 0
asked_at (Crossed g s ∷ past) id = if g == id then length past + 1 else asked_at past id
asked_at (Granted y h e p ∷ past) id = if has_just_crossed past id then length past + 1 else asked_at past id
asked_at (Copied g c ∷ past) id = asked_at past (before_copy g c id)
asked_at (entry ∷ past) id = asked_at past id

-- who holds an address from an entry on; none from one that frees it
pub record Tenure : Type 0 where
  pub since : ℕ
  pub host : Option ℕ

abbrev tenure : ℕ → Option ℕ → Tenure
tenure since host = record { since = since; host = host }

-- those of an address, the newest first
abbrev pub tenures : List Entry → ℕ → List Tenure
tenures [] x = []
tenures (Granted y h e p ∷ past) x = if pmac_number y == x then tenure (length past + 1) (Some h.0) ∷ tenures past x else tenures past x
tenures (Freed y ∷ past) x = if pmac_number y == x then tenure (length past + 1) None ∷ tenures past x else tenures past x
tenures (entry ∷ past) x = tenures past x

-- who held it as of entry n
abbrev pub held_as_of : ℕ → List Tenure → Option ℕ
held_as_of n [] = None
held_as_of n (t ∷ tenures) = if nat_le t.since n then t.host else held_as_of n tenures
