-- Entries that can be saved.
use Rattle.std.specs.Prelude.{◌≤◌, List, ℕ, length}
use Rattle.pl_wiring.specs.Plan.{Plan}
use Rattle.pl_journal.specs.Text.{IsNamed}
use Rattle.pl_journal.specs.declared.entry.Entry.{Entry}
use Rattle.pl_journal.specs.declared.entry.Entry.TheVariants.{Arrived, Made, Sent}

-- a frame may have 14 to 65,553 bytes
pub record IsWhole (frame : List ℕ) : Type 0 where
  pub low : 14 ≤ length frame
  pub high : length frame ≤ 65553

abbrev pub IsCarried : Entry → Type 0
IsCarried (Sent id host frame) = IsWhole frame
IsCarried (Made id switch frame) = IsWhole frame
IsCarried (Arrived id host frame) = IsWhole frame
IsCarried _ = Unit {0}

-- the hosts and switches that it names are there, and its frame is as long as a frame may be
pub record IsSavable (plan : Plan) (entry : Entry) : Type 0 where
  pub named : IsNamed plan entry
  pub carried : IsCarried entry
