-- Whether a crossing goes on well, by what is kept of the frame and of the link.
use Rattle.std.specs.Prelude.{ℕ, ◌&&◌, Bool, true, List, [], ◌∷◌, Option}
use Rattle.pl_frame.specs.Ethernet.{destination_of}
use Rattle.pl_layouts.specs.Memberships.{is_group}
use Rattle.pl_wiring.specs.Plan.{Plan}
use Rattle.pl_journal.specs.Places.{is_adjacent}
use Rattle.pl_journal.specs.Flights.{is_good_leg}
use Rattle.pl_past.specs.Links.{is_live_since}
use Rattle.pl_past.specs.Kept.{Kept}

-- link: since when the link between two switches is live
abbrev pub leads : Plan → (ℕ → ℕ → Option ℕ) → ℕ → List ℕ → ℕ → Bool
leads plan link crossed [] s = true
leads plan link crossed (t ∷ switches) s = is_adjacent plan t s && is_live_since (link t s) crossed

abbrev pub goes_well_by : Plan → (ℕ → ℕ → Option ℕ) → Kept → ℕ → Bool
goes_well_by plan link frame s =
    is_good_leg (is_group (destination_of frame.beginning)) plan.k (s ∷ frame.leg) && leads plan link frame.crossed frame.leg s
