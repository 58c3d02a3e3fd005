-- At most one frame of a group arrives at each port.
use Rattle.std.proofs.Common.{◌≡◌, ◌≤◌, ℕ, ◌+◌, Bool, true, false, ◌==◌, ◌&&◌, List, [], ◌∷◌, Option, Some, None, refl, sym, ap, ap₂, ◌∙◌, arith}
use Rattle.std.proofs.lemmas.Bool.{false≢true, eqb-true, and_parts, or_parts, and_right, cond_both, MatchBool-at_true}
use Rattle.pl_wiring.specs.Plan.{Plan}
use Rattle.pl_journal.specs.declared.entry.Entry.{Entry}
use Rattle.pl_journal.specs.declared.entry.Entry.TheVariants.{Arrived}
use Rattle.pl_journal.specs.Places.{EdgePort, at_port, is_at, same_edge_port, edge_port_of}
use Rattle.pl_journal.specs.Flights.{root, root_arrived_at}
use Rattle.pl_journal.specs.Causes.{goes_to_group}
use Rattle.pl_journal.specs.Lossy.{ArrivesByAddress, ArrivesByGroup, RunTo, copies_at, is_root_there}

-- where no frame of the root arrived, no copy did
none_arrived : (plan : Plan) (past : List Entry) (r : ℕ) (there : EdgePort) → root_arrived_at plan past r there ≡ false → copies_at plan past r there ≡ 0
none_arrived plan [] r there none = refl
none_arrived plan (Arrived g h f ∷ past) r there none =
    let here : Bool = (root past g == r) && is_at (edge_port_of plan past h.0) there in
    let parts = or_parts here (root_arrived_at plan past r there) none in
    let not_here = and_right (goes_to_group past g) here parts.0 in
    rw not_here (none_arrived plan past r there parts.1)
none_arrived plan (entry ∷ past) r there none = none_arrived plan past r there none

edge_port_is : (a b : EdgePort) → same_edge_port a b ≡ true → a ≡ b
edge_port_is a b same = let parts = and_parts (a.edge == b.edge) (a.port == b.port) same in ap₂ at_port (eqb-true a.edge b.edge parts.0) (eqb-true a.port b.port parts.1)

is_there : (plan : Plan) (past : List Entry) (r : ℕ) (o : Option EdgePort) (there : EdgePort) → is_at o there ≡ true → is_root_there plan past r o ≡ false →
    root_arrived_at plan past r there ≡ false
is_there plan past r None there at none = absurd (false≢true at)
is_there plan past r (Some s) there at none = ap (root_arrived_at plan past r) (sym (edge_port_is s there at)) ∙ none

pub copies_once : (plan : Plan) (past : List Entry) (r : ℕ) (there : EdgePort) → RunTo plan past → copies_at plan past r there ≤ 1
copies_once plan [] r there run = omega arith
copies_once plan (Arrived g h f ∷ past) r there run =
    cond_both counts (copies_at plan past r there + 1) (copies_at plan past r there) (λ n. n ≤ 1) first (λ other. copies_once plan past r there run.0)
  where
    at : Bool
    at = (root past g == r) && is_at (edge_port_of plan past h.0) there

    counts : Bool
    counts = goes_to_group past g && at

    first : counts ≡ true → copies_at plan past r there + 1 ≤ 1
    first h' =
        let parts = and_parts (goes_to_group past g) at h' in
        let places = and_parts (root past g == r) (is_at (edge_port_of plan past h.0) there) parts.1 in
        let arrives : ArrivesByGroup plan past g h.0 f = MatchBool-at_true (ArrivesByGroup plan past g h.0 f) (ArrivesByAddress plan past g h.0 f) parts.0 run.1.1 in
        let none = is_there plan past (root past g) (edge_port_of plan past h.0) there places.1 arrives.first in
        let here = ap (λ n. root_arrived_at plan past n there) (sym (eqb-true (root past g) r places.0)) ∙ none in
        let zero' = none_arrived plan past r there here in
        omega arith
copies_once plan (entry ∷ past) r there run = copies_once plan past r there run.0
