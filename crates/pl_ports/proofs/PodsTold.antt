-- The pod that the first aggregation switch told of those that a switch has heard.
use Rattle.std.proofs.Common.{◌≡◌, ℕ, suc, ◌+◌, ◌<◌, Bool, true, false, Option, Some, None, List, [], ◌∷◌, length, drop, get_or, sym, ap, ◌∙◌, drop-cons, add-one}
use Rattle.std.specs.Prelude.{if◌then◌else◌, IfSome}
use Rattle.std.specs.List.{cons_option, filter_map}
use Rattle.pl_layouts.specs.Placement.{is_known}
use Rattle.pl_node.specs.declared.neighbour.Neighbour.{Neighbour}
use Rattle.pl_node.specs.declared.neighbour.PortRecord.{PortRecord}
use Rattle.pl_node.specs.PortRecords.{heard_place}
use Rattle.pl_journal.specs.Flights.{first_of}
use Rattle.pl_switch_rule.specs.Levels.{told_pod}
use Rattle.pl_ports.specs.SoundPorts.{AreSound, IsPod, IsSoundNeighbour}

abbrev pub first_told : List PortRecord → Option ℕ
first_told rs = first_of (filter_map told_pod rs)

rest_from : (rs : List PortRecord) (i : ℕ) (r : PortRecord) → i < length rs → r ≡ get_or rs i r → drop i rs ≡ r ∷ drop (i + 1) rs
rest_from rs i r within is = rw add-one (drop-cons rs i r within ∙ ap (λ x. x ∷ drop (suc i) rs) (sym is))

pub told_further : (rs : List PortRecord) (i : ℕ) (r : PortRecord) → i < length rs → r ≡ get_or rs i r → told_pod r ≡ None →
    first_told (drop i rs) ≡ first_told (drop (i + 1) rs)
told_further rs i r within is none =
    ap first_told (rest_from rs i r within is) ∙ ap (λ o. first_of (cons_option o (filter_map told_pod (drop (i + 1) rs)))) none

pub told_here : (rs : List PortRecord) (i pod : ℕ) (r : PortRecord) → i < length rs → r ≡ get_or rs i r → told_pod r ≡ Some pod →
    first_told (drop i rs) ≡ Some pod
told_here rs i pod r within is told =
    ap first_told (rest_from rs i r within is) ∙ ap (λ o. first_of (cons_option o (filter_map told_pod (drop (i + 1) rs)))) told

told_fits : (heard : Option Neighbour) (is_aggregation : Bool) → IfSome heard IsSoundNeighbour →
    IfSome (if is_aggregation then (heard_place heard).pod else None) IsPod
told_fits heard false h = tt
told_fits None true h = tt
told_fits (Some n) true h = h.1

first_fits : (o : Option ℕ) (pods : List ℕ) → IfSome o IsPod → IfSome (first_of pods) IsPod → IfSome (first_of (cons_option o pods)) IsPod
first_fits None pods here rest = rest
first_fits (Some pod) pods here rest = here

-- what was told is a pod
pub sound_told : (rs : List PortRecord) → AreSound rs → IfSome (first_told rs) IsPod
sound_told [] h = tt
sound_told (r ∷ rs) h =
    first_fits (told_pod r) (filter_map told_pod rs) (told_fits r.heard (is_known (heard_place r.heard).level 1) (h 0)) (sound_told rs (λ port. h (suc port)))
