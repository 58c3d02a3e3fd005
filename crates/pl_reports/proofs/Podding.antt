-- Whether a pod stands in a place that was told, and how many places were.
use Rattle.std.proofs.Common.{◌≡◌, ◌≤◌, ℕ, ◌||◌, List, [], ◌∷◌, length, map, refl, ap, arith}
use Rattle.std.specs.List.{list_any}
use Rattle.std.specs.List.Sorted.{IsStrictlySortedBy}
use Rattle.std.specs.Map.{keys_of, values_of}
use Rattle.std.specs.Ordering.{eq_by_cmp}
use Rattle.std.proofs.lemmas.Cmp.{eq_by_cmp_equiv}
use Rattle.std.proofs.lemmas.List.{length-map}
use Rattle.std.proofs.lemmas.Map.Keys.{IsDistinct-from_sorted}
use Rattle.pl_frame.specs.declared.address.SwitchId.{SwitchId}
use Rattle.pl_layouts.specs.declared.place.Place.{Place}
use Rattle.pl_layouts.specs.Placement.{is_known}
use Rattle.pl_node.specs.ManagerViews.{Told, id_cmp, switches, tellers}
use Rattle.pl_node.proofs.Exports.{among_left, few_in_order, id_exact, id_total}

pub any_place : (places : List (SwitchId × Place)) (pod : ℕ) →
    list_any (λ (place : Place). is_known place.pod pod) (values_of places) ≡ list_any (λ (p : SwitchId × Place). is_known p.1.pod pod) places
any_place [] pod = refl
any_place (p ∷ places) pod = ap (λ b. is_known p.1.pod pod || b) (any_place places pod)

-- each switch told one place
pub few_places : (told : Told) → IsStrictlySortedBy id_cmp (keys_of told.places) → length told.places ≤ length (switches told)
few_places told rise =
    let placed : List SwitchId = map (λ (p : SwitchId × Place). p.0) told.places in
    let few = few_in_order id_cmp id_total id_exact (eq_by_cmp id_cmp) (eq_by_cmp_equiv id_total) placed (tellers told) (IsDistinct-from_sorted id_cmp placed rise)
    (λ s h. among_left s placed (map (λ l. l.0.0) told.links) h) in
    let many = length-map told.places (λ (p : SwitchId × Place). p.0) in
    omega (arith, few, many)
