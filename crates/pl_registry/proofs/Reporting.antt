-- Addresses that reports alone tell of, by what finds them.
use Rattle.std.proofs.Common.{◌≡◌, ◌∷◌, ◌++◌, ◌||◌, ◌&&◌, not, true, false, cond, filter, List, [], Option, Some, None, map, refl, ap, sym, ◌∙◌}
use Rattle.std.specs.List.{IsDistinct, find, list_any}
use Rattle.std.specs.Option.{option_map}
use Rattle.std.specs.Map.{keys_of, lookup, remove_entry, set_value, values_of}
use Rattle.std.proofs.lemmas.List.{map-append}
use Rattle.std.proofs.lemmas.Option.{none-some}
use Rattle.indexmap.specs.IndexMap.{insert_entry}
use Rattle.pl_pmac.specs.declared.pmac.Pmac.{Pmac}
use Rattle.pl_pmac.specs.contracts.pmac.PmacPartialEq.TheImpl.{eq-value}
use Rattle.pl_layouts.specs.Equality.{same_pmac}
use Rattle.pl_layouts.proofs.Exports.{pmac_itself}
use Rattle.pl_manager_rule.specs.Reports.{is_known_trapped_to, reported_ages, reported_leads}
use Rattle.pl_registry.specs.declared.addresses.Recall.{Recall}
use Rattle.pl_registry.specs.declared.reported_addresses.Reported.{Reported}
use Rattle.pl_registry.specs.Addresses.{is_trap_to, recall_of}
use Rattle.pl_registry.specs.ReportedAddresses.{all_reported, reported_at}
use Rattle.pl_registry.proofs.Entries.{found_in, list_without, nothing_changed, one_changed, put_in, put_last, taken_out, written}

-- what is told of an address is found in the list
pub told_found : (x : Pmac) (told : List (Pmac × Reported)) → find (λ r. same_pmac r.pmac x) (all_reported told) ≡ option_map (reported_at x) (lookup (same_pmac x) told)
told_found x told = found_in reported_at (λ r. r.pmac) (λ y r. refl) x told

-- one more is told
pub one_more : (x : Pmac) (r : Reported) (told after : List (Pmac × Reported)) → find (λ r. same_pmac r.pmac x) (all_reported told) ≡ None →
    after ≡ insert_entry eq-value.it told x r → all_reported after ≡ all_reported told ++ reported_at x r ∷ []
one_more x r told after none is =
    let fresh : lookup (same_pmac x) told ≡ None = of_none (lookup (same_pmac x) told) (sym (told_found x told) ∙ none) in
    ap all_reported (is ∙ put_in x r told ∙ put_last x r told fresh) ∙ map-append (λ e. reported_at e.0 e.1) told ((x, r) ∷ [])
  where
    of_none : (o : Option Reported) → option_map (reported_at x) o ≡ None → o ≡ None
    of_none None is = refl
    of_none (Some r) is = absurd (none-some (reported_at x r) (sym is))

-- it has aged
others_not_aged : (x y : Pmac) (r : Reported) → same_pmac y x ≡ false → reported_ages x (reported_at y r) ≡ reported_at y r
others_not_aged x y r apart i = record (reported_at y r) { aged = apart i || r.aged }

pub one_aged : (x : Pmac) (r : Reported) (told after : List (Pmac × Reported)) → IsDistinct same_pmac (keys_of told) → lookup (same_pmac x) told ≡ Some r →
    after ≡ set_value (eq-value.it x) told (record r { aged = true }) → all_reported after ≡ map (reported_ages x) (all_reported told)
one_aged x r told after once there is =
    ap all_reported (is ∙ written x r (record r { aged = true }) told there)
    ∙ one_changed reported_at x (reported_ages x) (others_not_aged x) r (record r { aged = true })
    (λ i. record (reported_at x r) { aged = pmac_itself x i || r.aged }) told once there

pub none_aged : (x : Pmac) (told : List (Pmac × Reported)) → lookup (same_pmac x) told ≡ None → all_reported told ≡ map (reported_ages x) (all_reported told)
none_aged x told none = nothing_changed reported_at x (reported_ages x) (others_not_aged x) told none

-- it leads on
others_not_led : (x : Pmac) (to : Recall) (y : Pmac) (r : Reported) → same_pmac y x ≡ false → reported_leads x (recall_of to) (reported_at y r) ≡ reported_at y r
others_not_led x to y r apart i = record (reported_at y r) { recall = cond (apart i) (Some (recall_of to)) (option_map recall_of r.recall); aged = not (apart i) && r.aged }

pub one_led : (x : Pmac) (to : Recall) (r : Reported) (told after : List (Pmac × Reported)) → IsDistinct same_pmac (keys_of told) → lookup (same_pmac x) told ≡ Some r →
    after ≡ set_value (eq-value.it x) told (record r { recall = Some to; aged = false }) → all_reported after ≡ map (reported_leads x (recall_of to)) (all_reported told)
one_led x to r told after once there is =
    ap all_reported (is ∙ written x r (record r { recall = Some to; aged = false }) told there)
    ∙ one_changed reported_at x (reported_leads x (recall_of to)) (others_not_led x to) r (record r { recall = Some to; aged = false })
    (λ i. record (reported_at x r) { recall = cond (pmac_itself x i) (Some (recall_of to)) (option_map recall_of r.recall); aged = not (pmac_itself x i) && r.aged })
    told once there

pub none_led : (x : Pmac) (to : Recall) (told : List (Pmac × Reported)) → lookup (same_pmac x) told ≡ None →
    all_reported told ≡ map (reported_leads x (recall_of to)) (all_reported told)
none_led x to told none = nothing_changed reported_at x (reported_leads x (recall_of to)) (others_not_led x to) told none

-- it is forgotten
pub one_less : (x : Pmac) (told after : List (Pmac × Reported)) → IsDistinct same_pmac (keys_of told) → after ≡ remove_entry (eq-value.it x) told →
    all_reported after ≡ filter (λ r. not (same_pmac r.pmac x)) (all_reported told)
one_less x told after once is = ap all_reported (is ∙ taken_out x told) ∙ list_without reported_at (λ r. r.pmac) (λ y r. refl) x told once

-- one that leads to this address is in the list where it is in the table
pub trap_listed : (x : Pmac) (told : List (Pmac × Reported)) → list_any (λ r. is_trap_to x r.recall r.aged) (values_of told) ≡ list_any (is_known_trapped_to x) (all_reported told)
trap_listed x [] = refl
trap_listed x (e ∷ told) = ap (λ b. is_trap_to x e.1.recall e.1.aged || b) (trap_listed x told)
