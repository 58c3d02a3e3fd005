-- Whether a crossing goes on well.
use Rattle.std.proofs.Common.{◌≡◌, ℕ, ◌≤◌, ◌<◌, Bool, false, ◌&&◌, ◌||◌, nat_le, List, [], ◌∷◌, length, take, refl, sym, ap, ap₂, ◌∙◌, inl, inr, arith}
use Rattle.std.proofs.lemmas.Bool.{cases_Bool, leb-true}
use Rattle.pl_wiring.specs.Plan.{Plan}
use Rattle.pl_journal.specs.declared.entry.Entry.{Entry}
use Rattle.pl_journal.specs.Places.{is_adjacent}
use Rattle.pl_journal.specs.Causes.{goes_to_group}
use Rattle.pl_journal.specs.Flights.{are_different, is_good_leg, is_led_to, leg, rises_and_falls}
use Rattle.pl_journal.specs.Lossy.{goes_well}
use Rattle.pl_past.specs.Links.{live_since}
use Rattle.pl_past.specs.Kept.{kept}
use Rattle.pl_past.specs.Legs.{goes_well_by, leads}
use Rattle.pl_past.proofs.LiveLinks.{live_by_numbers}

not_at_most : (m n : ℕ) → n < m → nat_le m n ≡ false
not_at_most m n h = elim (cases_Bool (nat_le m n)) [
  | inl is ↦ let e : m ≤ n = leb-true m n is in absurd (omega arith)
  | inr it ↦ it
]

-- A leg of five switches or more does not go on well, whatever follows.
too_long : (to_group : Bool) (k : ℕ) (switches : List ℕ) → 5 < length switches → is_good_leg to_group k switches ≡ false
too_long to_group k switches long =
    ap (λ t. t && (to_group || are_different switches) && rises_and_falls k switches) (not_at_most (length switches) 5 long)

good_by_five : (to_group : Bool) (k s : ℕ) (switches : List ℕ) → is_good_leg to_group k (s ∷ take 5 switches) ≡ is_good_leg to_group k (s ∷ switches)
good_by_five to_group k s [] = refl
good_by_five to_group k s (a ∷ []) = refl
good_by_five to_group k s (a ∷ b ∷ []) = refl
good_by_five to_group k s (a ∷ b ∷ c ∷ []) = refl
good_by_five to_group k s (a ∷ b ∷ c ∷ d ∷ []) = refl
good_by_five to_group k s (a ∷ b ∷ c ∷ d ∷ e ∷ rest) =
    too_long to_group k (s ∷ a ∷ b ∷ c ∷ d ∷ e ∷ []) (omega arith) ∙ sym (too_long to_group k (s ∷ a ∷ b ∷ c ∷ d ∷ e ∷ rest) (omega arith))

led_by_numbers : (plan : Plan) (past : List Entry) (id s : ℕ) (switches : List ℕ) →
    is_led_to plan past id switches s ≡ leads plan (live_since past) (kept plan past id).crossed (take 5 switches) s
led_by_numbers plan past id s [] = refl
led_by_numbers plan past id s (t ∷ switches) = ap (λ b. is_adjacent plan t s && b) (live_by_numbers past id t s)

pub goes_well_by_kept : (plan : Plan) (past : List Entry) (id s : ℕ) →
    goes_well plan past id (leg past id) s ≡ goes_well_by plan (live_since past) (kept plan past id) s
goes_well_by_kept plan past id s =
    ap₂ (λ a b. a && b) (sym (good_by_five (goes_to_group past id) plan.k s (leg past id))) (led_by_numbers plan past id s (leg past id))
