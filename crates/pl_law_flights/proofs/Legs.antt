-- A route is a good leg, with the switch where it leads.
use Rattle.std.proofs.Common.{◌≡◌, ℕ, ◌==◌, true, false, List, ◌∷◌, Some, refl, sym, ap, ◌∙◌, subst}
use Rattle.std.proofs.lemmas.Bool.{ne_eqb}
use Rattle.pl_pmac.specs.declared.pmac.Pmac.{Pmac}
use Rattle.pl_wiring.specs.declared.label.Label.{Label}
use Rattle.pl_wiring.specs.declared.label.Label.TheVariants.{Aggregation, Core, Edge}
use Rattle.pl_wiring.specs.Labels.{label_of}
use Rattle.pl_wiring.proofs.Exports.{same_label}
use Rattle.pl_layouts.specs.declared.place.Place.{Place}
use Rattle.pl_journal.specs.Flights.{is_good_leg, label_level, level_of}
use Rattle.pl_law_flights.specs.Routes.{Route}
use Rattle.pl_law_flights.specs.Routes.Route.{Climbs, Enters, Falls, Leaves, Turns}

pub level_at : (k s : ℕ) (label : Label) → label_of k s ≡ label → level_of k s ≡ label_level label
level_at k s label is = ap label_level is

-- switches of two labels are two
pub other_label : (k s t : ℕ) (a b : Label) → label_of k s ≡ a → label_of k t ≡ b → (a ≡ b → ⊥) → (s == t) ≡ false
other_label k s t a b at_s at_t differ = ne_eqb s t (λ same. differ (sym at_s ∙ ap (label_of k) same ∙ at_t))

abbrev pub pod_number : Label → ℕ
pod_number (Edge p i) = p
pod_number (Aggregation p j) = p
pod_number (Core j m) = 0

module _ (k : ℕ) where
  other_level : (s t : ℕ) (a b : Label) → label_of k s ≡ a → label_of k t ≡ b → (label_level a ≡ label_level b → ⊥) → (s == t) ≡ false
  other_level s t a b at_s at_t differ = other_label k s t a b at_s at_t (λ same. differ (ap label_level same))

  pub good : (place : ℕ → Place) (to : Pmac) (leg : List ℕ) (s t : ℕ) → Route k place to leg s t → is_good_leg false k (t ∷ leg) ≡ true
  good place to leg s t (Climbs p i j at_s at_t is elsewhere) =
      rw (is, level_at k s _ at_s, level_at k t _ at_t, other_level s t _ _ at_s at_t (λ e. absurd (cc))) refl
  good place to leg s t (Leaves e p i j m at_e at_s at_t is other) =
      rw (
        is,
        level_at k e _ at_e,
        level_at k s _ at_s,
        level_at k t _ at_t,
        other_level s t _ _ at_s at_t (λ w. absurd (cc)),
        other_level e t _ _ at_e at_t (λ w. absurd (cc)),
        other_level e s _ _ at_e at_s (λ w. absurd (cc)),
      ) refl
  good place to leg s t (Falls e a p i j m q at_e at_a at_s at_t is other below) =
      let pods : p ≡ q → ⊥ = λ same. (let one : a ≡ t = same_label k a t (at_a ∙ ap (λ n. Aggregation n j) same ∙ sym at_t) in
      let here : (place t).pod ≡ Some other.pod = subst (λ n. (place n).pod ≡ Some other.pod) one other.knows in
      other.another (cc)) in
      rw (
        is,
        level_at k e _ at_e,
        level_at k a _ at_a,
        level_at k s _ at_s,
        level_at k t _ at_t,
        other_level s t _ _ at_s at_t (λ w. absurd (cc)),
        other_label k a t _ _ at_a at_t (λ w. pods (ap pod_number w)),
        other_level e t _ _ at_e at_t (λ w. absurd (cc)),
        other_level a s _ _ at_a at_s (λ w. absurd (cc)),
        other_level e s _ _ at_e at_s (λ w. absurd (cc)),
        other_level e a _ _ at_e at_a (λ w. absurd (cc)),
      ) refl
  good place to leg s t (Turns e p i j x at_e at_s at_t is other here there) =
      rw (
        is,
        level_at k e _ at_e,
        level_at k s _ at_s,
        level_at k t _ at_t,
        other_level s t _ _ at_s at_t (λ w. absurd (cc)),
        ne_eqb e t other,
        other_level e s _ _ at_e at_s (λ w. absurd (cc)),
      ) refl
  good place to leg s t (Enters e a c p i j m q x at_e at_a at_c at_s at_t is pods here there) =
      rw (
        is,
        level_at k e _ at_e,
        level_at k a _ at_a,
        level_at k c _ at_c,
        level_at k s _ at_s,
        level_at k t _ at_t,
        other_level s t _ _ at_s at_t (λ w. absurd (cc)),
        other_level c t _ _ at_c at_t (λ w. absurd (cc)),
        other_level a t _ _ at_a at_t (λ w. absurd (cc)),
        other_label k e t _ _ at_e at_t (λ w. pods (ap pod_number w)),
        other_level c s _ _ at_c at_s (λ w. absurd (cc)),
        other_label k a s _ _ at_a at_s (λ w. pods (ap pod_number w)),
        other_level e s _ _ at_e at_s (λ w. absurd (cc)),
        other_level a c _ _ at_a at_c (λ w. absurd (cc)),
        other_level e c _ _ at_e at_c (λ w. absurd (cc)),
        other_level e a _ _ at_e at_a (λ w. absurd (cc)),
      ) refl
