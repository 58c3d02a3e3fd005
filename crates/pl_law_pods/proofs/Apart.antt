-- Numbers of pods stay apart where the manager gives one, hears a place or begins anew, and where a switch takes the number that it was given.
use Rattle.std.proofs.Common.{◌≡◌, ◌⊎◌, ℕ, ◌||◌, Bool, true, false, cond, List, [], ◌∷◌, Option, Some, unwrap_or, refl, sym, ap, ◌∙◌, inl, inr, eq-eqb}
use Rattle.std.specs.BTreeMap.{insert_entry}
use Rattle.std.specs.Cmp.{Equal-is}
use Rattle.std.specs.List.{list_any}
use Rattle.std.specs.Ordering.{is_eq}
use Rattle.std.proofs.lemmas.Bool.{cond_both, false≢true, or_left, or_right}
use Rattle.std.proofs.lemmas.Option.{none-some, same_Some}
use Rattle.pl_frame.specs.declared.address.SwitchId.{SwitchId}
use Rattle.pl_layouts.specs.declared.place.Place.{Place}
use Rattle.pl_layouts.specs.Equality.{same_switch}
use Rattle.pl_layouts.specs.Placement.{is_known, nowhere}
use Rattle.pl_node.specs.declared.pod_given.PodGiven.{PodGiven}
use Rattle.pl_node.specs.ManagerViews.{Told, first_free, id_cmp, is_given_pod, is_taken, is_told_pod, place_of, pod_given, value_at}
use Rattle.pl_node.proofs.Exports.{id_total}
use Rattle.pl_manager_rule.specs.ManagerRule.{with_asker}
use Rattle.pl_manager_rule.proofs.Exports.{apart_then, first_is_free, free_given, id_exact, number_stays, of_either, value_after}
use Rattle.pl_law_pods.specs.Apart.{KnowsNone, NumbersApart}

-- a pod of a place that was told is taken
place_taken : (places : List (SwitchId × Place)) (s : SwitchId) (n : ℕ) → (unwrap_or (value_at id_cmp places s) nowhere).pod ≡ Some n →
    list_any (λ (p : SwitchId × Place). is_known p.1.pod n) places ≡ true
place_taken [] s n is = absurd (none-some n is)
place_taken (p ∷ places) s n is = by (λ rest. place_taken places s n rest) (is_eq (id_cmp s p.0)) is
  where
    by : ((unwrap_or (value_at id_cmp places s) nowhere).pod ≡ Some n → list_any (λ (q : SwitchId × Place). is_known q.1.pod n) places ≡ true) → (b : Bool) →
        (unwrap_or (cond b (Some p.1) (value_at id_cmp places s)) nowhere).pod ≡ Some n →
        (is_known p.1.pod n || list_any (λ (q : SwitchId × Place). is_known q.1.pod n) places) ≡ true
    by further true own = or_left (is_known p.1.pod n) (list_any (λ (q : SwitchId × Place). is_known q.1.pod n) places)
        (ap (λ (o : Option ℕ). is_known o n) own ∙ eq-eqb n n refl)
    by further false other = or_right (is_known p.1.pod n) (list_any (λ (q : SwitchId × Place). is_known q.1.pod n) places) (further other)

module _ (id : ℕ → SwitchId) (known : ℕ → Option ℕ) (told : Told) (pods : List PodGiven) (apart : NumbersApart id known told pods) where
  -- ---- the manager gives a number
  module _ (asker : SwitchId) where
    abbrev new : PodGiven
    new = record { switch = asker; pod = first_free told pods }

    -- a known number is not the free one
    not_free : (s n : ℕ) → known s ≡ Some n → first_free told pods ≡ n → ⊥
    not_free s n knows same = elim (apart.stands s n knows) [
      | inl stands ↦ false≢true (
          sym (first_is_free told pods).free
          ∙ ap (λ m. is_taken told pods m) same
          ∙ or_left (is_told_pod told n) (is_given_pod pods n) (place_taken told.places (id s) n stands)
          )
      | inr given ↦ free_given told pods asker (id s) n given same
    ]

    one_next : KnowsNone id known asker → (s n m : ℕ) → known s ≡ Some n → pod_given (new ∷ pods) (id s) ≡ Some m → n ≡ m
    one_next none s n m knows given = elim (of_either told pods asker (id s) m given) [
      | inl own ↦ absurd (none s n knows (sym own.0))
      | inr before ↦ apart.one s n m knows before
    ]

    both_next : (s n : ℕ) (b : SwitchId) → known s ≡ Some n → pod_given (new ∷ pods) b ≡ Some n → (id s).0 ≡ b.0
    both_next s n b knows given = elim (of_either told pods asker b n given) [
      | inl own ↦ absurd (not_free s n knows own.1)
      | inr before ↦ apart.both s n b knows before
    ]

    pub asked_apart : (list_any (λ (g : PodGiven). same_switch g.switch asker) pods ≡ false → KnowsNone id known asker) →
        NumbersApart id known told (with_asker told pods asker)
    asked_apart none = record {
      one = cond_both (list_any (λ (g : PodGiven). same_switch g.switch asker) pods) pods (new ∷ pods)
          (λ gs. (s n m : ℕ) → known s ≡ Some n → pod_given gs (id s) ≡ Some m → n ≡ m) (λ again. apart.one) (λ first. one_next (none first));
      knowers = apart.knowers;
      askers = apart_then told pods asker apart.askers;
      both = cond_both (list_any (λ (g : PodGiven). same_switch g.switch asker) pods) pods (new ∷ pods)
          (λ gs. (s n : ℕ) (b : SwitchId) → known s ≡ Some n → pod_given gs b ≡ Some n → (id s).0 ≡ b.0) (λ again. apart.both) (λ first. both_next);
      stands = λ s n knows. elim (apart.stands s n knows) [
        | inl stands ↦ inl stands
        | inr given ↦ inr (number_stays told pods asker (id s) n given)
      ];
    }

  -- ---- the manager hears a place: that of a switch that knows its pod has it, where the manager did not give it
  pub placed_apart : (switch : SwitchId) (place : Place) →
      ((s n : ℕ) → known s ≡ Some n → (id s).0 ≡ switch.0 → (place.pod ≡ Some n) ⊎ (pod_given pods (id s) ≡ Some n)) →
      NumbersApart id known (record told { places = insert_entry id_cmp told.places switch place }) pods
  placed_apart switch place has = record {
    one = apart.one;
    knowers = apart.knowers;
    askers = apart.askers;
    both = apart.both;
    stands = λ s n knows. elim (apart.stands s n knows) [
      | inl stands ↦ by s n knows stands (is_eq (id_cmp (id s) switch)) refl
      | inr given ↦ inr given
    ];
  }
    where
      after : (s : ℕ) (b : Bool) → is_eq (id_cmp (id s) switch) ≡ b →
          (place_of (record told { places = insert_entry id_cmp told.places switch place }) (id s)).pod
          ≡ (unwrap_or (cond b (Some place) (value_at id_cmp told.places (id s))) nowhere).pod
      after s b same =
          ap (λ (o : Option Place). (unwrap_or o nowhere).pod) (value_after id_cmp id_total id_exact told.places switch (id s) place)
          ∙ ap (λ c. (unwrap_or (cond c (Some place) (value_at id_cmp told.places (id s))) nowhere).pod) same

      by : (s n : ℕ) → known s ≡ Some n → (place_of told (id s)).pod ≡ Some n → (b : Bool) → is_eq (id_cmp (id s) switch) ≡ b →
          ((place_of (record told { places = insert_entry id_cmp told.places switch place }) (id s)).pod ≡ Some n) ⊎ (pod_given pods (id s) ≡ Some n)
      by s n knows stands true same = elim (has s n knows (ap (λ (i : SwitchId). i.0) (id_exact (id s) switch ((Equal-is (id_cmp (id s) switch)).0 same)))) [
        | inl told ↦ inl (after s true same ∙ told)
        | inr given ↦ inr given
      ]
      by s n knows stands false other = inl (after s false other ∙ stands)

  -- ---- switches take numbers that they were given
  pub taken_apart : (after : ℕ → Option ℕ) → ((s n : ℕ) → after s ≡ Some n → (known s ≡ Some n) ⊎ (pod_given pods (id s) ≡ Some n)) →
      ((s t m n : ℕ) → after s ≡ Some m → after t ≡ Some n → (id s).0 ≡ (id t).0 → s ≡ t) → NumbersApart id after told pods
  taken_apart after takes ids = record {
    one = λ s n m knows gave. elim (takes s n knows) [
      | inl before ↦ apart.one s n m before gave
      | inr given ↦ same_Some n m (sym given ∙ gave)
    ];
    knowers = λ s t n first second. elim (takes s n first) [
      | inl before ↦ elim (takes t n second) [
        | inl also ↦ apart.knowers s t n before also
        | inr given ↦ ids s t n n first second (apart.both s n (id t) before given)
      ]
      | inr given ↦ elim (takes t n second) [
        | inl also ↦ sym (ids t s n n second first (apart.both t n (id s) also given))
        | inr both ↦ ids s t n n first second (apart.askers (id s) (id t) n given both)
      ]
    ];
    askers = apart.askers;
    both = λ s n b knows gave. elim (takes s n knows) [
      | inl before ↦ apart.both s n b before gave
      | inr given ↦ apart.askers (id s) b n given gave
    ];
    stands = λ s n knows. elim (takes s n knows) [
      | inl before ↦ apart.stands s n before
      | inr given ↦ inr given
    ];
  }

-- ---- a manager that begins anew gave none; those that are known are apart, and all were told before it gives one
pub anew_apart : (id : ℕ → SwitchId) (known : ℕ → Option ℕ) (told : Told) → ((s t n : ℕ) → known s ≡ Some n → known t ≡ Some n → s ≡ t) →
    ((s n : ℕ) → known s ≡ Some n → (place_of told (id s)).pod ≡ Some n) → NumbersApart id known told []
anew_apart id known told knowers all = record {
  one = λ s n m knows given. absurd (none-some m given);
  knowers = knowers;
  askers = λ a b n given also. absurd (none-some n given);
  both = λ s n b knows given. absurd (none-some n given);
  stands = λ s n knows. inl (all s n knows);
}
