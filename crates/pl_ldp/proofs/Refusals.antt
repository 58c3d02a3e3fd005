-- A whole message is refused exactly where one of its fields is bad.
use Rattle.std.proofs.Common.{◌≡◌, ◌≢◌, ℕ, ◌<◌, ◌≤◌, ◌==◌, ◌&&◌, ◌||◌, ◌⊎◌, ◌↔◌, inl, inr, not, Bool, true, false, cond, nat_lt, List, length, slice_index, drop, is_none, is_some, Result, Ok, Err, refl, sym, ◌∙◌, arith}
use Rattle.std.proofs.lemmas.Bool.{cases_Bool, eqb-true, ne_eqb}
use Rattle.std.proofs.lemmas.Bool.Decides.{nat_tests}
use Rattle.byteorder.specs.Endian.{big_number}
use Rattle.pl_layouts.specs.declared.control.Control.{Control}
use Rattle.pl_layouts.specs.declared.control.Control.TheVariants as control
use Rattle.pl_layouts.specs.declared.control.ControlError.{ControlError}
use Rattle.pl_layouts.specs.declared.control.ControlError.TheVariants.{Cut, BadField}
use Rattle.pl_layouts.specs.Control.{known_unless, id_of_code, is_bit, is_sound, sender_at, ldm_at, vote_at, sound_or_refused}
use Rattle.pl_ldp.specs.Refusals.{HasBadField}
use Rattle.pl_layouts.specs.Placement.{is_known}

abbrev Read : Type 0
Read = Result Control ControlError

is_none-known_unless : (unknown n : ℕ) → is_none (known_unless unknown n) ≡ (n == unknown)
is_none-known_unless unknown n = elim (cases_Bool (n == unknown)) [ inl e ↦ rw e refl | inr e ↦ rw e refl ]

is_known-known_unless : (unknown n level : ℕ) → level ≢ unknown → is_known (known_unless unknown n) level ≡ (n == level)
is_known-known_unless unknown n level other =
    elim (cases_Bool (n == unknown)) [
      | inl e ↦ rw e (sym (ne_eqb n level (λ same. other (sym same ∙ eqb-true n unknown e))))
      | inr e ↦ rw e refl
    ]

abbrev ldm_test : ℕ → ℕ → ℕ → ℕ → ℕ → Bool
ldm_test id level position pod direction =
    not (id == 0) && ((level == 255 || (level == 0) || (level == 1) || (level == 2)) && nat_lt direction 3
    && (position == 255 || (level == 0)) && (pod == 65535 || (level == 0) || (level == 1)))

abbrev BadLdm : ℕ → ℕ → ℕ → ℕ → ℕ → Type 0
BadLdm id level position pod direction =
    (id ≡ 0) ⊎ (((2 < level) × (level ≢ 255)) ⊎ ((2 < direction) ⊎ (((position ≢ 255) × (level ≢ 0)) ⊎ ((pod ≢ 65535) × ((level ≡ 2) ⊎ (level ≡ 255))))))

refused_ldm : (id level position pod direction : ℕ) → ldm_test id level position pod direction ≡ false → BadLdm id level position pod direction
refused_ldm id level position pod direction h = grind (arith, nat_tests)

bad_ldm : (id level position pod direction : ℕ) → BadLdm id level position pod direction → ldm_test id level position pod direction ≡ false
bad_ldm id level position pod direction h = grind (arith, nat_tests)

ldm_test_is : (p : List ℕ) → is_sound (control.Ldm (sender_at p) (ldm_at p))
    ≡ ldm_test (big_number 6 (drop 2 p)) (slice_index p 8) (slice_index p 9) (big_number 2 (drop 10 p)) (slice_index p 12)
ldm_test_is p =
    let level = slice_index p 8 in
    let none : is_none (known_unless 255 level) ≡ (level == 255) = is_none-known_unless 255 level in
    let edge : is_known (known_unless 255 level) 0 ≡ (level == 0) = is_known-known_unless 255 level 0 (λ e. omega (arith, e)) in
    let aggregation : is_known (known_unless 255 level) 1 ≡ (level == 1) = is_known-known_unless 255 level 1 (λ e. omega (arith, e)) in
    let core : is_known (known_unless 255 level) 2 ≡ (level == 2) = is_known-known_unless 255 level 2 (λ e. omega (arith, e)) in
    let position : is_none (known_unless 255 (slice_index p 9)) ≡ (slice_index p 9 == 255) = is_none-known_unless 255 (slice_index p 9) in
    let pod : is_none (known_unless 65535 (big_number 2 (drop 10 p))) ≡ (big_number 2 (drop 10 p) == 65535) = is_none-known_unless 65535 (big_number 2 (drop 10 p)) in
    simp (none, edge, aggregation, core, position, pod)

abbrev vote_test : ℕ → ℕ → ℕ → ℕ → ℕ → Bool
vote_test id attempt granted holder fixed =
    is_bit granted && is_bit fixed
    && (not (id == 0) && (not (attempt == 0) && (cond (granted == 1) (not (not (holder == 0)) && not (fixed == 1)) (not (holder == 0)))))

abbrev BadVote : ℕ → ℕ → ℕ → ℕ → ℕ → Type 0
BadVote id attempt granted holder fixed =
    (id ≡ 0) ⊎ ((attempt ≡ 0) ⊎ ((1 < granted) ⊎ ((1 < fixed) ⊎ (((granted ≡ 1) × ((holder ≢ 0) ⊎ (fixed ≡ 1))) ⊎ ((granted ≡ 0) × (holder ≡ 0))))))

refused_vote : (id attempt granted holder fixed : ℕ) → vote_test id attempt granted holder fixed ≡ false → BadVote id attempt granted holder fixed
refused_vote id attempt granted holder fixed h = grind (arith, nat_tests)

bad_vote : (id attempt granted holder fixed : ℕ) → BadVote id attempt granted holder fixed → vote_test id attempt granted holder fixed ≡ false
bad_vote id attempt granted holder fixed h = grind (arith, nat_tests)

is_some-id_of_code : (n : ℕ) → is_some (id_of_code n) ≡ not (n == 0)
is_some-id_of_code n = elim (cases_Bool (n == 0)) [ inl e ↦ rw e refl | inr e ↦ rw e refl ]

vote_test_is : (p : List ℕ) → (is_bit (slice_index p 13) && is_bit (slice_index p 20) && is_sound (control.Vote (sender_at p) (vote_at p)))
    ≡ vote_test (big_number 6 (drop 2 p)) (big_number 4 (drop 8 p)) (slice_index p 13) (big_number 6 (drop 14 p)) (slice_index p 20)
vote_test_is p = let holder = is_some-id_of_code (big_number 6 (drop 14 p)) in simp holder

-- a length and a test decide
refused : (len size : ℕ) (test : Bool) (c : Control) → cond (nat_lt len size) (Err Cut) (cond test (Ok c) (Err BadField)) ≡ Err BadField →
    (size ≤ len) × (test ≡ false)
refused len size test c h = grind (arith, nat_tests)

refuses : (len size : ℕ) (test : Bool) (c : Control) (r : Read) → r ≡ cond (nat_lt len size) (Err Cut) (cond test (Ok c) (Err BadField)) →
    size ≤ len → test ≡ false → r ≡ Err BadField
refuses len size test c r e long h = grind (arith, nat_tests)

pub bad_field-ldm : (p : List ℕ) (r : Read) → slice_index p 0 ≡ 1 → slice_index p 1 ≡ 1 →
    r ≡ cond (nat_lt (length p) 19) (Err Cut) (sound_or_refused true (control.Ldm (sender_at p) (ldm_at p))) → (r ≡ Err BadField) ↔ HasBadField p
bad_field-ldm p r version kind e =
    let c : Control = control.Ldm (sender_at p) (ldm_at p) in
    let there : r ≡ Err BadField → HasBadField p = λ h.
    let found = refused (length p) 19 (is_sound c) c (sym e ∙ h) in
    inl ((version, kind, found.0), refused_ldm _ _ _ _ _ (sym (ldm_test_is p) ∙ found.1)) in
    let back : HasBadField p → r ≡ Err BadField = λ h. elim h [
      | inl bad ↦ refuses (length p) 19 (is_sound c) c r e bad.0.2 (ldm_test_is p ∙ bad_ldm _ _ _ _ _ bad.1)
      | inr more ↦ absurd (elim more [ inl bad ↦ omega (arith, bad.0.1) | inr bad ↦ omega (arith, bad.0.1) ])
    ] in
    (there, back)

pub bad_field-vote : (p : List ℕ) (r : Read) → slice_index p 0 ≡ 1 → slice_index p 1 ≡ 3 →
    r ≡ cond (nat_lt (length p) 21) (Err Cut) (sound_or_refused (is_bit (slice_index p 13) && is_bit (slice_index p 20)) (control.Vote (sender_at p) (vote_at p))) →
    (r ≡ Err BadField) ↔ HasBadField p
bad_field-vote p r version kind e =
    let c : Control = control.Vote (sender_at p) (vote_at p) in
    let test : Bool = is_bit (slice_index p 13) && is_bit (slice_index p 20) && is_sound c in
    let there : r ≡ Err BadField → HasBadField p = λ h.
    let found = refused (length p) 21 test c (sym e ∙ h) in
    inr (inr ((version, kind, found.0), refused_vote _ _ _ _ _ (sym (vote_test_is p) ∙ found.1))) in
    let back : HasBadField p → r ≡ Err BadField = λ h. elim h [
      | inl bad ↦ absurd (omega (arith, bad.0.1))
      | inr more ↦ elim more [
        | inl bad ↦ absurd (omega (arith, bad.0.1))
        | inr bad ↦ refuses (length p) 21 test c r e bad.0.2 (vote_test_is p ∙ bad_vote _ _ _ _ _ bad.1)
      ]
    ] in
    (there, back)
