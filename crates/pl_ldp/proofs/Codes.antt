-- A code and what it stands for determine each other.
use Rattle.std.proofs.Common.{◌≡◌, ℕ, ◌+◌, ◌^◌, ◌<◌, ◌==◌, Bool, true, false, not, ◌||◌, Option, Some, None, is_none, IfSome, inl, inr, unwrap_or, refl, sym, arith}
use Rattle.std.proofs.lemmas.Bool.{eqb-true, eqb-false, eq-eqb, ne_eqb, cases_Bool, ltb-true}
use Rattle.std.proofs.lemmas.Bool.Decides.{nat_tests}
use Rattle.pl_frame.specs.declared.address.SwitchId.{SwitchId}
use Rattle.pl_layouts.specs.Control.{known_unless, id_code, id_of_code, bit, is_bit}
use Rattle.pl_ldp.specs.Writable.{IsWritableId}
use Rattle.pl_layouts.specs.Placement.{is_known}

-- what is known keeps clear of the code of what is not
pub known_unless-unwrap_or : (unknown : ℕ) (known : Option ℕ) → IfSome known (λ n. n < unknown) → known_unless unknown (unwrap_or known unknown) ≡ known
known_unless-unwrap_or unknown None clear = let same : (unknown == unknown) ≡ true = eq-eqb unknown unknown refl in rw same refl
known_unless-unwrap_or unknown (Some n) clear = let other : (n == unknown) ≡ false = ne_eqb n unknown (λ e. omega arith) in rw other refl

pub unwrap_or-known_unless : (unknown code : ℕ) → unwrap_or (known_unless unknown code) unknown ≡ code
unwrap_or-known_unless unknown code =
    elim (cases_Bool (code == unknown)) [ inl e ↦ rw e (sym (eqb-true code unknown e)) | inr e ↦ rw e refl ]

pub known_unless-fits : (unknown code : ℕ) → code < unknown + 1 → IfSome (known_unless unknown code) (λ n. n < unknown)
known_unless-fits unknown code small =
    elim (cases_Bool (code == unknown)) [ inl e ↦ rw e tt | inr e ↦ rw e (omega (arith, eqb-false code unknown e)) ]

pub unwrap_or-fits : (unknown : ℕ) (known : Option ℕ) → IfSome known (λ n. n < unknown) → unwrap_or known unknown < unknown + 1
unwrap_or-fits unknown None clear = omega arith
unwrap_or-fits unknown (Some n) clear = omega arith

-- no switch has the id 0
pub id_of_code-id_code : (id : Option SwitchId) → IfSome id IsWritableId → id_of_code (id_code id) ≡ id
id_of_code-id_code None fits = refl
id_of_code-id_code (Some id) fits = let other : (id.0 == 0) ≡ false = ne_eqb id.0 0 (λ e. omega arith) in rw other refl

pub id_code-id_of_code : (code : ℕ) → id_code (id_of_code code) ≡ code
id_code-id_of_code code =
    elim (cases_Bool (code == 0)) [ inl e ↦ rw e (sym (eqb-true code 0 e)) | inr e ↦ rw e refl ]

pub id_of_code-fits : (code : ℕ) → code < 2 ^ 48 → IfSome (id_of_code code) IsWritableId
id_of_code-fits code small =
    elim (cases_Bool (code == 0)) [ inl e ↦ rw e tt | inr e ↦ rw e (omega (arith, eqb-false code 0 e), small) ]

pub id_code-fits : (id : Option SwitchId) → IfSome id IsWritableId → id_code id < 2 ^ 48
id_code-fits None fits = omega arith
id_code-fits (Some id) fits = fits.1

-- a bit is 0 or 1
pub bit-of : (n : ℕ) → is_bit n ≡ true → bit (n == 1) ≡ n
bit-of n h = elim (cases_Bool (n == 1)) [ inl e ↦ rw e (sym (eqb-true n 1 e)) | inr e ↦ rw e (omega (arith, eqb-false n 1 e, ltb-true n 2 h)) ]

pub of-bit : (b : Bool) → (bit b == 1) ≡ b
of-bit true = refl
of-bit false = refl

pub is_bit-bit : (b : Bool) → is_bit (bit b) ≡ true
is_bit-bit true = refl
is_bit-bit false = refl

-- a level that is 0, 1, 2 or unknown keeps clear of the code of an unknown one
abbrev pub is_known_level : Option ℕ → Bool
is_known_level level = is_none level || is_known level 0 || is_known level 1 || is_known level 2

pub level-fits : (level : Option ℕ) → is_known_level level ≡ true → IfSome level (λ n. n < 255)
level-fits None h = tt
level-fits (Some n) h = grind (arith, nat_tests)

pub above_zero : (n : ℕ) → not (n == 0) ≡ true → 0 < n
above_zero n h = grind (arith, nat_tests)
