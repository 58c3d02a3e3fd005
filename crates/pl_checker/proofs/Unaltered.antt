-- The bytes of a frame that arrives, beside the digits of those that it began with.
use Rattle.std.proofs.Common.{◌≡◌, ◌≢◌, ◌↔◌, ℕ, ◌*◌, ◌≤◌, ◌<◌, false, List, length, take, drop, Option, Result, Ok, Err, sym, ap, ◌∙◌, inl, inr, arith}
use Rattle.std.specs.Prelude.{IsTrue}
use Rattle.std.proofs.lemmas.Bool.{cases_lt, false≢true}
use Rattle.std.proofs.lemmas.List.{drop_all, take_all}
use Rattle.hex.specs.Hex.{IsBytes, decode_of, encode_lower, lower_digits}
use Rattle.hex.proofs.HexLemmas.{decode_of-encode_lower, length-encode_with}
use Rattle.hex.specs.declared.error.FromHexError.{FromHexError}
use Rattle.pl_frame.specs.declared.address.Mac.{Mac}
use Rattle.pl_layouts.specs.Frames.{HasSixBytes, arriving}
use Rattle.pl_layouts.proofs.Exports.{length-arriving}
use Rattle.pl_past_tables.specs.declared.row.Carried.{Carried}
use Rattle.pl_past_tables.specs.Frames.{IsCarried}

abbrev got : List ℕ → Result (List ℕ) FromHexError
got bytes = Ok bytes

abbrev lost : FromHexError → Result (List ℕ) FromHexError
lost error = Err error

-- the bytes that digits spell
pub decoded : (digits bytes read : List ℕ) → IsBytes bytes → digits ≡ encode_lower bytes → decode_of digits ≡ got read → read ≡ bytes
decoded digits bytes read are is found =
    let e : got read ≡ got bytes = sym found ∙ ap decode_of is ∙ decode_of-encode_lower bytes are in cc

pub unread : (digits : List ℕ) (error : FromHexError) → decode_of digits ≡ Err error → (bytes : List ℕ) → IsBytes bytes → digits ≢ encode_lower bytes
unread digits error read bytes are same =
    let e : lost error ≡ got bytes = sym read ∙ ap decode_of same ∙ decode_of-encode_lower bytes are in absurd (cc)

module _ (text : List ℕ) (carried : Carried) (bytes frame : List ℕ) (from to : Option Mac) (is : IsCarried text carried bytes) (six : HasSixBytes from)
    (also_six : HasSixBytes to) where
  long : frame ≡ arriving bytes from to → length frame ≡ length bytes
  long same = ap length same ∙ length-arriving bytes from to is.least six also_six

  pub other_length : carried.length ≢ length frame → IsTrue false ↔ (frame ≡ arriving bytes from to)
  other_length apart = (λ t. absurd (false≢true t), λ same. absurd (apart (is.many ∙ sym (long same))))

  digits_length : length (take (2 * length bytes) (drop carried.from text)) ≡ 2 * length bytes
  digits_length = ap length is.spelled ∙ length-encode_with lower_digits bytes

  -- the digits are in the text
  enough : 2 * length bytes ≤ length (drop carried.from text)
  enough = elim (cases_lt (length (drop carried.from text)) (2 * length bytes)) [
    | inl less ↦
        let all : take (2 * length bytes) (drop carried.from text) ≡ drop carried.from text = take_all (2 * length bytes) (drop carried.from text)
        (omega arith) in
        let many = sym (ap length all) ∙ digits_length in
        absurd (omega arith)
    | inr least ↦ least
  ]

  inside : carried.from ≤ length text
  inside = elim (cases_lt (length text) carried.from) [
    | inl less ↦
        let none : length (drop carried.from text) ≡ 0 = ap length (drop_all carried.from text (omega arith)) in
        let some = enough in
        let long_enough = is.least in
        absurd (omega arith)
    | inr within ↦ within
  ]

  pub no_digits : (n : ℕ) → n ≡ 2 * length frame → carried.length ≡ length frame → (carried.from ≤ length text → length (drop carried.from text) < n) →
      IsTrue false ↔ (frame ≡ arriving bytes from to)
  no_digits n at same none =
      let short = none inside in
      let room = enough in
      let many = is.many in
      absurd (omega arith)

  pub the_digits : (n : ℕ) (digits : List ℕ) → n ≡ 2 * length frame → carried.length ≡ length frame → digits ≡ take n (drop carried.from text) →
      digits ≡ encode_lower bytes
  the_digits n digits at same found =
      let twice : n ≡ 2 * length bytes = at ∙ ap (λ m. 2 * m) (sym same ∙ is.many) in
      found ∙ ap (λ m. take m (drop carried.from text)) twice ∙ is.spelled
