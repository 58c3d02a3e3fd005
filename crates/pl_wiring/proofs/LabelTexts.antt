-- A label is read from its text, and from no other.
use Rattle.std.proofs.Common.{◌≡◌, ◌≢◌, ℕ, ◌+◌, ◌^◌, ◌<◌, false, cond, ◌&&◌, eqb, ltb, List, [], ◌∷◌, ◌++◌, length, get_or, take, drop, Option, Some, None, option_map, IfSome, IfNone, slice_index, refl, sym, ap, ◌∙◌, arith, append_assoc, inl, inr}
use Rattle.std.specs.Prelude.{decimal}
use Rattle.std.specs.List.{after_first, before_first, position_or_len}
use Rattle.std.specs.Str.{bytes_eq}
use Rattle.std.specs.Str.Parse.{digits_value}
use Rattle.std.proofs.Math.Seq.{get_or-append_seam, take-append_seam, drop-append-add}
use Rattle.std.proofs.lemmas.Bool.{and_parts, cases_Bool, cases_lt, eqb-true, false_from_ne_true, lt-ltb, ltb-true}
use Rattle.std.proofs.lemmas.Fmt.{decimal_is_IsNumeral, decimal_nonempty}
use Rattle.std.proofs.lemmas.List.{get_or_append_left, length-append, length-drop}
use Rattle.std.proofs.lemmas.List.Sums.{passes_at_first, position_or_len_is, split_at_first}
use Rattle.std.proofs.lemmas.Slice.Eq.{bytes_eq-Decides}
use Rattle.std.proofs.lemmas.Str.Parse.{digit_at}
use Rattle.std.proofs.lemmas.Option.{cond_some}
use Rattle.pl_lemmas.proofs.Exports.{and_then_some}
use Rattle.pl_wiring.specs.declared.label.Label.{Label}
use Rattle.pl_wiring.specs.declared.label.Label.TheVariants.{Edge, Aggregation, Core}
use Rattle.pl_wiring.specs.declared.label.SwitchNo.{SwitchNo}
use Rattle.pl_wiring.specs.SwitchNames.{is_label, switch_named}
use Rattle.pl_wiring.specs.Labels.{IsArity, IsLabel, label_of, label_text, number_of, switch_count}
use Rattle.pl_wiring.specs.Texts.{IsWritableLabel, is_point, label_from, label_of_text, number_of_text, numbers_of_text}
use Rattle.pl_wiring.proofs.EntryLemmas.{is_label-Decides}
use Rattle.pl_wiring.proofs.LabelOrder.{label_of-number_of, number_of-below}
use Rattle.pl_wiring.proofs.TextLemmas.{number_of-decimal}

pub number_of-is : (text : List ℕ) (n : ℕ) → number_of_text text ≡ Some n → (text ≡ decimal n) × (n < 2 ^ 16)
unfolding number_of_text
number_of-is text n is =
    let v = digits_value 10 text in
    let (test, same) = cond_some (ltb v 65536 && bytes_eq (decimal v) text) v n is in
    let (small, written) = and_parts (ltb v 65536) (bytes_eq (decimal v) text) test in
    (sym ((bytes_eq-Decides (decimal v) text).0 written) ∙ ap decimal same, (rw same at (ltb-true v 65536 small)))

pair_parts : (o p : Option ℕ) (first a b : ℕ) → o ≡ Some first → option_map {U = ℕ × ℕ} (λ second. (first, second)) p ≡ Some (a, b) → (o ≡ Some a) × (p ≡ Some b)
pair_parts o None first a b is given = cc
pair_parts o (Some second) first a b is given =
    let made : ℕ × ℕ = (first, second) in
    let wanted : ℕ × ℕ = (a, b) in
    let pair : made ≡ wanted = cc in
    let e : first ≡ a = ap (λ (x : ℕ × ℕ). x.0) pair in
    let f : second ≡ b = ap (λ (x : ℕ × ℕ). x.1) pair in
    (is ∙ ap (λ x. Some x) e, ap (λ x. Some x) f)

-- the two numbers of a text
parts_of : (text : List ℕ) (a b : ℕ) → numbers_of_text text ≡ Some (a, b) → (number_of_text (before_first is_point text) ≡ Some a) × (number_of_text (after_first is_point text) ≡ Some b)
parts_of text a b is =
    let (first, read_a, rest) = and_then_some (λ first. option_map (λ second. (first, second)) (number_of_text (after_first is_point text))) (number_of_text (before_first is_point text)) (a, b) is in
    pair_parts (number_of_text (before_first is_point text)) (number_of_text (after_first is_point text)) first a b read_a rest

-- digits have no point
no_point : (n k : ℕ) → n < 2 ^ 64 → k < length (decimal n) → is_point (get_or (decimal n) k 0) ≡ false
no_point n k wide within =
    let digits = (decimal_is_IsNumeral n wide).0.1 in
    let digit = digit_at (decimal n) k digits within in
    false_from_ne_true _ (λ same. let point = eqb-true (get_or (decimal n) k 0) 46 same in absurd (omega (arith, digit.0, digit.1)))

abbrev pub with_point : ℕ → ℕ → List ℕ
with_point a b = decimal a ++ 46 ∷ decimal b

first_point : (a : ℕ) (rest : List ℕ) → a < 2 ^ 64 → position_or_len is_point (decimal a ++ 46 ∷ rest) ≡ length (decimal a)
first_point a rest wide =
    let long = length-append (decimal a) (46 ∷ rest) in
    position_or_len_is is_point (decimal a ++ 46 ∷ rest) (length (decimal a)) 0 (omega arith)
    (λ k less. ap is_point (get_or_append_left (decimal a) (46 ∷ rest) 0 k less) ∙ no_point a k wide less)
    (λ within. ap is_point (get_or-append_seam (decimal a) 46 rest 0))

-- a number stands before the first point, and what follows the point behind it
pub before_point : (a : ℕ) (rest : List ℕ) → a < 2 ^ 64 → before_first is_point (decimal a ++ 46 ∷ rest) ≡ decimal a
before_point a rest wide = ap (λ n. take n (decimal a ++ 46 ∷ rest)) (first_point a rest wide) ∙ take-append_seam (decimal a) (46 ∷ rest)

pub behind_point : (a : ℕ) (rest : List ℕ) → a < 2 ^ 64 → after_first is_point (decimal a ++ 46 ∷ rest) ≡ rest
behind_point a rest wide = ap (λ n. drop (n + 1) (decimal a ++ 46 ∷ rest)) (first_point a rest wide) ∙ drop-append-add (decimal a) (46 ∷ rest) 1

-- two numbers with a point between them are read as these numbers
numbers_of-written : (a b : ℕ) → a < 2 ^ 16 → b < 2 ^ 16 → numbers_of_text (with_point a b) ≡ Some (a, b)
numbers_of-written a b small_a small_b =
    let wide : a < 2 ^ 64 = omega arith in
    let before = before_point a (decimal b) wide in
    let after = behind_point a (decimal b) wide in
    rw (number_of-decimal a (before_first is_point (with_point a b)) small_a (sym before), number_of-decimal b (after_first is_point (with_point a b)) small_b (sym after)) refl

-- a text with something behind its first point has that point
pub parted_at_point : (text : List ℕ) → 0 < length (after_first is_point text) → text ≡ before_first is_point text ++ 46 ∷ after_first is_point text
parted_at_point text some =
    let within : position_or_len is_point text < length text = elim (cases_lt (position_or_len is_point text) (length text)) [
      | inl less ↦ less
      | inr past ↦ absurd (omega (arith, length-drop (position_or_len is_point text + 1) text))
    ] in
    let point : get_or text (position_or_len is_point text) 0 ≡ 46 = eqb-true _ 46 (passes_at_first is_point text 0 within) in
    split_at_first is_point text 0 within ∙ rw point refl

-- and what is read as two numbers is written so
numbers_of-is : (text : List ℕ) (a b : ℕ) → numbers_of_text text ≡ Some (a, b) → (text ≡ with_point a b) × (a < 2 ^ 16) × (b < 2 ^ 16)
numbers_of-is text a b is =
    let (first, second) = parts_of text a b is in
    let (written_a, small_a) = number_of-is (before_first is_point text) a first in
    let (written_b, small_b) = number_of-is (after_first is_point text) b second in
    let wide : b < 2 ^ 64 = omega arith in
    let some : 0 < length (after_first is_point text) = rw written_b (decimal_nonempty b wide) in
    (parted_at_point text some ∙ rw (written_a, written_b) refl, small_a, small_b)

-- a text of two numbers behind a letter
text_of : (letter a b : ℕ) (text : List ℕ) → text ≡ letter ∷ with_point a b → a < 2 ^ 16 → b < 2 ^ 16 → label_of_text text ≡ label_from letter (a, b)
text_of letter a b text is small_a small_b = rw (is, numbers_of-written a b small_a small_b) refl

pub label_of-label_text : (label : Label) → IsWritableLabel label → label_of_text (label_text label) ≡ Some label
label_of-label_text (Edge pod i) is = text_of 101 pod i (label_text (Edge pod i)) (simp append_assoc) is.0 (omega (arith, is.1)) ∙ rw (lt-ltb i 256 is.1) refl
label_of-label_text (Aggregation pod j) is = text_of 97 pod j (label_text (Aggregation pod j)) (simp append_assoc) is.0 (omega (arith, is.1)) ∙ rw (lt-ltb j 256 is.1) refl
label_of-label_text (Core group m) is =
    text_of 99 group m (label_text (Core group m)) (simp append_assoc) (omega (arith, is.0)) (omega (arith, is.1)) ∙ rw (lt-ltb group 256 is.0, lt-ltb m 256 is.1) refl

-- the label that a letter and two numbers make has them
made_by : (letter a b : ℕ) (label : Label) → label_from letter (a, b) ≡ Some label → label_text label ≡ letter ∷ with_point a b
made_by letter a b label is = elim (cases_Bool (eqb letter 101 && ltb b 256)) [
  | inl edge ↦
      let (e, small) = and_parts (eqb letter 101) (ltb b 256) edge in
      let same : Edge a b ≡ label = let r = (rw edge at is) in cc in
      let l = eqb-true letter 101 e in
      sym (ap label_text same) ∙ rw l (simp append_assoc)
  | inr no_edge ↦ elim (cases_Bool (eqb letter 97 && ltb b 256)) [
    | inl aggregation ↦
        let (e, small) = and_parts (eqb letter 97) (ltb b 256) aggregation in
        let same : Aggregation a b ≡ label = let r = (rw (no_edge, aggregation) at is) in cc in
        let l = eqb-true letter 97 e in
        sym (ap label_text same) ∙ rw l (simp append_assoc)
    | inr no_aggregation ↦ elim (cases_Bool (eqb letter 99 && ltb a 256 && ltb b 256)) [
      | inl core ↦
          let (front, small) = and_parts (eqb letter 99 && ltb a 256) (ltb b 256) core in
          let (e, small_a) = and_parts (eqb letter 99) (ltb a 256) front in
          let same : Core a b ≡ label = let r = (rw (no_edge, no_aggregation, core) at is) in cc in
          let l = eqb-true letter 99 e in
          sym (ap label_text same) ∙ rw l (simp append_assoc)
      | inr no_core ↦ let r = (rw (no_edge, no_aggregation, no_core) at is) in cc
    ]
  ]
]

first_and_rest : (text : List ℕ) → 0 < length text → text ≡ slice_index text 0 ∷ drop 1 text
first_and_rest [] some = absurd (omega arith)
first_and_rest (b ∷ text) some = refl

pub label_of-is : (text : List ℕ) (label : Label) → label_of_text text ≡ Some label → text ≡ label_text label
label_of-is text label is =
    let (numbers, read, made) = and_then_some (label_from (slice_index text 0)) (numbers_of_text (drop 1 text)) label is in
    let (written, small_a, small_b) = numbers_of-is (drop 1 text) numbers.0 numbers.1 read in
    let long = length-append (decimal numbers.0) (46 ∷ decimal numbers.1) in
    let rest : 0 < length (drop 1 text) = rw written (omega arith) in
    let some : 0 < length text = some_front text rest in
    first_and_rest text some ∙ ap (λ r. slice_index text 0 ∷ r) written ∙ sym (made_by (slice_index text 0) numbers.0 numbers.1 label made)
  where
    some_front : (xs : List ℕ) → 0 < length (drop 1 xs) → 0 < length xs
    some_front [] h = h
    some_front (b ∷ xs) h = omega arith

pub found_law : (text : List ℕ) (r : Option Label) → r ≡ label_of_text text → IfSome r (λ label. text ≡ label_text label)
found_law text None is = tt
found_law text (Some label) is = label_of-is text label (sym is)

pub none_law : (text : List ℕ) (r : Option Label) → r ≡ label_of_text text → IfNone r ((label : Label) → IsWritableLabel label → text ≢ label_text label)
none_law text None is = λ label writable same. let read = is ∙ ap label_of_text same ∙ label_of-label_text label writable in cc
none_law text (Some label) is = tt

-- a label of a tree has small numbers
writable : (k : ℕ) (label : Label) → IsArity k → IsLabel k label → IsWritableLabel label
writable k (Edge pod i) arity is = let most = arity.most in (omega (arith, is.0), omega (arith, is.1))
writable k (Aggregation pod j) arity is = let most = arity.most in (omega (arith, is.0), omega (arith, is.1))
writable k (Core group m) arity is = let most = arity.most in (omega (arith, is.0), omega (arith, is.1))

named_is : (k : ℕ) (text : List ℕ) (switch : SwitchNo) → IsArity k → switch_named k text ≡ Some switch → (switch.0 < switch_count k) × (text ≡ label_text (label_of k switch.0))
unfolding switch_named
named_is k text switch arity named =
    let (label, read, found) = and_then_some (λ label. cond (is_label k label) (Some (record { 0 = number_of k label })) None) (label_of_text text) switch named in
    let made : SwitchNo = record { 0 = number_of k label } in
    let (is, same) = cond_some (is_label k label) made switch found in
    let in_range = (is_label-Decides k label).0 is in
    let number : number_of k label ≡ switch.0 = ap (λ (s : SwitchNo). s.0) same in
    let low = number_of-below k label in_range in
    let back : label ≡ label_of k switch.0 = sym (label_of-number_of k label in_range) ∙ ap (label_of k) number in
    (rw (← number) low, label_of-is text label read ∙ ap label_text back)

none_named : (k : ℕ) (text : List ℕ) (label : Label) → IsArity k → IsLabel k label → text ≡ label_text label → switch_named k text ≡ Some (record { 0 = number_of k label })
unfolding switch_named
none_named k text label arity is same =
    let read = ap label_of_text same ∙ label_of-label_text label (writable k label arity is) in
    rw (read, (is_label-Decides k label).1 is) refl

pub named_law : (k : ℕ) (text : List ℕ) (r : Option SwitchNo) → IsArity k → r ≡ switch_named k text → IfSome r (λ switch. (switch.0 < switch_count k) × (text ≡ label_text (label_of k switch.0)))
named_law k text None arity is = tt
named_law k text (Some switch) arity is = named_is k text switch arity (sym is)

pub unnamed_law : (k : ℕ) (text : List ℕ) (r : Option SwitchNo) → IsArity k → r ≡ switch_named k text → IfNone r ((label : Label) → IsLabel k label → text ≢ label_text label)
unnamed_law k text None arity is = λ label in_range same. let read = is ∙ none_named k text label arity in_range same in cc
unnamed_law k text (Some switch) arity is = tt
