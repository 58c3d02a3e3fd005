-- The words of a line.
use Rattle.std.proofs.Common.{◌≡◌, ◌≤◌, ℕ, List, [], ◌∷◌, ◌++◌, length, take, refl, ap, Option, Some, None}
use Rattle.std.specs.List.{flat_map}
use Rattle.std.proofs.lemmas.List.{take_all}
use Rattle.pl_journal.specs.declared.words.Field.{Field}
use Rattle.pl_journal.specs.Text.{field_texts, text_after_blank, with_blank}

-- the fields behind the first word, in one text
pub flat_map-field_texts : (fields : List (Option Field)) → flat_map with_blank (field_texts fields) ≡ flat_map text_after_blank fields
flat_map-field_texts [] = refl
flat_map-field_texts (None ∷ fields) = flat_map-field_texts fields
flat_map-field_texts (Some field ∷ fields) = ap (λ rest. text_after_blank (Some field) ++ rest) (flat_map-field_texts fields)

-- a loop over all fields has printed them all
pub all_printed : (word : List ℕ) (fields : List (Option Field)) (i : ℕ) → length fields ≤ i
    → word ++ flat_map text_after_blank (take i fields) ≡ word ++ flat_map with_blank (field_texts fields)
all_printed word fields i past = rw (take_all i fields past, flat_map-field_texts fields) refl
