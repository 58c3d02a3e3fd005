-- The value of the one item with a name, by a walk over the items.
use Rattle.std.proofs.Common.{◌≡◌, ℕ, ◌+◌, ◌-◌, ◌<◌, ◌≤◌, Bool, true, false, cond, ◌||◌, List, [], ◌∷◌, ◌++◌, map, filter, take, drop, length, Option, Some, None, is_some, refl, sym, ap, ◌∙◌, arith, length-drop}
use Rattle.std.proofs.lemmas.List.{drop-drop, drop-map, drop_all, length-map, take_rest}
use Rattle.std.specs.Borrow.{Bor}
use Rattle.std.specs.List.{list_any}
use Rattle.std.specs.Option.{option_and_then, option_copied, option_to_list}
use Rattle.std.specs.Str.{bytes_eq}
use Rattle.pl_inputs.specs.Met.{texts}
use Rattle.pl_inputs.specs.Words.{Given, at_most_one, beside, is_among, items_of, only, value_if_given, value_in, values}

-- the value, where one was met already, if any, and these items follow
abbrev pub value_with : Option (List ℕ) → List ℕ → Option (List Given) → Option (Option (List ℕ))
value_with met name items = option_and_then (λ xs. at_most_one (option_to_list met ++ values name xs)) items

-- the values where the next item has the name or not
abbrev with_next : Option (List ℕ) → List ℕ → Given → List Given → Bool → Option (Option (List ℕ))
with_next met name item items same =
    at_most_one (option_to_list met ++ map (λ i. i.1) (cond same (item ∷ filter (λ i. bytes_eq i.0 name) items) (filter (λ i. bytes_eq i.0 name) items)))

pub first_met : (name : List ℕ) (item : Given) (rest : Option (List Given)) → bytes_eq item.0 name ≡ true →
    value_with None name (beside (Some item) rest) ≡ value_with (Some item.1) name rest
first_met name item None same = refl
first_met name item (Some items) same = ap (with_next None name item items) same

pub second_met : (value name : List ℕ) (item : Given) (rest : Option (List Given)) → bytes_eq item.0 name ≡ true →
    value_with (Some value) name (beside (Some item) rest) ≡ None
second_met value name item None same = refl
second_met value name item (Some items) same = ap (with_next (Some value) name item items) same

pub other_met : (met : Option (List ℕ)) (name : List ℕ) (item : Given) (rest : Option (List Given)) → bytes_eq item.0 name ≡ false →
    value_with met name (beside (Some item) rest) ≡ value_with met name rest
other_met met name item None other = refl
other_met met name item (Some items) other = ap (with_next met name item items) other

nothing_follows : (met : Option (List ℕ)) (name : List ℕ) → value_with met name (Some []) ≡ Some met
nothing_follows None name = refl
nothing_follows (Some value) name = refl

pub any_text : (names : List (Bor (List ℕ))) (name : List ℕ) → list_any (λ n. bytes_eq n.now name) names ≡ is_among (texts names) name
any_text [] name = refl
any_text (n ∷ names) name = ap (λ t. bytes_eq n.now name || t) (any_text names name)

-- the words from this index on, as a slice of them
abbrev pub rest_at : List (Bor (List ℕ)) → ℕ → List (Bor (List ℕ))
rest_at words at = take (length words - at) (drop at words)

-- The walk has come to the word at this index, where what was found and what follows give the whole.
module _ (name : List ℕ) (names : List (List ℕ)) (words : List (Bor (List ℕ))) (at : ℕ) (found : Option (Bor (List ℕ))) (whole : Option (Option (List ℕ)))
    (so_far : value_with (option_copied found) name (items_of names (drop at (texts words))) ≡ whole) where
  rest_is : drop at (texts words) ≡ texts (rest_at words at)
  rest_is = drop-map (λ w. w.now) at words ∙ ap texts (sym (take_rest words at))

  -- there is no item
  pub ends_in_none : at < length words → (0 < length (rest_at words at) → items_of names (texts (rest_at words at)) ≡ None) → None ≡ whole
  ends_in_none within none =
      let many = length-drop at words in
      let same = ap length (take_rest words at) in
      let some : 0 < length (rest_at words at) = omega arith in
      sym (ap (value_with (option_copied found) name) (ap (items_of names) rest_is ∙ none some)) ∙ so_far

  -- there are no words
  pub ends : length words ≤ at → Some (option_copied found) ≡ whole
  unfolding items_of
  ends all =
      let many = length-map words (λ w. w.now) in
      let past : length (texts words) ≤ at = omega arith in
      sym (ap (λ ws. value_with (option_copied found) name (items_of names ws)) (drop_all at (texts words) past) ∙ nothing_follows (option_copied found) name) ∙ so_far

  -- there is an item of so many words
  module _ (item : Given) (many : ℕ) (is : items_of names (texts (rest_at words at)) ≡ beside (Some item) (items_of names (drop many (texts (rest_at words at))))) where
    next_is : items_of names (drop at (texts words)) ≡ beside (Some item) (items_of names (drop (at + many) (texts words)))
    next_is =
        ap (items_of names) rest_is ∙ is
        ∙ ap (λ ws. beside (Some item) (items_of names (drop many ws))) (sym rest_is)
        ∙ ap (λ ws. beside (Some item) (items_of names ws)) (drop-drop many at (texts words))

    so_far_is : value_with (option_copied found) name (beside (Some item) (items_of names (drop (at + many) (texts words)))) ≡ whole
    so_far_is = sym (ap (value_with (option_copied found) name) next_is) ∙ so_far

    pub passes_by : bytes_eq item.0 name ≡ false → value_with (option_copied found) name (items_of names (drop (at + many) (texts words))) ≡ whole
    passes_by other = sym (other_met (option_copied found) name item (items_of names (drop (at + many) (texts words))) other) ∙ so_far_is

-- an item with the name
pub finds : (name : List ℕ) (names : List (List ℕ)) (words : List (Bor (List ℕ))) (at : ℕ) (found : Option (Bor (List ℕ))) (whole : Option (Option (List ℕ))) →
    value_with (option_copied found) name (items_of names (drop at (texts words))) ≡ whole →
    (item : Given) (many : ℕ) → items_of names (texts (rest_at words at)) ≡ beside (Some item) (items_of names (drop many (texts (rest_at words at)))) →
    bytes_eq item.0 name ≡ true → is_some found ≡ false → value_with (Some item.1) name (items_of names (drop (at + many) (texts words))) ≡ whole
finds name names words at None whole so_far item many is same first =
    sym (first_met name item (items_of names (drop (at + many) (texts words))) same) ∙ so_far_is name names words at None whole so_far item many is
finds name names words at (Some value) whole so_far item many is same first = cc

pub finds_again : (name : List ℕ) (names : List (List ℕ)) (words : List (Bor (List ℕ))) (at : ℕ) (found : Option (Bor (List ℕ))) (whole : Option (Option (List ℕ))) →
    value_with (option_copied found) name (items_of names (drop at (texts words))) ≡ whole →
    (item : Given) (many : ℕ) → items_of names (texts (rest_at words at)) ≡ beside (Some item) (items_of names (drop many (texts (rest_at words at)))) →
    bytes_eq item.0 name ≡ true → is_some found ≡ true → None ≡ whole
finds_again name names words at None whole so_far item many is same second = cc
finds_again name names words at (Some value) whole so_far item many is same second =
    sym (second_met value.now name item (items_of names (drop (at + many) (texts words))) same) ∙ so_far_is name names words at (Some value) whole so_far item many is

-- the one value is that which may be there
one_is : (values : List (List ℕ)) → option_and_then (λ o. o) (at_most_one values) ≡ only values
one_is [] = refl
one_is (value ∷ []) = refl
one_is (value ∷ second ∷ values) = refl

pub value_from : (name : List ℕ) (items : Option (List Given)) (may : Option (Option (List ℕ))) → may ≡ option_and_then (value_if_given name) items →
    option_and_then (λ o. o) may ≡ option_and_then (value_in name) items
value_from name None may is = ap (option_and_then (λ o. o)) is
value_from name (Some items) may is = ap (option_and_then (λ o. o)) is ∙ one_is (values name items)
