-- Bytes by their one spelling in hexadecimal, and addresses by theirs.
use Rattle.std.specs.Prelude.{ℕ, ◌==◌, ◌&&◌, ◌||◌, nat_le, Bool, List, [], ◌∷◌, length}
use Rattle.pl_wiring.specs.Texts.{is_colon_at}

abbrev pub is_lower_digit : ℕ → Bool
is_lower_digit c = (nat_le 48 c && nat_le c 57) || (nat_le 97 c && nat_le c 102)

-- twelve digits, a colon behind each two but the last
unfoldable pub with_colons : List ℕ → List ℕ
with_colons [] = []
with_colons (a ∷ []) = a ∷ []
with_colons (a ∷ b ∷ []) = a ∷ b ∷ []
with_colons (a ∷ b ∷ c ∷ rest) = a ∷ b ∷ 58 ∷ with_colons (c ∷ rest)

-- such a text has 17 characters, and five of them are colons
abbrev pub is_spread : List ℕ → Bool
is_spread text =
    (length text == 17) && is_colon_at text 2 && is_colon_at text 5 && is_colon_at text 8 && is_colon_at text 11 && is_colon_at text 14
