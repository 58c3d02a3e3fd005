-- Lists of ids, compared from the first on.
use Rattle.std.proofs.Common.{◌≡◌, ◌≢◌, ◌<◌, ◌≤◌, ℕ, zero, suc, ◌+◌, ◌&&◌, Bool, true, false, List, [], ◌∷◌, drop, get_or, length, refl, ap, ◌∙◌, add-one, arith}
use Rattle.std.proofs.lemmas.List.{drop_all}
use Rattle.pl_frame.specs.declared.address.SwitchId.{SwitchId}
use Rattle.pl_layouts.specs.Equality.{same_switch}
use Rattle.pl_watch.specs.News.{same_ids}

if_same : (s : Bool) (rest : Bool) → rest ≡ false → (s && rest) ≡ false
if_same true rest other = other
if_same false rest other = refl

pub other_many : (a b : List SwitchId) → length a ≢ length b → same_ids a b ≡ false
other_many [] [] other = absurd (other refl)
other_many [] (y ∷ b) other = refl
other_many (x ∷ a) [] other = refl
other_many (x ∷ a) (y ∷ b) other = if_same (same_switch x y) (same_ids a b) (other_many a b (λ many. other (ap suc many)))

further : (a b : List SwitchId) (n : ℕ) (d e : SwitchId) → n < length a → n < length b →
    same_ids (drop n a) (drop n b) ≡ (same_switch (get_or a n d) (get_or b n e) && same_ids (drop (suc n) a) (drop (suc n) b))
further [] b n d e first second = absurd (omega arith)
further (x ∷ a) [] n d e first second = absurd (omega arith)
further (x ∷ a) (y ∷ b) zero d e first second = refl
further (x ∷ a) (y ∷ b) (suc n) d e first second = further a b n d e (omega arith) (omega arith)

one_further : (a b : List SwitchId) (n : ℕ) (d e : SwitchId) → n < length a → n < length b →
    same_ids (drop n a) (drop n b) ≡ (same_switch (get_or a n d) (get_or b n e) && same_ids (drop (n + 1) a) (drop (n + 1) b))
one_further a b n d e first second = rw add-one (further a b n d e first second)

-- one that is the same, and one that is not
pub same_on : (a b : List SwitchId) (n : ℕ) (d e : SwitchId) (whole : Bool) → n < length a → n < length b → whole ≡ same_ids (drop n a) (drop n b) →
    same_switch (get_or a n d) (get_or b n e) ≡ true → whole ≡ same_ids (drop (n + 1) a) (drop (n + 1) b)
same_on a b n d e whole first second before same =
    before ∙ one_further a b n d e first second ∙ ap (λ s. s && same_ids (drop (n + 1) a) (drop (n + 1) b)) same

pub other_there : (a b : List SwitchId) (n : ℕ) (d e : SwitchId) (whole : Bool) → n < length a → n < length b → whole ≡ same_ids (drop n a) (drop n b) →
    same_switch (get_or a n d) (get_or b n e) ≡ false → whole ≡ false
other_there a b n d e whole first second before other =
    before ∙ one_further a b n d e first second ∙ ap (λ s. s && same_ids (drop (n + 1) a) (drop (n + 1) b)) other

pub same_to_end : (a b : List SwitchId) (n : ℕ) (whole : Bool) → length a ≤ n → length b ≤ n → whole ≡ same_ids (drop n a) (drop n b) → whole ≡ true
same_to_end a b n whole first second before =
    before ∙ ap (λ xs. same_ids xs (drop n b)) (drop_all n a first) ∙ ap (λ ys. same_ids [] ys) (drop_all n b second)
