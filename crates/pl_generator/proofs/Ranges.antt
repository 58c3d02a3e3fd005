-- Lists of what is made for each number from 0 on, with one more.
use Rattle.std.proofs.Common.{◌≡◌, ℕ, suc, ◌+◌, ◌<◌, List, [], ◌∷◌, ◌++◌, length, take, get_or, sym, ◌∙◌, ap, arith}
use Rattle.std.specs.List.{flat_map, range_with_len}
use Rattle.std.proofs.lemmas.List.{flat_map_more, map-id, take_more}
use Rattle.std.proofs.lemmas.List.FromFn.{map-range_with_len_more}
use Rattle.pl_draws.specs.Draws.{next_number}
use Rattle.pl_generator.specs.declared.drawing.DrawnFrame.{DrawnFrame}
use Rattle.pl_generator.specs.Drawing.{frame_at, frame_behind, frames_of, last_number}

range_more : (n : ℕ) → range_with_len 0 (n + 1) ≡ range_with_len 0 n ++ n ∷ []
range_more n =
    sym (map-id (range_with_len 0 (n + 1)))
    ∙ map-range_with_len_more (λ x. x) 0 n n (omega arith)
    ∙ ap (λ xs. xs ++ n ∷ []) (map-id (range_with_len 0 n))

-- one more text, for the next number
pub text_of_next : (f : ℕ → List ℕ) (first text new : List ℕ) (n : ℕ) → text ≡ first ++ flat_map f (range_with_len 0 n) →
    new ≡ text ++ f n → new ≡ first ++ flat_map f (range_with_len 0 (n + 1))
text_of_next f first text new n so_far step =
    step
    ∙ ap (λ t. t ++ f n) so_far
    ∙ flat_map_more f first (range_with_len 0 n) n
    ∙ ap (λ xs. first ++ flat_map f xs) (sym (range_more n))

-- one more text, for the next item
pub text_of_item : {X : Type 0} (f : X → List ℕ) (first text new : List ℕ) (xs : List X) (i : ℕ) (x : X) → i < length xs →
    x ≡ get_or xs i x → text ≡ first ++ flat_map f (take i xs) → new ≡ text ++ f x → new ≡ first ++ flat_map f (take (i + 1) xs)
text_of_item f first text new xs i x within is so_far step =
    step
    ∙ ap (λ t. t ++ f x) so_far
    ∙ flat_map_more f first (take i xs) x
    ∙ ap (λ y. first ++ flat_map f (take i xs ++ y ∷ [])) is
    ∙ ap (λ ys. first ++ flat_map f ys) (sym (take_more xs i x within))

-- one more frame, drawn behind the number that was drawn last
pub frames_more : (hosts x f : ℕ) (frames new : List DrawnFrame) (last : ℕ) (frame : DrawnFrame) → frames ≡ frames_of hosts x f →
    last ≡ last_number x f → frame ≡ frame_behind hosts last f → new ≡ frames ++ frame ∷ [] → new ≡ frames_of hosts x (f + 1)
unfolding frames_of
frames_more hosts x f frames new last frame so_far is_last drawn pushed =
    pushed
    ∙ ap (λ fs. fs ++ frame ∷ []) so_far
    ∙ ap (λ d. frames_of hosts x f ++ d ∷ []) (drawn ∙ ap (λ y. frame_behind hosts y f) is_last)
    ∙ sym (map-range_with_len_more (frame_at hosts x) 0 f f (omega arith))

pub last_more : (x f last new : ℕ) → last ≡ last_number x f → new ≡ next_number (next_number last) → new ≡ last_number x (f + 1)
last_more x f last new is_last drawn =
    let next : f + 1 ≡ suc f = omega arith in
    drawn ∙ ap (λ y. next_number (next_number y)) is_last ∙ sym (ap (last_number x) next)
