-- Lines of what a switch knows now, told one part behind the other.
use Rattle.std.proofs.Common.{◌≡◌, ◌<◌, ◌≤◌, ℕ, get_or, zero, suc, ◌+◌, Bool, true, false, List, [], ◌∷◌, ◌++◌, length, map, Option, None, Some, slice_get, take, refl, sym, ap, ◌∙◌, subst, add-one, arith}
use Rattle.std.specs.List.{flat_map, range_with_len}
use Rattle.std.proofs.lemmas.List.{flat_map_more, map-append, take_all, take_more}
use Rattle.pl_log_lines.specs.declared.told.Told.{Told}
use Rattle.pl_watch.specs.News.{if_other}
use Rattle.pl_log_lines.specs.Pages.{PageView}
use Rattle.pl_log_lines.specs.Rows.{Below}
use Rattle.pl_log_lines.specs.Telling.{Tells, node_in}
use Rattle.pl_log_lines.proofs.Exports.{tells_nothing, tells_then}

-- lines that speak of the event's own node, behind others
pub tells_more : (old mid new : PageView) (before later last : Told) (first : List Below) (f : Option ℕ → List Below) → Tells old mid before later first →
    Tells mid new later last (f (node_in later)) → Tells old new before last (first ++ f (node_in before))
tells_more old mid new before later last first f a b =
    tells_then old mid new before later last first (f (node_in before)) a (subst (λ node. Tells mid new later last (f node)) (ap node_in a.told) b)

pub tells_same : (v : PageView) (told : Told) (same : Bool) (lines : List Below) → same ≡ true → Tells v v told told (if_other same lines)
tells_same v told same lines is = subst (λ s. Tells v v told told (if_other s lines)) (sym is) (tells_nothing v told)

pub tells_other : (old new : PageView) (before later : Told) (same : Bool) (lines : List Below) → same ≡ false → Tells old new before later lines →
    Tells old new before later (if_other same lines)
tells_other old new before later same lines is tells = subst (λ s. Tells old new before later (if_other s lines)) (sym is) tells

pub tells_line : (old new : PageView) (before later : Told) (same : Bool) (b line : Below) → same ≡ false → b ≡ line → Tells old new before later (b ∷ []) →
    Tells old new before later (if_other same (line ∷ []))
tells_line old new before later same b line is says tells =
    tells_other old new before later same (line ∷ []) is (subst (λ c. Tells old new before later (c ∷ [])) says tells)

-- ---- for each number

each_more : (f : ℕ → List Below) (n : ℕ) → flat_map f (range_with_len 0 (n + 1)) ≡ flat_map f (range_with_len 0 n) ++ f n
each_more f n = ap (flat_map f) (one_more n) ∙ sym (flat_map_more f [] (range_with_len 0 n) n)
  where
    further : (a n : ℕ) → range_with_len a (suc n) ≡ range_with_len a n ++ (a + n) ∷ []
    further a zero = ap (λ m. m ∷ []) (omega arith)
    further a (suc n) =
        let next : a + 1 + n ≡ a + suc n = omega arith in
        ap (λ r. a ∷ r) (further (a + 1) n ∙ ap (λ m. range_with_len (a + 1) n ++ m ∷ []) next)

    one_more : (n : ℕ) → range_with_len 0 (n + 1) ≡ range_with_len 0 n ++ n ∷ []
    one_more n = rw add-one (further 0 n ∙ ap (λ x. range_with_len 0 n ++ x ∷ []) (omega arith))

pub tells_at : (start page next : PageView) (begun told later : Told) (f : Option ℕ → ℕ → List Below) (n : ℕ) →
    Tells start page begun told (flat_map (f (node_in begun)) (range_with_len 0 n)) → Tells page next told later (f (node_in told) n) →
    Tells start next begun later (flat_map (f (node_in begun)) (range_with_len 0 (n + 1)))
tells_at start page next begun told later f n before tells =
    subst (Tells start next begun later) (sym (each_more (f (node_in begun)) n))
    (tells_more start page next begun told later (flat_map (f (node_in begun)) (range_with_len 0 n)) (λ node. f node n) before tells)

-- ---- for each item of a list, by its number

taken_more : (gs : List ℕ) (n g : ℕ) → slice_get gs n ≡ Some g → take (suc n) gs ≡ take n gs ++ g ∷ []
taken_more [] n g is = let none : None ≡ Some g = is in absurd (cc)
taken_more (x ∷ gs) zero g is = let same : x ≡ g = cc in ap (λ y. y ∷ []) same
taken_more (x ∷ gs) (suc n) g is = ap (λ zs. x ∷ zs) (taken_more gs n g is)

all_taken : (gs : List ℕ) (n many : ℕ) → slice_get gs n ≡ None → n ≤ many → take n gs ≡ take many gs
all_taken [] zero zero none few = refl
all_taken [] zero (suc many) none few = refl
all_taken [] (suc n) zero none few = refl
all_taken [] (suc n) (suc many) none few = refl
all_taken (x ∷ gs) zero many none few = absurd (cc)
all_taken (x ∷ gs) (suc n) zero none few = absurd (omega arith)
all_taken (x ∷ gs) (suc n) (suc many) none few = ap (λ zs. x ∷ zs) (all_taken gs n many none (omega arith))

pub tells_taken : (start page next : PageView) (begun told later : Told) (f : Option ℕ → ℕ → List Below) (gs : List ℕ) (n g : ℕ) → slice_get gs n ≡ Some g →
    Tells start page begun told (flat_map (f (node_in begun)) (take n gs)) → Tells page next told later (f (node_in told) g) →
    Tells start next begun later (flat_map (f (node_in begun)) (take (n + 1) gs))
tells_taken start page next begun told later f gs n g is before tells =
    let more : take (n + 1) gs ≡ take n gs ++ g ∷ [] = rw add-one (taken_more gs n g is) in
    subst (λ xs. Tells start next begun later (flat_map (f (node_in begun)) xs)) (sym more)
    (subst (Tells start next begun later) (flat_map_more (f (node_in begun)) [] (take n gs) g)
    (tells_more start page next begun told later (flat_map (f (node_in begun)) (take n gs)) (λ node. f node g) before tells))

pub tells_all : (start page : PageView) (begun told : Told) (f : ℕ → List Below) (gs : List ℕ) (n many : ℕ) → slice_get gs n ≡ None → n ≤ many →
    Tells start page begun told (flat_map f (take n gs)) → Tells start page begun told (flat_map f (take many gs))
tells_all start page begun told f gs n many none few tells = subst (λ xs. Tells start page begun told (flat_map f xs)) (all_taken gs n many none few) tells

-- ---- a line for each item of a list

pub tells_mapped : {T : Type 0} (line : Option ℕ → T → Below) (start page next : PageView) (begun told later : Told) (items : List T) (i : ℕ) (d : T) (b : Below) →
    i < length items → b ≡ line (node_in told) (get_or items i d) → Tells start page begun told (map (line (node_in begun)) (take i items)) →
    Tells page next told later (b ∷ []) → Tells start next begun later (map (line (node_in begun)) (take (i + 1) items))
tells_mapped {T = T} line start page next begun told later items i d b within is before tells =
    subst (λ (xs : List T). Tells start next begun later (map (line (node_in begun)) xs)) (sym (take_more items i d within))
    (subst (λ bs. Tells start next begun later bs) (sym (map-append (line (node_in begun)) (take i items) (get_or items i d ∷ [])))
    (tells_more start page next begun told later (map (line (node_in begun)) (take i items)) (λ node. line node (get_or items i d) ∷ []) before
    (subst (λ c. Tells page next told later (c ∷ [])) is tells)))

pub tells_all_mapped : {T : Type 0} (line : T → Below) (start page : PageView) (begun told : Told) (items : List T) (i : ℕ) → length items ≤ i →
    Tells start page begun told (map line (take i items)) → Tells start page begun told (map line items)
tells_all_mapped {T = T} line start page begun told items i past tells =
    subst (λ (xs : List T). Tells start page begun told (map line xs)) (take_all i items past) tells
