-- Texts that were saved one after the other, under names that differ.
use Rattle.std.proofs.Common.{◌≡◌, ◌≢◌, ◌∙◌, ◌⊎◌, inl, inr, ℕ, suc, ◌<◌, List, [], ◌∷◌, ◌++◌, length, take, slice_index_or, All, AllPairs, Result, Ok, Err, IfErr, OnErr, refl, sym, ap, subst, append_assoc, arith}
use Rattle.std.proofs.lemmas.List.Elements.{All-cons, All-nil, All-tail}
use Rattle.pl_shelf.specs.Held.{Held}
use Rattle.pl_output.specs.InTurn.{BreaksInTurn, BreaksOne, SavedInTurn, SavesOne}
use Rattle.pl_output.specs.Saved.{AreSaved, BreaksOff, IsBroken, IsSavedWhole, OthersStay, Saving, once_saved}

abbrev pub AreApart : Saving → Saving → Type 0
AreApart s t = s.name ≢ t.name

pub turns_append : (old mid new : List ℕ → Held) (xs ys : List Saving) → SavedInTurn old xs mid → SavedInTurn mid ys new → SavedInTurn old (xs ++ ys) new
turns_append old mid new [] ys first second = subst (λ m. SavedInTurn m ys new) first second
turns_append old mid new (x ∷ xs) ys first second = (first.0, first.1, turns_append first.0 mid new xs ys first.2 second)

pub breaks_front : (old new : List ℕ → Held) (name : List ℕ) (xs ys : List Saving) → BreaksInTurn old xs name new → BreaksInTurn old (xs ++ ys) name new
breaks_front old new name [] ys breaks = absurd breaks
breaks_front old new name (x ∷ xs) ys breaks = elim breaks [
  | inl here ↦ inl here
  | inr later ↦ inr (later.0, later.1, breaks_front later.0 new name xs ys later.2)
]

pub breaks_behind : (old mid new : List ℕ → Held) (name : List ℕ) (xs ys : List Saving) → SavedInTurn old xs mid → BreaksInTurn mid ys name new →
    BreaksInTurn old (xs ++ ys) name new
breaks_behind old mid new name [] ys first second = subst (λ m. BreaksInTurn m ys name new) first second
breaks_behind old mid new name (x ∷ xs) ys first second = inr (first.0, first.1, breaks_behind first.0 mid new name xs ys first.2 second)

-- what an error names, and what it leaves
pub if_err_both : {T E Q : Type 0} {P R : E → Type 0} (r : Result T E) → ((e : E) → P e → Q → R e) → IfErr r P → OnErr r Q → IfErr r R
if_err_both (Ok v) both first second = tt
if_err_both (Err e) both first second = both e first second

pub if_err_weaker : {T E : Type 0} {P R : E → Type 0} (r : Result T E) → ((e : E) → P e → R e) → IfErr r P → IfErr r R
if_err_weaker (Ok v) weaker is = tt
if_err_weaker (Err e) weaker is = weaker e is

first_apart : (s : Saving) (ss : List Saving) → AllPairs AreApart (s ∷ ss) → All (AreApart s) ss
first_apart s ss apart k d within = apart 0 (suc k) d (omega arith) (omega (arith, within))

rest_apart : (s : Saving) (ss : List Saving) → AllPairs AreApart (s ∷ ss) → AllPairs AreApart ss
rest_apart s ss apart i j d less within = apart (suc i) (suc j) d (omega (arith, less)) (omega (arith, within))

-- a front of a list
front_all : {A : Type 0} (P : A → Type 0) (xs ys : List A) → All P (xs ++ ys) → All P xs
front_all P [] ys all = All-nil P
front_all P (x ∷ xs) ys all = All-cons P x xs (all 0 x (omega arith)) (front_all P xs ys (All-tail P x (xs ++ ys) all))

last_one : {A : Type 0} (P : A → Type 0) (xs : List A) (y : A) → All P (xs ++ y ∷ []) → P y
last_one P [] y all = all 0 y (omega arith)
last_one P (x ∷ xs) y all = last_one P xs y (All-tail P x (xs ++ y ∷ []) all)

-- a later change of other names keeps what was saved
kept_whole : (old mid new : List ℕ → Held) (s : Saving) (ss : List Saving) → SavesOne old mid s → All (AreApart s) ss → OthersStay mid new ss → IsSavedWhole old new s
kept_whole old mid new s ss change apart others = others s.name apart ∙ change.named

-- an earlier change of another name keeps what will be saved
still_whole : (old mid new : List ℕ → Held) (s : Saving) (ss : List Saving) → SavesOne old mid s → All (AreApart s) ss → All (IsSavedWhole mid new) ss → All (IsSavedWhole old new) ss
still_whole old mid new s ss change apart whole k d within =
    let t = slice_index_or ss k d in
    whole k d within ∙ ap (λ h. once_saved t.name h t.text) (change.others t.name (λ same. apart k d within (sym same)))

others_still : (old mid new : List ℕ → Held) (s : Saving) (ss : List Saving) → SavesOne old mid s → OthersStay mid new ss → OthersStay old new (s ∷ ss)
others_still old mid new s ss change others q other =
    others q (All-tail (λ t. q ≢ t.name) s ss other) ∙ change.others q (other 0 s (omega arith))

pub saved_all : (old new : List ℕ → Held) (savings : List Saving) → AllPairs AreApart savings → SavedInTurn old savings new → AreSaved old new savings
saved_all old new [] apart is = record { whole = All-nil (IsSavedWhole old new); others = λ q other. ap (λ f. f q) is }
saved_all old new (s ∷ ss) apart is =
    let mid = is.0 in
    let first = first_apart s ss apart in
    let rest = saved_all mid new ss (rest_apart s ss apart) is.2 in
    record {
      whole = All-cons (IsSavedWhole old new) s ss (kept_whole old mid new s ss is.1 first rest.others) (still_whole old mid new s ss is.1 first rest.whole);
      others = others_still old mid new s ss is.1 rest.others;
    }

broken_here : (old new : List ℕ → Held) (s : Saving) → BreaksOne old new s → IsBroken old new s
broken_here old new s breaks = elim breaks [ inl same ↦ inl (same s.name) | inr cut ↦ inr (cut.0, cut.1, cut.2.named) ]

others_here : (old new : List ℕ → Held) (s : Saving) → BreaksOne old new s → OthersStay old new (s ∷ [])
others_here old new s breaks q other = elim breaks [ inl same ↦ same q | inr cut ↦ cut.2.others q (other 0 s (omega arith)) ]

pub breaks_off : (old new : List ℕ → Held) (savings : List Saving) (name : List ℕ) → AllPairs AreApart savings → BreaksInTurn old savings name new →
    BreaksOff old new savings name
breaks_off old new [] name apart breaks = absurd breaks
breaks_off old new (s ∷ ss) name apart breaks = elim breaks [
  | inl here ↦ record {
    before = [];
    broken = s;
    behind = ss;
    order = refl;
    named = here.0;
    whole = All-nil (IsSavedWhole old new);
    cut = broken_here old new s here.1;
    others = others_here old new s here.1;
  }
  | inr later ↦
      let mid = later.0 in
      let rest = breaks_off mid new ss name (rest_apart s ss apart) later.2 in
      let begun = rest.before ++ rest.broken ∷ [] in
      let all : ss ≡ begun ++ rest.behind = rest.order ∙ sym (append_assoc rest.before (rest.broken ∷ []) rest.behind) in
      let apart_begun : All (AreApart s) begun = front_all (AreApart s) begun rest.behind (subst (λ l. All (AreApart s) l) all (first_apart s ss apart)) in
      let apart_before : All (AreApart s) rest.before = front_all (AreApart s) rest.before (rest.broken ∷ []) apart_begun in
      let apart_broken : s.name ≢ rest.broken.name = last_one (AreApart s) rest.before rest.broken apart_begun in
      record {
        before = s ∷ rest.before;
        broken = rest.broken;
        behind = rest.behind;
        order = ap (λ l. s ∷ l) rest.order;
        named = rest.named;
        whole = All-cons (IsSavedWhole old new) s rest.before (kept_whole old mid new s begun later.1 apart_begun rest.others)
            (still_whole old mid new s rest.before later.1 apart_before rest.whole);
        cut = subst (λ h. (new rest.broken.name ≡ h)
            ⊎ ((n : ℕ) × (n < length rest.broken.text) × (new rest.broken.name ≡ once_saved rest.broken.name h (take n rest.broken.text))))
            (later.1.others rest.broken.name (λ same. apart_broken (sym same))) rest.cut;
        others = others_still old mid new s begun later.1 rest.others;
      }
]

alone : (s : Saving) → AllPairs AreApart (s ∷ [])
alone s i j d less within = absurd (omega (arith, less, within))

-- one text, and no more
pub one_saved : (old new : List ℕ → Held) (s : Saving) → SavesOne old new s → AreSaved old new (s ∷ [])
one_saved old new s saved = saved_all old new (s ∷ []) (alone s) (new, saved, refl)

pub one_broken_off : (old new : List ℕ → Held) (s : Saving) (name : List ℕ) → s.name ≡ name → BreaksOne old new s → BreaksOff old new (s ∷ []) name
one_broken_off old new s name named broken = breaks_off old new (s ∷ []) name (alone s) (inl (named, broken))
