-- What a manager that gathers does is a gathering of what it treats; while a report is missing it does nothing; and what is known and kept together grows by
-- one with each hearing.
use Rattle.std.proofs.Common.{◌≡◌, ◌≤◌, ℕ, ◌+◌, ◌==◌, ◌||◌, not, Bool, true, false, cond, List, [], ◌∷◌, ◌++◌, length, fold, refl, sym, ap, ◌∙◌, arith, length-append}
use Rattle.std.specs.List.{filter}
use Rattle.std.proofs.lemmas.Bool.{cond_both, false≢true}
use Rattle.pl_frame.specs.declared.address.SwitchId.{SwitchId}
use Rattle.pl_gathering.specs.Acting.{Done, does_nothing, goes_through, is_void_end, steps, steps_at_end, steps_at_word, then_treats, treats_all}
use Rattle.pl_gathering.specs.Gathering.{Gathered, Heard, Report, gone_through, hears, hears_begin, in_turn, is_among, is_whole, keeps_word, with_ended}
use Rattle.pl_gathering.specs.Gathering.Report.{Begin, End, Tells}

module _ {K T A : Type 0} (treats : K → Heard T → Done K A) (waits : T → Bool) (follows : K → Done K A) where
  abbrev treat : K → Heard T → K
  treat k h = (treats k h).known

  abbrev after : K → K
  after k = (follows k).known

  known_of_all : (heard : List (Heard T)) (done : Done K A) → (fold (then_treats treats) done heard).known ≡ fold treat done.known heard
  known_of_all [] done = refl
  known_of_all (h ∷ heard) done = known_of_all heard (then_treats treats done h)

  all_known : (k : K) (heard : List (Heard T)) → (treats_all treats follows k heard).known ≡ after (fold treat k heard)
  all_known k heard = ap after (known_of_all heard (record { known = k; acts = [] }))

  -- ---- it gathers
  module _ (g : Gathered K T) (s : SwitchId) where
    at_end : (c : Bool) → (cond c (goes_through treats waits follows (with_ended s g)) (does_nothing (with_ended s g))).now
        ≡ cond c (record g { ended = s ∷ g.ended; kept = []; known = after (fold treat g.known (in_turn waits g.kept)) }) (with_ended s g)
    at_end true = ap (λ (k : K). let x : Gathered K T = record g { ended = s ∷ g.ended; kept = []; known = k } in x) (all_known g.known (in_turn waits g.kept))
    at_end false = refl

    ended : (b : Bool) → (cond b (does_nothing g) (steps_at_end treats waits follows g s)).now ≡ cond b g (gone_through treat waits after (with_ended s g))
    ended true = refl
    ended false = at_end (is_whole (with_ended s g))

    told : (word : T) (b : Bool) →
        (cond b (steps_at_word treats follows g (record { switch = s; word = word })) (does_nothing (keeps_word g s word))).now
        ≡ cond b (record g { known = after (treat g.known (record { switch = s; word = word })) }) (keeps_word g s word)
    told word true = refl
    told word false = refl

    pub it_gathers : (r : Report T) → (steps treats waits follows g s r).now ≡ hears treat waits after g s r
    it_gathers (Begin n) = refl
    it_gathers (End n) = ended (is_void_end g s n)
    it_gathers (Tells word) = told word (is_whole g)

    -- ---- while a report is missing it does nothing
    pub does_nothing_yet : (r : Report T) → is_whole g ≡ false → is_whole (steps treats waits follows g s r).now ≡ false → (steps treats waits follows g s r).acts ≡ []
    does_nothing_yet (Begin n) part still = refl
    does_nothing_yet (Tells word) part still = by (is_whole g) part
      where
        by : (b : Bool) → b ≡ false → (cond b (steps_at_word treats follows g (record { switch = s; word = word })) (does_nothing (keeps_word g s word))).acts ≡ []
        by true is = absurd (false≢true (sym is))
        by false is = refl
    does_nothing_yet (End n) part still = by (is_void_end g s n) still
      where
        last : (c : Bool) → is_whole (with_ended s g) ≡ c →
            is_whole (cond c (goes_through treats waits follows (with_ended s g)) (does_nothing (with_ended s g))).now ≡ false →
            (cond c (goes_through treats waits follows (with_ended s g)) (does_nothing (with_ended s g))).acts ≡ []
        last true is missing = absurd (false≢true (sym missing ∙ is))
        last false is missing = refl

        by : (b : Bool) → is_whole (cond b (does_nothing g) (steps_at_end treats waits follows g s)).now ≡ false →
            (cond b (does_nothing g) (steps_at_end treats waits follows g s)).acts ≡ []
        by true missing = refl
        by false missing = last (is_whole (with_ended s g)) refl missing

-- ---- what is known and kept together
filtered : {X : Type 0} (p : X → Bool) (xs : List X) → length (filter (λ x. not (p x)) xs) + length (filter p xs) ≡ length xs
filtered p [] = refl
filtered p (x ∷ xs) = by (p x) (filtered p xs)
  where
    by : (b : Bool) → length (filter (λ y. not (p y)) xs) + length (filter p xs) ≡ length xs →
        length (cond (not b) (x ∷ filter (λ y. not (p y)) xs) (filter (λ y. not (p y)) xs)) + length (cond b (x ∷ filter p xs) (filter p xs)) ≡ length (x ∷ xs)
    by true rest = omega (arith, rest)
    by false rest = omega (arith, rest)

turned_many : {T : Type 0} (waits : T → Bool) (kept : List (Heard T)) → length (in_turn waits kept) ≡ length kept
turned_many waits kept =
    length-append (filter (λ h. not (waits h.word)) kept) (filter (λ h. waits h.word) kept) ∙ filtered (λ (h : Heard _). waits h.word) kept

-- of a count of what is known, to which each word adds one at most, and what follows adds nothing
module _ {K T : Type 0} (treat : K → Heard T → K) (waits : T → Bool) (after : K → K) (size : K → ℕ)
    (one : (k : K) (h : Heard T) → size (treat k h) ≤ size k + 1) (none : (k : K) → size (after k) ≤ size k) where
  no_more_than_heard : (heard : List (Heard T)) (k : K) → size (fold treat k heard) ≤ size k + length heard
  no_more_than_heard [] k = omega arith
  no_more_than_heard (h ∷ heard) k = let rest = no_more_than_heard heard (treat k h) in let first = one k h in omega (arith, rest, first)

  abbrev pub load : Gathered K T → ℕ
  load g = size g.known + length g.kept

  module _ (g : Gathered K T) (s : SwitchId) where
    begun : (n : ℕ) → load (hears_begin g s n) ≤ load g + 1
    begun n = cond_both (is_whole g || (not (n == g.epoch) || is_among s g.begun)) g (record g { begun = s ∷ g.begun }) (λ x. load x ≤ load g + 1)
        (λ not_heard. omega arith) (λ heard. omega arith)

    through : load (gone_through treat waits after (with_ended s g)) ≤ load g + 1
    through =
        let h : Gathered K T = with_ended s g in
        cond_both (is_whole h) (record h { kept = []; known = after (fold treat h.known (in_turn waits h.kept)) }) h (λ x. load x ≤ load g + 1)
        (λ whole.
        let most = no_more_than_heard (in_turn waits g.kept) g.known in
        let all = turned_many waits g.kept in
        let last = none (fold treat g.known (in_turn waits g.kept)) in
        omega (arith, most, all, last))
        (λ part. omega arith)

    pub grows_by_one : (r : Report T) → load (hears treat waits after g s r) ≤ load g + 1
    grows_by_one (Begin n) = begun n
    grows_by_one (End n) = cond_both (is_void_end g s n) g (gone_through treat waits after (with_ended s g)) (λ x. load x ≤ load g + 1) (λ void. omega arith) (λ ends. through)
    grows_by_one (Tells word) =
        let h : Heard T = record { switch = s; word = word } in
        cond_both (is_whole g) (record g { known = after (treat g.known h) }) (keeps_word g s word) (λ x. load x ≤ load g + 1)
        (λ whole. let first = one g.known h in let last = none (treat g.known h) in omega (arith, first, last))
        (λ part. cond_both (is_among s g.begun) (record g { kept = g.kept ++ h ∷ [] }) g (λ x. load x ≤ load g + 1)
        (λ heard. let many = length-append g.kept (h ∷ []) in omega (arith, many)) (λ not_heard. omega arith))
