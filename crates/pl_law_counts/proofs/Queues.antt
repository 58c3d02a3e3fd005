-- How many frames of queues pass a test: where an item is put, a head is taken, a queue is emptied, and where the test changes for a frame that
-- is not there, or lets more pass.
use Rattle.std.proofs.Common.{◌≡◌, ℕ, zero, suc, ◌+◌, ◌≤◌, ◌==◌, Bool, true, false, if◌then◌else◌, List, [], ◌∷◌, ◌++◌, get_or, replicate, set, refl, sym, ap, ◌∙◌, arith, inl, inr}
use Rattle.std.proofs.lemmas.Bool.{cases_Bool, cond-false, cond-true, eqb-false, false≢true, ne_eqb}
use Rattle.pl_world.specs.declared.item.Item.{Item}
use Rattle.pl_world.specs.declared.item.Item.TheVariants.{Control, Data}
use Rattle.pl_world.specs.Flying.{times_in, times_in_all}
use Rattle.pl_law_counts.specs.Counting.{count_all, count_in}

pub one_more : (b : Bool) (n : ℕ) → (if b then suc n else n) ≡ (if b then 1 else 0) + n
one_more true n = omega arith
one_more false n = omega arith

pub count_in-data : (test : ℕ → List ℕ → Bool) (id : ℕ) (frame : List ℕ) (items : List Item) →
    count_in test (Data id frame ∷ items) ≡ (if test id frame then 1 else 0) + count_in test items
count_in-data test id frame items = one_more (test id frame) (count_in test items)

pub count_in-cons : (test : ℕ → List ℕ → Bool) (item : Item) (items : List Item) →
    count_in test (item ∷ items) ≡ count_in test (item ∷ []) + count_in test items
count_in-cons test (Control frame) items = omega arith
count_in-cons test (Data id frame) items = omega (arith, count_in-data test id frame items, count_in-data test id frame [])

pub count_in-append : (test : ℕ → List ℕ → Bool) (xs ys : List Item) → count_in test (xs ++ ys) ≡ count_in test xs + count_in test ys
count_in-append test [] ys = omega arith
count_in-append test (x ∷ xs) ys = omega (arith, count_in-cons test x (xs ++ ys), count_in-cons test x xs, count_in-append test xs ys)

-- another queue at one place; past the last place nothing changes
pub count_all-set : (test : ℕ → ℕ → List ℕ → Bool) (queues : List (List Item)) (n : ℕ) (queue : List Item) →
    count_all test (set queues n queue) + count_in (test n) (get_or queues n []) ≤ count_all test queues + count_in (test n) queue
count_all-set test [] n queue = omega arith
count_all-set test (l ∷ queues) zero queue = omega arith
count_all-set test (l ∷ queues) (suc n) queue = omega (arith, count_all-set (λ i. test (suc i)) queues n queue)

pub count_all-put : (test : ℕ → ℕ → List ℕ → Bool) (queues : List (List Item)) (n : ℕ) (item : Item) →
    count_all test (set queues n (get_or queues n [] ++ item ∷ [])) ≤ count_all test queues + count_in (test n) (item ∷ [])
count_all-put test queues n item =
    omega (arith, count_all-set test queues n (get_or queues n [] ++ item ∷ []), count_in-append (test n) (get_or queues n []) (item ∷ []))

pub count_all-take : (test : ℕ → ℕ → List ℕ → Bool) (queues : List (List Item)) (n : ℕ) (item : Item) (items : List Item) →
    get_or queues n [] ≡ item ∷ items → count_all test (set queues n items) + count_in (test n) (item ∷ []) ≤ count_all test queues
count_all-take test queues n item items is =
    let all : count_in (test n) (get_or queues n []) ≡ count_in (test n) (item ∷ items) = ap (count_in (test n)) is in
    omega (arith, count_all-set test queues n items, count_in-cons (test n) item items)

pub count_all-empty : (test : ℕ → ℕ → List ℕ → Bool) (queues : List (List Item)) (n : ℕ) → count_all test (set queues n []) ≤ count_all test queues
count_all-empty test queues n = omega (arith, count_all-set test queues n [])

-- one queue among all
pub count_all-one : (test : ℕ → ℕ → List ℕ → Bool) (queues : List (List Item)) (n : ℕ) → count_in (test n) (get_or queues n []) ≤ count_all test queues
count_all-one test [] n = omega arith
count_all-one test (queue ∷ queues) zero = omega arith
count_all-one test (queue ∷ queues) (suc n) = omega (arith, count_all-one (λ i. test (suc i)) queues n)

-- empty queues
pub none_in : (test : ℕ → ℕ → List ℕ → Bool) (n : ℕ) → count_all test (replicate n []) ≡ 0
none_in test zero = refl
none_in test (suc n) = omega (arith, none_in (λ i. test (suc i)) n)

-- what passes one test passes another
pub fewer_in : (p q : ℕ → List ℕ → Bool) → ((id : ℕ) (frame : List ℕ) → p id frame ≡ true → q id frame ≡ true) → (items : List Item) → count_in p items ≤ count_in q items
fewer_in p q also [] = omega arith
fewer_in p q also (Control frame ∷ items) = fewer_in p q also items
fewer_in p q also (Data id frame ∷ items) = by (p id frame) (q id frame) (also id frame) (count_in p items) (count_in q items) (fewer_in p q also items)
  where
    by : (a b : Bool) → (a ≡ true → b ≡ true) → (m n : ℕ) → m ≤ n → (if a then suc m else m) ≤ (if b then suc n else n)
    by true true also m n le = omega (arith, le)
    by true false also m n le = absurd (false≢true (also refl))
    by false true also m n le = omega (arith, le)
    by false false also m n le = le

pub fewer_all : (p q : ℕ → ℕ → List ℕ → Bool) → ((n id : ℕ) (frame : List ℕ) → p n id frame ≡ true → q n id frame ≡ true) → (queues : List (List Item)) →
    count_all p queues ≤ count_all q queues
fewer_all p q also [] = omega arith
fewer_all p q also (queue ∷ queues) =
    let here = fewer_in (p 0) (q 0) (also 0) queue in
    let rest = fewer_all (λ n. p (suc n)) (λ n. q (suc n)) (λ n. also (suc n)) queues in
    omega (arith, here, rest)

-- tests that agree but for one frame
count_in-same : (p q : ℕ → List ℕ → Bool) (c : ℕ) → ((id : ℕ) (frame : List ℕ) → (c == id) ≡ false → p id frame ≡ q id frame) →
    (items : List Item) → times_in c items ≡ 0 → count_in p items ≡ count_in q items
count_in-same p q c same [] none = refl
count_in-same p q c same (Control frame ∷ items) none = count_in-same p q c same items none
count_in-same p q c same (Data id frame ∷ items) none = elim (cases_Bool (id == c)) [
  | inl here ↦ let more : times_in c (Data id frame ∷ items) ≡ times_in c items + 1 = cond-true (id == c) (times_in c items + 1) (times_in c items) here in
      absurd (omega arith)
  | inr other ↦
      let rest : times_in c (Data id frame ∷ items) ≡ times_in c items = cond-false (id == c) (times_in c items + 1) (times_in c items) other in
      let apart : (c == id) ≡ false = ne_eqb c id (λ e. eqb-false id c other (sym e)) in
      let more = count_in-same p q c same items (sym rest ∙ none) in
      ap (λ b. if◌then◌else◌ {A = ℕ} b (suc (count_in p items)) (count_in p items)) (same id frame apart)
      ∙ ap (λ n. if◌then◌else◌ {A = ℕ} (q id frame) (suc n) n) more
]

pub count_all-same : (p q : ℕ → ℕ → List ℕ → Bool) (c : ℕ) → ((n id : ℕ) (frame : List ℕ) → (c == id) ≡ false → p n id frame ≡ q n id frame) →
    (queues : List (List Item)) → times_in_all c queues ≡ 0 → count_all p queues ≡ count_all q queues
count_all-same p q c same [] none = refl
count_all-same p q c same (queue ∷ queues) none =
    let here = count_in-same (p 0) (q 0) c (same 0) queue (omega arith) in
    let rest = count_all-same (λ n. p (suc n)) (λ n. q (suc n)) c (λ n. same (suc n)) queues (omega arith) in
    omega arith
