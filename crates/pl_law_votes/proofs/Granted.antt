-- The ports that have granted: one more is counted, in its place.
use Rattle.std.proofs.Common.{◌≡◌, ℕ, ◌<◌, ◌==◌, ◌||◌, Bool, true, false, List, [], ◌∷◌, Ordering, Less, Equal, Greater, nat_cmp, refl, sym, ap, arith, eq-eqb, ne_eqb}
use Rattle.std.specs.List.{AllByRecursion, list_any}
use Rattle.std.specs.BTreeSet.{insert_key}
use Rattle.std.specs.Ordering.{match_ordering}
use Rattle.std.proofs.lemmas.Cmp.{ranked}
use Rattle.std.proofs.lemmas.Bool.{or_right}
use Rattle.pl_law_votes.specs.Counting.{AreNumbersRising}

itself : (p : ℕ) (b : Bool) → ((p == p) || b) ≡ true
itself p b = ap (λ t. t || b) (eq-eqb p p refl)

pub has_new : (port : ℕ) (xs : List ℕ) → list_any (λ r. r == port) (insert_key nat_cmp xs port) ≡ true
has_new port [] = itself port false
has_new port (x ∷ xs) = by (nat_cmp port x) refl (has_new port xs)
  where
    by : (o : Ordering) → o ≡ nat_cmp port x → list_any (λ r. r == port) (insert_key nat_cmp xs port) ≡ true →
        list_any (λ r. r == port) (match_ordering o (port ∷ x ∷ xs) (x ∷ xs) (x ∷ insert_key nat_cmp xs port)) ≡ true
    by Less is rest = itself port (list_any (λ r. r == port) (x ∷ xs))
    by Equal is rest =
        let same = ranked port x Equal is in
        ap (λ t. t || list_any (λ r. r == port) xs) (eq-eqb x port (sym same))
    by Greater is rest = or_right (x == port) (list_any (λ r. r == port) (insert_key nat_cmp xs port)) rest

pub has_old : (port p : ℕ) → (port ≡ p → ⊥) → (xs : List ℕ) → list_any (λ r. r == p) (insert_key nat_cmp xs port) ≡ list_any (λ r. r == p) xs
has_old port p differ [] = ap (λ t. t || false) (ne_eqb port p differ)
has_old port p differ (x ∷ xs) = by (nat_cmp port x) (has_old port p differ xs)
  where
    by : (o : Ordering) → list_any (λ r. r == p) (insert_key nat_cmp xs port) ≡ list_any (λ r. r == p) xs →
        list_any (λ r. r == p) (match_ordering o (port ∷ x ∷ xs) (x ∷ xs) (x ∷ insert_key nat_cmp xs port)) ≡ list_any (λ r. r == p) (x ∷ xs)
    by Less rest = ap (λ t. t || list_any (λ r. r == p) (x ∷ xs)) (ne_eqb port p differ)
    by Equal rest = refl
    by Greater rest = ap (λ b. (x == p) || b) rest

pub all_with : (P : ℕ → Type 0) (port : ℕ) (xs : List ℕ) → P port → AllByRecursion P xs → AllByRecursion P (insert_key nat_cmp xs port)
all_with P port [] here all = (here, tt)
all_with P port (x ∷ xs) here all = by (nat_cmp port x) (all_with P port xs here all.1)
  where
    by : (o : Ordering) → AllByRecursion P (insert_key nat_cmp xs port) →
        AllByRecursion P (match_ordering o (port ∷ x ∷ xs) (x ∷ xs) (x ∷ insert_key nat_cmp xs port))
    by Less rest = (here, all)
    by Equal rest = all
    by Greater rest = (all.0, rest)

above_all : (a b : ℕ) → a < b → (xs : List ℕ) → AllByRecursion (λ y. b < y) xs → AllByRecursion (λ y. a < y) xs
above_all a b less [] all = tt
above_all a b less (x ∷ xs) all = let here = all.0 in (omega (arith, less, here), above_all a b less xs all.1)

pub rising_with : (port : ℕ) (xs : List ℕ) → AreNumbersRising xs → AreNumbersRising (insert_key nat_cmp xs port)
rising_with port [] rising = (tt, tt)
rising_with port (x ∷ xs) rising = by (nat_cmp port x) refl (rising_with port xs rising.1)
  where
    by : (o : Ordering) → o ≡ nat_cmp port x → AreNumbersRising (insert_key nat_cmp xs port) →
        AreNumbersRising (match_ordering o (port ∷ x ∷ xs) (x ∷ xs) (x ∷ insert_key nat_cmp xs port))
    by Less is rest = let less = ranked port x Less is in ((less, above_all port x less xs rising.0), rising)
    by Equal is rest = rising
    by Greater is rest = let less = ranked port x Greater is in (all_with (λ y. x < y) port xs less rising.0, rest)
