-- The one link that joins two switches is the first that is found.
use Rattle.std.proofs.Common.{◌≡◌, ℕ, zero, suc, ◌<◌, ◌==◌, ◌&&◌, ◌⊎◌, Bool, true, false, List, [], ◌∷◌, length, All, Contains, Some, None, get_or, refl, sym, ◌∙◌, ap, arith, inl, inr}
use Rattle.std.specs.List.{find}
use Rattle.std.proofs.lemmas.Bool.Decides.{nat_tests}
use Rattle.pl_wiring.specs.declared.link.Link.{Link}
use Rattle.pl_wiring.specs.FatTree.{IsFatTree}
use Rattle.pl_wiring.specs.LiveLinks.{IsFor, LivePorts, is_live}
use Rattle.pl_wiring.specs.Peers.{LinksSwitches}
use Rattle.pl_wiring.specs.Plan.{IsPlan, Plan}
use Rattle.pl_wiring.proofs.Exports.{changed, made_for_changed, one_between, others}
use Rattle.pl_world.specs.LinksAndMoves.{joins, with_link}
use Rattle.pl_world.proofs.Exports.{same_states}

joins_is : (a b : ℕ) (l : Link) → joins a b l ≡ true → LinksSwitches l a b
joins_is a b l h = by_test ((l.lower.0 == a) && (l.upper.0 == b)) refl
  where
    by_test : (t : Bool) → ((l.lower.0 == a) && (l.upper.0 == b)) ≡ t → LinksSwitches l a b
    by_test true e = inl (grind (arith, nat_tests), grind (arith, nat_tests))
    by_test false e = inr (grind (arith, nat_tests), grind (arith, nat_tests))

is_joins : (a b : ℕ) (l : Link) → LinksSwitches l a b → joins a b l ≡ true
is_joins a b l (inl e) = let e0 = e.0 in let e1 = e.1 in grind (arith, nat_tests)
is_joins a b l (inr e) = let e0 = e.0 in let e1 = e.1 in grind (arith, nat_tests)

-- where the link at an index passes, and no other does, it is found
found_only : (p : Link → Bool) (links : List Link) (m : ℕ) (link : Link) → m < length links → get_or links m link ≡ link → p link ≡ true →
    ((n : ℕ) → n < length links → p (get_or links n link) ≡ true → n ≡ m) → find p links ≡ Some link
found_only p [] m link within is passes only = absurd (omega arith)
found_only p (l ∷ links) zero link within is passes only = let e : p l ≡ true = ap p is ∙ passes in rw e (ap Some is)
found_only p (l ∷ links) (suc m) link within is passes only =
    by_first (p l) refl (found_only p links m link (omega arith) is passes (λ n below h. let same = only (suc n) (omega arith) h in omega arith))
  where
    by_first : (t : Bool) → p l ≡ t → find p links ≡ Some link → find p (l ∷ links) ≡ Some link
    by_first true e rest = let same = only zero (omega arith) e in absurd (omega arith)
    by_first false e rest = rw e rest

none_found : (p : Link → Bool) (links : List Link) → All (λ l. p l ≡ false) links → find p links ≡ None
none_found p [] none = refl
none_found p (l ∷ links) none = let e = none zero l (omega arith) in rw e (none_found p links (λ n d within. none (suc n) d (omega arith)))

not_joined : (a b : ℕ) (l : Link) → (LinksSwitches l a b → ⊥) → joins a b l ≡ false
not_joined a b l away = by_test (joins a b l) refl
  where
    by_test : (t : Bool) → joins a b l ≡ t → joins a b l ≡ false
    by_test true e = absurd (away (joins_is a b l e))
    by_test false e = e

pub found_between : (k : ℕ) (links : List Link) (a b : ℕ) (link : Link) → IsFatTree k links → Contains links link → LinksSwitches link a b →
    find (joins a b) links ≡ Some link
found_between k links a b link tree there between =
    found_only (joins a b) links there.0 link there.1 there.2 (is_joins a b link between)
    (λ n below h. one_between k links n there.0 link a b tree below there.1 (joins_is a b (get_or links n link) h) (rw there.2 between))

pub none_between : (links : List Link) (a b : ℕ) → All (λ l. LinksSwitches l a b → ⊥) links → find (joins a b) links ≡ None
none_between links a b none = none_found (joins a b) links (λ n d within. not_joined a b (get_or links n d) (none n d within))

decided : (a b : ℕ) (l : Link) → LinksSwitches l a b ⊎ (LinksSwitches l a b → ⊥)
decided a b l = by_test (joins a b l) refl
  where
    by_test : (t : Bool) → joins a b l ≡ t → LinksSwitches l a b ⊎ (LinksSwitches l a b → ⊥)
    by_test true e = inl (joins_is a b l e)
    by_test false e = inr (λ between. let same = is_joins a b l between in absurd (cc))

-- what a change of one link says of each link, says what all link states are
pub set_is : (plan : Plan) (old new : LivePorts) (link : Link) (live : Bool) → IsPlan plan → IsFor plan old → IsFor plan new → Contains plan.links link →
    All (λ l. LinksSwitches l link.lower.0 link.upper.0 → is_live new l ≡ live) plan.links →
    All (λ l. (LinksSwitches l link.lower.0 link.upper.0 → ⊥) → is_live new l ≡ is_live old l) plan.links → new ≡ with_link old link live
set_is plan old new link live is for_old for_new there all_changed all_others =
    same_states plan new (with_link old link live) is for_new (made_for_changed plan old link live is.tree for_old there)
    (λ n d within. elim (decided link.lower.0 link.upper.0 (get_or plan.links n d)) [
      | inl between ↦ all_changed n d within between
          ∙ sym (changed plan old link live link.lower.0 link.upper.0 is.tree for_old there (inl (refl, refl)) n d within between)
      | inr away ↦ all_others n d within away
          ∙ sym (others plan old link live link.lower.0 link.upper.0 is.tree for_old there (inl (refl, refl)) n d within away)
    ])
