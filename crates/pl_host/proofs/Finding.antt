-- The hosts of a table by their hardware addresses.
use Rattle.std.proofs.Common.{◌≡◌, ◌&&◌, ℕ, zero, suc, ◌+◌, ◌<◌, Bool, true, false, cond, not, List, [], ◌∷◌, length, take, get_or, Some, None, refl, ap, ◌∙◌, arith}
use Rattle.std.specs.List.{find}
use Rattle.pl_frame.specs.declared.address.Mac.{Mac}
use Rattle.pl_arp.specs.declared.cache.Me.{Me}
use Rattle.pl_layouts.specs.Equality.{same_mac}

-- no other host has a host's own address
pub find-oneself : (hosts : List Me) (mac own : Mac) → same_mac mac own ≡ true →
    find (λ host. same_mac host.mac mac && not (same_mac mac own)) hosts ≡ None
find-oneself [] mac own oneself = refl
find-oneself (host ∷ hosts) mac own oneself =
    let rest = find-oneself hosts mac own oneself in
    elim (same_mac host.mac mac)
    as (λ b. cond (b && not (same_mac mac own)) (Some host) (find (λ h. same_mac h.mac mac && not (same_mac mac own)) hosts) ≡ None) [
      | true ↦ ap (λ s. cond (not s) (Some host) (find (λ h. same_mac h.mac mac && not (same_mac mac own)) hosts)) oneself ∙ rest
      | false ↦ rest
    ]

-- ---- looked for from the first one on
module _ {X : Type 0} (test : X → Bool) where
  later : (x : X) (xs : List X) → find test (x ∷ xs) ≡ None → (test x ≡ false) × (find test xs ≡ None)
  later x xs = by (test x)
    where
      by : (b : Bool) → cond b (Some x) (find test xs) ≡ None → (b ≡ false) × (find test xs ≡ None)
      by true none = let no_way : Some x ≡ None = none in absurd (cc)
      by false none = (refl, none)

  pub found_next : (xs : List X) (i : ℕ) (d : X) → i < length xs → find test (take i xs) ≡ None → test (get_or xs i d) ≡ true →
      find test xs ≡ Some (get_or xs i d)
  found_next [] i d h none is = absurd (omega arith)
  found_next (x ∷ xs) zero d h none is = ap (λ b. cond b (Some x) (find test xs)) is
  found_next (x ∷ xs) (suc i) d h none is =
      let two = later x (take i xs) none in
      ap (λ b. cond b (Some x) (find test xs)) two.0 ∙ found_next xs i d (omega arith) two.1 is

  none_more : (xs : List X) (i : ℕ) (d : X) → i < length xs → find test (take i xs) ≡ None → test (get_or xs i d) ≡ false →
      find test (take (suc i) xs) ≡ None
  none_more [] i d h none is = absurd (omega arith)
  none_more (x ∷ xs) zero d h none is = ap (λ b. cond b (Some x) None) is
  none_more (x ∷ xs) (suc i) d h none is =
      let two = later x (take i xs) none in
      ap (λ b. cond b (Some x) (find test (take (suc i) xs))) two.0 ∙ none_more xs i d (omega arith) two.1 is

  pub none_next : (xs : List X) (i : ℕ) (d : X) → i < length xs → find test (take i xs) ≡ None → test (get_or xs i d) ≡ false →
      find test (take (i + 1) xs) ≡ None
  none_next xs i d h none is = let e : i + 1 ≡ suc i = omega arith in ap (λ n. find test (take n xs)) e ∙ none_more xs i d h none is
