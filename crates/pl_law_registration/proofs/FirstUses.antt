-- Which address of a port a host has in use, where a grant of that port changes.
use Rattle.std.proofs.Common.{◌≡◌, ◌≢◌, ◌<◌, ◌+◌, ◌-◌, ◌==◌, ◌&&◌, ℕ, zero, suc, Bool, true, false, if◌then◌else◌, set, List, [], ◌∷◌, ◌++◌, length, map, Option, Some, None, is_some, refl, sym, ap, subst, ◌∙◌, inl, inr, arith}
use Rattle.std.specs.List.{AllByRecursion, position_from}
use Rattle.std.proofs.lemmas.Bool.{and_from, cases_eq, eq-eqb, false≢true, or_left, or_right}
use Rattle.std.proofs.lemmas.Option.{none-some, same_Some}
use Rattle.pl_frame.specs.declared.address.Mac.{Mac}
use Rattle.pl_layouts.specs.Equality.{same_mac}
use Rattle.pl_layouts.proofs.Exports.{mac_itself}
use Rattle.pl_node.specs.AddressUses.{is_in_use}
use Rattle.pl_node.specs.declared.switch_records.Grant.{Grant}
use Rattle.pl_switch_rule.specs.Aging.{older_grant}
use Rattle.pl_switch_rule.specs.Granting.{grant_number, in_use}
use Rattle.pl_law_addresses.specs.FreeVmids.{AreFreeVmids, is_free, is_in}
use Rattle.pl_law_addresses.proofs.Exports.{number_push_other, number_set_other, number_set_same, number_within, use_still}

module _ (p : Grant → Bool) where
  -- another one changes
  place_other : (xs : List Grant) (i n m : ℕ) (y : Grant) → p y ≡ false → m ≢ i + n → position_from p i xs ≡ Some m → position_from p i (set xs n y) ≡ Some m
  place_other [] i n m y none other is = is
  place_other (x ∷ xs) i zero m y none other is =
      ap (λ b. if◌then◌else◌ {A = Option ℕ} b (Some i) (position_from p (i + 1) xs)) none ∙ by (p x) is
    where
      by : (b : Bool) → (if◌then◌else◌ {A = Option ℕ} b (Some i) (position_from p (i + 1) xs)) ≡ Some m → position_from p (i + 1) xs ≡ Some m
      by true e = let same = same_Some i m e in absurd (other (omega (arith, same)))
      by false e = e
  place_other (x ∷ xs) i (suc n) m y none other is = by (λ e. place_other xs (i + 1) n m y none (λ same. other (omega (arith, same))) e) (p x) is
    where
      by : (position_from p (i + 1) xs ≡ Some m → position_from p (i + 1) (set xs n y) ≡ Some m) → (b : Bool) → (if◌then◌else◌ {A = Option ℕ} b (Some i) (position_from p (i + 1) xs)) ≡ Some m →
          (if◌then◌else◌ {A = Option ℕ} b (Some i) (position_from p (i + 1) (set xs n y))) ≡ Some m
      by rest true e = e
      by rest false e = rest e

  -- it changes, and passes still
  place_same : (xs : List Grant) (i n m : ℕ) (y : Grant) → p y ≡ true → m ≡ i + n → position_from p i xs ≡ Some m → position_from p i (set xs n y) ≡ Some m
  place_same [] i n m y passes at is = is
  place_same (x ∷ xs) i zero m y passes at is =
      ap (λ b. if◌then◌else◌ {A = Option ℕ} b (Some i) (position_from p (i + 1) xs)) passes ∙ ap Some (omega (arith, at))
  place_same (x ∷ xs) i (suc n) m y passes at is = by (λ e. place_same xs (i + 1) n m y passes (omega (arith, at)) e) (p x) is
    where
      by : (position_from p (i + 1) xs ≡ Some m → position_from p (i + 1) (set xs n y) ≡ Some m) → (b : Bool) → (if◌then◌else◌ {A = Option ℕ} b (Some i) (position_from p (i + 1) xs)) ≡ Some m →
          (if◌then◌else◌ {A = Option ℕ} b (Some i) (position_from p (i + 1) (set xs n y))) ≡ Some m
      by rest true e = e
      by rest false e = rest e

  -- none passed before
  place_first : (xs : List Grant) (i n m : ℕ) (y : Grant) → p y ≡ true → m ≡ i + n → n < length xs → position_from p i xs ≡ None → position_from p i (set xs n y) ≡ Some m
  place_first [] i n m y passes at within is = absurd (omega (arith, within))
  place_first (x ∷ xs) i zero m y passes at within is =
      ap (λ b. if◌then◌else◌ {A = Option ℕ} b (Some i) (position_from p (i + 1) xs)) passes ∙ ap Some (omega (arith, at))
  place_first (x ∷ xs) i (suc n) m y passes at within is = by (λ e. place_first xs (i + 1) n m y passes (omega (arith, at)) (omega (arith, within)) e) (p x) is
    where
      by : (position_from p (i + 1) xs ≡ None → position_from p (i + 1) (set xs n y) ≡ Some m) → (b : Bool) → (if◌then◌else◌ {A = Option ℕ} b (Some i) (position_from p (i + 1) xs)) ≡ None →
          (if◌then◌else◌ {A = Option ℕ} b (Some i) (position_from p (i + 1) (set xs n y))) ≡ Some m
      by rest true e = absurd (none-some i (sym e))
      by rest false e = rest e

  place_last : (xs : List Grant) (i m : ℕ) (y : Grant) → p y ≡ true → m ≡ i + length xs → position_from p i xs ≡ None → position_from p i (xs ++ y ∷ []) ≡ Some m
  place_last [] i m y passes at is = ap (λ b. if◌then◌else◌ {A = Option ℕ} b (Some i) None) passes ∙ ap Some (omega (arith, at))
  place_last (x ∷ xs) i m y passes at is = by (λ e. place_last xs (i + 1) m y passes (omega (arith, at)) e) (p x) is
    where
      by : (position_from p (i + 1) xs ≡ None → position_from p (i + 1) (xs ++ y ∷ []) ≡ Some m) → (b : Bool) → (if◌then◌else◌ {A = Option ℕ} b (Some i) (position_from p (i + 1) xs)) ≡ None →
          (if◌then◌else◌ {A = Option ℕ} b (Some i) (position_from p (i + 1) (xs ++ y ∷ []))) ≡ Some m
      by rest true e = absurd (none-some i (sym e))
      by rest false e = rest e

  -- all change, and pass as before
  place_mapped : (f : Grant → Grant) → ((x : Grant) → p (f x) ≡ p x) → (xs : List Grant) (i : ℕ) → position_from p i (map f xs) ≡ position_from p i xs
  place_mapped f still [] i = refl
  place_mapped f still (x ∷ xs) i =
      ap (λ b. if◌then◌else◌ {A = Option ℕ} b (Some i) (position_from p (i + 1) (map f xs))) (still x)
      ∙ ap (λ (o : Option ℕ). if◌then◌else◌ {A = Option ℕ} (p x) (Some i) o) (place_mapped f still xs (i + 1))

-- ---- of the addresses of a port
abbrev uses_it : Mac → Grant → Bool
uses_it mac g = is_in_use g.held && same_mac g.amac mac

pub its_use : (mac : Mac) (g : Grant) → is_in_use g.held ≡ true → g.amac ≡ mac → uses_it mac g ≡ true
its_use mac g used same = and_from (is_in_use g.held) (same_mac g.amac mac) used (subst (λ (m : Mac). same_mac g.amac m ≡ true) same (mac_itself g.amac))

no_use : (mac : Mac) (g : Grant) → is_in_use g.held ≡ false → uses_it mac g ≡ false
no_use mac g unused = ap (λ b. b && same_mac g.amac mac) unused

module _ (mac : Mac) (gs : List Grant) where
  -- where another address is used no more, or is used by nobody still
  pub use_other : (vmid n : ℕ) (h g : Grant) → in_use gs mac ≡ Some vmid → grant_number gs n ≡ Some h → vmid ≢ n → is_in_use g.held ≡ false → in_use (set gs (n - 1) g) mac ≡ Some vmid
  use_other vmid n h g is found other unused =
      let some = (number_within gs n h found).0 in
      place_other (uses_it mac) gs 1 (n - 1) vmid g (no_use mac g unused) (λ same. other (omega (arith, some, same))) is

  pub use_same : (vmid : ℕ) (h g : Grant) → in_use gs mac ≡ Some vmid → grant_number gs vmid ≡ Some h → is_in_use g.held ≡ true → g.amac ≡ mac → in_use (set gs (vmid - 1) g) mac ≡ Some vmid
  use_same vmid h g is found used same =
      let some = (number_within gs vmid h found).0 in
      place_same (uses_it mac) gs 1 (vmid - 1) vmid g (its_use mac g used same) (omega (arith, some)) is

  pub use_first : (vmid : ℕ) (h g : Grant) → in_use gs mac ≡ None → grant_number gs vmid ≡ Some h → is_in_use g.held ≡ true → g.amac ≡ mac → in_use (set gs (vmid - 1) g) mac ≡ Some vmid
  use_first vmid h g is found used same =
      let within = number_within gs vmid h found in
      let some = within.0 in
      let few = within.1 in
      place_first (uses_it mac) gs 1 (vmid - 1) vmid g (its_use mac g used same) (omega (arith, some)) (omega (arith, some, few)) is

  pub use_last : (g : Grant) → in_use gs mac ≡ None → is_in_use g.held ≡ true → g.amac ≡ mac → in_use (gs ++ g ∷ []) mac ≡ Some (length gs + 1)
  use_last g is used same = place_last (uses_it mac) gs 1 (length gs + 1) g (its_use mac g used same) (omega arith) is

  pub use_older : in_use (map older_grant gs) mac ≡ in_use gs mac
  use_older = place_mapped (uses_it mac) older_grant (λ g. ap (λ b. b && same_mac g.amac mac) (use_still g.held)) gs 1

-- ---- that a number was given
abbrev pub IsGiven : List Grant → ℕ → Type 0
IsGiven gs vmid = is_some (grant_number gs vmid) ≡ true

pub given_number : (gs : List Grant) (vmid : ℕ) → IsGiven gs vmid → (g : Grant) × (grant_number gs vmid ≡ Some g)
given_number gs vmid is = by (grant_number gs vmid) refl is
  where
    by : (o : Option Grant) → grant_number gs vmid ≡ o → is_some o ≡ true → (g : Grant) × (grant_number gs vmid ≡ Some g)
    by None found e = absurd (false≢true e)
    by (Some g) found e = (g, found)

pub given_set : (gs : List Grant) (n : ℕ) (h g : Grant) (vmid : ℕ) → grant_number gs n ≡ Some h → IsGiven gs vmid → IsGiven (set gs (n - 1) g) vmid
given_set gs n h g vmid found is = elim (cases_eq vmid n) [
  | inl same ↦ ap (λ m. is_some (grant_number (set gs (n - 1) g) m)) same ∙ ap is_some (number_set_same gs n h g found)
  | inr other ↦ ap is_some (number_set_other gs n vmid g (number_within gs n h found).0 other) ∙ is
]

pub given_push : (gs : List Grant) (g : Grant) (vmid : ℕ) → IsGiven gs vmid → IsGiven (gs ++ g ∷ []) vmid
given_push gs g vmid is =
    let it = given_number gs vmid is in
    let few = (number_within gs vmid it.0 it.1).1 in
    ap is_some (number_push_other gs g vmid (λ same. absurd (omega (arith, few, same)))) ∙ is

abbrev pub AreGiven : List Grant → List ℕ → Type 0
AreGiven gs vmids = AllByRecursion (λ vmid. IsGiven gs vmid) vmids

pub all_given : (gs hs : List Grant) (vmids : List ℕ) → ((vmid : ℕ) → IsGiven gs vmid → IsGiven hs vmid) → AreGiven gs vmids → AreGiven hs vmids
all_given gs hs [] still all = tt
all_given gs hs (vmid ∷ vmids) still all = (still vmid all.0, all_given gs hs vmids still all.1)

-- the free addresses of a port were given
free_number : (o : Option Grant) → is_free o ≡ true → is_some o ≡ true
free_number None is = absurd (false≢true is)
free_number (Some g) is = refl

pub free_given : (gs : List Grant) (freed : List ℕ) → AreFreeVmids gs freed → AreGiven gs freed
free_given gs freed are = all_in freed (λ vmid is. free_number (grant_number gs vmid) (sym (are.listed vmid) ∙ is))
  where
    all_in : (vmids : List ℕ) → ((vmid : ℕ) → is_in vmid vmids ≡ true → IsGiven gs vmid) → AreGiven gs vmids
    all_in [] given = tt
    all_in (v ∷ vmids) given =
        (given v (or_left (v == v) (is_in v vmids) (eq-eqb v v refl)), all_in vmids (λ u is. given u (or_right (v == u) (is_in u vmids) is)))
