-- What an address that is learnt leaves of those that were learnt before.
use Rattle.std.proofs.Common.{◌≡◌, ℕ, ◌+◌, ◌||◌, Bool, true, false, cond, List, [], ◌∷◌, map, Option, Some, None, is_some, refl, sym, ap, subst, ◌∙◌}
use Rattle.std.specs.Prelude.{unwrap_or}
use Rattle.std.specs.List.{find, list_any}
use Rattle.std.specs.Option.{option_map}
use Rattle.std.proofs.lemmas.Bool.{false≢true, or_parts}
use Rattle.pl_frame.specs.declared.address.Mac.{Mac}
use Rattle.pl_pmac.specs.declared.pmac.Pmac.{Pmac}
use Rattle.pl_layouts.specs.Equality.{same_pmac}
use Rattle.pl_layouts.proofs.Exports.{pmac_is, pmac_itself}
use Rattle.pl_node.specs.ManagerViews.{Learnt, LearntAddress, Registration, newest, registered_as, registration, registry}
use Rattle.pl_manager_rule.specs.ManagerRule.{ToldAddress, host_of, is_registered, leads_on, learnt_as, recalled, told_again, with_learnt}

-- ---- lists
module _ {X : Type 0} (test : X → Bool) where
  pub found_where_any : (xs : List X) → list_any test xs ≡ true → is_some (find test xs) ≡ true
  found_where_any [] h = absurd (false≢true h)
  found_where_any (x ∷ xs) h = by (λ k. found_where_any xs k) (test x) h
    where
      by : (list_any test xs ≡ true → is_some (find test xs) ≡ true) → (b : Bool) → (b || list_any test xs) ≡ true →
          is_some (cond b (Some x) (find test xs)) ≡ true
      by rest true k = refl
      by rest false k = rest k

  pub found_nowhere : (xs : List X) → list_any test xs ≡ false → find test xs ≡ None
  found_nowhere [] h = refl
  found_nowhere (x ∷ xs) h =
      let two = or_parts (test x) (list_any test xs) h in ap (λ b. cond b (Some x) (find test xs)) two.0 ∙ found_nowhere xs two.1

  pub any_where_found : (xs : List X) → is_some (find test xs) ≡ true → list_any test xs ≡ true
  any_where_found [] h = absurd (false≢true h)
  any_where_found (x ∷ xs) h = by (λ k. any_where_found xs k) (test x) h
    where
      by : (is_some (find test xs) ≡ true → list_any test xs ≡ true) → (b : Bool) →
          is_some (cond b (Some x) (find test xs)) ≡ true → (b || list_any test xs) ≡ true
      by rest true k = refl
      by rest false k = rest k

module _ {X Y : Type 0} (test : Y → Bool) (f : X → Y) where
  pub any_mapped : (xs : List X) → list_any test (map f xs) ≡ list_any (λ x. test (f x)) xs
  any_mapped [] = refl
  any_mapped (x ∷ xs) = ap (λ b. test (f x) || b) (any_mapped xs)

  pub find_mapped : (xs : List X) → find test (map f xs) ≡ option_map f (find (λ x. test (f x)) xs)
  find_mapped [] = refl
  find_mapped (x ∷ xs) = by (test (f x)) (find_mapped xs)
    where
      by : (b : Bool) → find test (map f xs) ≡ option_map f (find (λ y. test (f y)) xs) →
          cond b (Some (f x)) (find test (map f xs)) ≡ option_map f (cond b (Some x) (find (λ y. test (f y)) xs))
      by true rest = refl
      by false rest = rest

pub map_mapped : {X Y Z : Type 0} (g : Y → Z) (f : X → Y) (xs : List X) → map g (map f xs) ≡ map (λ x. g (f x)) xs
map_mapped g f [] = refl
map_mapped g f (x ∷ xs) = ap (λ ys. g (f x) ∷ ys) (map_mapped g f xs)

-- ---- what a change leaves alone
pub same_field : {X : Type 0} (f : LearntAddress → X) (change : LearntAddress → LearntAddress) → ((a : LearntAddress) → f (change a) ≡ f a) →
    (addresses : List LearntAddress) → map f (map change addresses) ≡ map f addresses
same_field f change same [] = refl
same_field f change same (a ∷ addresses) = λ i. same a i ∷ same_field f change same addresses i

pub same_recalled : {X : Type 0} (f : LearntAddress → X) → ((old new : Pmac) (number : ℕ) (a : LearntAddress) → f (leads_on old new number a) ≡ f a) →
    (o : Option Registration) (new : Pmac) (number : ℕ) (addresses : List LearntAddress) → map f (recalled o new number addresses) ≡ map f addresses
same_recalled f same None new number addresses = refl
same_recalled f same (Some old) new number addresses = same_field f (leads_on old.pmac new number) (same old.pmac new number) addresses

-- an address that is told again changes no registration, and one that leads on from now on does neither
pub same_numbers : (new : ToldAddress) (addresses : List LearntAddress) → map registered_as (map (told_again new) addresses) ≡ map registered_as addresses
same_numbers new = same_field registered_as (told_again new) (λ a. refl)

pub recalled_numbers : (o : Option Registration) (new : Pmac) (number : ℕ) (addresses : List LearntAddress) →
    map registered_as (recalled o new number addresses) ≡ map registered_as addresses
recalled_numbers = same_recalled registered_as (λ old new number a. refl)

-- a new address is one more registration
pub registry_after : (learnt : Learnt) (new : ToldAddress) →
    registry (with_learnt learnt new)
    ≡ cond (is_registered learnt.addresses new.pmac) (registry learnt) (registered_as (learnt_as (learnt.count + 1) new) ∷ registry learnt)
registry_after learnt new = by (is_registered learnt.addresses new.pmac)
  where
    by : (b : Bool) →
        map registered_as (cond b (map (told_again new) learnt.addresses)
        (learnt_as (learnt.count + 1) new ∷ recalled (newest learnt new.amac) new.pmac (learnt.count + 1) learnt.addresses))
        ≡ cond b (registry learnt) (registered_as (learnt_as (learnt.count + 1) new) ∷ registry learnt)
    by true = same_numbers new learnt.addresses
    by false =
        ap (λ rs. registered_as (learnt_as (learnt.count + 1) new) ∷ rs)
        (recalled_numbers (newest learnt new.amac) new.pmac (learnt.count + 1) learnt.addresses)

-- ---- which addresses are registered: those that were learnt
pub learnt_registered : (addresses : List LearntAddress) (x : Pmac) → list_any (λ p. same_pmac p x) (map (λ a. a.pmac) addresses) ≡ is_registered addresses x
learnt_registered addresses x =
    any_mapped (λ p. same_pmac p x) (λ (a : LearntAddress). a.pmac) addresses ∙ sym (any_mapped (λ (r : Registration). same_pmac r.pmac x) registered_as addresses)

pub any_registered : (addresses : List LearntAddress) (x : Pmac) → list_any (λ a. same_pmac a.pmac x) addresses ≡ is_registered addresses x
any_registered addresses x = sym (any_mapped (λ (r : Registration). same_pmac r.pmac x) registered_as addresses)

-- ---- the host of an address
pub some_host : (o : Option Registration) (amac : Mac) → is_some o ≡ true → option_map (λ r. r.amac) o ≡ Some (unwrap_or (option_map (λ r. r.amac) o) amac)
some_host None amac h = absurd (false≢true h)
some_host (Some r) amac h = refl

-- one that was told is registered for its host then
pub host_now : (learnt : Learnt) (new : ToldAddress) →
    option_map (λ r. r.amac) (registration (with_learnt learnt new) new.pmac) ≡ Some (host_of learnt new)
host_now learnt new =
    ap (λ rs. option_map (λ (r : Registration). r.amac) (find (λ r. same_pmac r.pmac new.pmac) rs)) (registry_after learnt new)
    ∙ by (is_registered learnt.addresses new.pmac) refl
  where
    by : (b : Bool) → is_registered learnt.addresses new.pmac ≡ b →
        option_map (λ r. r.amac) (find (λ r. same_pmac r.pmac new.pmac) (cond b (registry learnt) (registered_as (learnt_as (learnt.count + 1) new) ∷ registry learnt)))
        ≡ Some (host_of learnt new)
    by true there = some_host (registration learnt new.pmac) new.amac (found_where_any (λ r. same_pmac r.pmac new.pmac) (registry learnt) there)
    by false fresh =
        ap (λ b. option_map (λ (r : Registration). r.amac) (cond b (Some (registered_as (learnt_as (learnt.count + 1) new))) (find (λ r. same_pmac r.pmac new.pmac) (registry learnt))))
        (pmac_itself new.pmac)
        ∙ sym (ap (λ (o : Option Registration). Some (unwrap_or (option_map (λ r. r.amac) o) new.amac))
        (found_nowhere (λ r. same_pmac r.pmac new.pmac) (registry learnt) fresh))

-- and what was registered before is so still
pub still_registered : (learnt : Learnt) (new : ToldAddress) (x : Pmac) → is_some (registration learnt x) ≡ true →
    registration (with_learnt learnt new) x ≡ registration learnt x
still_registered learnt new x there =
    ap (find (λ r. same_pmac r.pmac x)) (registry_after learnt new) ∙ by (is_registered learnt.addresses new.pmac) refl
  where
    by : (b : Bool) → is_registered learnt.addresses new.pmac ≡ b →
        find (λ r. same_pmac r.pmac x) (cond b (registry learnt) (registered_as (learnt_as (learnt.count + 1) new) ∷ registry learnt)) ≡ registration learnt x
    by true again = refl
    by false fresh = either (same_pmac new.pmac x) refl
      where
        either : (c : Bool) → same_pmac new.pmac x ≡ c →
            cond c (Some (registered_as (learnt_as (learnt.count + 1) new))) (registration learnt x) ≡ registration learnt x
        either true same = absurd (false≢true (sym fresh
            ∙ any_where_found (λ r. same_pmac r.pmac new.pmac) (registry learnt)
            (subst (λ p. is_some (registration learnt p) ≡ true) (sym (pmac_is new.pmac x same)) there)))
        either false other = refl
