-- Entries that neither grant nor free an address.
use Rattle.std.proofs.Common.{◌≡◌, ◌+◌, ◌||◌, Bool, true, false, if◌then◌else◌, List, [], ◌∷◌, ◌++◌, refl, ap, ◌∙◌, arith}
use Rattle.std.specs.List.{AllByRecursion}
use Rattle.std.proofs.lemmas.Bool.{or_parts}
use Rattle.pl_lemmas.proofs.Exports.{all_append}
use Rattle.pl_pmac.specs.declared.pmac.Pmac.{Pmac}
use Rattle.pl_journal.specs.declared.cause.Cause.{Cause}
use Rattle.pl_journal.specs.declared.entry.Entry.{Entry}
use Rattle.pl_world.specs.declared.item.Item.{Item}
use Rattle.pl_world.specs.declared.item.Item.TheVariants.{Control, Data}
use Rattle.pl_world.specs.Changes.{ends_of}
use Rattle.pl_law_addresses.specs.GrantedOnce.{frees, grants, times_freed, times_granted}

abbrev pub IsNoAddressEntry : Entry → Type 0
IsNoAddressEntry e = (x : Pmac) → (grants x e || frees x e) ≡ false

abbrev pub AreNoAddressEntries : List Entry → Type 0
AreNoAddressEntries entries = AllByRecursion IsNoAddressEntry entries

pub times_append : (x : Pmac) (a b : List Entry) → times_granted x (a ++ b) ≡ times_granted x a + times_granted x b
times_append x [] b = omega arith
times_append x (e ∷ a) b = let rest = times_append x a b in omega (arith, rest)

pub freed_append : (x : Pmac) (a b : List Entry) → times_freed x (a ++ b) ≡ times_freed x a + times_freed x b
freed_append x [] b = omega arith
freed_append x (e ∷ a) b = let rest = freed_append x a b in omega (arith, rest)

quiet_none : (x : Pmac) (entries : List Entry) → AreNoAddressEntries entries → times_granted x entries ≡ 0
quiet_none x [] quiet = refl
quiet_none x (e ∷ entries) quiet =
    let rest = quiet_none x entries quiet.1 in
    ap (λ b. (if b then 1 else 0) + times_granted x entries) (or_parts (grants x e) (frees x e) (quiet.0 x)).0 ∙ (omega (arith, rest))

quiet_none_freed : (x : Pmac) (entries : List Entry) → AreNoAddressEntries entries → times_freed x entries ≡ 0
quiet_none_freed x [] quiet = refl
quiet_none_freed x (e ∷ entries) quiet =
    let rest = quiet_none_freed x entries quiet.1 in
    ap (λ b. (if b then 1 else 0) + times_freed x entries) (or_parts (grants x e) (frees x e) (quiet.0 x)).1 ∙ (omega (arith, rest))

pub quiet_freed : (journal entries : List Entry) → AreNoAddressEntries entries → (x : Pmac) → times_freed x (journal ++ entries) ≡ times_freed x journal
quiet_freed journal entries quiet x = let sum = freed_append x journal entries in let none = quiet_none_freed x entries quiet in omega (arith, sum, none)

pub quiet_times : (journal entries : List Entry) → AreNoAddressEntries entries → (x : Pmac) → times_granted x (journal ++ entries) ≡ times_granted x journal
quiet_times journal entries quiet x = let sum = times_append x journal entries in let none = quiet_none x entries quiet in omega (arith, sum, none)

pub quiet_if : (b : Bool) (xs ys : List Entry) → AreNoAddressEntries xs → AreNoAddressEntries ys → AreNoAddressEntries (if b then xs else ys)
quiet_if true xs ys a b = a
quiet_if false xs ys a b = b

pub quiet_ends : (c : Cause) (items : List Item) → AreNoAddressEntries (ends_of c items)
quiet_ends c [] = tt
quiet_ends c (Control frame ∷ items) = quiet_ends c items
quiet_ends c (Data id frame ∷ items) = ((λ x. refl), quiet_ends c items)

pub quiet_append : (xs ys : List Entry) → AreNoAddressEntries xs → AreNoAddressEntries ys → AreNoAddressEntries (xs ++ ys)
quiet_append xs ys a b = all_append IsNoAddressEntry xs ys a b
