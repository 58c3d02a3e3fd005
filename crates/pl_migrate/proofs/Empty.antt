-- An address table that has granted nothing.
use Rattle.std.proofs.Common.{◌≡◌, ◌≤◌, ℕ, zero, suc, ◌+◌, List, [], ◌∷◌, ◌++◌, length, map, replicate, Option, Some, None, refl, sym, ap, subst, ◌∙◌, arith}
use Rattle.std.specs.List.{AllByRecursion, IsDistinct, range_with_len}
use Rattle.std.proofs.lemmas.List.{length-replicate}
use Rattle.pl_lemmas.proofs.Exports.{replicated_empty}
use Rattle.pl_pmac.specs.declared.pmac.Pmac.{Pmac}
use Rattle.pl_layouts.specs.Equality.{same_pmac}
use Rattle.pl_node.specs.PortRecords.{ports_of_switch}
use Rattle.pl_node.specs.declared.switch_records.Grant.{Grant}
use Rattle.pl_pool.specs.Pool.{Lists, items_of, list_at}
use Rattle.pl_migrate.specs.AddressTables.{empty_address_table}
use Rattle.pl_migrate.specs.declared.tenancy.Tenancy.{Tenancy}
use Rattle.pl_migrate.specs.Tenancies.{AreInOrder, DoRise, IsPast, StandsIn, addresses_in, freed_in, grant_of, since_of, table_view, tenancy_at}
use Rattle.pl_migrate.proofs.Entries.{tenancies_of}
use Rattle.pl_migrate.proofs.Numbers.{at_number, number_past}

abbrev pub no_lists : ℕ → Lists Pmac
no_lists n = record { lists = replicate n []; spare = 0 }

no_list : (n list : ℕ) → list_at (no_lists n) list ≡ []
no_list n list = replicated_empty n list

none_in : (n list : ℕ) → addresses_in (no_lists n) list ≡ []
none_in n list = ap items_of (no_list n list)

all_past : (k : ℕ) → AllByRecursion (AllByRecursion (IsPast 0)) (replicate k [])
all_past zero = tt
all_past (suc k) = (tt, all_past k)

none_at : (k : ℕ) (x : Pmac) → tenancy_at (replicate k []) x ≡ None
none_at k x = ap (λ (ts : List Tenancy). at_number ts x.vmid) (replicated_empty k x.port) ∙ none_of x.vmid
  where
    none_of : (n : ℕ) → at_number {T = Tenancy} [] n ≡ None
    none_of zero = refl
    none_of (suc n) = number_past [] (suc n) (omega arith)

none_distinct : IsDistinct same_pmac []
unfolding IsDistinct
none_distinct = tt

pub empty_in_order : (pod position k n : ℕ) → k ≤ 255 → n ≡ 4 + k → AreInOrder pod position 0 (replicate k []) (no_lists n)
empty_in_order pod position k n few many = record {
  few = subst (λ m. m ≤ 255) (sym (length-replicate k [])) few;
  lists = length-replicate n [] ∙ many ∙ ap (λ m. 4 + m) (sym (length-replicate {A = List Tenancy} k []));
  placed = λ x t here found. absurd (let e = sym (none_at k x) ∙ found in cc);
  listed = λ list. subst (AllByRecursion (StandsIn pod position (replicate k []) list)) (sym (no_list n list)) tt;
  apart = λ list. subst (IsDistinct same_pmac) (sym (none_in n list)) none_distinct;
  past = all_past k;
  used = subst (DoRise (since_of (replicate k []))) (sym (ap (λ xs. xs ++ addresses_in (no_lists n) 0) (none_in n 1) ∙ none_in n 0)) tt;
  trapped = subst (DoRise (since_of (replicate k []))) (sym (none_in n 2)) tt;
}

no_grants : (f : Tenancy → Grant) (k : ℕ) → map (map f) (replicate k []) ≡ replicate k []
no_grants f zero = refl
no_grants f (suc k) = ap (λ gs. [] ∷ gs) (no_grants f k)

none_freed : (n a k : ℕ) → map (freed_in (no_lists n)) (range_with_len a k) ≡ replicate k []
none_freed n a zero = refl
none_freed n a (suc k) = ap (λ vmids. vmids ∷ map (freed_in (no_lists n)) (range_with_len (a + 1) k)) (ap (map (λ (y : Pmac). y.vmid))
    (none_in n (4 + a))) ∙ ap (λ vs. [] ∷ vs) (none_freed n (a + 1) k)

pub empty_is : (pod position k n : ℕ) → table_view pod position 0 (replicate k []) (no_lists n) ≡ empty_address_table k pod position
empty_is pod position k n =
    let grants : map (map (grant_of 0)) (replicate k []) ≡ replicate k [] = no_grants (grant_of 0) k in
    let freed : map (freed_in (no_lists n)) (ports_of_switch (length (replicate {A = List Tenancy} k []))) ≡ replicate k [] =
    ap (λ m. map (freed_in (no_lists n)) (ports_of_switch m)) (length-replicate {A = List Tenancy} k []) ∙ none_freed n 0 k in
    λ i. record {
      pod = pod;
      position = position;
      grants = grants i;
      asked = none_in n 1 i;
      fresh = none_in n 0 i;
      trapped = none_in n 2 i;
      freed = freed i;
    }
