-- The wiring that the entries make.
use Rattle.std.proofs.Common.{ℕ, suc, ◌<◌, List, [], ◌∷◌, Bool, true, false, cond, length, get_or, Some, All, IfSome, arith}
use Rattle.std.specs.List.{find}
use Rattle.pl_topology.specs.declared.entries.LinkEntry.{LinkEntry}
use Rattle.pl_topology.specs.Entries.{is_between}
use Rattle.pl_topology.specs.FileEntries.{NamesPorts, PortsFit}
use Rattle.pl_topology.specs.Found.{FindsLinkEntries}
use Rattle.pl_topology.proofs.FoundLemmas.{ByEnds}

-- what holds of each is true of what is found
find_holds : {A : Type 0} (P : A → Type 0) (p : A → Bool) (xs : List A) → ((i : ℕ) (d : A) → i < length xs → P (get_or xs i d)) → IfSome (find p xs) P
find_holds P p [] all = tt
find_holds P p (x ∷ xs) all =
    let rest : (i : ℕ) (d : _) → i < length xs → P (get_or xs i d) = λ i d h. all (suc i) d (omega arith) in
    elim (p x) as (λ t. IfSome (cond t (Some x) (find p xs)) P) [ true ↦ all 0 x (omega arith) | false ↦ find_holds P p xs rest ]

pub PortsFit-found : (k : ℕ) (by_ends : ByEnds) (entries : List LinkEntry) → FindsLinkEntries by_ends entries → All (NamesPorts k) entries → PortsFit k by_ends
PortsFit-found k by_ends entries finds fit a b = rw (finds a b) (find_holds (NamesPorts k) (is_between a b) entries fit)
