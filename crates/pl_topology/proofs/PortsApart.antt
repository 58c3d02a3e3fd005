-- Ports that passed their check are there and apart.
use Rattle.std.proofs.Common.{◌≡◌, ℕ, true, false, not, ◌&&◌, List, [], ◌∷◌, ◌++◌, get_or, Ok, All, AllPairs, sym, ◌∙◌}
use Rattle.std.specs.List.{flat_map, list_any}
use Rattle.std.proofs.lemmas.Bool.{not-false}
use Rattle.std.proofs.lemmas.List.Elements.{All-cons, All-nil}
use Rattle.std.proofs.lemmas.List.Kept.{AllPairs-cons}
use Rattle.pl_lemmas.proofs.Exports.{second_false}
use Rattle.pl_topology.specs.declared.error.TopologyError.{TopologyError}
use Rattle.pl_topology.specs.declared.error.TopologyError.TheVariants as error
use Rattle.pl_topology.specs.declared.entries.PortUse.{PortUse}
use Rattle.pl_topology.specs.Checks.{is_at, is_port, port_is_free}
use Rattle.pl_wiring.specs.Labels.{label_of}
use Rattle.pl_topology.specs.Refusal.{each_beside, refused_if}
use Rattle.pl_topology.proofs.RefusalLemmas.{bind_ok, each_beside-append, refused_if_ok}
use Rattle.pl_topology.proofs.Readings.{All-groups, All-weaker, AllPairs-none, none_of_both}

-- the port is there, and nothing of these has it
pub record IsFree (k : ℕ) (before : List PortUse) (taken : PortUse) : Type 0 where
  pub there : is_port k taken.port ≡ true
  pub free : taken.counts ≡ true → list_any (is_at taken.switch.0 taken.port) before ≡ false

IsFree-passed : (k : ℕ) (before : List PortUse) (taken : PortUse) → port_is_free k before taken ≡ Ok tt → IsFree k before taken
unfolding port_is_free
IsFree-passed k before taken passed =
    let e : TopologyError = error.BadPort (label_of k taken.switch.0) taken.port in
    let (u, there, rest) = bind_ok (refused_if (not (is_port k taken.port)) e) (λ _. refused_if (taken.counts && list_any (is_at taken.switch.0 taken.port) before) e) tt passed in
    record {
      there = not-false (is_port k taken.port) (refused_if_ok (not (is_port k taken.port)) e u there);
      free = second_false taken.counts (list_any (is_at taken.switch.0 taken.port) before) (refused_if_ok (taken.counts && list_any (is_at taken.switch.0 taken.port) before) e tt rest);
    }

IsFree-front : (k : ℕ) (before more : List PortUse) (taken : PortUse) → IsFree k (before ++ more) taken → IsFree k before taken
IsFree-front k before more taken free = record {
  there = free.there;
  free = λ counts. (none_of_both (is_at taken.switch.0 taken.port) before more (free.free counts)).0;
}

IsFree-back : (k : ℕ) (before more : List PortUse) (taken : PortUse) → IsFree k (before ++ more) taken → IsFree k more taken
IsFree-back k before more taken free = record {
  there = free.there;
  free = λ counts. (none_of_both (is_at taken.switch.0 taken.port) before more (free.free counts)).1;
}

-- all that passed are free of what was before
pub all_free : (k : ℕ) (before uses : List PortUse) → each_beside (port_is_free k) before uses ≡ Ok tt → All (IsFree k before) uses
all_free k before [] passed = All-nil (IsFree k before)
all_free k before (taken ∷ uses) passed =
    let (u, first, rest) = bind_ok (port_is_free k before taken) (λ _. each_beside (port_is_free k) (before ++ taken ∷ []) uses) tt passed in
    All-cons (IsFree k before) taken uses (IsFree-passed k before taken first)
    (All-weaker (IsFree k (before ++ taken ∷ [])) (IsFree k before) uses (IsFree-front k before (taken ∷ [])) (all_free k (before ++ taken ∷ []) uses rest))

-- the ports of each group are free of what was before
pub groups_free : {A : Type 0} (k : ℕ) (items : A → List PortUse) (before : List PortUse) (xs : List A) → each_beside (port_is_free k) before (flat_map items xs) ≡ Ok tt →
    All (λ x. All (IsFree k before) (items x)) xs
groups_free k items before xs passed = All-groups (IsFree k before) items xs (all_free k before (flat_map items xs) passed)

-- and of those of the groups before
pub groups_apart : {A : Type 0} (k : ℕ) (items : A → List PortUse) (before : List PortUse) (xs : List A) → each_beside (port_is_free k) before (flat_map items xs) ≡ Ok tt →
    AllPairs (λ x y. All (IsFree k (items x)) (items y)) xs
groups_apart k items before [] passed = AllPairs-none (λ x y. All (IsFree k (items x)) (items y))
groups_apart k items before (x ∷ xs) passed =
    let split = sym (each_beside-append (port_is_free k) before (items x) (flat_map items xs)) ∙ passed in
    let (u, here, rest) = bind_ok (each_beside (port_is_free k) before (items x)) (λ _. each_beside (port_is_free k) (before ++ items x) (flat_map items xs)) tt split in
    let after = groups_free k items (before ++ items x) xs rest in
    AllPairs-cons (λ x y. All (IsFree k (items x)) (items y)) x xs
    (λ i d within. All-weaker (IsFree k (before ++ items x)) (IsFree k (items x)) (items (get_or xs i d)) (IsFree-back k before (items x)) (after i d within))
    (groups_apart k items (before ++ items x) xs rest)
