-- What a core switch reaches, by what its aggregation switches serve.
use Rattle.std.proofs.Common.{◌≡◌, ℕ, length, ◌+◌, ◌++◌, take, ◌==◌, ◌&&◌, Bool, true, false, cond, List, [], ◌∷◌, map, refl, sym, ap, ◌∙◌}
use Rattle.std.specs.List.{filter, list_any}
use Rattle.std.proofs.lemmas.List.{map-append}
use Rattle.pl_frame.specs.declared.address.SwitchId.{SwitchId}
use Rattle.pl_node.specs.ManagerViews.{Told, alive_neighbours, has_level, is_alive}
use Rattle.pl_node.specs.Trees.{best_cores, core_for, cores, largest, reach, turn}
use Rattle.pl_groups.specs.Reaching.{reach_at}
use Rattle.pl_groups.specs.declared.cores.CoreReach.{CoreReach}
use Rattle.pl_reports.proofs.Exports.{filter_more}

-- an aggregation switch over an alive link
abbrev pub is_adjacent : Told → SwitchId → SwitchId → Bool
is_adjacent told s a = is_alive told s a && has_level told a 1

-- core switches with the same links reach the same
pub reach_alike : (told : Told) (needed : List SwitchId) (a b : SwitchId) → alive_neighbours told a ≡ alive_neighbours told b →
    reach told needed a ≡ reach told needed b
reach_alike told needed a b same =
    ap (λ (xs : List SwitchId). length (filter (λ e. list_any (λ x. is_alive told x e) (filter (λ u. has_level told u 1) xs)) needed)) same

-- ---- one core switch after another
pub ranked_next : (told : Told) (needed : List SwitchId) (items : List SwitchId) (i : ℕ) (x : SwitchId) (old new : List CoreReach) →
    let is_core : SwitchId → Bool = λ c. has_level told c 2 in
    take (i + 1) items ≡ take i items ++ x ∷ [] → old ≡ map (reach_at told needed) (filter is_core (take i items)) →
    new ≡ cond (is_core x) (old ++ reach_at told needed x ∷ []) old → new ≡ map (reach_at told needed) (filter is_core (take (i + 1) items))
ranked_next told needed items i x old new more were now =
    now ∙ (λ j. cond (has_level told x 2) (were j ++ reach_at told needed x ∷ []) (were j))
    ∙ by (has_level told x 2)
    ∙ ap (map (reach_at told needed)) (sym (ap (filter (λ c. has_level told c 2)) more ∙ filter_more (λ c. has_level told c 2) (take i items) x))
  where
    by : (b : Bool) → cond b (map (reach_at told needed) (filter (λ c. has_level told c 2) (take i items)) ++ reach_at told needed x ∷ [])
        (map (reach_at told needed) (filter (λ c. has_level told c 2) (take i items)))
        ≡ map (reach_at told needed) (cond b (filter (λ c. has_level told c 2) (take i items) ++ x ∷ []) (filter (λ c. has_level told c 2) (take i items)))
    by true = sym (map-append (reach_at told needed) (filter (λ c. has_level told c 2) (take i items)) (x ∷ []))
    by false = refl

-- ---- the core switches of the largest reach
best_at : (told : Told) (needed : List SwitchId) (n : ℕ) (cs : List SwitchId) →
    map (λ (r : CoreReach). r.core) (filter (λ r. r.edges == n) (map (reach_at told needed) cs)) ≡ filter (λ c. reach told needed c == n) cs
best_at told needed n [] = refl
best_at told needed n (c ∷ cs) = by (best_at told needed n cs) (reach told needed c == n)
  where
    by : map (λ (r : CoreReach). r.core) (filter (λ r. r.edges == n) (map (reach_at told needed) cs)) ≡ filter (λ d. reach told needed d == n) cs → (b : Bool) →
        map (λ (r : CoreReach). r.core) (cond b (reach_at told needed c ∷ filter (λ r. r.edges == n) (map (reach_at told needed) cs)) (filter (λ r. r.edges == n) (map (reach_at told needed) cs)))
        ≡ cond b (c ∷ filter (λ d. reach told needed d == n) cs) (filter (λ d. reach told needed d == n) cs)
    by rest true = ap (λ xs. c ∷ xs) rest
    by rest false = rest

edges_of : (told : Told) (needed : List SwitchId) (cs : List SwitchId) → map (λ (r : CoreReach). r.edges) (map (reach_at told needed) cs) ≡ map (reach told needed) cs
edges_of told needed [] = refl
edges_of told needed (c ∷ cs) = ap (λ xs. reach told needed c ∷ xs) (edges_of told needed cs)

pub best_is : (told : Told) (needed : List SwitchId) →
    let all = map (reach_at told needed) (cores told) in
    map (λ (r : CoreReach). r.core) (filter (λ r. r.edges == largest (map (λ (r : CoreReach). r.edges) all)) all) ≡ best_cores told needed
best_is told needed =
    let all = map (reach_at told needed) (cores told) in
    ap (λ ns. map (λ (r : CoreReach). r.core) (filter (λ r. r.edges == largest ns) all)) (edges_of told needed (cores told))
    ∙ best_at told needed (largest (map (reach told needed) (cores told))) (cores told)

-- a group that needs an edge switch takes its turn
pub turn_is : (told : Told) (group : ℕ) (needed : List SwitchId) → (needed ≡ [] → ⊥) → core_for told group needed ≡ turn group (best_cores told needed)
turn_is told group [] some = absurd (some refl)
turn_is told group (e ∷ needed) some = refl
