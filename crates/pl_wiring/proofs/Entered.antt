-- A table with one more item in it.
use Rattle.std.proofs.Common.{◌≡◌, ◌≢◌, ℕ, ◌+◌, ◌*◌, ◌<◌, ◌≤◌, ◌⊎◌, List, length, Option, Some, None, get_or, set, sym, ◌∙◌, ap, subst, arith, inl, inr, All, AllPairs, get_or-set_same, get_or-set_other}
use Rattle.std.proofs.Math.ListN.{length-set}
use Rattle.std.proofs.lemmas.Bool.{cases_lt, cases_eq}
use Rattle.std.proofs.lemmas.Bool.Decides.{nat_tests}
use Rattle.std.proofs.lemmas.List.{get_or_default}
use Rattle.std.proofs.lemmas.Nat.{mul-add-lt, same_from_place}
use Rattle.pl_wiring.specs.declared.link.Link.{Link}
use Rattle.pl_wiring.specs.declared.host.Host.{Host}
use Rattle.pl_wiring.specs.Labels.{switch_count}
use Rattle.pl_wiring.specs.Plan.{IsAttachedAt}
use Rattle.pl_wiring.specs.FatTree.{IsAt, IsTreeLink, IsFatTree}
use Rattle.pl_wiring.specs.Index.{IsIndex, port_index, entry_at, look_at}
use Rattle.pl_wiring.proofs.LabelOrder.{number_of-below}

pub IsIndex-none : {K X : Type 0} (look : K → Option ℕ) (IsAtKey : X → K → Type 0) (items : List X) → ((key : K) → look key ≡ None) → IsIndex look IsAtKey items 0
IsIndex-none look IsAtKey items nothing = record {
  says = λ key n found. (let e : None ≡ Some n = sym (nothing key) ∙ found in cc);
  knows = λ n d key below here. absurd (omega arith);
}

pub IsIndex-more : {K X : Type 0} (old new : K → Option ℕ) (IsAtKey : X → K → Type 0) (items : List X) (m : ℕ) (d0 : X) → m < length items →
    IsIndex old IsAtKey items m →
    ((key : K) → IsAtKey (get_or items m d0) key ⊎ (IsAtKey (get_or items m d0) key → ⊥)) →
    ((key : K) → IsAtKey (get_or items m d0) key → new key ≡ Some m) →
    ((key : K) → (IsAtKey (get_or items m d0) key → ⊥) → new key ≡ old key) →
    ((n : ℕ) (key : K) → n < m → IsAtKey (get_or items n d0) key → IsAtKey (get_or items m d0) key → ⊥) →
    IsIndex new IsAtKey items (m + 1)
IsIndex-more {K} {X} old new IsAtKey items m d0 within index decide wrote kept apart = record {
  says = λ key n found. elim (decide key) [
    | inl here ↦
        let same : n ≡ m = (let e : Some n ≡ Some m = sym found ∙ wrote key here in cc) in (
          omega arith,
          λ d. (let P : X → Type 0 = λ x. IsAtKey x key in
              subst P (ap (λ i. get_or items i d0) (sym same) ∙ get_or_default items n d0 d (omega arith)) here),
        )
    | inr away ↦
        let before = index.says key n (sym (kept key away) ∙ found) in (omega arith, before.1)
  ];
  knows = λ n d key below here. elim (cases_lt n m) [
    | inl less ↦
        let there : IsAtKey (get_or items n d0) key = (let P : X → Type 0 = λ x. IsAtKey x key in subst P (get_or_default items n d d0 (omega arith)) here) in
        kept key (apart n key less there) ∙ index.knows n d key less here
    | inr more ↦
        let same : n ≡ m = omega arith in
        let there : IsAtKey (get_or items m d0) key = (let P : X → Type 0 = λ x. IsAtKey x key in
        subst P (get_or_default items n d d0 (omega arith) ∙ ap (λ i. get_or items i d0) same) here) in
        wrote key there ∙ ap (λ i. Some i) (sym same)
  ];
}

-- the index of a port is within the table
pub port_index-below : (k s p count : ℕ) → s < count → p < k → port_index k s p < count * k
port_index-below k s p count hs hp = omega (arith, mul-add-lt s k p count hs hp)

pub entry_at-in_range : {X : Type 0} (none : X) (k : ℕ) (table : List X) (s p : ℕ) → p < k → entry_at none k table s p ≡ get_or table (port_index k s p) none
entry_at-in_range none k table s p less = grind (arith, nat_tests)

pub entry_at-out_of_range : {X : Type 0} (none : X) (k : ℕ) (table : List X) (s p : ℕ) → k ≤ p → entry_at none k table s p ≡ none
entry_at-out_of_range none k table s p less = grind (arith, nat_tests)

-- a write at one port is seen there, and nowhere else
pub entry_at-set_same : {X : Type 0} (none : X) (k : ℕ) (table : List X) (s p : ℕ) (v : X) → p < k → port_index k s p < length table →
    entry_at none k (set table (port_index k s p) v) s p ≡ v
entry_at-set_same none k table s p v less within =
    entry_at-in_range none k (set table (port_index k s p) v) s p less ∙ get_or-set_same table (port_index k s p) v none within

pub entry_at-set_other : {X : Type 0} (none : X) (k : ℕ) (table : List X) (s p : ℕ) (v : X) (t q : ℕ) → p < k → ((s ≡ t) × (p ≡ q) → ⊥) →
    entry_at none k (set table (port_index k s p) v) t q ≡ entry_at none k table t q
entry_at-set_other none k table s p v t q less apart = elim (cases_lt q k) [
  | inl below ↦
      let differ : port_index k t q ≢ port_index k s p = (λ e. (let same = same_from_place t q s p k below less e in apart (sym same.0, sym same.1))) in
      entry_at-in_range none k (set table (port_index k s p) v) t q below ∙ get_or-set_other table (port_index k s p) (port_index k t q) v none differ
      ∙ sym (entry_at-in_range none k table t q below)
  | inr above ↦ entry_at-out_of_range none k (set table (port_index k s p) v) t q above ∙ sym (entry_at-out_of_range none k table t q above)
]

-- two numbers and two others
pub same_port : (s p t q : ℕ) → ((s ≡ t) × (p ≡ q)) ⊎ ((s ≡ t) × (p ≡ q) → ⊥)
same_port s p t q = elim (cases_eq s t) [
  | inl e ↦ elim (cases_eq p q) [ inl f ↦ inl (e, f) | inr n ↦ inr (λ h. n h.1) ]
  | inr n ↦ inr (λ h. n h.0)
]

pub cases_IsAt : (link : Link) (s p : ℕ) → IsAt link s p ⊎ (IsAt link s p → ⊥)
cases_IsAt link s p = elim (same_port link.lower.0 link.lower_port s p) [
  | inl low ↦ inl (inl low)
  | inr not_low ↦ elim (same_port link.upper.0 link.upper_port s p) [
    | inl up ↦ inl (inr up)
    | inr not_up ↦ inr (λ h. elim h [ inl low ↦ not_low low | inr up ↦ not_up up ])
  ]
]

-- the ends of a link of the tree are among its switches
pub tree_ends : (k : ℕ) (link : Link) → IsTreeLink k link → (link.lower.0 < switch_count k) × (link.upper.0 < switch_count k)
tree_ends k link tree =
    let low = number_of-below k tree.lower tree.lower_in_range in
    let up = number_of-below k tree.upper tree.upper_in_range in
    (rw tree.joins.0 low, rw tree.joins.1 up)

-- both ends of a link written
abbrev pub with_link : {X : Type 0} → ℕ → List X → Link → X → List X
with_link k table link v =
    set (set table (port_index k link.lower.0 link.lower_port) v) (port_index k link.upper.0 link.upper_port) v

pub wrote_link : {X : Type 0} (none : X) (k : ℕ) (table : List X) (link : Link) (v : X) → length table ≡ switch_count k * k →
    (link.lower.0 < switch_count k) × (link.upper.0 < switch_count k) → (link.lower_port < k) × (link.upper_port < k) →
    (s p : ℕ) → IsAt link s p → entry_at none k (with_link k table link v) s p ≡ v
wrote_link none k table link v long ends ports s p here =
    let low : port_index k link.lower.0 link.lower_port < length table = rw long (port_index-below k link.lower.0 link.lower_port (switch_count k) ends.0 ports.0) in
    let up : port_index k link.upper.0 link.upper_port < length table = rw long (port_index-below k link.upper.0 link.upper_port (switch_count k) ends.1 ports.1) in
    let first = set table (port_index k link.lower.0 link.lower_port) v in
    let up_too : port_index k link.upper.0 link.upper_port < length first = rw length-set up in
    elim (same_port link.upper.0 link.upper_port s p) [
      | inl at_up ↦ rw (← at_up.0, ← at_up.1) (entry_at-set_same none k first link.upper.0 link.upper_port v ports.1 up_too)
      | inr away ↦ elim here [
        | inr at_up ↦ absurd (away at_up)
        | inl at_low ↦
            entry_at-set_other none k first link.upper.0 link.upper_port v s p ports.1 away
            ∙ rw (← at_low.0, ← at_low.1) (entry_at-set_same none k table link.lower.0 link.lower_port v ports.0 low)
      ]
    ]

pub kept_link : {X : Type 0} (none : X) (k : ℕ) (table : List X) (link : Link) (v : X) → (link.lower_port < k) × (link.upper_port < k) →
    (s p : ℕ) → (IsAt link s p → ⊥) → entry_at none k (with_link k table link v) s p ≡ entry_at none k table s p
kept_link none k table link v ports s p away =
    entry_at-set_other none k (set table (port_index k link.lower.0 link.lower_port) v) link.upper.0 link.upper_port v s p ports.1 (λ h. away (inr h))
    ∙ entry_at-set_other none k table link.lower.0 link.lower_port v s p ports.0 (λ h. away (inl h))

pub enter_link : (k m : ℕ) (links : List Link) (table : List (Option ℕ)) (d : Link) → IsFatTree k links → m < length links →
    length table ≡ switch_count k * k → IsIndex (look_at k table) (λ (l : Link) (key : ℕ × ℕ). IsAt l key.0 key.1) links m →
    IsIndex (look_at k (with_link k table (get_or links m d) (Some m))) (λ (l : Link) (key : ℕ × ℕ). IsAt l key.0 key.1) links (m + 1)
enter_link k m links table d tree within long index =
    let ends = tree_ends k (get_or links m d) (tree.no_other m d within) in
    let ports = tree.ports_in_range m d within in
    IsIndex-more (look_at k table) (look_at k (with_link k table (get_or links m d) (Some m))) (λ (l : Link) (key : ℕ × ℕ). IsAt l key.0 key.1)
    links m d within index
    (λ key. cases_IsAt (get_or links m d) key.0 key.1)
    (λ key here. wrote_link None k table (get_or links m d) (Some m) long ends ports key.0 key.1 here)
    (λ key away. kept_link None k table (get_or links m d) (Some m) ports key.0 key.1 away)
    (λ n key less there here. tree.ports_apart n m d less within key.0 key.1 there here)

pub enter_host : (k m : ℕ) (hosts : List Host) (table : List (Option ℕ)) (d : Host) →
    All (λ h. (h.edge.0 < switch_count k) × (h.port < k)) hosts → AllPairs (λ g h. IsAttachedAt g h.edge.0 h.port → ⊥) hosts → m < length hosts →
    length table ≡ switch_count k * k → IsIndex (look_at k table) (λ (h : Host) (key : ℕ × ℕ). IsAttachedAt h key.0 key.1) hosts m →
    IsIndex (look_at k (set table (port_index k (get_or hosts m d).edge.0 (get_or hosts m d).port) (Some m)))
    (λ (h : Host) (key : ℕ × ℕ). IsAttachedAt h key.0 key.1) hosts (m + 1)
enter_host k m hosts table d in_range apart within long index =
    let here = in_range m d within in
    let low : port_index k (get_or hosts m d).edge.0 (get_or hosts m d).port < length table =
    rw long (port_index-below k (get_or hosts m d).edge.0 (get_or hosts m d).port (switch_count k) here.0 here.1) in
    IsIndex-more (look_at k table) (look_at k (set table (port_index k (get_or hosts m d).edge.0 (get_or hosts m d).port) (Some m)))
    (λ (h : Host) (key : ℕ × ℕ). IsAttachedAt h key.0 key.1) hosts m d within index
    (λ key. same_port (get_or hosts m d).edge.0 (get_or hosts m d).port key.0 key.1)
    (λ key at. rw (← at.0, ← at.1) (entry_at-set_same None k table (get_or hosts m d).edge.0 (get_or hosts m d).port (Some m) here.1 low))
    (λ key away. entry_at-set_other None k table (get_or hosts m d).edge.0 (get_or hosts m d).port (Some m) key.0 key.1 here.1 away)
    (λ n key less there now. apart n m d less within (rw (now.0, now.1) there))

-- the indices of a link's ends are within the table
pub link_within : (k m : ℕ) (links : List Link) (d : Link) → IsFatTree k links → m < length links →
    (port_index k (get_or links m d).lower.0 (get_or links m d).lower_port < switch_count k * k)
    × (port_index k (get_or links m d).upper.0 (get_or links m d).upper_port < switch_count k * k)
link_within k m links d tree within =
    let ends = tree_ends k (get_or links m d) (tree.no_other m d within) in
    let ports = tree.ports_in_range m d within in
    (port_index-below k _ _ (switch_count k) ends.0 ports.0, port_index-below k _ _ (switch_count k) ends.1 ports.1)

pub host_within : (k m : ℕ) (hosts : List Host) (host : Host) → All (λ h. (h.edge.0 < switch_count k) × (h.port < k)) hosts → m < length hosts →
    host ≡ get_or hosts m host → port_index k host.edge.0 host.port < switch_count k * k
host_within k m hosts host in_range within is =
    let here = in_range m host within in rw is (port_index-below k _ _ (switch_count k) here.0 here.1)

-- where the table has nothing no item is at the key
pub IsIndex-nothing : {K X : Type 0} (look : K → Option ℕ) (IsAtKey : X → K → Type 0) (items : List X) (key : K) → IsIndex look IsAtKey items (length items) →
    look key ≡ None → All (λ x. IsAtKey x key → ⊥) items
IsIndex-nothing look IsAtKey items key index nothing n d within here =
    let e : None ≡ Some n = sym nothing ∙ index.knows n d key within here in cc
