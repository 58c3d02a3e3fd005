-- The wiring of a fat tree (Al-Fares, Loukissas and Vahdat, SIGCOMM 2008), as a property of its links.
use Rattle.std.specs.Prelude.{◌≡◌, ℕ, ◌+◌, ◌*◌, ◌/◌, ◌%◌, ◌<◌, ◌⊎◌, List, length, map, All, AllPairs, Contains, slice_index_or, refl}
use Rattle.std.specs.List.{range_with_len}
use Rattle.pl_wiring.specs.declared.label.Label.{Label}
use Rattle.pl_wiring.specs.declared.label.Label.TheVariants.{Edge, Aggregation, Core}
use Rattle.pl_wiring.specs.declared.link.Link.{Link}
use Rattle.pl_wiring.specs.Labels.{IsLabel, edge_count, number_of, label_of}

-- an edge switch is below each aggregation switch of its pod, an aggregation switch below each core switch of the group of its number
abbrev pub IsBelow : Label → Label → Type 0
IsBelow (Edge pod i) (Aggregation q j) = pod ≡ q
IsBelow (Aggregation pod j) (Core group m) = j ≡ group
IsBelow _ _ = ⊥

-- the link joins the first switch, its lower end, to the second
abbrev pub Joins : ℕ → Link → Label → Label → Type 0
Joins k link lower upper = (link.lower.0 ≡ number_of k lower) × (link.upper.0 ≡ number_of k upper)

-- the link has an end at this port of this switch
abbrev pub IsAt : Link → ℕ → ℕ → Type 0
IsAt link switch port =
    ((link.lower.0 ≡ switch) × (link.lower_port ≡ port)) ⊎ ((link.upper.0 ≡ switch) × (link.upper_port ≡ port))

-- a link of the tree
pub record IsTreeLink (k : ℕ) (link : Link) : Type 0 where
  pub lower : Label
  pub upper : Label
  pub lower_in_range : IsLabel k lower
  pub upper_in_range : IsLabel k upper
  pub below : IsBelow lower upper
  pub joins : Joins k link lower upper

pub record IsFatTree (k : ℕ) (links : List Link) : Type 0 where
  -- each switch is linked to each that it is below,
  pub linked : (lower upper : Label) → IsLabel k lower → IsLabel k upper → IsBelow lower upper →
      (link : Link) × Contains links link × Joins k link lower upper
  -- once,
  pub once : AllPairs (λ l m. (l.lower ≡ m.lower) × (l.upper ≡ m.upper) → ⊥) links
  -- and there is no other link
  pub no_other : All (IsTreeLink k) links
  pub ports_in_range : All (λ l. (l.lower_port < k) × (l.upper_port < k)) links
  -- no port of a switch is in two links
  pub ports_apart : AllPairs (λ l m. (switch port : ℕ) → IsAt l switch port → IsAt m switch port → ⊥) links

-- the switch above this one that has this number among those above
abbrev pub above : Label → ℕ → Label
above (Edge pod i) x = Aggregation pod x
above (Aggregation pod j) x = Core j x
above (Core group m) x = Core group m

-- the number of a switch among those below one that it is linked to
abbrev pub number_below : Label → ℕ
number_below (Edge pod i) = i
number_below (Aggregation pod j) = pod
number_below (Core group m) = m

-- each switch but the core switches has k / 2 links to those above
abbrev pub link_count : ℕ → ℕ
link_count k = (edge_count k + edge_count k) * (k / 2)

-- link order: the links by their lower switch, then by their upper one. The lower and the upper switch of link n:
abbrev pub lower_at : ℕ → ℕ → ℕ
lower_at k n = n / (k / 2)

abbrev pub upper_at : ℕ → ℕ → ℕ
upper_at k n = number_of k (above (label_of k (n / (k / 2))) (n % (k / 2)))

pub record IsInLinkOrder (k : ℕ) (links : List Link) : Type 0 where
  pub many : length links ≡ link_count k
  pub lower : (n : ℕ) (d : Link) → n < link_count k → (slice_index_or links n d).lower.0 ≡ lower_at k n
  pub upper : (n : ℕ) (d : Link) → n < link_count k → (slice_index_or links n d).upper.0 ≡ upper_at k n

-- the canonical link n: port k / 2 + x of the lower switch joins the upper switch x above it, at the port that is the lower one's number among those below
abbrev pub canonical_link : ℕ → ℕ → Link
canonical_link k n = record {
  lower = record { 0 = lower_at k n };
  lower_port = k / 2 + n % (k / 2);
  upper = record { 0 = upper_at k n };
  upper_port = number_below (label_of k (n / (k / 2)));
}

abbrev pub canonical_links : ℕ → List Link
canonical_links k = map (canonical_link k) (range_with_len 0 (link_count k))

many_at_four : link_count 4 ≡ 32
many_at_four = refl

-- port 3 of e0.0 joins port 0 of a0.1
second_link : canonical_link 4 1 ≡ record { lower = record { 0 = 0 }; lower_port = 3; upper = record { 0 = 9 }; upper_port = 0 }
second_link = refl

-- port 2 of a3.1 joins port 3 of c1.0
last_but_one : canonical_link 4 30 ≡ record { lower = record { 0 = 15 }; lower_port = 2; upper = record { 0 = 18 }; upper_port = 3 }
last_but_one = refl
