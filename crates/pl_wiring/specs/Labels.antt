-- The switches of a fat tree of switches with k ports: their labels, label order, and how a label is printed.
use Rattle.std.specs.Prelude.{◌≡◌, ℕ, ◌+◌, ◌-◌, ◌*◌, ◌/◌, ◌%◌, ◌<◌, ◌≤◌, List, ◌++◌, nat_lt, if◌then◌else◌, codes, decimal, refl}
use Rattle.std.specs.Fmt.{digits}
use Rattle.pl_wiring.specs.declared.label.Label.{Label}
use Rattle.pl_wiring.specs.declared.label.Label.TheVariants.{Edge, Aggregation, Core}

-- how many ports a switch may have: an even number from 4 to 24
pub record IsArity (k : ℕ) : Type 0 where
  pub even : k % 2 ≡ 0
  pub least : 4 ≤ k
  pub most : k ≤ 24

-- k pods have k / 2 edge and k / 2 aggregation switches each, and k / 2 groups have k / 2 core switches each
abbrev pub IsLabel : ℕ → Label → Type 0
IsLabel k (Edge pod i) = (pod < k) × (i < k / 2)
IsLabel k (Aggregation pod j) = (pod < k) × (j < k / 2)
IsLabel k (Core group m) = (group < k / 2) × (m < k / 2)

-- the edge switches of all pods; there are as many aggregation switches
abbrev pub edge_count : ℕ → ℕ
edge_count k = k * (k / 2)

abbrev pub switch_count : ℕ → ℕ
switch_count k = edge_count k + edge_count k + k / 2 * (k / 2)

-- label order: the edge switches by pod and number, the aggregation switches by pod and number, the core switches by group and number
abbrev pub number_of : ℕ → Label → ℕ
number_of k (Edge pod i) = pod * (k / 2) + i
number_of k (Aggregation pod j) = edge_count k + (pod * (k / 2) + j)
number_of k (Core group m) = edge_count k + edge_count k + (group * (k / 2) + m)

-- the label at a number of label order
abbrev pub label_of : ℕ → ℕ → Label
label_of k n =
    if nat_lt n (edge_count k) then Edge (n / (k / 2)) (n % (k / 2))
    else if nat_lt n (edge_count k + edge_count k) then Aggregation ((n - edge_count k) / (k / 2)) ((n - edge_count k) % (k / 2))
    else Core ((n - (edge_count k + edge_count k)) / (k / 2)) ((n - (edge_count k + edge_count k)) % (k / 2))

-- as e0.1, a2.0 and c1.1
abbrev pub label_text : Label → List ℕ
label_text (Edge pod i) = codes "e" ++ decimal pod ++ codes "." ++ decimal i
label_text (Aggregation pod j) = codes "a" ++ decimal pod ++ codes "." ++ decimal j
label_text (Core group m) = codes "c" ++ decimal group ++ codes "." ++ decimal m

-- 8 edge, 8 aggregation and 4 core switches at k = 4
twenty_switches : switch_count 4 ≡ 20
twenty_switches = refl

last_edge : number_of 4 (Edge 3 1) ≡ 7
last_edge = refl

first_aggregation : number_of 4 (Aggregation 0 0) ≡ 8
first_aggregation = refl

last_core : number_of 4 (Core 1 1) ≡ 19
last_core = refl

ninth : label_of 4 9 ≡ Aggregation 0 1
ninth = refl

nineteenth : label_of 4 19 ≡ Core 1 1
nineteenth = refl

text_of_edge : label_text (Edge 0 1) ≡ codes "e0.1"
unfolding digits
text_of_edge = refl
