-- The tree that is left of a fat tree: each edge switch with its pod's first aggregation switch, and each of those with the first core switch.
use Rattle.std.specs.Prelude.{◌≡◌, List, [], ◌∷◌, ℕ, ◌==◌, ◌&&◌, ◌||◌, not, Bool, true, false, if◌then◌else◌, Option, Some, None}
use Rattle.pl_wiring.specs.declared.label.Label.{Label}
use Rattle.pl_wiring.specs.declared.label.Label.TheVariants.{Aggregation, Core, Edge}

-- the switch above this one in the tree; none at its root, and at a switch that is not in the tree
abbrev pub parent : Label → Option Label
parent (Edge p i) = Some (Aggregation p 0)
parent (Aggregation p j) = if j == 0 then Some (Core 0 0) else None
parent (Core j m) = None

-- whether a link of the tree leads up from the first to the second
abbrev pub rises : Label → Label → Bool
rises (Edge p i) (Aggregation q j) = (p == q) && (j == 0)
rises (Aggregation p j) (Core g m) = (j == 0) && ((g == 0) && (m == 0))
rises a b = false

-- whether a link of the tree joins the two
abbrev pub is_tree_link : Label → Label → Bool
is_tree_link a b = rises a b || rises b a

abbrev pub is_in_pod : ℕ → Label → Bool
is_in_pod p (Edge q i) = p == q
is_in_pod p (Aggregation q j) = p == q
is_in_pod p (Core j m) = false

abbrev pub is_edge : ℕ → ℕ → Label → Bool
is_edge p i (Edge q l) = (p == q) && (i == l)
is_edge p i (Aggregation q j) = false
is_edge p i (Core j m) = false

-- Whether a switch is at the second switch or behind it, as seen from the first: in the part of the tree to which a link of the tree leads.
-- No other link leads anywhere.
abbrev pub leads_to : Label → Label → Label → Bool
leads_to (Edge p i) (Aggregation q j) x = rises (Edge p i) (Aggregation q j) && not (is_edge p i x)
leads_to (Aggregation p j) (Edge q i) x = rises (Edge q i) (Aggregation p j) && is_edge q i x
leads_to (Aggregation p j) (Core g m) x = rises (Aggregation p j) (Core g m) && not (is_in_pod p x)
leads_to (Core g m) (Aggregation p j) x = rises (Aggregation p j) (Core g m) && is_in_pod p x
leads_to a b x = false

-- a switch of the tree
abbrev pub is_of_tree : Label → Bool
is_of_tree (Edge p i) = true
is_of_tree (Aggregation p j) = j == 0
is_of_tree (Core g m) = (g == 0) && (m == 0)

-- the neighbour of a switch of the tree on the way to another one
abbrev pub towards : Label → Label → Label
towards (Edge p i) x = Aggregation p 0
towards (Aggregation p j) (Edge q i) = if p == q then Edge q i else Core 0 0
towards (Aggregation p j) x = Core 0 0
towards (Core g m) (Edge q i) = Aggregation q 0
towards (Core g m) (Aggregation q j) = Aggregation q 0
towards (Core g m) x = Core 0 0

-- Each switch is linked to the next by a link of the tree, and the way does not turn back.
abbrev pub IsWay : List Label → Type 0
IsWay [] = Unit {0}
IsWay (a ∷ []) = Unit {0}
IsWay (a ∷ b ∷ []) = is_tree_link a b ≡ true
IsWay (a ∷ b ∷ c ∷ more) = (is_tree_link a b ≡ true) × ((a ≡ c → ⊥) × IsWay (b ∷ c ∷ more))

-- where it ends
abbrev pub end_of : Label → List Label → Label
end_of a [] = a
end_of a (b ∷ more) = end_of b more
