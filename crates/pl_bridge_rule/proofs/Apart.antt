-- The links of the tree at one switch lead apart.
use Rattle.std.proofs.Common.{◌≡◌, true, false, refl, arith}
use Rattle.std.proofs.lemmas.Bool.Decides.{nat_tests}
use Rattle.pl_wiring.specs.declared.label.Label.{Label}
use Rattle.pl_wiring.specs.declared.label.Label.TheVariants.{Aggregation, Core, Edge}
use Rattle.pl_bridge_rule.specs.Tree.{leads_to}

-- not back to where one stands
pub not_here : (v w : Label) → leads_to v w v ≡ false
not_here (Edge p i) (Aggregation q j) = grind (arith, nat_tests)
not_here (Aggregation p j) (Edge q i) = grind (arith, nat_tests)
not_here (Aggregation p j) (Core g m) = grind (arith, nat_tests)
not_here (Core g m) (Aggregation p j) = grind (arith, nat_tests)
not_here (Edge p i) (Edge q j) = refl
not_here (Edge p i) (Core g m) = refl
not_here (Aggregation p j) (Aggregation q i) = refl
not_here (Core g m) (Edge q i) = refl
not_here (Core g m) (Core h n) = refl

-- what is behind two neighbours is behind one neighbour
pub apart : (v t u x : Label) → leads_to v t x ≡ true → leads_to v u x ≡ true → t ≡ u
apart (Edge p i) (Aggregation q j) (Aggregation r l) x a b = grind (arith, nat_tests)
apart (Aggregation p j) (Edge q i) (Edge r l) (Edge y z) a b = grind (arith, nat_tests)
apart (Aggregation p j) (Edge q i) (Core g m) (Edge y z) a b = grind (arith, nat_tests)
apart (Aggregation p j) (Core g m) (Edge q i) (Edge y z) a b = grind (arith, nat_tests)
apart (Aggregation p j) (Core g m) (Core h n) x a b = grind (arith, nat_tests)
apart (Core g m) (Aggregation p j) (Aggregation q i) (Edge y z) a b = grind (arith, nat_tests)
apart (Core g m) (Aggregation p j) (Aggregation q i) (Aggregation y z) a b = grind (arith, nat_tests)
apart v t u x a b = grind (arith, nat_tests)

-- A frame that came from u to v goes on to no switch that it could not come to from u.
pub within : (u v w x : Label) → leads_to v w x ≡ true → (u ≡ w → ⊥) → leads_to u v v ≡ true → leads_to u v x ≡ true
within u v w x a other adjacent = grind (arith, nat_tests)
