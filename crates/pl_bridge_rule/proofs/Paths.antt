-- From each switch of the tree to each other one leads one way.
use Rattle.std.proofs.Common.{◌≡◌, ◌⊎◌, Some, true, List, [], ◌∷◌, refl, sym, ap, ◌∙◌, subst, arith}
use Rattle.std.proofs.lemmas.Bool.{false≢true}
use Rattle.std.proofs.lemmas.Bool.Decides.{nat_tests}
use Rattle.pl_wiring.specs.declared.label.Label.{Label}
use Rattle.pl_bridge_rule.specs.Tree.{IsWay, end_of, is_tree_link, is_of_tree, leads_to, parent, rises, towards}
use Rattle.pl_bridge_rule.proofs.Apart.{apart, not_here, within}

-- a link of the tree leads to its other end
pub joined_leads : (a b : Label) → is_tree_link a b ≡ true → leads_to a b b ≡ true
joined_leads a b is = grind (arith, nat_tests)

-- and it is one from its other end too
pub either_way : (a b : Label) → is_tree_link a b ≡ true → is_tree_link b a ≡ true
either_way a b is = grind (arith, nat_tests)

-- a link of the tree is one between a switch and the one above it
pub joined_by_parent : (a b : Label) → is_tree_link a b ≡ true → (parent a ≡ Some b) ⊎ (parent b ≡ Some a)
joined_by_parent a b is = grind (arith, nat_tests)

pub parent_joins : (a b : Label) → parent a ≡ Some b → rises a b ≡ true
parent_joins a b is = grind (arith, nat_tests)

first_leads : (a b : Label) (more : List Label) → IsWay (a ∷ b ∷ more) → leads_to a b (end_of b more) ≡ true
first_leads a b [] way = joined_leads a b way
first_leads a b (c ∷ more) way = within a b c (end_of c more) (first_leads b c more way.1.1) way.1.0 (joined_leads a b way.0)

rest_is_way : (a b : Label) (more : List Label) → IsWay (a ∷ b ∷ more) → IsWay (b ∷ more)
rest_is_way a b [] way = tt
rest_is_way a b (c ∷ more) way = way.1.1

-- two ways between the same switches are one
pub one_way : (a : Label) (p q : List Label) → IsWay (a ∷ p) → IsWay (a ∷ q) → end_of a p ≡ end_of a q → p ≡ q
one_way a [] [] one other same = refl
one_way a [] (c ∷ q) one other same = absurd (false≢true (sym (not_here a c) ∙ ap (leads_to a c) same ∙ first_leads a c q other))
one_way a (b ∷ p) [] one other same = absurd (false≢true (sym (not_here a b) ∙ ap (leads_to a b) (sym same) ∙ first_leads a b p one))
one_way a (b ∷ p) (c ∷ q) one other same =
    let next : b ≡ c = apart a b c (end_of b p) (first_leads a b p one) (ap (leads_to a c) same ∙ first_leads a c q other) in
    let rest : p ≡ q = one_way b p q (rest_is_way a b p one) (subst (λ n. IsWay (n ∷ q)) (sym next) (rest_is_way a c q other))
    (same ∙ ap (λ n. end_of n q) (sym next)) in
    ap (λ n. n ∷ p) next ∙ ap (λ more. c ∷ more) rest

-- and there is one: each step leads nearer
pub leads_towards : (a x : Label) → is_of_tree a ≡ true → is_of_tree x ≡ true → (a ≡ x → ⊥) → leads_to a (towards a x) x ≡ true
leads_towards a x one other apart_from = grind (arith, nat_tests)
