-- The order of what is avoided is a total one, and tells items apart.
use Rattle.std.proofs.Common.{◌≡◌, ℕ, Ordering, Less, Equal, Greater, refl, ap}
use Rattle.std.specs.Ordering.{nat_cmp, ordering_then}
use Rattle.std.specs.Cmp.{IsTotalOrder}
use Rattle.std.proofs.lemmas.Cmp.{nat_cmp_total, on_total, then_total}
use Rattle.std.proofs.lemmas.Map.Lookups.{CmpEqualImpliesEq, exact_unsigned}
use Rattle.pl_frame.specs.declared.address.SwitchId.{SwitchId}
use Rattle.pl_node.specs.ManagerViews.{id_cmp}
use Rattle.pl_node.specs.AvoidLists.{avoided_cmp}
use Rattle.pl_node.proofs.Among.{id_total}

pub id_exact : CmpEqualImpliesEq id_cmp
id_exact a b e = ap (λ n. let s : SwitchId = record { 0 = n } in s) (exact_unsigned a.0 b.0 e)

pub avoided_total : IsTotalOrder avoided_cmp
avoided_total = then_total (then_total (on_total (λ (x : SwitchId × ℕ × ℕ). x.0) id_total) (on_total (λ (x : SwitchId × ℕ × ℕ). x.1) nat_cmp_total))
    (on_total (λ (x : SwitchId × ℕ × ℕ). x.2) nat_cmp_total)

pub both_equal : (a b : Ordering) → ordering_then a b ≡ Equal → (a ≡ Equal) × (b ≡ Equal)
both_equal Less b e = cc
both_equal Equal b e = (refl, e)
both_equal Greater b e = cc

pub avoided_exact : CmpEqualImpliesEq avoided_cmp
avoided_exact x y e =
    let two = both_equal (ordering_then (id_cmp x.0 y.0) (nat_cmp x.1 y.1)) (nat_cmp x.2 y.2) e in
    let one = both_equal (id_cmp x.0 y.0) (nat_cmp x.1 y.1) two.0 in
    let u = id_exact x.0 y.0 one.0 in let p = exact_unsigned x.1 y.1 one.1 in let q = exact_unsigned x.2 y.2 two.1 in
    λ i. (u i, p i, q i)
