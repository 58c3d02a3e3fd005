-- The order of addresses is the test for being the same.
use Rattle.std.proofs.Common.{arith, cond, Equal, false, Greater, Less, ltb-true, nat_lt, ne_eqb, refl, sym, true, ℕ, ◌==◌, ◌≡◌}
use Rattle.std.specs.Ordering.{is_eq, nat_cmp}
use Rattle.pl_frame.specs.declared.address.Ip4.{Ip4}
use Rattle.pl_arp.specs.Reception.{same_ip}
use Rattle.pl_node.specs.HostViews.{ip_cmp}

-- a test by the order is a test by the number
pub is_eq-nat_cmp : (a b : ℕ) → is_eq (nat_cmp a b) ≡ (a == b)
is_eq-nat_cmp a b =
    elim (nat_lt a b) as (λ l. nat_lt a b ≡ l → is_eq (cond l Less (cond (a == b) Equal Greater)) ≡ (a == b)) [
      | true ↦ λ h. let lt = ltb-true a b h in sym (ne_eqb a b (λ e. omega arith))
      | false ↦ λ h. elim (a == b) as (λ s. is_eq (cond s Equal Greater) ≡ s) [ true ↦ refl | false ↦ refl ]
    ] refl

pub is_eq-ip_cmp : (a b : Ip4) → is_eq (ip_cmp a b) ≡ same_ip a b
is_eq-ip_cmp a b = is_eq-nat_cmp a.0 b.0
