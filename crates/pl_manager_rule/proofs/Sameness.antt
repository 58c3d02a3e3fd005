-- The fabric manager's tests of lists and parts tell just those apart that differ.
use Rattle.std.proofs.Common.{◌≡◌, ℕ, ◌↔◌, true, List, Option, Some, None, refl, ap, subst}
use Rattle.std.specs.Ordering.{eq_by_cmp, is_eq}
use Rattle.std.specs.Cmp.{Equal-is}
use Rattle.std.specs.Cmp.Lexicographic.{pointwise, pointwise_decides}
use Rattle.std.proofs.lemmas.Bool.{and_from, and_parts, false≢true}
use Rattle.std.proofs.lemmas.Cmp.{tied_itself}
use Rattle.pl_frame.specs.declared.address.SwitchId.{SwitchId}
use Rattle.pl_node.specs.declared.messages.TreePart.{TreePart}
use Rattle.pl_layouts.specs.Equality.{same_switch}
use Rattle.pl_layouts.proofs.Exports.{switch_itself}
use Rattle.pl_node.specs.AvoidLists.{avoided_cmp}
use Rattle.pl_manager_rule.specs.ManagerRule.{same_avoid_list, same_part, same_up}
use Rattle.pl_manager_rule.proofs.Avoided.{same_is}
use Rattle.pl_node.proofs.Exports.{avoided_exact, avoided_total}

pub avoid_lists_alike : (xs ys : List (SwitchId × ℕ × ℕ)) → (same_avoid_list xs ys ≡ true) ↔ (xs ≡ ys)
avoid_lists_alike = pointwise_decides (λ x y.
    (λ e. avoided_exact x y ((Equal-is (avoided_cmp x y)).0 e), λ e. subst (λ z. eq_by_cmp avoided_cmp x z ≡ true) e (ap is_eq (tied_itself avoided_total x))))

pub ids_alike : (xs ys : List SwitchId) → (pointwise same_switch xs ys ≡ true) ↔ (xs ≡ ys)
ids_alike = pointwise_decides (λ x y. (λ e. same_is x y e, λ e. subst (λ z. same_switch x z ≡ true) e (switch_itself x)))

ups_same : (a b : Option SwitchId) → same_up a b ≡ true → a ≡ b
ups_same None None e = refl
ups_same (Some a) (Some b) e = ap Some (same_is a b e)
ups_same None (Some b) e = absurd (false≢true e)
ups_same (Some a) None e = absurd (false≢true e)

up_itself : (a : Option SwitchId) → same_up a a ≡ true
up_itself None = refl
up_itself (Some a) = switch_itself a

parts_same : (x y : Option TreePart) → same_part x y ≡ true → x ≡ y
parts_same None None e = refl
parts_same (Some x) (Some y) e =
    let two = and_parts (same_up x.up y.up) (pointwise same_switch x.down y.down) e in
    let up = ups_same x.up y.up two.0 in let down = (ids_alike x.down y.down).0 two.1 in
    λ i. Some (record { up = up i; down = down i })
parts_same None (Some y) e = absurd (false≢true e)
parts_same (Some x) None e = absurd (false≢true e)

part_itself : (x : Option TreePart) → same_part x x ≡ true
part_itself None = refl
part_itself (Some x) = and_from (same_up x.up x.up) (pointwise same_switch x.down x.down) (up_itself x.up) ((ids_alike x.down x.down).1 refl)

pub parts_alike : (x y : Option TreePart) → (same_part x y ≡ true) ↔ (x ≡ y)
parts_alike x y = (parts_same x y, λ e. subst (λ z. same_part x z ≡ true) e (part_itself x))
