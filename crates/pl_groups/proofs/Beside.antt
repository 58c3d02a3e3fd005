-- Parts in the order of their switches.
use Rattle.std.proofs.Common.{◌≡◌, ◌∙◌, ◌||◌, ℕ, zero, suc, Bool, true, false, cond, List, [], ◌∷◌, map, Option, Some, None, Less, refl, sym, ap}
use Rattle.std.specs.Prelude.{slice_get}
use Rattle.std.specs.List.{list_any}
use Rattle.std.specs.List.Sorted.{IsStrictlySortedBy}
use Rattle.std.specs.Option.{option_and_then}
use Rattle.std.proofs.lemmas.Bool.{or_parts}
use Rattle.pl_frame.specs.declared.address.SwitchId.{SwitchId}
use Rattle.pl_layouts.specs.Equality.{same_switch}
use Rattle.pl_layouts.proofs.Exports.{switch_itself}
use Rattle.pl_node.specs.declared.messages.TreePart.{TreePart}
use Rattle.pl_node.specs.ManagerViews.{id_cmp}
use Rattle.pl_node.proofs.Exports.{got_among, holds_of}
use Rattle.pl_manager_rule.proofs.Exports.{same_is, switch_turned}
use Rattle.pl_groups.specs.Kept.{part_beside}
use Rattle.pl_groups.proofs.Marked.{apart}

-- a part for each of some switches
pub beside_mapped : (f : SwitchId → Option TreePart) (xs : List SwitchId) (s : SwitchId) →
    part_beside xs (map f xs) s ≡ cond (list_any (same_switch s) xs) (f s) None
beside_mapped f [] s = refl
beside_mapped f (x ∷ xs) s = by (beside_mapped f xs s) (same_switch x s) refl
  where
    by : part_beside xs (map f xs) s ≡ cond (list_any (same_switch s) xs) (f s) None → (b : Bool) → same_switch x s ≡ b → cond b (f x) (part_beside xs (map f xs) s) ≡ cond (same_switch s x || list_any (same_switch s) xs) (f s) None
    by rest true same =
        ap f (same_is x s same) ∙ sym (ap (λ b. cond (b || list_any (same_switch s) xs) (f s) None) (switch_turned s x ∙ same))
    by rest false other =
        rest ∙ sym (ap (λ b. cond (b || list_any (same_switch s) xs) (f s) None) (switch_turned s x ∙ other))

-- none of a switch that is not among them
pub beside_none : (xs : List SwitchId) (parts : List (Option TreePart)) (s : SwitchId) → list_any (same_switch s) xs ≡ false → part_beside xs parts s ≡ None
beside_none [] parts s none = refl
beside_none (x ∷ xs) [] s none = refl
beside_none (x ∷ xs) (part ∷ parts) s none =
    let two = or_parts (same_switch s x) (list_any (same_switch s) xs) none in
    ap (λ b. cond b part (part_beside xs parts s)) (switch_turned x s ∙ two.0) ∙ beside_none xs parts s two.1

-- that of a switch that stands at this index
pub beside_at : (xs : List SwitchId) (parts : List (Option TreePart)) (s : SwitchId) (at : ℕ) → IsStrictlySortedBy id_cmp xs → slice_get xs at ≡ Some s →
    part_beside xs parts s ≡ option_and_then (λ part. part) (slice_get parts at)
unfolding IsStrictlySortedBy
beside_at [] parts s zero sorted found = let none : None ≡ Some s = found in absurd (cc)
beside_at [] parts s (suc n) sorted found = let none : None ≡ Some s = found in absurd (cc)
beside_at (x ∷ xs) [] s zero sorted found = refl
beside_at (x ∷ xs) [] s (suc n) sorted found = refl
beside_at (x ∷ xs) (part ∷ parts) s zero sorted found =
    let some : Some x ≡ Some s = found in
    let is : x ≡ s = cc in
    ap (λ b. cond b part (part_beside xs parts s)) (ap (λ z. same_switch z s) is ∙ switch_itself s)
beside_at (x ∷ xs) (part ∷ parts) s (suc n) sorted found =
    ap (λ b. cond b part (part_beside xs parts s)) (apart x s (holds_of (λ z. id_cmp x z ≡ Less) s xs sorted.0 (got_among xs n s found)))
    ∙ beside_at xs parts s n sorted.1 found

pub none_beside : (xs : List SwitchId) (parts : List (Option TreePart)) (s : SwitchId) → parts ≡ [] → part_beside xs parts s ≡ None
none_beside xs parts s none = ap (λ ps. part_beside xs ps s) none ∙ by xs
  where
    by : (ys : List SwitchId) → part_beside ys [] s ≡ None
    by [] = refl
    by (y ∷ ys) = refl
