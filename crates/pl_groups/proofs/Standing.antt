-- Where a switch stands in a list that rises.
use Rattle.std.proofs.Common.{◌≡◌, ◌∙◌, ◌||◌, ℕ, zero, suc, ◌+◌, ◌-◌, ◌<◌, ◌≤◌, Bool, true, false, List, [], ◌∷◌, length, get_or, Some, refl, sym, ap, subst, arith}
use Rattle.std.specs.declared.cmp.Ordering.{Ordering}
use Rattle.std.specs.declared.cmp.Ordering.TheVariants.{Less, Equal, Greater}
use Rattle.std.specs.Ordering.{ordering_index}
use Rattle.std.specs.List.{AllByRecursion, HoldsAt, insert, list_any, slice_get}
use Rattle.std.specs.List.Sorted.{IsStrictlySortedBy}
use Rattle.std.specs.BTreeSet.{insert_key}
use Rattle.std.proofs.lemmas.List.Edits.{length-insert}
use Rattle.std.proofs.lemmas.Option.{get_or_from_slice_get, slice_get-get_or, slice_get_within}
use Rattle.pl_frame.specs.declared.address.SwitchId.{SwitchId}
use Rattle.pl_layouts.specs.Equality.{same_switch}
use Rattle.pl_node.specs.ManagerViews.{id_cmp}
use Rattle.pl_node.proofs.Exports.{id_total, IsAmong, member_passes}
use Rattle.pl_manager_rule.proofs.Exports.{id_exact, same_is, switch_turned}
use Rattle.pl_reports.proofs.Exports.{insert_nothing}
use Rattle.pl_groups.proofs.Marked.{apart}

pub found_there : (list : List SwitchId) (x : SwitchId) (i : ℕ) → i < length list → HoldsAt (λ y. id_cmp y x ≡ Equal) list i → slice_get list i ≡ Some x
found_there list x i within at = slice_get-get_or list i x within ∙ ap Some (id_exact (get_or list i x) x (at x))

-- a switch for which there is a gap is not there
pub missing_there : (list : List SwitchId) (x : SwitchId) (i : ℕ) → IsStrictlySortedBy id_cmp list → i ≤ length list → insert list i x ≡ insert_key id_cmp list x →
    list_any (same_switch x) list ≡ false
missing_there list x i sorted within put = by (list_any (same_switch x) list) refl
  where
    by : (b : Bool) → list_any (same_switch x) list ≡ b → b ≡ false
    by false e = refl
    by true e =
        let one = member_passes (same_switch x) list e in
        let among : IsAmong x list = subst (λ z. IsAmong z list) (sym (same_is x one.0 one.2)) one.1 in
        let same : length (insert list i x) ≡ length list = ap length (put ∙ insert_nothing list x sorted among) in
        let longer : length (insert list i x) ≡ length list + 1 = length-insert list i x within in
        absurd (omega (arith, same, longer))

-- ---- a switch above the last one is not there
all_below : (x : SwitchId) (xs : List SwitchId) (n : ℕ) (d : SwitchId) → IsStrictlySortedBy id_cmp xs → n + 1 ≡ length xs → id_cmp (get_or xs n d) x ≡ Less →
    AllByRecursion (λ y. id_cmp y x ≡ Less) xs
unfolding IsStrictlySortedBy
all_below x [] n d sorted many last = tt
all_below x (y ∷ []) zero d sorted many last = (last, tt)
all_below x (y ∷ []) (suc n) d sorted many last = absurd (omega arith)
all_below x (y ∷ z ∷ zs) zero d sorted many last = absurd (omega arith)
all_below x (y ∷ z ∷ zs) (suc n) d sorted many last =
    let rest = all_below x (z ∷ zs) n d sorted.1 (omega arith) last in (id_total.trans y z x sorted.0.0 rest.0, rest)

none_below : (x : SwitchId) (ys : List SwitchId) → AllByRecursion (λ y. id_cmp y x ≡ Less) ys → list_any (same_switch x) ys ≡ false
none_below x [] h = refl
none_below x (y ∷ ys) h = ap (λ b. b || list_any (same_switch x) ys) (switch_turned x y ∙ apart y x h.0) ∙ none_below x ys h.1

is_less : (r : Ordering) → ordering_index r ≡ 0 → r ≡ Less
is_less Less e = refl
is_less Equal e = absurd (omega (arith, e))
is_less Greater e = absurd (omega (arith, e))

pub none_above_last : (x last : SwitchId) (xs : List SwitchId) (r : Ordering) → IsStrictlySortedBy id_cmp xs → Some last ≡ slice_get xs (length xs - 1) →
    r ≡ id_cmp last x → ordering_index r ≡ 0 → list_any (same_switch x) xs ≡ false
none_above_last x last xs r sorted at ranked less =
    let within = slice_get_within xs (length xs - 1) last (sym at) in
    let is = get_or_from_slice_get xs (length xs - 1) last last (sym at) in
    none_below x xs (all_below x xs (length xs - 1) last sorted (omega (arith, within)) (ap (λ y. id_cmp y x) is ∙ sym ranked ∙ is_less r less))
