-- What one avoid list has and another has not.
use Rattle.std.proofs.Common.{◌≡◌, ℕ, ◌&&◌, ◌++◌, [], codes, map, not, Bool, true, false, Option, List, ◌∙◌, refl, sym, ap, subst}
use Rattle.std.specs.List.{filter}
use Rattle.std.specs.List.Sorted.{IsStrictlySortedBy}
use Rattle.std.specs.Ordering.{is_eq}
use Rattle.std.proofs.lemmas.Bool.{and_parts}
use Rattle.pl_frame.specs.declared.address.SwitchId.{SwitchId}
use Rattle.pl_node.specs.AvoidLists.{avoided_cmp}
use Rattle.pl_node.specs.AvoidRows.{is_listed}
use Rattle.pl_node.specs.ManagerViews.{in_order}
use Rattle.pl_node.proofs.Exports.{among_filter, among_filtered, among_in_order, among_ordered, any_among, avoided_exact, avoided_total, IsAmong, is_itself, is_same, member_passes, rising_in_order, same_rising}
use Rattle.pl_wiring.specs.Plan.{Plan}
use Rattle.pl_log_lines.specs.declared.told.Told.{Told}
use Rattle.pl_watch.specs.News.{avoid_line, left_of, left_over}
use Rattle.pl_log_lines.specs.Pages.{PageView}
use Rattle.pl_log_lines.specs.Telling.{Tells}
use Rattle.pl_log_lines.proofs.Exports.{tells_nothing}

abbrev Avoided : Type 0
Avoided = SwitchId × ℕ × ℕ

listed_among : (x : Avoided) (xs : List Avoided) → is_listed x xs ≡ true → IsAmong x xs
listed_among x xs h =
    let some = member_passes (λ a. is_eq (avoided_cmp x a)) xs h in subst (λ (z : Avoided). IsAmong z xs) (sym (is_same x some.0 some.2)) some.1

among_listed : (x : Avoided) (xs : List Avoided) → IsAmong x xs → is_listed x xs ≡ true
among_listed x xs h = any_among (λ a. is_eq (avoided_cmp x a)) x xs h (is_itself x)

left_passes : (x : Avoided) (list other : List Avoided) → (is_listed x list && not (is_listed x other)) ≡ true →
    IsAmong x (filter (λ a. not (is_listed a other)) list)
left_passes x list other h =
    let both = and_parts (is_listed x list) (not (is_listed x other)) h in
    among_filtered (λ a. not (is_listed a other)) x list (listed_among x list both.0) both.1

pub rest_is : (list other rest : List Avoided) → IsStrictlySortedBy avoided_cmp rest →
    ((x : Avoided) → is_listed x rest ≡ (is_listed x list && not (is_listed x other))) → rest ≡ left_of list other
rest_is list other rest rises each =
    let left : List Avoided = filter (λ a. not (is_listed a other)) list in
    same_rising avoided_cmp avoided_total avoided_exact rest (in_order avoided_cmp left) rises (rising_in_order avoided_cmp avoided_total left)
    (λ x h. among_in_order avoided_cmp avoided_exact x left (left_passes x list other (sym (each x) ∙ among_listed x rest h)))
    (λ x h. let kept = among_filter (λ a. not (is_listed a other)) x list (among_ordered avoided_cmp x left h) in
    listed_among x rest (each x ∙ ap (λ b. b && not (is_listed x other)) (among_listed x list kept.0) ∙ kept.1))

-- a list has nothing that it has not itself
nothing_left : (list : List Avoided) → [] ≡ left_of list list
nothing_left list = rest_is list list [] (rising_in_order avoided_cmp avoided_total []) (λ x. sym (by (is_listed x list)))
  where
    by : (b : Bool) → (b && not b) ≡ false
    by true = refl
    by false = refl

pub same_avoid : (v : PageView) (told : Told) (plan : Plan) (node : Option ℕ) (one other : List Avoided) → one ≡ other →
    Tells v v told told (left_over plan node (codes "+") one other ++ left_over plan node (codes "-") other one)
same_avoid v told plan node one other same =
    subst (λ (xs : List Avoided). Tells v v told told (left_over plan node (codes "+") one xs ++ left_over plan node (codes "-") xs one)) same
    (subst (λ (xs : List Avoided). Tells v v told told (map (avoid_line plan node (codes "+")) xs ++ map (avoid_line plan node (codes "-")) xs)) (nothing_left one)
    (tells_nothing v told))
