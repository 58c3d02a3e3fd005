-- The votes on positions keep the shape of a switch.
use Rattle.std.proofs.Common.{◌+◌, ◌%◌, ◌==◌, nat_lt, ℕ, if◌then◌else◌, [], Option, Some, None, slice_set}
use Rattle.std.specs.BTreeSet.{insert_key}
use Rattle.std.specs.Ordering.{nat_cmp}
use Rattle.std.proofs.lemmas.List.{length-set}
use Rattle.pl_frame.specs.declared.address.SwitchId.{SwitchId}
use Rattle.pl_layouts.specs.declared.control.Vote.{Vote}
use Rattle.pl_layouts.specs.declared.place.Place.{Place}
use Rattle.pl_node.specs.Accounting.{IsShaped}
use Rattle.pl_switch_rule.specs.Positions.{after_vote, counted, fixes_position, freed_but, frees_others, half, holds_for, is_majority, kept_or_new, marked_for, marks, moves_on, notes_position, with_granted}
use Rattle.pl_node.specs.SwitchFacts.{hold_at}
use Rattle.pl_layouts.specs.Votes.{counts, gives_way}
use Rattle.pl_node.specs.SwitchViews.{SwitchView}
use Rattle.pl_switch_rule.proofs.StepParts.{IsSame, same_then}
use Rattle.pl_switch_rule.proofs.Shapes.{same_but, same_self, same_with_holds}
use Rattle.pl_switch_rule.proofs.QuietActs.{same_either}
use Rattle.pl_switch_rule.proofs.Lengths.{length_freed}

pub same_frees_others : (v : SwitchView) (edge : SwitchId) (position : ℕ) → IsShaped v → IsSame v (frees_others v edge position)
same_frees_others v edge position s = same_with_holds v (freed_but position edge 0 v.holds) s (length_freed position edge 0 v.holds)

pub same_holds_for : (v : SwitchView) (edge : SwitchId) (position : ℕ) → IsShaped v → IsSame v (holds_for v edge position)
same_holds_for v edge position s =
    let hold = kept_or_new edge (hold_at v position) in
    same_with_holds v (slice_set v.holds position hold) s (length-set v.holds position hold)

pub same_marks : (v : SwitchView) (edge : SwitchId) (position : ℕ) → IsShaped v → IsSame v (marks v edge position)
same_marks v edge position s =
    let hold = marked_for edge (hold_at v position) in
    same_with_holds v (slice_set v.holds position hold) s (length-set v.holds position hold)

pub same_notes_position : (v : SwitchView) (edge : SwitchId) (position : Option ℕ) → IsShaped v → IsSame v (notes_position v edge position)
same_notes_position v edge None s = same_self v s
same_notes_position v edge (Some position) s =
    let freed = frees_others v edge position in
    let first = same_frees_others v edge position s in
    same_either v (nat_lt position (half v.k)) (marks freed edge position) v
    (same_then v freed (marks freed edge position) first (same_marks freed edge position first.shaped)) (same_self v s)

-- where a switch stands may change, and what it proposes
pub same_with_place : (v : SwitchView) (place : Place) → IsShaped v → IsSame v (record v { place = place })
same_with_place v place s = same_but v place v.attempt v.proposed v.granted v.members s

same_fixes : (v : SwitchView) → IsShaped v → IsSame v (fixes_position v)
same_fixes v s = same_with_place v (record v.place { position = if is_majority v then Some v.proposed else v.place.position }) s

same_with_granted : (v : SwitchView) (port : ℕ) → IsShaped v → IsSame v (with_granted v port)
same_with_granted v port s = same_but v v.place v.attempt v.proposed (insert_key nat_cmp v.granted port) v.members s

same_moves_on : (v : SwitchView) → IsShaped v → IsSame v (moves_on v)
same_moves_on v s =
    let next : SwitchView = record v { attempt = v.attempt + 1; proposed = (v.proposed + 1) % half v.k; granted = [] } in
    same_either v (v.attempt == 4294967295) v next (same_self v s) (same_but v v.place (v.attempt + 1) ((v.proposed + 1) % half v.k) [] v.members s)

same_counted : (v : SwitchView) (port : ℕ) (vote : Vote) → IsShaped v → IsSame v (counted v port vote)
same_counted v port vote s =
    let granted = with_granted v port in
    let first = same_with_granted v port s in
    let stays = if◌then◌else◌ {A = SwitchView} (gives_way v.id vote) (moves_on v) v in
    same_either v vote.granted (fixes_position granted) stays (same_then v granted (fixes_position granted) first (same_fixes granted first.shaped))
    (same_either v (gives_way v.id vote) (moves_on v) v (same_moves_on v s) (same_self v s))

pub same_after_vote : (v : SwitchView) (port : ℕ) (vote : Vote) → IsShaped v → IsSame v (after_vote v port vote)
same_after_vote v port vote s = same_either v (counts v.place v.attempt v.proposed vote) (counted v port vote) v (same_counted v port vote s) (same_self v s)
