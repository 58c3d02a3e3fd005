-- A candidate is a port that is usable.
use Rattle.std.proofs.Common.{Bool, false, not, true, ℕ, ◌≡◌}
use Rattle.std.proofs.lemmas.Bool.{and_parts, cond_both, false≢true}
use Rattle.pl_pmac.specs.declared.pmac.Pmac.{Pmac}
use Rattle.pl_layouts.specs.Placement.{is_known}
use Rattle.pl_node.specs.SwitchViews.{SwitchView}
use Rattle.pl_node.specs.PortRecords.{is_usable, is_usable_to, place_at}
use Rattle.pl_node.specs.SwitchFacts.{is_avoided}
use Rattle.pl_switch_rule.specs.Forwarding.{is_candidate, leads_from_aggregation, leads_from_core, leads_from_edge, leads_to_position, leads_up}
use Rattle.pl_switch_rule.specs.declared.came.Came.{Came}
use Rattle.pl_switch_rule.specs.declared.came.Came.TheVariants.{FromAbove, FromBelow, FromHost}
use Rattle.pl_switch_rule.specs.Granting.{is_local}

pub usable_to : (v : SwitchView) (n p : ℕ) → is_usable_to v n p ≡ true → is_usable v p ≡ true
usable_to v n p is = (and_parts (is_usable v p) (is_known (place_at v p).level n) is).0

pub usable_up : (v : SwitchView) (n : ℕ) (to : Pmac) (p : ℕ) → leads_up v n to p ≡ true → is_usable v p ≡ true
usable_up v n to p is = usable_to v n p ((and_parts (is_usable_to v n p) (not (is_avoided v _ to.pod to.position)) is).0)

pub usable_position : (v : SwitchView) (to : Pmac) (p : ℕ) → leads_to_position v to p ≡ true → is_usable v p ≡ true
usable_position v to p is = usable_to v 0 p ((and_parts (is_usable_to v 0 p) (is_known (place_at v p).position to.position) is).0)

pub usable_from_edge : (v : SwitchView) (to : Pmac) (came : Came) (p : ℕ) → leads_from_edge v to came p ≡ true → is_usable v p ≡ true
usable_from_edge v to FromHost p is = usable_up v 1 to p ((and_parts (not (is_local v to)) (leads_up v 1 to p) is).1)
usable_from_edge v to FromBelow p is = absurd (false≢true is)
usable_from_edge v to FromAbove p is = absurd (false≢true is)

pub usable_from_aggregation : (v : SwitchView) (to : Pmac) (came : Came) (p : ℕ) → leads_from_aggregation v to came p ≡ true → is_usable v p ≡ true
usable_from_aggregation v to FromHost p is = absurd (false≢true is)
usable_from_aggregation v to FromBelow p is =
    cond_both (is_known v.place.pod to.pod) (leads_to_position v to p) (leads_up v 2 to p) (λ b. b ≡ true → is_usable v p ≡ true)
    (λ own. usable_position v to p) (λ other. usable_up v 2 to p) is
usable_from_aggregation v to FromAbove p is = usable_position v to p ((and_parts (is_known v.place.pod to.pod) (leads_to_position v to p) is).1)

pub usable_from_core : (v : SwitchView) (to : Pmac) (came : Came) (p : ℕ) → leads_from_core v to came p ≡ true → is_usable v p ≡ true
usable_from_core v to FromHost p is = absurd (false≢true is)
usable_from_core v to FromBelow p is = usable_to v 1 p ((and_parts (is_usable_to v 1 p) (is_known (place_at v p).pod to.pod) is).0)
usable_from_core v to FromAbove p is = absurd (false≢true is)

-- a candidate is usable
pub candidate_usable : (v : SwitchView) (to : Pmac) (came : Came) (p : ℕ) → is_candidate v to came p ≡ true → is_usable v p ≡ true
candidate_usable v to came p is =
    let P : Bool → Type 0 = λ b. b ≡ true → is_usable v p ≡ true in
    cond_both (is_known v.place.level 0) (leads_from_edge v to came p) _ P (λ e. usable_from_edge v to came p)
    (λ e. cond_both (is_known v.place.level 1) (leads_from_aggregation v to came p) _ P (λ f. usable_from_aggregation v to came p)
    (λ f. cond_both (is_known v.place.level 2) (leads_from_core v to came p) false P (λ h. usable_from_core v to came p) (λ h n. absurd (false≢true n)))) is
