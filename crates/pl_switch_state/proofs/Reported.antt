-- What the parts of a switch tell of themselves, one after the other, is its report.
use Rattle.std.proofs.Common.{◌≡◌, ℕ, List, [], ◌∷◌, ◌++◌, Option, sym, ap, ◌∙◌, append_assoc}
use Rattle.std.proofs.lemmas.List.{map-append}
use Rattle.pl_frame.specs.declared.address.SwitchId.{SwitchId}
use Rattle.pl_node.specs.declared.acts.Act.{Act}
use Rattle.pl_node.specs.declared.acts.Act.TheVariants.{Tell}
use Rattle.pl_node.specs.declared.messages.ToManager.{ToManager}
use Rattle.pl_node.specs.declared.messages.ToManager.TheVariants as tell
use Rattle.pl_node.specs.declared.messages.TreePart.{TreePart}
use Rattle.pl_node.specs.declared.switch_records.Hold.{Hold}
use Rattle.pl_node.specs.SwitchViews.{SwitchView}
use Rattle.pl_switch_rule.specs.Reporting.{addresses_reported, each_told, groups_reported, members_reported, own_reported, report_for}
use Rattle.pl_position.specs.Candidacy.{Candidacy}
use Rattle.pl_ports.specs.PortsViews.{PortsView, put_ports}
use Rattle.pl_edge.specs.EdgeViews.{EdgeView, edge_in, place_by}
use Rattle.pl_switch_state.specs.StateViews.{state_view}
use Rattle.pl_switch_state.proofs.Settled.{edge_is_in}

told_both : (before behind : List ToManager) → each_told (before ++ behind) ≡ each_told before ++ each_told behind
told_both before behind = map-append (λ (word : ToManager). Tell word) before behind

-- told one after the other, and told at once
in_turn : (epoch : ℕ) (own addresses groups : List ToManager) (out : List Act) →
    ((((out ++ Tell (tell.Begin epoch) ∷ []) ++ each_told own) ++ each_told addresses) ++ each_told groups) ++ Tell (tell.End epoch) ∷ []
    ≡ out ++ each_told (tell.Begin epoch ∷ ((own ++ (addresses ++ groups)) ++ tell.End epoch ∷ []))
in_turn epoch own addresses groups out =
    let first : List Act = out ++ Tell (tell.Begin epoch) ∷ [] in
    let last : List Act = Tell (tell.End epoch) ∷ [] in
    ap (λ acts. acts ++ last)
    (append_assoc (first ++ each_told own) (each_told addresses) (each_told groups)
    ∙ append_assoc first (each_told own) (each_told addresses ++ each_told groups)
    ∙ ap (λ acts. first ++ (each_told own ++ acts)) (sym (told_both addresses groups))
    ∙ ap (λ acts. first ++ acts) (sym (told_both own (addresses ++ groups))))
    ∙ append_assoc first (each_told (own ++ (addresses ++ groups))) last
    ∙ ap (λ acts. first ++ acts) (sym (told_both (own ++ (addresses ++ groups)) (tell.End epoch ∷ [])))
    ∙ append_assoc out (Tell (tell.Begin epoch) ∷ []) (each_told ((own ++ (addresses ++ groups)) ++ tell.End epoch ∷ []))

pub all_reported : (v : SwitchView) (p : PortsView) (c : Candidacy) (h : List (Option Hold)) (edge : EdgeView) (avoid : List (SwitchId × ℕ × ℕ))
    (parts : List (ℕ × TreePart)) (epoch : ℕ) (next : ℕ) (out begun own addresses groups ended : List Act) →
    state_view p c h edge avoid parts epoch ≡ v → place_by edge.address_table p.place ≡ p.place → edge.k ≡ p.k →
    begun ≡ out ++ Tell (tell.Begin next) ∷ [] →
    ((u : SwitchView) → own ≡ begun ++ each_told (own_reported (put_ports p u))) →
    ((u : SwitchView) → u.k ≡ edge.k → addresses ≡ own ++ each_told (addresses_reported (edge_in edge u))) →
    groups ≡ addresses ++ each_told (groups_reported edge.members) → ended ≡ groups ++ Tell (tell.End next) ∷ [] →
    ended ≡ out ++ each_told (report_for next v)
all_reported v p c h edge avoid parts epoch next out begun own addresses groups ended is at same one two three four five =
    let w : SwitchView = state_view p c h edge avoid parts epoch in
    five
    ∙ ap (λ acts. acts ++ Tell (tell.End next) ∷ [])
    (four ∙ ap (λ acts. acts ++ each_told (groups_reported edge.members))
    (three w (sym same) ∙ ap (λ u. own ++ each_told (addresses_reported u)) (edge_is_in p c h edge avoid parts epoch at)
    ∙ ap (λ acts. acts ++ each_told (addresses_reported w)) (two w ∙ ap (λ acts. acts ++ each_told (own_reported w)) one)))
    ∙ in_turn next (own_reported w) (addresses_reported w) (members_reported w) out
    ∙ ap (λ u. out ++ each_told (report_for next u)) is
