-- A tick is the part of the ports and then that of the addresses.
use Rattle.std.proofs.Common.{◌≡◌, ℕ, List, Option, sym, ◌∙◌, subst}
use Rattle.pl_frame.specs.declared.address.SwitchId.{SwitchId}
use Rattle.pl_node.specs.declared.acts.Act.{Act}
use Rattle.pl_node.specs.declared.messages.TreePart.{TreePart}
use Rattle.pl_node.specs.declared.switch_records.Hold.{Hold}
use Rattle.pl_node.specs.SwitchViews.{SwitchView}
use Rattle.pl_layouts.specs.declared.place.Place.{Place}
use Rattle.pl_steps.specs.Taken.{IsTaken}
use Rattle.pl_steps.proofs.Exports.{taken_then}
use Rattle.pl_switch_rule.specs.Aging.{ages}
use Rattle.pl_switch_rule.specs.Announcing.{tells_neighbours, ticks}
use Rattle.pl_position.specs.Candidacy.{Candidacy}
use Rattle.pl_ports.specs.PortsViews.{PortsView}
use Rattle.pl_edge.specs.EdgeViews.{EdgeView, edge_in, place_by}
use Rattle.pl_switch_state.specs.StateViews.{state_view}
use Rattle.pl_switch_state.proofs.Settled.{edge_becomes, edge_is_in}

pub both_ticked : (p₀ p : PortsView) (c : Candidacy) (h : List (Option Hold)) (edge after : EdgeView) (avoid : List (SwitchId × ℕ × ℕ))
    (parts : List (ℕ × TreePart)) (epoch : ℕ)
    (out between told : List Act) → place_by edge.address_table p₀.place ≡ p₀.place → p.place ≡ p₀.place →
    ((place : Place) → place_by after.address_table place ≡ place_by edge.address_table place) →
    IsTaken (tells_neighbours (state_view p₀ c h edge avoid parts epoch)) (state_view p c h edge avoid parts epoch) out between →
    ((v : SwitchView) → IsTaken (ages (edge_in edge v)) (edge_in after v) between told) →
    IsTaken (ticks (state_view p₀ c h edge avoid parts epoch)) (state_view p c h after avoid parts epoch) out told
both_ticked p₀ p c h edge after avoid parts epoch out between told at same stays first next =
    let w : SwitchView = state_view p c h edge avoid parts epoch in
    let still : place_by edge.address_table p.place ≡ p.place = subst (λ q. place_by edge.address_table q ≡ q) (sym same) at in
    taken_then (tells_neighbours (state_view p₀ c h edge avoid parts epoch)) ages w (state_view p c h after avoid parts epoch) out between told first
    (subst (λ u. IsTaken (ages u) (state_view p c h after avoid parts epoch) between told) (edge_is_in p c h edge avoid parts epoch still)
    (subst (λ u. IsTaken (ages (edge_in edge w)) u between told) (edge_becomes p c h edge after avoid parts epoch (stays p.place ∙ still)) (next w)))
