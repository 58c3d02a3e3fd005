-- What the edge table of a switch does is done by the switch.
use Rattle.std.proofs.Common.{◌≡◌, ℕ, Option, Some, None, List, ap, ◌∙◌, subst}
use Rattle.pl_frame.specs.declared.address.SwitchId.{SwitchId}
use Rattle.pl_node.specs.declared.acts.Act.{Act}
use Rattle.pl_node.specs.declared.messages.TreePart.{TreePart}
use Rattle.pl_node.specs.declared.switch_records.Hold.{Hold}
use Rattle.pl_node.specs.SwitchViews.{SwitchView}
use Rattle.pl_layouts.specs.declared.place.Place.{Place}
use Rattle.pl_steps.specs.Steps.{SwitchStep}
use Rattle.pl_steps.specs.Taken.{IsTaken}
use Rattle.pl_migrate.specs.AddressTables.{AddressTableView, edge_at}
use Rattle.pl_position.specs.Candidacy.{Candidacy}
use Rattle.pl_ports.specs.PortsViews.{PortsView}
use Rattle.pl_edge.specs.EdgeViews.{EdgeView, edge_in, place_by, KeepsAddressTable}
use Rattle.pl_switch_state.specs.StateViews.{state_view, HasAddressTableAt}
use Rattle.pl_switch_state.proofs.Settled.{edge_becomes, edge_is_in}

-- the address table that is kept is that of the same place
pub keeps_place : (old new : Option AddressTableView) (place : Place) → KeepsAddressTable old new → HasAddressTableAt old place → HasAddressTableAt new place
keeps_place None None place keeps h = h
keeps_place None (Some new) place keeps h = absurd keeps
keeps_place (Some old) None place keeps h = absurd keeps
keeps_place (Some old) (Some new) place keeps h = record {
  booked = h.booked;
  at = ap (λ p. edge_at p new.position) keeps.0.pod ∙ ap (λ q. edge_at old.pod q) keeps.0.position ∙ h.at;
}

pub edge_taken : (v : SwitchView) (p : PortsView) (c : Candidacy) (h : List (Option Hold)) (edge after : EdgeView) (avoid : List (SwitchId × ℕ × ℕ)) (parts : List (ℕ × TreePart)) (epoch : ℕ)
    (row : SwitchView → SwitchStep) (out told : List Act) →
    state_view p c h edge avoid parts epoch ≡ v → place_by edge.address_table p.place ≡ p.place → place_by after.address_table p.place ≡ p.place →
    IsTaken (row (edge_in edge (state_view p c h edge avoid parts epoch))) (edge_in after (state_view p c h edge avoid parts epoch)) out told →
    IsTaken (row v) (state_view p c h after avoid parts epoch) out told
edge_taken v p c h edge after avoid parts epoch row out told is at at_after taken =
    subst (λ u. IsTaken (row u) (state_view p c h after avoid parts epoch) out told) (edge_is_in p c h edge avoid parts epoch at ∙ is)
    (subst (λ w. IsTaken (row (edge_in edge (state_view p c h edge avoid parts epoch))) w out told) (edge_becomes p c h edge after avoid parts epoch at_after) taken)
