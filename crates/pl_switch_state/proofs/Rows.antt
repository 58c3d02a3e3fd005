-- Rows of the rule from what the parts of a switch do.
use Rattle.std.proofs.Common.{◌≡◌, ℕ, Option, List, ◌++◌, sym, ap, ◌∙◌, subst, append_assoc}
use Rattle.pl_frame.specs.declared.address.SwitchId.{SwitchId}
use Rattle.pl_node.specs.declared.acts.Act.{Act}
use Rattle.pl_node.specs.declared.messages.TreePart.{TreePart}
use Rattle.pl_node.specs.declared.switch_records.Hold.{Hold}
use Rattle.pl_node.specs.SwitchViews.{SwitchView}
use Rattle.pl_layouts.specs.declared.control.Ldm.{Ldm}
use Rattle.pl_layouts.specs.declared.place.Place.{Place}
use Rattle.pl_migrate.specs.AddressTables.{AddressTableView}
use Rattle.pl_steps.specs.Taken.{IsTaken}
use Rattle.pl_switch_rule.specs.Announcing.{tells_neighbours, with_aged_ports}
use Rattle.pl_switch_rule.specs.Levels.{after_message, changes_to, learns_level, learns_pod, notes_edge, with_message}
use Rattle.pl_switch_rule.specs.Positions.{half}
use Rattle.pl_switch_rule.specs.Telling.{changes_told}
use Rattle.pl_position.specs.Candidacy.{Candidacy, with_candidacy}
use Rattle.pl_position.specs.Holding.{with_holds}
use Rattle.pl_ports.specs.declared.standing.Standing.{Standing}
use Rattle.pl_ports.specs.PortsViews.{PortsView, ports_alone, put_ports}
use Rattle.pl_ports.specs.Standings.{IsStandingOf}
use Rattle.pl_edge.specs.EdgeViews.{EdgeView}
use Rattle.pl_switch_state.specs.StateViews.{state_view, AreOfOne, HasAddressTableAt}
use Rattle.pl_switch_state.specs.Proposals.{announced, proposed}
use Rattle.pl_switch_state.specs.Settling.{PlaceGrows}
use Rattle.pl_switch_state.proofs.Growing.{grows_by_message}

-- a row that changes what is known, and then settles
pub row_settled : (v : SwitchView) (p₀ p : PortsView) (c₀ c : Candidacy) (h₀ h : List (Option Hold)) (edge : EdgeView) (avoid : List (SwitchId × ℕ × ℕ)) (parts : List (ℕ × TreePart)) (epoch : ℕ)
    (row : SwitchView → SwitchView) (before : Standing) (after : SwitchView) (out told : List Act) →
    state_view p₀ c₀ h₀ edge avoid parts epoch ≡ v → row (state_view p₀ c₀ h₀ edge avoid parts epoch) ≡ state_view p c h edge avoid parts epoch → p₀.k ≡ p.k →
    ((u : SwitchView) → IsStandingOf before (put_ports p₀ u)) →
    ((old : SwitchView) → old.k ≡ p.k → IsStandingOf before old → IsTaken (changes_to old (state_view p c h edge avoid parts epoch)) after out told) →
    IsTaken (changes_to v (row v)) after out told
row_settled v p₀ p c₀ c h₀ h edge avoid parts epoch row before after out told is becomes same stands taken =
    let old = state_view p₀ c₀ h₀ edge avoid parts epoch in
    subst (λ u. IsTaken (changes_to u (row u)) after out told) is
    (subst (λ w. IsTaken (changes_to old w) after out told) (sym becomes) (taken old same (stands old)))

-- ---- a message of location discovery

pub message_heard : (p₀ p₁ p₂ : PortsView) (c : Candidacy) (h₀ h : List (Option Hold)) (edge : EdgeView) (avoid : List (SwitchId × ℕ × ℕ)) (parts : List (ℕ × TreePart)) (epoch : ℕ)
    (port : ℕ) (id : SwitchId) (m : Ldm) →
    ((v : SwitchView) → put_ports p₁ v ≡ with_message (put_ports p₀ v) port id m) →
    ((v : SwitchView) → put_ports p₂ v ≡ learns_pod (learns_level (put_ports p₁ v) m.place) m.place) →
    ((v : SwitchView) → with_holds h (put_ports p₂ v) ≡ notes_edge (with_holds h₀ (put_ports p₂ v)) id m.place) →
    after_message (state_view p₀ c h₀ edge avoid parts epoch) port id m ≡ state_view p₂ c h edge avoid parts epoch
message_heard p₀ p₁ p₂ c h₀ h edge avoid parts epoch port id m heard learnt noted =
    let v = state_view p₀ c h₀ edge avoid parts epoch in
    ap (λ u. notes_edge (learns_pod (learns_level u m.place) m.place) id m.place) (sym (heard v))
    ∙ ap (λ u. notes_edge u id m.place) (sym (learnt v))
    ∙ sym (noted v)

pub message_grows : (p₀ p₁ p₂ : PortsView) (w : SwitchView) (port : ℕ) (id : SwitchId) (m : Ldm) →
    ((v : SwitchView) → put_ports p₁ v ≡ with_message (put_ports p₀ v) port id m) →
    ((v : SwitchView) → put_ports p₂ v ≡ learns_pod (learns_level (put_ports p₁ v) m.place) m.place) →
    PlaceGrows p₀.place p₂.place
message_grows p₀ p₁ p₂ w port id m heard learnt =
    subst (λ old. PlaceGrows old p₂.place) (ap (λ (u : SwitchView). u.place) (heard w))
    (subst (PlaceGrows p₁.place) (sym (ap (λ (u : SwitchView). u.place) (learnt w))) (grows_by_message (put_ports p₁ w) m.place))

-- ---- a tick

pub ticked : (v : SwitchView) (p₀ p : PortsView) (c : Candidacy) (h : List (Option Hold)) (edge : EdgeView) (avoid : List (SwitchId × ℕ × ℕ)) (parts : List (ℕ × TreePart)) (epoch : ℕ)
    (out told : List Act) →
    state_view p₀ c h edge avoid parts epoch ≡ v → c.position ≡ p.place.position →
    ((u : SwitchView) → put_ports p u ≡ with_aged_ports (put_ports p₀ u)) →
    ((u : SwitchView) → told ≡ out ++ changes_told (state_view p₀ c h edge avoid parts epoch) (put_ports p u) ++ announced (ports_alone p) ++ proposed (with_candidacy c (put_ports p u))) →
    IsTaken (tells_neighbours v) (state_view p c h edge avoid parts epoch) out told
ticked v p₀ p c h edge avoid parts epoch out told is position aged tells =
    let old = state_view p₀ c h edge avoid parts epoch in
    let now = state_view p c h edge avoid parts epoch in
    let same : with_candidacy c now ≡ now = ap (λ o. record now { place = record p.place { position = o } }) position in
    let acts : told ≡ out ++ (changes_told old now ++ (announced now ++ proposed now)) =
    tells old ∙ ap (λ u. ((out ++ changes_told old now) ++ announced now) ++ proposed u) same
    ∙ append_assoc (out ++ changes_told old now) (announced now) (proposed now)
    ∙ append_assoc out (changes_told old now) (announced now ++ proposed now) in
    subst (λ u. IsTaken (tells_neighbours u) now out told) is (record {
      view = aged old;
      acts = acts ∙ ap (λ u. out ++ (changes_told old u ++ (announced u ++ proposed u))) (aged old);
    })

-- ---- the parts stay those of one switch

pub of_one_still : (p₀ p : PortsView) (c : Candidacy) (h : List (Option Hold)) (edge : EdgeView) → p.k ≡ p₀.k → p.place ≡ p₀.place → AreOfOne p₀ c h edge → AreOfOne p c h edge
of_one_still p₀ p c h edge k place one = record {
  hosts = one.hosts ∙ sym k;
  votes = one.votes ∙ sym k;
  positions = one.positions ∙ ap half (sym k);
  holders = one.holders;
  position = one.position ∙ ap (λ (q : Place). q.position) (sym place);
  address_table = subst (HasAddressTableAt edge.address_table) (sym place) one.address_table;
}

-- the address table before a step is that of the place that was told
pub address_table_before : (p : PortsView) (w : SwitchView) (before : Standing) (address_table : Option AddressTableView) →
    IsStandingOf before (put_ports p w) → HasAddressTableAt address_table p.place → HasAddressTableAt address_table before.place
address_table_before p w before address_table stands has = subst (HasAddressTableAt address_table) (sym stands.place) has

pub grows_before : (p : PortsView) (w : SwitchView) (before : Standing) (place : Place) →
    IsStandingOf before (put_ports p w) → PlaceGrows p.place place → PlaceGrows before.place place
grows_before p w before place stands grows = subst (λ q. PlaceGrows q place) (sym stands.place) grows

pub record KeepsSelf (p₀ p : PortsView) : Type 0 where
  pub id : p.id ≡ p₀.id
  pub k : p.k ≡ p₀.k
  pub position : p.place.position ≡ p₀.place.position

pub message_keeps : (p₀ p₁ p₂ : PortsView) (w : SwitchView) (port : ℕ) (id : SwitchId) (m : Ldm) →
    ((v : SwitchView) → put_ports p₁ v ≡ with_message (put_ports p₀ v) port id m) →
    ((v : SwitchView) → put_ports p₂ v ≡ learns_pod (learns_level (put_ports p₁ v) m.place) m.place) →
    KeepsSelf p₀ p₂
message_keeps p₀ p₁ p₂ w port id m heard learnt = record {
  id = ap (λ (u : SwitchView). u.id) (learnt w) ∙ ap (λ (u : SwitchView). u.id) (heard w);
  k = ap (λ (u : SwitchView). u.k) (learnt w) ∙ ap (λ (u : SwitchView). u.k) (heard w);
  position = ap (λ (u : SwitchView). u.place.position) (learnt w) ∙ ap (λ (u : SwitchView). u.place.position) (heard w);
}
