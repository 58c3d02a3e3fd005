-- A step of one switch keeps the addresses of the whole fabric in order.
use Rattle.std.proofs.Common.{◌≡◌, ℕ, true, List, [], ◌∷◌, ◌++◌, Option, Some, None, slice_get, refl, sym, ap, subst, ◌∙◌, inl, inr, arith}
use Rattle.std.proofs.lemmas.Bool.{cases_eq, false≢true}
use Rattle.std.proofs.lemmas.Option.{same_Some}
use Rattle.pl_frame.specs.declared.address.Ip4.{Ip4}
use Rattle.pl_frame.specs.declared.address.Mac.{Mac}
use Rattle.pl_frame.specs.declared.address.SwitchId.{SwitchId}
use Rattle.pl_layouts.specs.declared.place.Place.{Place}
use Rattle.pl_wiring.specs.Plan.{IsPlan, Plan}
use Rattle.pl_node.specs.declared.acts.Act.{Act}
use Rattle.pl_node.specs.declared.acts.Act.TheVariants as act
use Rattle.pl_node.specs.declared.messages.ToManager.{ToManager}
use Rattle.pl_node.specs.declared.messages.ToSwitch.{ToSwitch}
use Rattle.pl_node.specs.ManagerViews.{ManagerView, Reported}
use Rattle.pl_node.specs.SwitchInputs.{SwitchInput}
use Rattle.pl_node.specs.SwitchViews.{SwitchView}
use Rattle.pl_manager_rule.specs.Reports.{known_at}
use Rattle.pl_steps.specs.Steps.{SwitchStep}
use Rattle.pl_switch_rule.specs.Forwarding.{Choice}
use Rattle.pl_switch_rule.specs.Granting.{is_local}
use Rattle.pl_switch_rule.specs.SwitchRule.{Loose, switch_step}
use Rattle.pl_law_control_plane.specs.ControlPlanes.{ControlPlane, tells}
use Rattle.pl_law_control_plane.specs.PlaneSteps.{SwitchTurns}
use Rattle.pl_law_addresses.specs.EdgeAddresses.{IsGoodAddressTable, edge_of, is_settled}
use Rattle.pl_law_addresses.proofs.Exports.{exists_at, has_place, local_settled, told_by}
use Rattle.pl_law_epochs.specs.Addressed.{AreApart, AreInOrder}
use Rattle.pl_law_epochs.specs.Edges.{IsGoodEdge, Registry, registry_of}
use Rattle.pl_law_epochs.proofs.Learnt.{unknown_unregistered}
use Rattle.pl_law_epochs.proofs.Placing.{IsUnknown}
use Rattle.pl_law_epochs.proofs.Rows.{Good}
use Rattle.pl_law_epochs.proofs.Staying.{KnowsNothing}
use Rattle.pl_law_epochs.proofs.SwitchSteps.{Brings}

-- what acts tell, in two forms
pub told_tells : (acts : List Act) → told_by acts ≡ tells acts
told_tells [] = refl
told_tells (act.Tell told ∷ acts) = ap (λ ts. told ∷ ts) (told_tells acts)
told_tells (a ∷ acts) = told_tells acts

module _ (own : Mac → Option Ip4) (plan : Plan) (view : ℕ → SwitchView) (due : ℕ → List ToManager) (orders : ℕ → List ToSwitch) (manager : ManagerView)
    (a : AreInOrder own plan view due orders manager) (s : ℕ) (id : SwitchId) (named : slice_get plan.ids s ≡ Some id)
    (next_view : ℕ → SwitchView) (next_due : ℕ → List ToManager) (next_orders : ℕ → List ToSwitch) (apart : AreApart next_view)
    (other_views : (t : ℕ) → (t ≡ s → ⊥) → next_view t ≡ view t) where
  abbrev r : Registry
  r = registry_of manager

  -- of an address of a place that is new nothing is known
  pub unknown : IsUnknown r (view s) (next_view s).place
  unknown unsettled x at = by (known_at manager.learnt x) refl
    where
      by : (o : Option Reported) → known_at manager.learnt x ≡ o → KnowsNothing r x
      by None none = record { at = unknown_unregistered manager.learnt x none; known = none }
      by (Some known) is =
          let home = a.homed x known is in
          elim (cases_eq home.switch s) [
            | inl same ↦ absurd (false≢true (sym unsettled ∙ local_settled (view s) x (ap (λ n. is_local (view n) x) (sym same) ∙ home.at)))
            | inr other ↦ absurd (other (apart home.switch s x (ap (λ v. is_local v x) (other_views home.switch other) ∙ home.at) at))
          ]

  module _ (other_dues : (t : ℕ) → (t ≡ s → ⊥) → next_due t ≡ due t) (other_orders : (t : ℕ) → (t ≡ s → ⊥) → next_orders t ≡ orders t)
      (now : Good own r (Some id) (next_orders s) (next_view s) (next_due s)) (place : is_settled (view s).place ≡ true → (next_view s).place ≡ (view s).place) where
    same_id : (t : ℕ) (i : SwitchId) → t ≡ s → slice_get plan.ids t ≡ Some i → id ≡ i
    same_id t i same at = same_Some id i (sym named ∙ ap (slice_get plan.ids) (sym same) ∙ at)

    next_edges : (t : ℕ) (i : SwitchId) → slice_get plan.ids t ≡ Some i → IsGoodEdge own r (edge_of (Some i) (next_view t) (next_due t) (next_orders t))
    next_edges t i at = elim (cases_eq t s) [
      | inl same ↦
          subst (λ m. IsGoodEdge own r (edge_of (Some i) (next_view m) (next_due m) (next_orders m))) (sym same)
          (subst (λ j. IsGoodEdge own r (edge_of (Some j) (next_view s) (next_due s) (next_orders s))) (same_id t i same at) now.edge)
      | inr other ↦
          let path : edge_of (Some i) (view t) (due t) (orders t) ≡ edge_of (Some i) (next_view t) (next_due t) (next_orders t) =
          λ j. edge_of (Some i) (sym (other_views t other) j) (sym (other_dues t other) j) (sym (other_orders t other) j) in
          subst (IsGoodEdge own r) path (a.edges t i at)
    ]

    pub turned_in_order : AreInOrder own plan next_view next_due next_orders manager
    turned_in_order = record {
      registry = a.registry;
      edges = next_edges;
      tables = λ t i at. elim (cases_eq t s) [
        | inl same ↦ subst (λ m. IsGoodAddressTable own (next_view m)) (sym same) now.address_table
        | inr other ↦ subst (IsGoodAddressTable own) (sym (other_views t other)) (a.tables t i at)
      ];
      homed = λ x known is. let home = a.homed x known is in elim (cases_eq home.switch s) [
        | inl same ↦
            let at : is_local (view s) x ≡ true = ap (λ n. is_local (view n) x) (sym same) ∙ home.at in
            record {
              switch = s;
              id = id;
              named = named;
              at = ap (λ (p : Place). has_place p x) (place (local_settled (view s) x at)) ∙ at;
            }
        | inr other ↦ record { switch = home.switch; id = home.id; named = home.named; at = ap (λ v. is_local v x) (other_views home.switch other) ∙ home.at }
      ];
      once = a.once;
      alone = a.alone;
    }

-- what a step makes of one switch, of which so much is due
pub record TurnsWell (own : Mac → Option Ip4) (r : Registry) (id : SwitchId) (before after : List ToSwitch) (v : SwitchView) (up : List ToManager) (step : SwitchStep) : Type 0 where
  pub good : IsUnknown r v step.view.place → Good own r (Some id) before v up → Good own r (Some id) after step.view (up ++ told_by step.acts)
  pub place : Good own r (Some id) before v up → is_settled v.place ≡ true → step.view.place ≡ v.place

-- ---- a turn of the control plane, where these orders waited before
pub plane_turned : (own : Mac → Option Ip4) (m g : ControlPlane) → IsPlan m.plan → (waited : ℕ → List ToSwitch) → AreInOrder own m.plan m.view m.reports waited m.manager → (s : ℕ) (input : SwitchInput) →
    ((t : ℕ) → (t ≡ s → ⊥) → m.orders t ≡ waited t) → AreApart g.view → (turns : SwitchTurns Loose m s input g) →
    ((id : SwitchId) → slice_get m.plan.ids s ≡ Some id →
    TurnsWell own (registry_of m.manager) id (waited s) (m.orders s) (m.view s) (m.reports s) (switch_step turns.ruled.choose (m.view s) input)) →
    AreInOrder own g.plan g.view g.reports g.orders g.manager
plane_turned own m g is_plan waited a s input others apart turns well =
    let step = switch_step turns.ruled.choose (m.view s) input in
    let there = turns.there in
    let many = is_plan.ids_many in
    let it = exists_at m.plan.ids s (omega (arith, there, many)) in
    let id = it.0 in
    let b = well id it.1 in
    let view_now : g.view s ≡ step.view = turns.acted.here ∙ turns.ruled.steps.view in
    let due_now : g.reports s ≡ m.reports s ++ told_by step.acts =
    turns.acted.reports ∙ ap (λ acts. m.reports s ++ tells acts) turns.ruled.steps.done ∙ ap (λ ts. m.reports s ++ ts) (sym (told_tells step.acts)) in
    let before : Good own (registry_of m.manager) (Some id) (waited s) (m.view s) (m.reports s) = record { edge = a.edges s id it.1; address_table = a.tables s id it.1 } in
    let nothing_known : IsUnknown (registry_of m.manager) (m.view s) step.view.place =
    subst (λ (v : SwitchView). IsUnknown (registry_of m.manager) (m.view s) v.place) view_now (unknown own m.plan m.view m.reports waited m.manager a s id it.1 g.view g.reports g.orders apart turns.acted.others) in
    let now = b.good nothing_known before in
    let placed : Good own (registry_of m.manager) (Some id) (g.orders s) (g.view s) (g.reports s) =
    subst (λ o. Good own (registry_of m.manager) (Some id) o (g.view s) (g.reports s)) (sym (turns.acted.orders s))
    (subst (λ v. Good own (registry_of m.manager) (Some id) (m.orders s) v (g.reports s)) (sym view_now) (subst (λ d. Good own (registry_of m.manager) (Some id) (m.orders s) step.view d) (sym due_now) now)) in
    let there_now = turned_in_order own m.plan m.view m.reports waited m.manager a s id it.1 g.view g.reports g.orders apart turns.acted.others turns.acted.other_reports
    (λ t other. turns.acted.orders t ∙ others t other) placed (λ settled. ap (λ (v : SwitchView). v.place) view_now ∙ b.place before settled) in
    subst (λ p. AreInOrder own p g.view g.reports g.orders g.manager) (sym turns.acted.plan)
    (subst (AreInOrder own m.plan g.view g.reports g.orders) (sym turns.acted.manager) there_now)

pub well_brought : (own : Mac → Option Ip4) (r : Registry) (id : SwitchId) (choose : Choice) (before after : List ToSwitch) (v : SwitchView) (up : List ToManager) (step : SwitchStep) →
    Brings own r (Some id) choose before after v step → TurnsWell own r id before after v up step
well_brought own r id choose before after v up step b = record { good = λ unknown good. b.good unknown up good; place = λ good settled. b.place up good settled }
