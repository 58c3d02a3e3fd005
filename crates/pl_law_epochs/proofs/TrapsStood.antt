-- Each trap that stands behind a step to what is due stood before it, or its switch obeys the order that sets it.
use mathlib.Core.Path.{fun_ext}
use Rattle.std.proofs.Common.{◌≡◌, ◌⊎◌, ◌<◌, ℕ, true, false, List, [], ◌∷◌, Option, Some, slice_get, refl, sym, ap, subst, ◌∙◌, inl, inr, arith}
use Rattle.std.proofs.lemmas.Bool.{cases_eq, false≢true}
use Rattle.pl_frame.specs.declared.address.Ip4.{Ip4}
use Rattle.pl_frame.specs.declared.address.Mac.{Mac}
use Rattle.pl_frame.specs.declared.address.SwitchId.{SwitchId}
use Rattle.pl_pmac.specs.declared.pmac.Pmac.{Pmac}
use Rattle.pl_layouts.specs.Control.{is_control}
use Rattle.pl_wiring.specs.Plan.{IsPlan, Plan}
use Rattle.pl_node.specs.AddressUses.{standing_trap}
use Rattle.pl_node.specs.declared.messages.ToSwitch.{ToSwitch}
use Rattle.pl_node.specs.declared.messages.ToSwitch.TheVariants as say
use Rattle.pl_node.specs.declared.switch_records.Grant.{Grant}
use Rattle.pl_node.specs.declared.trap.Trap.{Trap}
use Rattle.pl_node.specs.PortRecords.{is_open_to_hosts, port_of}
use Rattle.pl_node.specs.SwitchInputs.{SwitchInput}
use Rattle.pl_node.specs.SwitchInputs.SwitchInput.{Comes, Says, Tick}
use Rattle.pl_node.specs.SwitchViews.{SwitchView}
use Rattle.pl_switch_rule.specs.Granting.{granted}
use Rattle.pl_switch_rule.specs.SwitchRule.{Loose, switch_step}
use Rattle.pl_law_control_plane.specs.ControlPlanes.{ControlPlane}
use Rattle.pl_law_control_plane.specs.PlaneSteps.{IsLeft, IsOrderTaken, PlaneStep, SwitchTurns}
use Rattle.pl_law_control_plane.specs.PlaneSteps.PlaneStep.{Carried, Entered, Heard, Left, Managed, Ordered, Ticked}
use Rattle.pl_law_due.specs.DueSteps.{DueStep, treats_one}
use Rattle.pl_law_due.specs.DueSteps.DueStep.{Managed as ManagedBy, Stepped}
use Rattle.pl_law_due.specs.Gathering.{AreUnheard}
use Rattle.pl_law_due.proofs.Exports.{parts_alike}
use Rattle.pl_law_addresses.specs.EdgeAddresses.{IsHeldFor}
use Rattle.pl_law_addresses.proofs.Exports.{exists_at, IsOfHost}
use Rattle.pl_law_epochs.specs.Addressed.{AreAddressed, AreApart, AreInOrder, IsFair, IsFairDue}
use Rattle.pl_law_epochs.specs.Edges.{registry_of}
use Rattle.pl_law_epochs.proofs.Moves.{MovesBy, StoodSo, moves_by}
use Rattle.pl_law_epochs.proofs.Placing.{IsUnknown}
use Rattle.pl_law_epochs.proofs.Rows.{Good}
use Rattle.pl_law_epochs.proofs.Stepping.{apart_same, itself, left_in_order, left_plan}
use Rattle.pl_law_epochs.proofs.SwitchSteps.{frame_moves, order_moves, tick_moves}
use Rattle.pl_law_epochs.proofs.SwitchTurns.{unknown}

-- the next order of a switch sets a trap at an address of this host
pub record IsOrderedNext (view : ℕ → SwitchView) (orders : ℕ → List ToSwitch) (s : ℕ) (x : Pmac) (mac : Mac) (trap : Trap) : Type 0 where
  pub is : slice_get (orders s) 0 ≡ Some (say.Invalidate x trap.new trap.number trap.ip)
  pub held : IsHeldFor (λ z. granted (view s) z) x mac

abbrev pub TrapsStood : Plan → (ℕ → SwitchView) → (ℕ → List ToSwitch) → (ℕ → SwitchView) → Type 0
TrapsStood plan view orders next_view = (t : ℕ) (i : SwitchId) → slice_get plan.ids t ≡ Some i → (x : Pmac) (h : Grant) (trap : Trap) →
    granted (next_view t) x ≡ Some h →
    standing_trap h.held ≡ Some trap → StoodSo (λ z. granted (view t) z) x h.amac trap ⊎ IsOrderedNext view orders t x h.amac trap

-- where switches know the same
pub same_stood : (plan : Plan) (view next_view : ℕ → SwitchView) (orders : ℕ → List ToSwitch) → ((t : ℕ) → next_view t ≡ view t) →
    TrapsStood plan view orders next_view
same_stood plan view next_view orders same t i at x h trap found set =
    inl (record { grant = h; found = ap (λ (v : SwitchView). granted v x) (sym (same t)) ∙ found; set = set; to = refl })

as_before : (plan mid_plan : Plan) (view mid_view : ℕ → SwitchView) (orders : ℕ → List ToSwitch) (next_view : ℕ → SwitchView) → mid_plan ≡ plan →
    ((t : ℕ) → mid_view t ≡ view t) →
    TrapsStood mid_plan mid_view orders next_view → TrapsStood plan view orders next_view
as_before plan mid_plan view mid_view orders next_view plans views stood =
    subst (λ p. TrapsStood p view orders next_view) plans (subst (λ v. TrapsStood mid_plan v orders next_view) (fun_ext views) stood)

-- ---- a switch takes a turn
module _ (own : Mac → Option Ip4) (m g : ControlPlane) (is : IsPlan m.plan) (waited : ℕ → List ToSwitch)
    (a : AreInOrder own m.plan m.view m.reports waited m.manager) (s : ℕ) (input : SwitchInput)
    (apart : AreApart g.view) (turns : SwitchTurns Loose m s input g) (orders : ℕ → List ToSwitch) where
  plane_stood : (says : ToSwitch) →
      ((id : SwitchId) → Good own (registry_of m.manager) (Some id) (waited s) (m.view s) (m.reports s) →
      IsUnknown (registry_of m.manager) (m.view s) (switch_step turns.ruled.choose (m.view s) input).view.place →
      MovesBy says (λ x. granted (m.view s) x) (λ x. granted (switch_step turns.ruled.choose (m.view s) input).view x)) →
      ((x : Pmac) (trap : Trap) → says ≡ say.Invalidate x trap.new trap.number trap.ip →
      slice_get (orders s) 0 ≡ Some (say.Invalidate x trap.new trap.number trap.ip)) →
      TrapsStood m.plan m.view orders g.view
  plane_stood says moves sets t i at x h trap found set =
      let step = switch_step turns.ruled.choose (m.view s) input in
      let there = turns.there in
      let many = is.ids_many in
      let it = exists_at m.plan.ids s (omega (arith, there, many)) in
      let view_now : g.view s ≡ step.view = turns.acted.here ∙ turns.ruled.steps.view in
      let before : Good own (registry_of m.manager) (Some it.0) (waited s) (m.view s)
      (m.reports s) = record { edge = a.edges s it.0 it.1; address_table = a.tables s it.0 it.1 } in
      let nothing_known : IsUnknown (registry_of m.manager) (m.view s) step.view.place =
      subst (λ (v : SwitchView). IsUnknown (registry_of m.manager) (m.view s) v.place) view_now
      (unknown own m.plan m.view m.reports waited m.manager a s it.0 it.1 g.view g.reports g.orders apart turns.acted.others) in
      let moved : MovesBy says (λ z. granted (m.view s) z) (λ z. granted (g.view s) z) =
      subst (λ (v : SwitchView). MovesBy says (λ z. granted (m.view s) z) (λ z. granted v z)) (sym view_now) (moves it.0 before nothing_known) in
      elim (cases_eq t s) [
        | inl same ↦
            subst (λ n. StoodSo (λ z. granted (m.view n) z) x h.amac trap ⊎ IsOrderedNext m.view orders n x h.amac trap) (sym same)
            (elim (moved.stood x h trap (subst (λ n. granted (g.view n) x ≡ Some h) same found) set) [
              | inl was ↦ inl was
              | inr now ↦ inr (record { is = sets x trap now.is; held = now.held })
            ])
        | inr other ↦ inl (record { grant = h; found = ap (λ (v : SwitchView). granted v x) (sym (turns.acted.others t other)) ∙ found; set = set; to = refl })
      ]

  -- where no order was taken
  unordered_stood : ((id : SwitchId) → Good own (registry_of m.manager) (Some id) (waited s) (m.view s) (m.reports s) →
      IsUnknown (registry_of m.manager) (m.view s) (switch_step turns.ruled.choose (m.view s) input).view.place →
      MovesBy (say.Avoid []) (λ x. granted (m.view s) x) (λ x. granted (switch_step turns.ruled.choose (m.view s) input).view x)) →
      TrapsStood m.plan m.view orders g.view
  unordered_stood moves = plane_stood (say.Avoid []) moves (λ x trap is. absurd (cc))

module _ (own : Mac → Option Ip4) (f g : ControlPlane) (is : IsPlan f.plan) (unheard : AreUnheard f) (apart : AreApart f.view) (apart_then : AreApart g.view)
    (a : AreAddressed own f) where
  frame_stood : (s port : ℕ) (frame : List ℕ) (m : ControlPlane) → IsLeft f m → ((t : ℕ) → m.reports t ≡ f.reports t) → ((t : ℕ) → m.orders t ≡ f.orders t) →
      SwitchTurns Loose m s (Comes port frame) g →
      (is_control frame ≡ false → is_open_to_hosts (port_of (m.view s) port) ≡ true → IsOfHost own (m.view s) port frame) →
      TrapsStood f.plan f.view f.orders g.view
  frame_stood s port frame m left reports orders turns fair =
      as_before f.plan m.plan f.view m.view f.orders g.view left.plan left.view
      (unordered_stood own m g (left_plan own f g is unheard apart apart_then a m left) m.orders
      (left_in_order own f g is unheard apart apart_then a m m.orders left reports orders) s (Comes port frame) apart_then turns
      f.orders
      (λ id good nothing.
      moves_by (say.Avoid []) (λ x. granted (m.view s) x) (λ x. granted (switch_step turns.ruled.choose (m.view s) (Comes port frame)).view x)
      (frame_moves own (registry_of m.manager) (Some id) turns.ruled.choose (m.orders s) (m.view s) port frame fair (m.reports s) good nothing)))

  order_stood : (s : ℕ) (says : ToSwitch) (m : ControlPlane) → IsOrderTaken f s says m → SwitchTurns Loose m s (Says says) g →
      TrapsStood f.plan f.view f.orders g.view
  order_stood s says m taken turns =
      let there : AreInOrder own m.plan m.view m.reports f.orders m.manager = left_in_order own f g is unheard apart apart_then a m f.orders taken.left taken.reports (λ t. refl) in
      as_before f.plan m.plan f.view m.view f.orders g.view taken.left.plan taken.left.view
      (plane_stood own m g (left_plan own f g is unheard apart apart_then a m taken.left) f.orders there s (Says says) apart_then turns f.orders says
      (λ id good nothing. order_moves own (registry_of m.manager) (Some id) turns.ruled.choose (m.orders s) (m.view s) says (m.reports s)
      (subst (λ o. Good own (registry_of m.manager) (Some id) o (m.view s) (m.reports s)) taken.first good) nothing)
      (λ x trap set. ap (λ os. slice_get os 0) (taken.first ∙ ap (λ q. q ∷ m.orders s) set)))

  stepped_stood : (step : PlaneStep Loose treats_one f g) → IsFair own Loose treats_one f g step → TrapsStood f.plan f.view f.orders g.view
  stepped_stood (Left left) fair = same_stood f.plan f.view g.view f.orders left.view
  stepped_stood (Ticked s turns) fair =
      unordered_stood own f g is f.orders a s Tick apart_then turns f.orders
      (λ id good nothing.
      moves_by (say.Avoid []) (λ x. granted (f.view s) x) (λ x. granted (switch_step turns.ruled.choose (f.view s) Tick).view x)
      (tick_moves own (registry_of f.manager) (Some id) turns.ruled.choose (f.orders s) (f.view s) (f.reports s) good))
  stepped_stood (Heard t q s port frame mid adjacent control taken turns) fair =
      frame_stood s port frame mid taken.left taken.reports taken.orders turns (λ other open_port. absurd (false≢true (sym other ∙ control)))
  stepped_stood (Carried t q s port frame mid adjacent bears carries taken turns) fair =
      frame_stood s port frame mid taken.left taken.reports taken.orders turns
      (λ other open_port. absurd (false≢true (sym (ap (λ (v : SwitchView). is_open_to_hosts (port_of v port)) (taken.left.view s) ∙ fair) ∙ open_port)))
  stepped_stood (Entered s port frame edge within host bears turns) fair =
      frame_stood s port frame f (itself own f g is unheard apart apart_then a) (λ t. refl) (λ t. refl) turns
      (λ other open_port. record { within = subst (λ n. port < n) (sym turns.size) within; own_ip = fair })
  stepped_stood (Ordered s says mid taken turns) fair = order_stood s says mid taken turns
  stepped_stood (Managed s id told mid there named taken turns) fair = same_stood f.plan f.view g.view f.orders (λ t. turns.view t ∙ taken.left.view t)

-- ---- a step to what is due
pub step_stood : (own : Mac → Option Ip4) (f g : ControlPlane) → IsPlan f.plan → AreUnheard f → AreApart f.view → AreApart g.view →
    (step : DueStep Loose f g) → IsFairDue own Loose f g step →
    AreAddressed own f → TrapsStood f.plan f.view f.orders g.view
step_stood own f g is unheard apart apart_then (Stepped told step sifted) fair a =
    let apart_told : AreApart told.view = apart_same g.view told.view (λ t. sym (sifted.alike.view t)) apart_then in
    subst (TrapsStood f.plan f.view f.orders) (sym (fun_ext sifted.alike.view)) (stepped_stood own f told is unheard apart apart_told a step.0 fair)
step_stood own f g is unheard apart apart_then (ManagedBy mids parts) fair a = same_stood f.plan f.view g.view f.orders (parts_alike mids f g parts).view
