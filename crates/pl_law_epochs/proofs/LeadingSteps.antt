-- Each step to what is due leaves each trap at an address that is somebody's.
use mathlib.Core.Path.{fun_ext}
use Rattle.std.proofs.Common.{◌≡◌, ◌⊎◌, ◌<◌, ◌||◌, ℕ, Bool, true, false, fold, List, [], ◌∷◌, ◌++◌, Option, Some, None, slice_get, refl, sym, ap, subst, ◌∙◌, inl, inr, append-nil, arith}
use Rattle.std.specs.List.{list_any}
use Rattle.std.proofs.lemmas.Bool.{cases_eq, false≢true}
use Rattle.std.proofs.lemmas.Option.{none-some, slice_get_within}
use Rattle.pl_frame.specs.declared.address.Ip4.{Ip4}
use Rattle.pl_frame.specs.declared.address.Mac.{Mac}
use Rattle.pl_frame.specs.declared.address.SwitchId.{SwitchId}
use Rattle.pl_pmac.specs.declared.pmac.Pmac.{Pmac}
use Rattle.pl_layouts.specs.Control.{is_control}
use Rattle.pl_layouts.proofs.Exports.{pmac_itself}
use Rattle.pl_wiring.specs.Plan.{IsPlan, Plan}
use Rattle.pl_node.specs.declared.messages.ToManager.{ToManager}
use Rattle.pl_node.specs.declared.messages.ToSwitch.{ToSwitch}
use Rattle.pl_node.specs.declared.messages.ToSwitch.TheVariants as say
use Rattle.pl_node.specs.declared.trap.Trap.{Trap}
use Rattle.pl_node.specs.PortRecords.{is_open_to_hosts, port_of}
use Rattle.pl_node.specs.SwitchInputs.{SwitchInput}
use Rattle.pl_node.specs.SwitchInputs.SwitchInput.{Comes, Says, Tick}
use Rattle.pl_node.specs.SwitchViews.{SwitchView}
use Rattle.pl_manager_rule.specs.ManagerRule.{ManagerStep}
use Rattle.pl_manager_rule.specs.Treating.{at_rest, then_releases, to_release, treats_word}
use Rattle.pl_switch_rule.specs.Granting.{granted}
use Rattle.pl_switch_rule.specs.SwitchRule.{Loose, switch_step}
use Rattle.pl_world.specs.declared.limits.Limits.{Limits}
use Rattle.pl_world.specs.Booting.{booted}
use Rattle.pl_law_control_plane.specs.ControlPlanes.{ControlPlane, control_plane}
use Rattle.pl_law_control_plane.specs.PlaneSteps.{IsLeft, IsOrderTaken, IsReportTaken, LosesNoWord, ManagerTurns, ordered, PlaneStep, SwitchTurns}
use Rattle.pl_law_control_plane.specs.PlaneSteps.PlaneStep.{Carried, Entered, Heard, Left, Managed, Ordered, Ticked}
use Rattle.pl_law_control_plane.proofs.Exports.{booted_view}
use Rattle.pl_law_due.specs.Due.{due_plane, is_hello}
use Rattle.pl_law_control_plane.specs.Restarts.{Restarts}
use Rattle.pl_law_due.specs.DueSteps.{AllReleaseWhere, DueStep, ManagerPart, Parts, Releases, ReleasesWhere, treats_one}
use Rattle.pl_law_due.specs.DueSteps.DueStep.{Managed as ManagedBy, Stepped}
use Rattle.pl_law_due.specs.DueSteps.ManagerPart.{Released, Treated, Turned}
use Rattle.pl_law_due.specs.Gathering.{AreUnheard}
use Rattle.pl_law_addresses.proofs.Exports.{exists_at, IsOfHost}
use Rattle.pl_law_epochs.specs.Addressed.{AreAddressed, AreApart, AreInOrder, IsFair, IsFairDue}
use Rattle.pl_law_epochs.specs.Edges.{registry_of}
use Rattle.pl_law_epochs.specs.Leading.{IsHeardOut, LeadsOn, ReleasesHeardOut, TrapsLead, TrapsLeadOn, is_release_of}
use Rattle.pl_law_epochs.proofs.Leading.{order_leads_on, turn_leads}
use Rattle.pl_law_epochs.proofs.LedByManager.{releases_lead, word_leads}
use Rattle.pl_law_epochs.proofs.Moves.{IsSetBy, MovesBy, moves_by}
use Rattle.pl_law_epochs.proofs.Noting.{orders_same}
use Rattle.pl_law_epochs.proofs.Placing.{IsUnknown}
use Rattle.pl_law_epochs.proofs.Rows.{Good}
use Rattle.pl_law_epochs.proofs.Stepping.{apart_same, Holds, itself, left_in_order, left_plan, part_holds}
use Rattle.pl_law_epochs.proofs.SwitchSteps.{frame_moves, order_moves, tick_moves}
use Rattle.pl_law_epochs.proofs.SwitchTurns.{unknown}

-- where the same is granted and ordered
same_leads : (plan next_plan : Plan) (view next_view : ℕ → SwitchView) (orders next_orders : ℕ → List ToSwitch) → next_plan ≡ plan → ((t : ℕ) → next_view t ≡ view t) →
    ((t : ℕ) → next_orders t ≡ orders t) → TrapsLeadOn plan view orders → TrapsLeadOn next_plan next_view next_orders
same_leads plan next_plan view next_view orders next_orders plans views orders_are lead =
    subst (λ p. TrapsLeadOn p next_view next_orders) (sym plans)
    (subst (λ v. TrapsLeadOn plan v next_orders) (sym (fun_ext views)) (subst (TrapsLeadOn plan view) (sym (fun_ext orders_are)) lead))

-- ---- the manager
-- treats a word
treated_leads : (f g : ControlPlane) (s : ℕ) (id : SwitchId) (told : ToManager) (mid : ControlPlane) → IsReportTaken f s told mid → ManagerTurns treats_one mid id told g → TrapsLead f → TrapsLead g
treated_leads f g s id told mid taken turns lead =
    same_leads f.plan g.plan f.view g.view (λ t. f.orders t ++ ordered f.plan t (treats_word (at_rest f.manager) id told).acts) g.orders
    (turns.plan ∙ taken.left.plan) (λ t. turns.view t ∙ taken.left.view t)
    (λ t. turns.orders t ∙ ap (λ acts. mid.orders t ++ ordered mid.plan t acts) turns.ruled.1
    ∙ (λ j. taken.orders t j ++ ordered (taken.left.plan j) t (treats_word (at_rest (taken.left.manager j)) id told).acts))
    (word_leads f.plan f.view f.orders (at_rest f.manager) id told lead)

-- releases addresses
released_leads : (own : Mac → Option Ip4) (f g : ControlPlane) → IsPlan f.plan → AreAddressed own f → (aged : List Pmac) → Releases f aged g → (aged ≡ []) ⊎ IsHeardOut f → TrapsLead f → TrapsLead g
released_leads own f g is a aged rel may lead =
    let start : ManagerStep = record { view = f.manager; acts = [] } in
    let xs = to_release (record { view = f.manager; aged = aged }) in
    same_leads f.plan g.plan f.view g.view (λ t. f.orders t ++ ordered f.plan t (fold then_releases start xs).acts) g.orders rel.alike.plan rel.alike.view rel.orders
    (elim may [
      | inl none ↦
          subst (λ ys. TrapsLeadOn f.plan f.view (λ t. f.orders t ++ ordered f.plan t (fold then_releases start (to_release (record { view = f.manager; aged = ys }))).acts)) (sym none)
          (same_leads f.plan f.plan f.view f.view f.orders (λ t. f.orders t ++ []) refl (λ t. refl) (λ t. append-nil (f.orders t)) lead)
      | inr out ↦
          releases_lead own f.plan is f.view f.reports out.told xs f.orders start
          (orders_same own f.plan f.view f.reports f.orders (λ t. f.orders t ++ []) f.manager (λ t. sym (append-nil (f.orders t))) a)
          (λ s id named. ap (list_any is_hello) (append-nil (f.orders s)) ∙ out.loud s id named)
          (same_leads f.plan f.plan f.view f.view f.orders (λ t. f.orders t ++ []) refl (λ t. refl) (λ t. append-nil (f.orders t)) lead)
    ])

part_leads : (own : Mac → Option Ip4) (f g : ControlPlane) → Holds own f → (part : ManagerPart f g) → ReleasesWhere (λ x. IsHeardOut x) f g part → TrapsLead f → TrapsLead g
part_leads own f g h (Treated s id told mid within named taken turns) then_only lead = treated_leads f g s id told mid taken turns lead
part_leads own f g h (Turned turns) then_only lead = same_leads f.plan g.plan f.view g.view f.orders g.orders turns.alike.plan turns.alike.view turns.orders lead
part_leads own f g h (Released aged rel) then_only lead = released_leads own f g h.is h.addressed aged rel then_only lead

parts_lead : (own : Mac → Option Ip4) (mids : List ControlPlane) (f g : ControlPlane) (parts : Parts mids f g) → AllReleaseWhere (λ x. IsHeardOut x) mids f g parts → Holds own f → TrapsLead f → TrapsLead g
parts_lead own [] f g part then_only h lead = part_leads own f g h part then_only lead
parts_lead own (mid ∷ mids) f g parts then_only h lead =
    parts_lead own mids mid g parts.1 then_only.1 (part_holds own f mid h parts.0) (part_leads own f mid h parts.0 then_only.0 lead)

-- ---- a switch takes a turn
module _ (own : Mac → Option Ip4) (m g : ControlPlane) (is : IsPlan m.plan) (waited : ℕ → List ToSwitch) (a : AreInOrder own m.plan m.view m.reports waited m.manager) (s : ℕ) (input : SwitchInput)
    (others : (t : ℕ) → (t ≡ s → ⊥) → m.orders t ≡ waited t) (apart : AreApart g.view) (turns : SwitchTurns Loose m s input g) (lead : TrapsLeadOn m.plan m.view waited) where
  plane_leads : (says : ToSwitch) →
      ((id : SwitchId) → Good own (registry_of m.manager) (Some id) (waited s) (m.view s) (m.reports s) →
      IsUnknown (registry_of m.manager) (m.view s) (switch_step turns.ruled.choose (m.view s) input).view.place →
      MovesBy says (λ x. granted (m.view s) x) (λ x. granted (switch_step turns.ruled.choose (m.view s) input).view x)) →
      ((y : Pmac) → list_any (is_release_of y) (waited s) ≡ false → list_any (is_release_of y) (m.orders s) ≡ false) →
      ((y : Pmac) → says ≡ say.Release y → list_any (is_release_of y) (waited s) ≡ true) →
      ((id : SwitchId) → slice_get m.plan.ids s ≡ Some id → (x : Pmac) (mac : Mac) (trap : Trap) → IsSetBy says (λ z. granted (m.view s) z) x mac trap → LeadsOn m.plan m.view waited trap.new mac) →
      TrapsLead g
  plane_leads says moves less first sets =
      let step = switch_step turns.ruled.choose (m.view s) input in
      let there = turns.there in
      let many = is.ids_many in
      let it = exists_at m.plan.ids s (omega (arith, there, many)) in
      let view_now : g.view s ≡ step.view = turns.acted.here ∙ turns.ruled.steps.view in
      let before : Good own (registry_of m.manager) (Some it.0) (waited s) (m.view s) (m.reports s) = record { edge = a.edges s it.0 it.1; address_table = a.tables s it.0 it.1 } in
      let nothing_known : IsUnknown (registry_of m.manager) (m.view s) step.view.place =
      subst (λ (v : SwitchView). IsUnknown (registry_of m.manager) (m.view s) v.place) view_now
      (unknown own m.plan m.view m.reports waited m.manager a s it.0 it.1 g.view g.reports g.orders apart turns.acted.others) in
      let moved : MovesBy says (λ x. granted (m.view s) x) (λ x. granted (g.view s) x) =
      subst (λ (v : SwitchView). MovesBy says (λ x. granted (m.view s) x) (λ x. granted v x)) (sym view_now) (moves it.0 before nothing_known) in
      let fewer : (t : ℕ) (i : SwitchId) → slice_get m.plan.ids t ≡ Some i → (y : Pmac) → list_any (is_release_of y) (waited t) ≡ false → list_any (is_release_of y) (m.orders t) ≡ false =
      λ t i at y none. elim (cases_eq t s) [
        | inl same ↦
            subst (λ n. list_any (is_release_of y) (m.orders n) ≡ false) (sym same) (less y (subst (λ n. list_any (is_release_of y) (waited n) ≡ false) same none))
        | inr other ↦ ap (list_any (is_release_of y)) (others t other) ∙ none
      ] in
      same_leads m.plan g.plan g.view g.view m.orders g.orders turns.acted.plan (λ t. refl) turns.acted.orders
      (turn_leads m.plan m.view g.view waited m.orders lead s it.0 it.1 turns.acted.others says moved fewer first (sets it.0 it.1))

  -- where no order was taken
  unordered_leads : (waited s ≡ m.orders s) →
      ((id : SwitchId) → Good own (registry_of m.manager) (Some id) (waited s) (m.view s) (m.reports s) →
      IsUnknown (registry_of m.manager) (m.view s) (switch_step turns.ruled.choose (m.view s) input).view.place →
      MovesBy (say.Avoid []) (λ x. granted (m.view s) x) (λ x. granted (switch_step turns.ruled.choose (m.view s) input).view x)) → TrapsLead g
  unordered_leads same moves =
      plane_leads (say.Avoid []) moves (λ y none. ap (list_any (is_release_of y)) (sym same) ∙ none) (λ y h. absurd (cc))
      (λ id named x mac trap set. let no : say.Avoid [] ≡ say.Invalidate x trap.new trap.number trap.ip = set.is in absurd (cc))

module _ (own : Mac → Option Ip4) (f g : ControlPlane) (is : IsPlan f.plan) (unheard : AreUnheard f) (apart : AreApart f.view) (apart_then : AreApart g.view) (a : AreAddressed own f) (lead : TrapsLead f) where
  -- where items left the queues between switches
  left_leads : (m : ControlPlane) (waited : ℕ → List ToSwitch) → IsLeft f m → ((t : ℕ) → waited t ≡ f.orders t) → TrapsLeadOn m.plan m.view waited
  left_leads m waited left orders = same_leads f.plan m.plan f.view m.view f.orders waited left.plan left.view orders lead

  frame_leads : (s port : ℕ) (frame : List ℕ) (m : ControlPlane) → IsLeft f m → ((t : ℕ) → m.reports t ≡ f.reports t) → ((t : ℕ) → m.orders t ≡ f.orders t) → SwitchTurns Loose m s (Comes port frame) g →
      (is_control frame ≡ false → is_open_to_hosts (port_of (m.view s) port) ≡ true → IsOfHost own (m.view s) port frame) → TrapsLead g
  frame_leads s port frame m left reports orders turns fair =
      unordered_leads own m g (left_plan own f g is unheard apart apart_then a m left) m.orders (left_in_order own f g is unheard apart apart_then a m m.orders left reports orders) s (Comes port frame) (λ t other. refl) apart_then turns
      (left_leads m m.orders left orders) refl
      (λ id good nothing.
      moves_by (say.Avoid []) (λ x. granted (m.view s) x) (λ x. granted (switch_step turns.ruled.choose (m.view s) (Comes port frame)).view x)
      (frame_moves own (registry_of m.manager) (Some id) turns.ruled.choose (m.orders s) (m.view s) port frame fair (m.reports s) good nothing))

  order_leads : (s : ℕ) (says : ToSwitch) (m : ControlPlane) → IsOrderTaken f s says m → SwitchTurns Loose m s (Says says) g → TrapsLead g
  order_leads s says m taken turns =
      let there : AreInOrder own m.plan m.view m.reports f.orders m.manager = left_in_order own f g is unheard apart apart_then a m f.orders taken.left taken.reports (λ t. refl) in
      plane_leads own m g (left_plan own f g is unheard apart apart_then a m taken.left) f.orders there s (Says says) taken.others apart_then turns (left_leads m f.orders taken.left (λ t. refl)) says
      (λ id good nothing. order_moves own (registry_of m.manager) (Some id) turns.ruled.choose (m.orders s) (m.view s) says (m.reports s)
      (subst (λ o. Good own (registry_of m.manager) (Some id) o (m.view s) (m.reports s)) taken.first good) nothing)
      (λ y none. rest_none (is_release_of y says) (list_any (is_release_of y) (m.orders s)) (sym (ap (list_any (is_release_of y)) taken.first) ∙ none))
      (λ y release. ap (list_any (is_release_of y)) (taken.first ∙ ap (λ q. q ∷ m.orders s) release) ∙ ap (λ b. b || list_any (is_release_of y) (m.orders s)) (pmac_itself y))
      (λ id named x mac trap set.
      order_leads_on own m.plan m.view m.reports f.orders m.manager there s id named x trap.new trap.number trap.ip 0 (ap (λ os. slice_get os 0) (taken.first ∙ ap (λ q. q ∷ m.orders s) set.is)) mac set.held)
    where
      rest_none : (b c : Bool) → (b || c) ≡ false → c ≡ false
      rest_none true c none = absurd (false≢true (sym none))
      rest_none false c none = none

  stepped_leads : (step : PlaneStep Loose treats_one f g) → LosesNoWord Loose treats_one f g step → IsFair own Loose treats_one f g step → TrapsLead g
  stepped_leads (Left left) keeps fair = same_leads f.plan g.plan f.view g.view f.orders g.orders left.plan left.view keeps.orders lead
  stepped_leads (Ticked s turns) keeps fair =
      unordered_leads own f g is f.orders a s Tick (λ t other. refl) apart_then turns lead refl
      (λ id good nothing.
      moves_by (say.Avoid []) (λ x. granted (f.view s) x) (λ x. granted (switch_step turns.ruled.choose (f.view s) Tick).view x)
      (tick_moves own (registry_of f.manager) (Some id) turns.ruled.choose (f.orders s) (f.view s) (f.reports s) good))
  stepped_leads (Heard t q s port frame mid adjacent control taken turns) keeps fair =
      frame_leads s port frame mid taken.left taken.reports taken.orders turns (λ other open_port. absurd (false≢true (sym other ∙ control)))
  stepped_leads (Carried t q s port frame mid adjacent bears carries taken turns) keeps fair =
      frame_leads s port frame mid taken.left taken.reports taken.orders turns
      (λ other open_port. absurd (false≢true (sym (ap (λ (v : SwitchView). is_open_to_hosts (port_of v port)) (taken.left.view s) ∙ fair) ∙ open_port)))
  stepped_leads (Entered s port frame edge within host bears turns) keeps fair =
      frame_leads s port frame f (itself own f g is unheard apart apart_then a) (λ t. refl) (λ t. refl) turns
      (λ other open_port. record { within = subst (λ n. port < n) (sym turns.size) within; own_ip = fair })
  stepped_leads (Ordered s says mid taken turns) keeps fair = order_leads s says mid taken turns
  stepped_leads (Managed s id told mid there named taken turns) keeps fair = treated_leads f g s id told mid taken turns lead

-- ---- a step to what is due
pub step_leads : (own : Mac → Option Ip4) (f g : ControlPlane) → IsPlan f.plan → AreUnheard f → AreApart f.view → AreApart g.view → (step : DueStep Loose f g) → IsFairDue own Loose f g step →
    ReleasesHeardOut Loose f g step → AreAddressed own f → TrapsLead f → TrapsLead g
step_leads own f g is unheard apart apart_then (Stepped told step sifted) fair then_only a lead =
    let apart_told : AreApart told.view = apart_same g.view told.view (λ t. sym (sifted.alike.view t)) apart_then in
    same_leads told.plan g.plan told.view g.view told.orders g.orders sifted.alike.plan sifted.alike.view sifted.orders
    (stepped_leads own f told is unheard apart apart_told a lead step.0 step.1 fair)
step_leads own f g is unheard apart apart_then (ManagedBy mids parts) fair then_only a lead =
    parts_lead own mids f g parts then_only (record {
      is = is;
      apart = apart;
      quiet = λ t i at silent. (unheard t i at silent).nothing;
      addressed = a;
    }) lead

-- ---- the manager begins anew: the same is granted, and nothing is released
pub restart_leads : (f g : ControlPlane) → IsPlan f.plan → Restarts f g → TrapsLead f → TrapsLead g
restart_leads f g is anew lead =
    let only : (t : ℕ) (i : SwitchId) → slice_get f.plan.ids t ≡ Some i → (y : Pmac) → list_any (is_release_of y) (g.orders t) ≡ false = λ t i at y.
    let less = slice_get_within f.plan.ids t i at in
    let many = is.ids_many in
    ap (list_any (is_release_of y)) (anew.orders t (omega (arith, less, many))) in
    same_leads f.plan g.plan f.view g.view g.orders g.orders anew.alike.plan anew.alike.view (λ t. refl)
    (λ s id named x q trap found set. let there = lead s id named x q trap found set in record { live = there.live; unreleased = λ t i at. only t i at trap.new })

-- ---- at the beginning nothing is granted
pub first_leads : (plan : Plan) (limits : Limits) → TrapsLead (due_plane (control_plane (booted plan limits)))
first_leads plan limits s id named x g trap found set =
    absurd (none-some g (sym (booted_view (λ (v : SwitchView). granted v x ≡ None) (λ i k. refl) plan.k plan.ids s) ∙ found))
