-- Each step to what is due keeps the addresses of the whole fabric in order.
use mathlib.Core.Path.{fun_ext}
use Rattle.std.proofs.Common.{◌≡◌, ◌<◌, ℕ, not, true, false, if◌then◌else◌, filter, fold, List, [], ◌∷◌, ◌++◌, Option, Some, slice_get, refl, sym, ap, subst, ◌∙◌, inl, inr, append-nil}
use Rattle.std.proofs.lemmas.Bool.{cases_Bool, cases_eq, false≢true}
use Rattle.pl_frame.specs.declared.address.Ip4.{Ip4}
use Rattle.pl_frame.specs.declared.address.Mac.{Mac}
use Rattle.pl_frame.specs.declared.address.SwitchId.{SwitchId}
use Rattle.pl_pmac.specs.declared.pmac.Pmac.{Pmac}
use Rattle.pl_layouts.specs.Control.{is_control}
use Rattle.pl_wiring.specs.Plan.{IsPlan, Plan}
use Rattle.pl_node.specs.declared.messages.ToManager.{ToManager}
use Rattle.pl_node.specs.declared.messages.ToSwitch.{ToSwitch}
use Rattle.pl_node.specs.declared.messages.ToSwitch.TheVariants as say
use Rattle.pl_node.specs.ManagerViews.{ManagerView}
use Rattle.pl_node.specs.PortRecords.{is_open_to_hosts, port_of}
use Rattle.pl_node.specs.SwitchInputs.SwitchInput.{Comes, Says, Tick}
use Rattle.pl_node.specs.SwitchViews.{SwitchView}
use Rattle.pl_manager_rule.specs.ManagerRule.{ManagerStep}
use Rattle.pl_manager_rule.specs.Treating.{at_rest, then_releases, to_release, treats_word, waits_for_places}
use Rattle.pl_switch_rule.specs.Reporting.{hears_hello}
use Rattle.pl_switch_rule.specs.SwitchRule.{Loose, switch_step}
use Rattle.pl_law_control_plane.specs.ControlPlanes.{ControlPlane}
use Rattle.pl_law_control_plane.specs.PlaneSteps.{IsLeft, IsOrderTaken, IsReportTaken, LosesNoWord, ManagerTurns, ordered, PlaneStep, SwitchTurns}
use Rattle.pl_law_control_plane.specs.PlaneSteps.PlaneStep.{Carried, Entered, Heard, Left, Managed, Ordered, Ticked}
use Rattle.pl_law_due.specs.Due.{is_hello, is_silent, words_of}
use Rattle.pl_law_due.specs.DueSteps.{DueStep, IsTurned, ManagerPart, Releases, treats_one, Turns}
use Rattle.pl_law_due.specs.DueSteps.DueStep.{Managed as ManagedBy, Stepped}
use Rattle.pl_law_due.specs.DueSteps.ManagerPart.{Released, Treated, Turned}
use Rattle.pl_law_due.specs.Gathering.{AreUnheard}
use Rattle.pl_law_due.proofs.Exports.{ordered_other, releases_other, through_parts, word_other}
use Rattle.pl_law_addresses.specs.EdgeAddresses.{edge_of}
use Rattle.pl_law_addresses.proofs.Exports.{IsOfHost, told_by}
use Rattle.pl_law_epochs.specs.Addressed.{AreAddressed, AreApart, AreInOrder, IsFair, IsFairDue}
use Rattle.pl_law_epochs.specs.Edges.{Registry, is_unheard, registry_of}
use Rattle.pl_law_epochs.proofs.EachWord.{word_in_order}
use Rattle.pl_law_epochs.proofs.Greeting.{hello_good}
use Rattle.pl_law_epochs.proofs.Noting.{orders_same}
use Rattle.pl_law_epochs.proofs.Orders.{unheard_more}
use Rattle.pl_law_epochs.proofs.Releasing.{releases_in_order}
use Rattle.pl_law_epochs.proofs.Rows.{Good}
use Rattle.pl_law_epochs.proofs.Sifting.{alike_edge, sifted_in_order, turned_alike}
use Rattle.pl_law_epochs.proofs.SwitchSteps.{brings_frame, brings_order, brings_tick}
use Rattle.pl_law_epochs.proofs.SwitchTurns.{plane_turned, TurnsWell, well_brought}

-- ---- in another plane where the same is known and waits
pub same_in_order : (own : Mac → Option Ip4) (plan next_plan : Plan) (view next_view : ℕ → SwitchView) (due next_due : ℕ → List ToManager) (orders next_orders : ℕ → List ToSwitch) (manager next_manager : ManagerView) →
    next_plan ≡ plan → ((t : ℕ) → next_view t ≡ view t) → ((t : ℕ) → next_due t ≡ due t) → ((t : ℕ) → next_orders t ≡ orders t) → next_manager ≡ manager →
    AreInOrder own plan view due orders manager → AreInOrder own next_plan next_view next_due next_orders next_manager
same_in_order own plan next_plan view next_view due next_due orders next_orders manager next_manager plans views dues orders_are managers a =
    subst (λ p. AreInOrder own p next_view next_due next_orders next_manager) (sym plans)
    (subst (λ v. AreInOrder own plan v next_due next_orders next_manager) (sym (fun_ext views))
    (subst (λ d. AreInOrder own plan view d next_orders next_manager) (sym (fun_ext dues))
    (subst (λ o. AreInOrder own plan view due o next_manager) (sym (fun_ext orders_are)) (subst (AreInOrder own plan view due orders) (sym managers) a))))

pub apart_same : (view next_view : ℕ → SwitchView) → ((t : ℕ) → next_view t ≡ view t) → AreApart view → AreApart next_view
apart_same view next_view views apart = subst AreApart (sym (fun_ext views)) apart

-- ---- what the manager does, part by part: of a switch that has not heard of the epoch nothing is due
abbrev pub AreQuiet : ControlPlane → Type 0
AreQuiet f = (t : ℕ) (i : SwitchId) → slice_get f.plan.ids t ≡ Some i → is_silent f.orders t ≡ true → f.reports t ≡ []

pub record Holds (own : Mac → Option Ip4) (f : ControlPlane) : Type 0 where
  pub is : IsPlan f.plan
  pub apart : AreApart f.view
  pub quiet : AreQuiet f
  pub addressed : AreAddressed own f

full_empty : {X : Type 0} (xs : List X) (x : X) (rest : List X) → xs ≡ x ∷ rest → xs ≡ [] → ⊥
full_empty xs x rest a b = let e : [] ≡ x ∷ rest = sym b ∙ a in absurd (cc)

-- where nothing was due, nothing is due in another turn
turned_nothing : (first others : List ToManager) → first ++ others ≡ [] → (filter (λ word. not (waits_for_places word)) first ++ filter waits_for_places first) ++ others ≡ []
turned_nothing [] [] none = refl
turned_nothing [] (w ∷ others) none = absurd (cc)
turned_nothing (w ∷ first) others none = absurd (cc)

nothing_turned : (before after : List ToManager) → IsTurned before after → before ≡ [] → after ≡ []
nothing_turned before after t none = t.now ∙ turned_nothing t.first t.others (sym t.was ∙ none)

module _ (own : Mac → Option Ip4) (f g : ControlPlane) (h : Holds own f) where
  treated_part : (s : ℕ) (id : SwitchId) (told : ToManager) (mid : ControlPlane) → slice_get f.plan.ids s ≡ Some id → IsReportTaken f s told mid → ManagerTurns treats_one mid id told g → Holds own g
  treated_part s id told mid named taken turns =
      let done = treats_word (at_rest f.manager) id told in
      let loud : is_unheard (f.orders s) ≡ false = elim (cases_Bool (is_unheard (f.orders s))) [
        | inr heard ↦ heard
        | inl silent ↦ absurd (full_empty (f.reports s) told (mid.reports s) taken.first (h.quiet s id named silent))
      ] in
      let now = word_in_order own f.plan h.is f.view h.apart f.reports f.orders f.manager h.addressed s id named mid.reports taken.others loud told taken.first in
      let plan : g.plan ≡ f.plan = turns.plan ∙ taken.left.plan in
      let view : (t : ℕ) → g.view t ≡ f.view t = λ t. turns.view t ∙ taken.left.view t in
      let orders : (t : ℕ) → g.orders t ≡ f.orders t ++ ordered f.plan t done.acts = λ t.
      turns.orders t ∙ ap (λ acts. mid.orders t ++ ordered mid.plan t acts) turns.ruled.1
      ∙ (λ j. taken.orders t j ++ ordered (taken.left.plan j) t (treats_word (at_rest (taken.left.manager j)) id told).acts) in
      let silence : (t : ℕ) → is_silent g.orders t ≡ is_silent f.orders t = λ t.
      ap is_unheard (orders t) ∙ unheard_more (f.orders t) (ordered f.plan t done.acts) (ordered_other f.plan t done.acts (word_other (at_rest f.manager) id told)) in
      record {
        is = subst IsPlan (sym plan) h.is;
        apart = apart_same f.view g.view view h.apart;
        quiet = λ t i at silent. elim (cases_eq t s) [
          | inr other ↦
              turns.reports t ∙ taken.others t other ∙ h.quiet t i (ap (λ (p : Plan). slice_get p.ids t) (sym plan) ∙ at) (sym (silence t) ∙ silent)
          | inl same ↦ absurd (false≢true (sym (ap (λ n. is_silent f.orders n) same ∙ loud) ∙ sym (silence t) ∙ silent))
        ];
        addressed = same_in_order own f.plan g.plan f.view g.view mid.reports g.reports (λ t. f.orders t ++ ordered f.plan t done.acts) g.orders done.known.view g.manager plan view turns.reports orders
            (turns.manager ∙ turns.ruled.0 ∙ ap (λ m. (treats_word (at_rest m) id told).known.view) taken.left.manager) now;
      }

  turned_part : Turns f g → Holds own g
  turned_part turns = record {
    is = subst IsPlan (sym turns.alike.plan) h.is;
    apart = apart_same f.view g.view turns.alike.view h.apart;
    quiet = λ t i at silent.
        nothing_turned (f.reports t) (g.reports t) (turns.reports t)
        (h.quiet t i (ap (λ (p : Plan). slice_get p.ids t) (sym turns.alike.plan) ∙ at) (ap is_unheard (sym (turns.orders t)) ∙ silent));
    addressed =
        let a = h.addressed in
        same_in_order own f.plan g.plan f.view g.view g.reports g.reports f.orders g.orders f.manager g.manager turns.alike.plan turns.alike.view (λ t. refl) turns.orders turns.manager (record {
          registry = a.registry;
          edges = λ t i at.
              alike_edge own (registry_of f.manager) (edge_of (Some i) (f.view t) (f.reports t) (f.orders t)) (g.reports t)
              (turned_alike own (edge_of (Some i) (f.view t) (f.reports t) (f.orders t)).granted (f.reports t) (g.reports t) (turns.reports t) (a.edges t i at).words) (a.edges t i at);
          tables = a.tables;
          homed = a.homed;
          once = a.once;
          alone = a.alone;
        });
  }

  released_part : (aged : List Pmac) → Releases f aged g → Holds own g
  released_part aged rel =
      let start : ManagerStep = record { view = f.manager; acts = [] } in
      let xs = to_release (record { view = f.manager; aged = aged }) in
      let now = releases_in_order own f.plan h.is f.view f.reports xs f.orders start
      (orders_same own f.plan f.view f.reports f.orders (λ t. f.orders t ++ []) f.manager (λ t. sym (append-nil (f.orders t))) h.addressed) in
      let silence : (t : ℕ) → is_silent g.orders t ≡ is_silent f.orders t = λ t.
      ap is_unheard (rel.orders t) ∙ unheard_more (f.orders t) (ordered f.plan t (fold then_releases start xs).acts) (ordered_other f.plan t (fold then_releases start xs).acts (releases_other xs start tt)) in
      record {
        is = subst IsPlan (sym rel.alike.plan) h.is;
        apart = apart_same f.view g.view rel.alike.view h.apart;
        quiet = λ t i at silent.
            rel.reports t ∙ h.quiet t i (ap (λ (p : Plan). slice_get p.ids t) (sym rel.alike.plan) ∙ at) (sym (silence t) ∙ silent);
        addressed = same_in_order own f.plan g.plan f.view g.view f.reports g.reports (λ t. f.orders t ++ ordered f.plan t (fold then_releases start xs).acts) g.orders (fold then_releases start xs).view g.manager rel.alike.plan rel.alike.view rel.reports rel.orders rel.manager now;
      }

  pub part_holds : ManagerPart f g → Holds own g
  part_holds (Treated s id told mid there named taken turns) = treated_part s id told mid named taken turns
  part_holds (Turned turns) = turned_part turns
  part_holds (Released aged rel) = released_part aged rel

-- ---- a switch steps, or the manager treats a word at once
module _ (own : Mac → Option Ip4) (f g : ControlPlane) (is : IsPlan f.plan) (unheard : AreUnheard f) (apart : AreApart f.view) (apart_then : AreApart g.view) (a : AreAddressed own f) where
  -- where items left the queues between switches
  pub left_in_order : (m : ControlPlane) (waited : ℕ → List ToSwitch) → IsLeft f m → ((t : ℕ) → m.reports t ≡ f.reports t) → ((t : ℕ) → waited t ≡ f.orders t) →
      AreInOrder own m.plan m.view m.reports waited m.manager
  left_in_order m waited left reports orders = same_in_order own f.plan m.plan f.view m.view f.reports m.reports f.orders waited f.manager m.manager left.plan left.view reports orders left.manager a

  pub left_plan : (m : ControlPlane) → IsLeft f m → IsPlan m.plan
  left_plan m left = subst IsPlan (sym left.plan) is

  -- the switch hears that the manager began anew: nothing else waits for it, and nothing is due of it
  greeted_well : (s epoch : ℕ) (mid : ControlPlane) → IsOrderTaken f s (say.Hello epoch) mid → (turns : SwitchTurns Loose mid s (Says (say.Hello epoch)) g) → (id : SwitchId) → slice_get mid.plan.ids s ≡ Some id →
      TurnsWell own (registry_of mid.manager) id (f.orders s) (mid.orders s) (mid.view s) (mid.reports s) (switch_step turns.ruled.choose (mid.view s) (Says (say.Hello epoch)))
  greeted_well s epoch mid taken turns id named =
      let r : Registry = registry_of mid.manager in
      let v = mid.view s in
      let silent : is_silent f.orders s ≡ true = ap is_unheard taken.first in
      let it = unheard s id (ap (λ (p : Plan). slice_get p.ids s) (sym taken.left.plan) ∙ named) silent in
      let both : say.Hello f.manager.epoch ∷ [] ≡ say.Hello epoch ∷ mid.orders s = sym it.alone ∙ taken.first in
      let none : [] ≡ mid.orders s = cc in
      let nothing : mid.reports s ≡ [] = taken.reports s ∙ it.nothing in
      let step = hears_hello v epoch in
      record {
        good = λ unknown good.
            subst (λ d. Good own r (Some id) (mid.orders s) step.view (d ++ told_by step.acts)) (sym nothing)
            (subst (λ o. Good own r (Some id) o step.view ([] ++ told_by step.acts)) none
            (hello_good own r (Some id) v f.manager.epoch epoch
            (subst (λ d. Good own r (Some id) (say.Hello f.manager.epoch ∷ []) v d) nothing (subst (λ o. Good own r (Some id) o v (mid.reports s)) it.alone good))));
        place = λ good settled. refl;
      }

  -- or it hears something else
  other_well : (s : ℕ) (says : ToSwitch) (mid : ControlPlane) → IsOrderTaken f s says mid → (turns : SwitchTurns Loose mid s (Says says) g) → is_hello says ≡ false → (id : SwitchId) →
      TurnsWell own (registry_of mid.manager) id (f.orders s) (mid.orders s) (mid.view s) (mid.reports s) (switch_step turns.ruled.choose (mid.view s) (Says says))
  other_well s says mid taken turns other id =
      let r : Registry = registry_of mid.manager in
      let step = switch_step turns.ruled.choose (mid.view s) (Says says) in
      subst (λ o. TurnsWell own r id o (mid.orders s) (mid.view s) (mid.reports s) step) (sym taken.first)
      (well_brought own r id turns.ruled.choose (says ∷ mid.orders s) (mid.orders s) (mid.view s) (mid.reports s) step
      (brings_order own r (Some id) turns.ruled.choose (mid.orders s) (mid.view s) says other))

  ordered_well : (s : ℕ) (says : ToSwitch) (mid : ControlPlane) → IsOrderTaken f s says mid → (turns : SwitchTurns Loose mid s (Says says) g) → (id : SwitchId) → slice_get mid.plan.ids s ≡ Some id →
      TurnsWell own (registry_of mid.manager) id (f.orders s) (mid.orders s) (mid.view s) (mid.reports s) (switch_step turns.ruled.choose (mid.view s) (Says says))
  ordered_well s (say.Hello epoch) mid taken turns id named = greeted_well s epoch mid taken turns id named
  ordered_well s (say.Pod n) mid taken turns id named = other_well s (say.Pod n) mid taken turns refl id
  ordered_well s (say.Answer a b c d) mid taken turns id named = other_well s (say.Answer a b c d) mid taken turns refl id
  ordered_well s (say.Flood a b c) mid taken turns id named = other_well s (say.Flood a b c) mid taken turns refl id
  ordered_well s (say.Avoid list) mid taken turns id named = other_well s (say.Avoid list) mid taken turns refl id
  ordered_well s (say.Invalidate a b c d) mid taken turns id named = other_well s (say.Invalidate a b c d) mid taken turns refl id
  ordered_well s (say.Release x) mid taken turns id named = other_well s (say.Release x) mid taken turns refl id
  ordered_well s (say.Tree group part) mid taken turns id named = other_well s (say.Tree group part) mid taken turns refl id

  -- a frame comes
  frame_in_order : (s port : ℕ) (frame : List ℕ) (m : ControlPlane) → IsLeft f m → ((t : ℕ) → m.reports t ≡ f.reports t) → ((t : ℕ) → m.orders t ≡ f.orders t) → SwitchTurns Loose m s (Comes port frame) g →
      (is_control frame ≡ false → is_open_to_hosts (port_of (m.view s) port) ≡ true → IsOfHost own (m.view s) port frame) → AreAddressed own g
  frame_in_order s port frame m left reports orders turns fair =
      plane_turned own m g (left_plan m left) m.orders (left_in_order m m.orders left reports orders) s (Comes port frame) (λ t other. refl) apart_then turns (λ id named.
      well_brought own (registry_of m.manager) id turns.ruled.choose (m.orders s) (m.orders s) (m.view s) (m.reports s) (switch_step turns.ruled.choose (m.view s) (Comes port frame))
      (brings_frame own (registry_of m.manager) (Some id) turns.ruled.choose (m.orders s) (m.view s) port frame fair))

  pub itself : IsLeft f f
  itself = record {
    plan = refl;
    view = λ s. refl;
    says = λ s port. record { gone = []; split = refl };
    carries = λ s port h. h;
    reports = λ s. record { gone = []; split = refl };
    orders = λ s. record { gone = []; split = refl };
    manager = refl;
  }

  pub stepped : (step : PlaneStep Loose treats_one f g) → LosesNoWord Loose treats_one f g step → IsFair own Loose treats_one f g step → AreAddressed own g
  stepped (Left left) keeps fair = same_in_order own f.plan g.plan f.view g.view f.reports g.reports f.orders g.orders f.manager g.manager left.plan left.view keeps.reports keeps.orders left.manager a
  stepped (Ticked s turns) keeps fair =
      plane_turned own f g is f.orders a s Tick (λ t other. refl) apart_then turns (λ id named.
      well_brought own (registry_of f.manager) id turns.ruled.choose (f.orders s) (f.orders s) (f.view s) (f.reports s) (switch_step turns.ruled.choose (f.view s) Tick)
      (brings_tick own (registry_of f.manager) (Some id) turns.ruled.choose (f.orders s) (f.view s)))
  stepped (Heard t q s port frame mid adjacent control taken turns) keeps fair =
      frame_in_order s port frame mid taken.left taken.reports taken.orders turns (λ other open_port. absurd (false≢true (sym other ∙ control)))
  stepped (Carried t q s port frame mid adjacent bears carries taken turns) keeps fair =
      frame_in_order s port frame mid taken.left taken.reports taken.orders turns
      (λ other open_port. absurd (false≢true (sym (ap (λ (v : SwitchView). is_open_to_hosts (port_of v port)) (taken.left.view s) ∙ fair) ∙ open_port)))
  stepped (Entered s port frame edge within host bears turns) keeps fair =
      frame_in_order s port frame f itself (λ t. refl) (λ t. refl) turns
      (λ other open_port. record { within = subst (λ n. port < n) (sym turns.size) within; own_ip = fair })
  stepped (Ordered s says mid taken turns) keeps fair =
      plane_turned own mid g (left_plan mid taken.left) f.orders (left_in_order mid f.orders taken.left taken.reports (λ t. refl)) s (Says says) taken.others apart_then turns
      (ordered_well s says mid taken turns)
  stepped (Managed s id told mid there named taken turns) keeps fair =
      (treated_part own f g (record {
        is = is;
        apart = apart;
        quiet = λ t i at silent. (unheard t i at silent).nothing;
        addressed = a;
      }) s id told mid named taken turns).addressed

-- ---- a step to what is due
pub step_in_order : (own : Mac → Option Ip4) (f g : ControlPlane) → IsPlan f.plan → AreUnheard f → AreApart f.view → AreApart g.view → (step : DueStep Loose f g) → IsFairDue own Loose f g step →
    AreAddressed own f → AreAddressed own g
step_in_order own f g is unheard apart apart_then (Stepped told step sifted) fair a =
    let apart_told : AreApart told.view = apart_same g.view told.view (λ t. sym (sifted.alike.view t)) apart_then in
    let there = stepped own f told is unheard apart apart_told a step.0 step.1 fair in
    same_in_order own told.plan g.plan told.view g.view (λ t. if is_unheard (told.orders t) then [] else words_of (told.reports t)) g.reports told.orders g.orders told.manager g.manager
    sifted.alike.plan sifted.alike.view sifted.reports sifted.orders sifted.manager (sifted_in_order own told.plan told.view told.reports told.orders told.manager there)
step_in_order own f g is unheard apart apart_then (ManagedBy mids parts) fair a =
    (through_parts (Holds own) (λ p q part h. part_holds own p q h part) mids f g parts (record {
      is = is;
      apart = apart;
      quiet = λ t i at silent. (unheard t i at silent).nothing;
      addressed = a;
    })).addressed
