-- Each step of the control plane keeps places true, and they are true at the beginning.
use Rattle.std.proofs.Common.{◌≡◌, ℕ, ◌<◌, Bool, true, false, if◌then◌else◌, List, [], ◌∷◌, ◌++◌, refl, sym, ap, ◌∙◌, subst}
use Rattle.std.specs.List.{AllByRecursion}
use Rattle.pl_frame.specs.declared.address.SwitchId.{SwitchId}
use Rattle.pl_layouts.specs.declared.control.Control.{Control}
use Rattle.pl_layouts.specs.Control.{is_control}
use Rattle.pl_wiring.specs.declared.link.Peer.TheVariants.{HostPort}
use Rattle.pl_wiring.specs.Labels.{edge_count, switch_count}
use Rattle.pl_wiring.specs.Peers.{peer_of}
use Rattle.pl_wiring.specs.Plan.{IsPlan, Plan}
use Rattle.pl_node.specs.declared.messages.ToManager.{ToManager}
use Rattle.pl_node.specs.declared.messages.ToSwitch.{ToSwitch}
use Rattle.pl_node.specs.ManagerDuties.{ManagerRule}
use Rattle.pl_node.specs.PortRecords.{port_of}
use Rattle.pl_node.specs.SwitchInputs.{SwitchInput}
use Rattle.pl_node.specs.SwitchInputs.SwitchInput.{Comes, Says, Tick}
use Rattle.pl_switch_rule.specs.Forwarding.{Choice}
use Rattle.pl_switch_rule.specs.SwitchRule.{IsChoice, Loose, control_comes, data_comes, hears_control, switch_step}
use Rattle.pl_law_control_plane.specs.ControlPlanes.{AreAdjacent, ControlPlane, message_in, messages_of}
use Rattle.pl_law_control_plane.specs.PlaneSteps.{IsLeft, IsOrderTaken, MessageIsTaken, ManagerTurns, PlaneStep, SwitchTurns}
use Rattle.pl_law_control_plane.specs.PlaneSteps.PlaneStep.{Carried, Entered, Heard, Left, Managed, Ordered, Ticked}
use Rattle.pl_law_control_plane.specs.Restarts.{IsAlike, OnPlane}
use Rattle.pl_law_control_plane.specs.Restarts.OnPlane.{BeginsAnew, Steps}
use Rattle.pl_law_places.specs.Places.{ArePlaced, ArePodNumbers, IsPodNumber, PositionsDiffer}
use Rattle.pl_law_places.specs.Told.{IsGoodMessage, has_heard}
use Rattle.pl_law_places.proofs.HostFramesKeepPlaces.{carried_turn, entered_turn}
use Rattle.pl_law_places.proofs.DiscoveryKeepsPlaces.{control_turn}
use Rattle.pl_law_places.proofs.Later.{IsGoodTurn, left_keeps, true_of_itself, turn_keeps, zero_later}
use Rattle.pl_law_places.proofs.Obeying.{order_turn}
use Rattle.pl_law_places.proofs.Ticking.{tick_turn}

-- a turn of a switch of which each choice keeps places true
turn_kept : (plan : Plan) (f g : ControlPlane) (s : ℕ) (input : SwitchInput) → IsPlan plan → ArePlaced plan f → (turns : SwitchTurns Loose f s input g) →
    ((choose : Choice) → IsChoice choose → IsGoodTurn plan f s (switch_step choose (f.view s) input).view (switch_step choose (f.view s) input).acts) → ArePlaced plan g
turn_kept plan f g s input is old turns good =
    let choose : Choice = turns.ruled.choose in
    let turn = good choose turns.ruled.is_choice in
    turn_keeps plan f g s turns.after turns.failed turns.acts is old turns.acted (rw (turns.ruled.steps.view, turns.ruled.steps.done) turn)

-- the same positions are known after items left queues
positions_left : (plan : Plan) (f g : ControlPlane) → IsLeft f g → PositionsDiffer plan f → PositionsDiffer plan g
positions_left plan f g left differ = λ pod i j x s t a b c d.
    differ pod i j x s t a b (ap (λ v. v.place.position) (sym (left.view s)) ∙ c) (ap (λ v. v.place.position) (sym (left.view t)) ∙ d)

module _ (manager : ManagerRule) (f g : ControlPlane) (is : IsPlan f.plan) (old : ArePlaced f.plan f) (differ : PositionsDiffer f.plan f) (numbers : ArePodNumbers f) where
  count_same : (mid : ControlPlane) (s : ℕ) → mid.plan ≡ f.plan → s < switch_count mid.plan.k → s < switch_count f.plan.k
  count_same mid s same less = rw (← same) less

  size_same : (mid : ControlPlane) (k : ℕ) → mid.plan ≡ f.plan → k ≡ mid.plan.k → k ≡ f.plan.k
  size_same mid k same e = rw (← same) e

  first_good : (mid : ControlPlane) (t q s port : ℕ) (first : List Control) → AreAdjacent f.plan t q s port → MessageIsTaken f t q first mid →
      AllByRecursion (IsGoodMessage (mid.view t).id (mid.view t).place (has_heard (mid.view t) q)) first
  first_good mid t q s port first adjacent taken =
      rw (taken.left.view t) (front first (mid.says t q) (subst (AllByRecursion (IsGoodMessage (f.view t).id (f.view t).place (has_heard (f.view t) q))) taken.first_said (old.links t q s port adjacent).queued))
    where
      front : (xs ys : List Control) → AllByRecursion (IsGoodMessage (f.view t).id (f.view t).place (has_heard (f.view t) q)) (xs ++ ys) →
          AllByRecursion (IsGoodMessage (f.view t).id (f.view t).place (has_heard (f.view t) q)) xs
      front [] ys all = tt
      front (x ∷ xs) ys all = (all.0, front xs ys all.1)

  heard_kept : (t q s port : ℕ) (frame : List ℕ) (mid : ControlPlane) → AreAdjacent f.plan t q s port → is_control frame ≡ true →
      MessageIsTaken f t q (messages_of (message_in frame)) mid → SwitchTurns Loose mid s (Comes port frame) g → ArePlaced f.plan g
  unfolding message_in
  heard_kept t q s port frame mid adjacent control taken turns =
      let placed = left_keeps f.plan f mid taken.left old in
      turn_kept f.plan mid g s (Comes port frame) is placed turns (λ choose chooses. by choose (is_control frame) control placed)
    where
      at_port : (b : Bool) → b ≡ false → (placed : ArePlaced f.plan mid) → (choose : Choice) →
          IsGoodTurn f.plan mid s (if b then record { view = mid.view s; acts = [] } else hears_control (mid.view s) port (message_in frame)).view
          (if b then record { view = mid.view s; acts = [] } else hears_control (mid.view s) port (message_in frame)).acts
      at_port true e placed choose = absurd (cc)
      at_port false e placed choose =
          control_turn f.plan mid s is placed (positions_left f.plan f mid taken.left differ) (count_same mid s taken.left.plan turns.there)
          (size_same mid (mid.view s).k taken.left.plan turns.size) t q port adjacent (message_in frame) (first_good mid t q s port (messages_of (message_in frame)) adjacent taken)

      by : (choose : Choice) (b : Bool) → b ≡ true → (placed : ArePlaced f.plan mid) →
          IsGoodTurn f.plan mid s (if b then control_comes (mid.view s) port frame else data_comes choose (mid.view s) port frame).view
          (if b then control_comes (mid.view s) port frame else data_comes choose (mid.view s) port frame).acts
      by choose true e placed = at_port (port_of (mid.view s) port).host (placed.links t q s port adjacent).recorded.no_host placed choose
      by choose false e placed = absurd (cc)

  carried_kept : (t q s port : ℕ) (frame : List ℕ) (mid : ControlPlane) → AreAdjacent f.plan t q s port → is_control frame ≡ false → f.carries t q ≡ true →
      MessageIsTaken f t q [] mid → SwitchTurns Loose mid s (Comes port frame) g → ArePlaced f.plan g
  carried_kept t q s port frame mid adjacent data_frame carries taken turns =
      let placed = left_keeps f.plan f mid taken.left old in
      turn_kept f.plan mid g s (Comes port frame) is placed turns (λ choose chooses. by choose chooses (is_control frame) data_frame placed)
    where
      by : (choose : Choice) → IsChoice choose → (b : Bool) → b ≡ false → (placed : ArePlaced f.plan mid) →
          IsGoodTurn f.plan mid s (if b then control_comes (mid.view s) port frame else data_comes choose (mid.view s) port frame).view
          (if b then control_comes (mid.view s) port frame else data_comes choose (mid.view s) port frame).acts
      by choose chooses true e placed = absurd (cc)
      by choose chooses false e placed =
          carried_turn f.plan mid s is placed (count_same mid s taken.left.plan turns.there) turns.shaped (size_same mid (mid.view s).k taken.left.plan turns.size)
          choose t q port frame chooses adjacent (rw (taken.left.view s) ((old.links t q s port adjacent).evidence carries))

  entered_kept : (s port : ℕ) (frame : List ℕ) → s < edge_count f.plan.k → port < f.plan.k → peer_of f.plan s port ≡ HostPort → is_control frame ≡ false →
      SwitchTurns Loose f s (Comes port frame) g → ArePlaced f.plan g
  entered_kept s port frame edge within free data_frame turns =
      turn_kept f.plan f g s (Comes port frame) is old turns (λ choose chooses. by choose chooses (is_control frame) data_frame)
    where
      by : (choose : Choice) → IsChoice choose → (b : Bool) → b ≡ false →
          IsGoodTurn f.plan f s (if b then control_comes (f.view s) port frame else data_comes choose (f.view s) port frame).view
          (if b then control_comes (f.view s) port frame else data_comes choose (f.view s) port frame).acts
      by choose chooses true e = absurd (cc)
      by choose chooses false e = entered_turn f.plan f s is old turns.there turns.shaped turns.size port edge within free choose frame chooses

  order_kept : (s : ℕ) (says : ToSwitch) (mid : ControlPlane) → IsOrderTaken f s says mid → SwitchTurns Loose mid s (Says says) g → ArePlaced f.plan g
  order_kept s says mid taken turns =
      let placed = left_keeps f.plan f mid taken.left old in
      let small : AllByRecursion IsPodNumber (says ∷ mid.orders s) = subst (AllByRecursion IsPodNumber) taken.first (numbers s) in
      turn_kept f.plan mid g s (Says says) is placed turns
      (λ choose chooses. order_turn f.plan mid s is placed (count_same mid s taken.left.plan turns.there) choose says chooses small.0)

  manager_kept : (id : SwitchId) (told : ToManager) (mid : ControlPlane) → ArePlaced f.plan mid → ManagerTurns manager mid id told g → ArePlaced f.plan g
  manager_kept id told mid placed turns = record {
    links = λ s p t q adjacent. rw (turns.view s, turns.view t, turns.says s p, turns.carries s p) (placed.links s p t q adjacent);
    strangers = λ s p free. rw (turns.view s) (placed.strangers s p free);
    own = λ s. rw (turns.view s) (placed.own s);
    pods = λ s n known.
        let has = placed.pods s n (ap (λ v. v.place.pod) (sym (turns.view s)) ∙ known) in
        (has.0, zero_later f.plan.k mid.view g.view s n has.0 (rw (turns.view has.0) (true_of_itself (mid.view has.0).place)) has.1);
    sound = λ s there. rw (turns.view s) (placed.sound s there);
  }

  pub step_keeps : PlaneStep Loose manager f g → ArePlaced f.plan g
  step_keeps (Left left) = left_keeps f.plan f g left old
  step_keeps (Ticked s turns) = turn_kept f.plan f g s Tick is old turns (λ choose chooses. tick_turn f.plan f s is old turns.there turns.size)
  step_keeps (Heard t q s port frame mid adjacent control taken turns) = heard_kept t q s port frame mid adjacent control taken turns
  step_keeps (Carried t q s port frame mid adjacent data_frame carries taken turns) = carried_kept t q s port frame mid adjacent data_frame carries taken turns
  step_keeps (Entered s port frame edge within free data_frame turns) = entered_kept s port frame edge within free data_frame turns
  step_keeps (Ordered s says mid taken turns) = order_kept s says mid taken turns
  step_keeps (Managed s id told mid there named taken turns) = manager_kept id told mid (left_keeps f.plan f mid taken.left old) turns

-- what is kept in a step, and where the manager begins anew
pub places_on : (manager : ManagerRule) (f g : ControlPlane) → IsPlan f.plan → ArePlaced f.plan f → PositionsDiffer f.plan f → ArePodNumbers f → OnPlane Loose manager f g →
    ArePlaced f.plan g
places_on manager f g is placed differ numbers (Steps step) = step_keeps manager f g is placed differ numbers step.0
places_on manager f g is placed differ numbers (BeginsAnew anew) = alike_placed f.plan f g anew.alike placed
  where
    alike_placed : (plan : Plan) (f g : ControlPlane) → IsAlike f g → ArePlaced plan f → ArePlaced plan g
    alike_placed plan f g alike placed =
        let like : ControlPlane = record g { reports = f.reports; orders = f.orders; manager = f.manager } in
        let it = left_keeps plan f like (record {
          plan = alike.plan;
          view = alike.view;
          says = λ s port. record { gone = []; split = sym (alike.says s port) };
          carries = alike.carries;
          reports = λ s. record { gone = []; split = refl };
          orders = λ s. record { gone = []; split = refl };
          manager = refl;
        }) placed in
        record { links = it.links; strangers = it.strangers; own = it.own; pods = it.pods; sound = it.sound }
