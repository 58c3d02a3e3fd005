-- What a step of the control plane is to one switch, where places are true: it steps quietly, it ticks, or it hears a message of a neighbour. To a
-- restart of the manager it is nothing.
use Rattle.std.proofs.Common.{◌≡◌, ℕ, ◌<◌, Bool, true, false, if◌then◌else◌, List, [], ◌∷◌, ◌++◌, Result, refl, sym, ◌∙◌, ap, subst, subst₂, arith, inl, inr}
use Rattle.std.specs.List.{AllByRecursion}
use Rattle.std.proofs.lemmas.Bool.{cases_eq}
use Rattle.pl_frame.specs.Ethernet.{payload_of}
use Rattle.pl_layouts.specs.declared.control.Control.{Control}
use Rattle.pl_layouts.specs.declared.control.ControlError.{ControlError}
use Rattle.pl_layouts.specs.Control.{control_in, is_control}
use Rattle.pl_wiring.specs.Labels.{switch_count}
use Rattle.pl_wiring.specs.Plan.{IsPlan, Plan}
use Rattle.pl_node.specs.Accounting.{IsShaped}
use Rattle.pl_node.specs.ManagerDuties.{ManagerRule}
use Rattle.pl_node.specs.SwitchInputs.{SwitchInput}
use Rattle.pl_node.specs.SwitchInputs.SwitchInput.{Comes, Says, Tick}
use Rattle.pl_node.specs.SwitchViews.{SwitchView}
use Rattle.pl_steps.specs.Steps.{SwitchStep, rests}
use Rattle.pl_switch_rule.specs.Announcing.{ticks}
use Rattle.pl_switch_rule.specs.SwitchRule.{Loose, control_comes, data_comes, hears_control, switch_step}
use Rattle.pl_law_control_plane.specs.ControlPlanes.{AreAdjacent, ControlPlane, message_in, messages_of}
use Rattle.pl_law_control_plane.specs.PlaneSteps.{IsActed, IsLeft, MessageIsTaken, LeftOver, PlaneStep, SwitchTurns}
use Rattle.pl_law_control_plane.specs.PlaneSteps.PlaneStep.{Carried, Entered, Heard, Left, Managed, Ordered, Ticked}
use Rattle.pl_law_control_plane.specs.Restarts.{OnPlane}
use Rattle.pl_law_control_plane.specs.Restarts.OnPlane.{BeginsAnew, Steps}
use Rattle.pl_law_control_plane.proofs.Exports.{nothing_left}
use Rattle.pl_law_places.specs.Places.{ArePlaced, ArePodNumbers, IsPodNumber, PositionsDiffer}
use Rattle.pl_law_places.specs.Told.{IsGoodMessage, IsTrueOf, has_heard}
use Rattle.pl_law_places.proofs.Exports.{carried_turn, control_turn, entered_turn, IsGoodTurn, left_keeps, order_turn, tick_turn, true_of_itself}
use Rattle.pl_law_votes.specs.Voting.{aggregation_no}
use Rattle.pl_law_placing.proofs.Ports.{ports_carried, ports_manager}
use Rattle.pl_law_votes.proofs.Exports.{aside_data, LeavesVotes, votes_left, manager_leaves_votes}

-- a switch steps, after items left queues
pub record Turned (f m g : ControlPlane) (s : ℕ) (st : SwitchStep) : Type 0 where
  pub left : IsLeft f m
  pub failed : ℕ → Bool
  pub acted : IsActed m s st.view failed st.acts g
  pub good : IsGoodTurn f.plan m s st.view st.acts
  pub there : s < switch_count f.plan.k
  pub shaped : IsShaped (m.view s)
  pub size : (m.view s).k ≡ f.plan.k

-- an aggregation switch has the same records of its ports
abbrev pub HasSamePorts : ControlPlane → ControlPlane → ℕ → SwitchView → Type 0
HasSamePorts f m s after = (pod j : ℕ) → aggregation_no f.plan.k pod j ≡ s → after.ports ≡ (m.view s).ports

pub data Seen (f g : ControlPlane) : Type 0 where
  Gone : ((s : ℕ) → g.view s ≡ f.view s) → ((s port : ℕ) → LeftOver (f.says s port) (g.says s port)) → Seen f g
  Quiet : (m : ControlPlane) (s : ℕ) (st : SwitchStep) → Turned f m g s st → LeavesVotes (m.view s) st → HasSamePorts f m s st.view → Seen f g
  Ticks : (s : ℕ) → Turned f f g s (ticks (f.view s)) → Seen f g
  Hears : (m : ControlPlane) (t q s port : ℕ) (read : Result Control ControlError) → AreAdjacent f.plan t q s port → MessageIsTaken f t q (messages_of read) m →
      AllByRecursion (IsGoodMessage (m.view t).id (m.view t).place (has_heard (m.view t) q)) (messages_of read) → Turned f m g s (hears_control (m.view s) port read) → Seen f g

turned : (f m g : ControlPlane) (s : ℕ) (input : SwitchInput) (st : SwitchStep) → IsLeft f m → (turns : SwitchTurns Loose m s input g) →
    switch_step turns.ruled.choose (m.view s) input ≡ st → IsGoodTurn f.plan m s st.view st.acts → Turned f m g s st
turned f m g s input st left turns same good = record {
  left = left;
  failed = turns.failed;
  acted = subst₂ (λ w acts. IsActed m s w turns.failed acts g) (turns.ruled.steps.view ∙ ap (λ (x : SwitchStep). x.view) same)
      (turns.ruled.steps.done ∙ ap (λ (x : SwitchStep). x.acts) same) turns.acted;
  good = good;
  there = subst (λ (p : Plan). s < switch_count p.k) left.plan turns.there;
  shaped = turns.shaped;
  size = turns.size ∙ ap (λ (p : Plan). p.k) left.plan;
}

module _ (manager : ManagerRule) (f g : ControlPlane) (is : IsPlan f.plan) (old : ArePlaced f.plan f) (differ : PositionsDiffer f.plan f) (numbers : ArePodNumbers f) where
  positions_left : (m : ControlPlane) → IsLeft f m → PositionsDiffer f.plan m
  positions_left m left = λ pod i j x s t a b c d.
      differ pod i j x s t a b (ap (λ v. v.place.position) (sym (left.view s)) ∙ c) (ap (λ v. v.place.position) (sym (left.view t)) ∙ d)

  first_good : (m : ControlPlane) (t q s port : ℕ) (first : List Control) → AreAdjacent f.plan t q s port → MessageIsTaken f t q first m →
      AllByRecursion (IsGoodMessage (m.view t).id (m.view t).place (has_heard (m.view t) q)) first
  first_good m t q s port first adjacent taken =
      rw (taken.left.view t) (front first (m.says t q) (subst (AllByRecursion (IsGoodMessage (f.view t).id (f.view t).place (has_heard (f.view t) q))) taken.first_said (old.links t q s port adjacent).queued))
    where
      front : (xs ys : List Control) → AllByRecursion (IsGoodMessage (f.view t).id (f.view t).place (has_heard (f.view t) q)) (xs ++ ys) →
          AllByRecursion (IsGoodMessage (f.view t).id (f.view t).place (has_heard (f.view t) q)) xs
      front [] ys all = tt
      front (x ∷ xs) ys all = (all.0, front xs ys all.1)

  there_of : (m : ControlPlane) (s : ℕ) → m.plan ≡ f.plan → s < switch_count m.plan.k → s < switch_count f.plan.k
  there_of m s same there = subst (λ (p : Plan). s < switch_count p.k) same there

  heard_seen : (t q s port : ℕ) (frame : List ℕ) (m : ControlPlane) → AreAdjacent f.plan t q s port → is_control frame ≡ true →
      MessageIsTaken f t q (messages_of (message_in frame)) m → SwitchTurns Loose m s (Comes port frame) g → Seen f g
  unfolding message_in
  heard_seen t q s port frame m adjacent control taken turns =
      let placed = left_keeps f.plan f m taken.left old in
      let read = control_in (payload_of frame) in
      let view = m.view s in
      let no_host = (placed.links t q s port adjacent).recorded.no_host in
      let there = there_of m s taken.left.plan turns.there in
      let size = turns.size ∙ ap (λ (p : Plan). p.k) taken.left.plan in
      let step : switch_step turns.ruled.choose view (Comes port frame) ≡ hears_control view port read =
      ap (λ b. if◌then◌else◌ {A = SwitchStep} b (control_comes view port frame) (data_comes turns.ruled.choose view port frame)) control
      ∙ ap (λ b. if◌then◌else◌ {A = SwitchStep} b (rests view) (hears_control view port read)) no_host in
      let good = first_good m t q s port (messages_of read) adjacent taken in
      Hears m t q s port read adjacent taken good
      (turned f m g s (Comes port frame) (hears_control view port read) taken.left turns step
      (control_turn f.plan m s is placed (positions_left m taken.left) there size t q port adjacent read good))

  data_seen : (m : ControlPlane) (s port : ℕ) (frame : List ℕ) → IsLeft f m → is_control frame ≡ false → (turns : SwitchTurns Loose m s (Comes port frame) g) →
      IsGoodTurn f.plan m s (data_comes turns.ruled.choose (m.view s) port frame).view (data_comes turns.ruled.choose (m.view s) port frame).acts →
      HasSamePorts f m s (data_comes turns.ruled.choose (m.view s) port frame).view → Seen f g
  data_seen m s port frame left data_frame turns good ports =
      let view = m.view s in
      let comes = data_comes turns.ruled.choose view port frame in
      let step : switch_step turns.ruled.choose view (Comes port frame) ≡ comes =
      ap (λ b. if◌then◌else◌ {A = SwitchStep} b (control_comes view port frame) comes) data_frame in
      Quiet m s comes (turned f m g s (Comes port frame) comes left turns step good) (votes_left view comes (aside_data turns.ruled.choose view port frame)) ports

  pub step_seen : PlaneStep Loose manager f g → Seen f g
  step_seen (Left left) = Gone left.view left.says
  step_seen (Ticked s turns) =
      Ticks s (turned f f g s Tick (ticks (f.view s)) (nothing_left f) turns refl (tick_turn f.plan f s is old turns.there turns.size))
  step_seen (Heard t q s port frame m adjacent control taken turns) = heard_seen t q s port frame m adjacent control taken turns
  step_seen (Carried t q s port frame m adjacent data_frame carries taken turns) =
      let placed = left_keeps f.plan f m taken.left old in
      data_seen m s port frame taken.left data_frame turns
      (carried_turn f.plan m s is placed (there_of m s taken.left.plan turns.there) turns.shaped (turns.size ∙ ap (λ (p : Plan). p.k) taken.left.plan)
      turns.ruled.choose t q port frame turns.ruled.is_choice adjacent (rw (taken.left.view s) ((old.links t q s port adjacent).evidence carries)))
      (λ pod j here. ports_carried turns.ruled.choose (m.view s) port frame (placed.links t q s port adjacent).recorded.no_host
      (rw (taken.left.view s) ((old.links t q s port adjacent).evidence carries)))
  step_seen (Entered s port frame edge within free data_frame turns) =
      data_seen f s port frame (nothing_left f) data_frame turns
      (entered_turn f.plan f s is old turns.there turns.shaped turns.size port edge within free turns.ruled.choose frame turns.ruled.is_choice)
      (λ pod j here. absurd (omega (arith, here, edge)))
  step_seen (Ordered s says m taken turns) =
      let placed = left_keeps f.plan f m taken.left old in
      let small : AllByRecursion IsPodNumber (says ∷ m.orders s) = subst (AllByRecursion IsPodNumber) taken.first (numbers s) in
      let st = switch_step turns.ruled.choose (m.view s) (Says says) in
      Quiet m s st
      (turned f m g s (Says says) st taken.left turns refl
      (order_turn f.plan m s is placed (there_of m s taken.left.plan turns.there) turns.ruled.choose says turns.ruled.is_choice small.0))
      (manager_leaves_votes turns.ruled.choose (m.view s) says)
      (λ pod j here. ports_manager turns.ruled.choose (m.view s) says)
  step_seen (Managed s id told m there named taken turns) =
      Gone (λ t. turns.view t ∙ taken.left.view t)
      (λ t port. let queue = taken.left.says t port in record { gone = queue.gone; split = queue.split ∙ ap (λ xs. queue.gone ++ xs) (sym (turns.says t port)) })

  -- and where the manager begins anew nothing changes at the switches
  pub seen_on : OnPlane Loose manager f g → Seen f g
  seen_on (Steps step) = step_seen step.0
  seen_on (BeginsAnew anew) = Gone anew.alike.view (λ t port. record { gone = []; split = sym (anew.alike.says t port) })

-- ids stay, and what is known of a place
pub record IsGrown (old new : ℕ → SwitchView) : Type 0 where
  pub id : (s : ℕ) → (new s).id ≡ (old s).id
  pub later : (s : ℕ) → IsTrueOf (old s).place (new s).place

pub turned_grown : (f m g : ControlPlane) (s : ℕ) (st : SwitchStep) → Turned f m g s st → IsGrown m.view g.view
turned_grown f m g s st turn = record {
  id = λ x. elim (cases_eq x s) [
    | inl here ↦ ap (λ y. (g.view y).id) here ∙ ap (λ (w : SwitchView). w.id) turn.acted.here ∙ turn.good.id ∙ ap (λ y. (m.view y).id) (sym here)
    | inr other ↦ ap (λ (w : SwitchView). w.id) (turn.acted.others x other)
  ];
  later = λ x. elim (cases_eq x s) [
    | inl here ↦ rw here (rw turn.acted.here turn.good.later)
    | inr other ↦ rw (turn.acted.others x other) (true_of_itself (m.view x).place)
  ];
}
