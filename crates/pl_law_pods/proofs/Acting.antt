-- What a step of the control plane is to the numbers of pods: a switch acts, and takes a number only where the manager told it one, or the manager acts.
use Rattle.std.proofs.Common.{◌≡◌, ◌⊎◌, ◌<◌, ℕ, Bool, true, false, if◌then◌else◌, List, [], ◌∷◌, ◌++◌, Option, Some, None, Result, Ok, Err, slice_get, refl, sym, ap, ◌∙◌, subst, subst₂, inl, inr}
use Rattle.std.specs.List.{AllByRecursion}
use Rattle.pl_frame.specs.Ethernet.{payload_of}
use Rattle.pl_frame.specs.declared.address.SwitchId.{SwitchId}
use Rattle.pl_layouts.specs.declared.control.Control.{Control}
use Rattle.pl_layouts.specs.declared.control.Control.TheVariants.{Ldm, Proposal, Vote}
use Rattle.pl_layouts.specs.declared.control.ControlError.{ControlError}
use Rattle.pl_layouts.specs.declared.place.Place.{Place}
use Rattle.pl_layouts.specs.Control.{control_in, is_control}
use Rattle.pl_layouts.specs.Placement.{is_known}
use Rattle.pl_layouts.proofs.Exports.{known_is}
use Rattle.pl_wiring.specs.declared.label.Label.TheVariants.{Edge}
use Rattle.pl_wiring.specs.Labels.{label_of, switch_count}
use Rattle.pl_wiring.specs.Plan.{IsPlan, Plan}
use Rattle.pl_node.specs.declared.messages.ToManager.{ToManager}
use Rattle.pl_node.specs.declared.messages.ToSwitch.{ToSwitch}
use Rattle.pl_node.specs.declared.messages.ToSwitch.TheVariants as say
use Rattle.pl_node.specs.ManagerDuties.{ManagerRule}
use Rattle.pl_node.specs.PortRecords.{port_of}
use Rattle.pl_node.specs.SwitchInputs.{SwitchInput}
use Rattle.pl_node.specs.SwitchInputs.SwitchInput.{Comes, Says, Tick}
use Rattle.pl_node.specs.SwitchViews.{SwitchView}
use Rattle.pl_steps.specs.Steps.{SwitchStep, rests}
use Rattle.pl_switch_rule.specs.Announcing.{ticks, with_aged_ports}
use Rattle.pl_switch_rule.specs.SwitchRule.{Loose, control_comes, data_comes, hears_control, switch_step}
use Rattle.pl_switch_rule.proofs.Exports.{ages_learn}
use Rattle.pl_law_control_plane.specs.ControlPlanes.{AreAdjacent, ControlPlane, message_in, messages_of}
use Rattle.pl_law_control_plane.specs.PlaneSteps.{AreAsBefore, IsLeft, IsOrderTaken, IsReportTaken, LosesNoWord, MessageIsTaken, ManagerTurns, PlaneStep, SwitchTurns}
use Rattle.pl_law_control_plane.specs.PlaneSteps.PlaneStep.{Carried, Entered, Heard, Left, Managed, Ordered, Ticked}
use Rattle.pl_law_control_plane.proofs.Exports.{nothing_left}
use Rattle.pl_law_places.specs.Known.{pod_of}
use Rattle.pl_law_places.specs.Places.{ArePlaced, ArePodNumbers, IsPodNumber}
use Rattle.pl_law_places.specs.Told.{IsGoodMessage, IsTrueOf, has_heard}
use Rattle.pl_law_places.proofs.Exports.{carried_turn, control_turn, entered_turn, IsGoodTurn, left_keeps, order_turn, tick_turn}
use Rattle.pl_law_votes.specs.Voting.{FixedAreApart}
use Rattle.pl_law_votes.proofs.Exports.{aside_data, aside_manager}
use Rattle.pl_law_pods.specs.Ways.{own_pod}
use Rattle.pl_law_pods.proofs.StepsKeepPods.{Knows, KnowsBy, TellsPod, edge_label, knows_aside, knows_heard, knows_pod, knows_same, level_zero, never_told}
use Rattle.pl_law_pods.proofs.StepsKeepPods.KnowsBy.{Became, Kept, WasTold}

-- ---- the pod that an edge switch with position 0 knows
pub own_some : (place : Place) (n : ℕ) → place.position ≡ Some 0 → place.pod ≡ Some n → own_pod place ≡ Some n
own_some place n position pod = ap (λ (o : Option ℕ). if is_known o 0 then place.pod else None) position ∙ pod

pub own_is : (place : Place) (n : ℕ) → own_pod place ≡ Some n → (place.position ≡ Some 0) × (place.pod ≡ Some n)
own_is place n is = by (is_known place.position 0) refl is
  where
    by : (b : Bool) → is_known place.position 0 ≡ b → (if b then place.pod else None) ≡ Some n → (place.position ≡ Some 0) × (place.pod ≡ Some n)
    by true zero is = (known_is place.position 0 zero, is)
    by false other is = absurd (cc is)

pub own_none : (place : Place) → place.pod ≡ None → own_pod place ≡ None
own_none place none = by (is_known place.position 0)
  where
    by : (b : Bool) → (if b then place.pod else None) ≡ None
    by true = none
    by false = refl

-- what it knows then, and what it knew
abbrev pub KeepsOrTakes : Place → Place → (ℕ → Type 0) → Type 0
KeepsOrTakes old new told =
    (own_pod new ≡ own_pod old) ⊎ ((n : ℕ) × (old.position ≡ Some 0) × (old.pod ≡ None) × (own_pod new ≡ Some n) × told n)

own_then : (old new : Place) (told : ℕ → Type 0) → IsTrueOf old new → Knows old new told →
    ((n : ℕ) → new.position ≡ Some 0 → old.level ≡ Some 0 → old.position ≡ None → old.pod ≡ Some n → ⊥) → KeepsOrTakes old new told
own_then old new told later knows became = by (own_pod new) refl (own_pod old) refl
  where
    known : (n : ℕ) → new.position ≡ Some 0 → KnowsBy old told n → own_pod new ≡ Some n → KeepsOrTakes old new told
    known n position (Kept at pod) is = inl (is ∙ sym (own_some old n at pod))
    known n position (WasTold at none says) is = inr (n, at, none, is, says)
    known n position (Became level none pod) is = absurd (became n position level none pod)

    by : (o : Option ℕ) → own_pod new ≡ o → (p : Option ℕ) → own_pod old ≡ p → KeepsOrTakes old new told
    by (Some n) is p was = let own = own_is new n is in known n own.0 (knows n own.0 own.1) is
    by None is None was = inl (is ∙ sym was)
    by None is (Some n) was =
        let own = own_is old n was in
        let stays = own_some new n (later.position 0 own.0) (later.pod n own.1) in
        absurd (cc (is, stays))

-- ---- a switch acts
pub data TakesOrder (f m : ControlPlane) (s : ℕ) (input : SwitchInput) : Type 0 where
  NoOrder : m.orders s ≡ f.orders s → ((says : ToSwitch) → input ≡ Says says → ⊥) → TakesOrder f m s input
  AnOrder : (says : ToSwitch) → input ≡ Says says → f.orders s ≡ says ∷ m.orders s → TakesOrder f m s input

-- it steps, after what comes was taken; and it keeps its own pod, or takes the one that it is told
pub record SwitchActs (f g : ControlPlane) : Type 0 where
  pub switch : ℕ
  pub mid : ControlPlane
  pub input : SwitchInput
  pub turns : SwitchTurns Loose mid switch input g
  pub plan : mid.plan ≡ f.plan
  pub manager : mid.manager ≡ f.manager
  pub view : (t : ℕ) → mid.view t ≡ f.view t
  pub reports : (t : ℕ) → mid.reports t ≡ f.reports t
  pub others : (t : ℕ) → (t ≡ switch → ⊥) → mid.orders t ≡ f.orders t
  pub takes : TakesOrder f mid switch input
  pub later : IsTrueOf (f.view switch).place (g.view switch).place
  pub edge : (g.view switch).place.position ≡ Some 0 → (g.view switch).place.level ≡ Some 0
  pub own : KeepsOrTakes (f.view switch).place (g.view switch).place (λ n. input ≡ Says (say.Pod n))

pub data Acted (manager : ManagerRule) (f g : ControlPlane) : Type 0 where
  Nobody : IsLeft f g → AreAsBefore f g → Acted manager f g
  Switch : SwitchActs f g → Acted manager f g
  Manager : (s : ℕ) (id : SwitchId) (told : ToManager) (mid : ControlPlane) → slice_get f.plan.ids s ≡ Some id → IsReportTaken f s told mid →
      ManagerTurns manager mid id told g → Acted manager f g

module _ (manager : ManagerRule) (f g : ControlPlane) (is : IsPlan f.plan) (placed : ArePlaced f.plan f) (apart : FixedAreApart f.plan f.view)
    (apart_then : FixedAreApart f.plan g.view) (numbers : ArePodNumbers f) where
  -- one that becomes the edge switch of position 0 knew no pod, since another one knew it
  became : (m : ControlPlane) (s : ℕ) (input : SwitchInput) → ((t : ℕ) → m.view t ≡ f.view t) → SwitchTurns Loose m s input g → (n : ℕ) →
      (g.view s).place.position ≡ Some 0 → (f.view s).place.level ≡ Some 0 → (f.view s).place.position ≡ None → (f.view s).place.pod ≡ Some n → ⊥
  became m s input same turns n position level none pod =
      let lowest = placed.pods s n pod in
      let z = lowest.0 in
      let edge = edge_label f is placed apart s level in
      let of : Some edge.0 ≡ Some lowest.1.pod = ap pod_of (sym edge.2) ∙ lowest.1.of_pod in
      let same_pod : lowest.1.pod ≡ edge.0 = sym (cc of) in
      let label = subst (λ p. label_of f.plan.k z ≡ Edge p lowest.1.i) same_pod lowest.1.edge in
      let unlike : z ≡ s → ⊥ = λ one. (let at = subst (λ x. (f.view x).place.position ≡ Some 0) one lowest.1.position in absurd (cc (none, at))) in
      let there = ap (λ (v : SwitchView). v.place.position) (turns.acted.others z unlike ∙ same z) ∙ lowest.1.position in
      unlike (sym (apart_then edge.0 edge.1 lowest.1.i 0 s z edge.2 label position there))

  own_level : (m : ControlPlane) (s : ℕ) → m.view s ≡ f.view s → (x : ℕ) → (m.view s).place.position ≡ Some x → (m.view s).place.level ≡ Some 0
  own_level m s same x position =
      ap (λ (v : SwitchView). v.place.level) same ∙ level_zero f is placed apart s x (ap (λ (v : SwitchView). v.place.position) (sym same) ∙ position)

  differ_left : (m : ControlPlane) → IsLeft f m → FixedAreApart f.plan m.view
  differ_left m left = λ pod i j x s t a b c d.
      apart pod i j x s t a b (ap (λ (v : SwitchView). v.place.position) (sym (left.view s)) ∙ c)
      (ap (λ (v : SwitchView). v.place.position) (sym (left.view t)) ∙ d)

  count_same : (m : ControlPlane) (s : ℕ) → m.plan ≡ f.plan → s < switch_count m.plan.k → s < switch_count f.plan.k
  count_same m s same there = subst (λ (p : Plan). s < switch_count p.k) same there

  module _ (m : ControlPlane) (s : ℕ) (input : SwitchInput) (view : (t : ℕ) → m.view t ≡ f.view t) (turns : SwitchTurns Loose m s input g) where
    abbrev stepped : SwitchStep
    stepped = switch_step turns.ruled.choose (m.view s) input

    view_then : (g.view s).place ≡ stepped.view.place
    view_then = ap (λ (v : SwitchView). v.place) (turns.acted.here ∙ turns.ruled.steps.view)

    later_at : IsGoodTurn f.plan m s stepped.view stepped.acts → IsTrueOf (f.view s).place (g.view s).place
    later_at good = subst₂ (λ old new. IsTrueOf old new) (ap (λ (v : SwitchView). v.place) (view s)) (sym view_then) good.later

    edge_at : IsGoodTurn f.plan m s stepped.view stepped.acts → (g.view s).place.position ≡ Some 0 → (g.view s).place.level ≡ Some 0
    edge_at good position =
        ap (λ (p : Place). p.level) view_then ∙ (good.own.position 0 (ap (λ (p : Place). p.position) (sym view_then) ∙ position)).0

    own_at : (told : ℕ → Type 0) → IsTrueOf (f.view s).place (g.view s).place → Knows (m.view s).place stepped.view.place told →
        KeepsOrTakes (f.view s).place (g.view s).place told
    own_at told later knows =
        own_then (f.view s).place (g.view s).place told later
        (subst₂ (λ old new. Knows old new told) (ap (λ (v : SwitchView). v.place) (view s)) (sym view_then) knows)
        (became m s input view turns)

  -- nothing is told of pods
  kept_at : {told : ℕ → Type 0} (old new : Place) → KeepsOrTakes old new (λ n. ⊥) → KeepsOrTakes old new told
  kept_at old new (inl same) = inl same
  kept_at old new (inr took) = absurd took.4

  ticked : (s : ℕ) → SwitchTurns Loose f s Tick g → SwitchActs f g
  ticked s turns =
      let good = tick_turn f.plan f s is placed turns.there turns.size in
      let later = later_at f s Tick (λ t. refl) turns good in
      record {
        edge = edge_at f s Tick (λ t. refl) turns good;
        switch = s;
        mid = f;
        input = Tick;
        turns = turns;
        plan = refl;
        manager = refl;
        view = λ t. refl;
        reports = λ t. refl;
        others = λ t other. refl;
        takes = NoOrder refl (λ says same. absurd (cc same));
        later = later;
        own = kept_at (f.view s).place (g.view s).place (own_at f s Tick (λ t. refl) turns (λ n. ⊥) later
            (knows_same (f.view s) (own_level f s refl) (λ n. ⊥) (ticks (f.view s)).view.place
            (ap (λ (w : SwitchView). w.place) (ages_learn (with_aged_ports (f.view s))))));
      }

  data_acts : (m : ControlPlane) (s port : ℕ) (frame : List ℕ) → IsLeft f m → ((t : ℕ) → m.reports t ≡ f.reports t) → ((t : ℕ) → m.orders t ≡ f.orders t) →
      is_control frame ≡ false → (turns : SwitchTurns Loose m s (Comes port frame) g) →
      IsGoodTurn f.plan m s (data_comes turns.ruled.choose (m.view s) port frame).view (data_comes turns.ruled.choose (m.view s) port frame).acts →
      SwitchActs f g
  data_acts m s port frame left reports orders data_frame turns good =
      let view = m.view s in
      let comes = data_comes turns.ruled.choose view port frame in
      let step : switch_step turns.ruled.choose view (Comes port frame) ≡ comes =
      ap (λ b. if◌then◌else◌ {A = SwitchStep} b (control_comes view port frame) comes) data_frame in
      let so = subst (λ (st : SwitchStep). IsGoodTurn f.plan m s st.view st.acts) (sym step) good in
      let later = later_at m s (Comes port frame) left.view turns so in
      record {
        edge = edge_at m s (Comes port frame) left.view turns so;
        switch = s;
        mid = m;
        input = Comes port frame;
        turns = turns;
        plan = left.plan;
        manager = left.manager;
        view = left.view;
        reports = reports;
        others = λ t other. orders t;
        takes = NoOrder (orders s) (λ says same. absurd (cc same));
        later = later;
        own = kept_at (f.view s).place (g.view s).place (own_at m s (Comes port frame) left.view turns (λ n. ⊥) later
            (subst (λ (st : SwitchStep). Knows view.place st.view.place (λ n. ⊥)) (sym step)
            (knows_aside view (own_level m s (left.view s)) (λ n. ⊥) comes (aside_data turns.ruled.choose view port frame))));
      }

  heard : (m : ControlPlane) (t q s port : ℕ) (frame : List ℕ) → AreAdjacent f.plan t q s port → is_control frame ≡ true →
      MessageIsTaken f t q (messages_of (message_in frame)) m → SwitchTurns Loose m s (Comes port frame) g → SwitchActs f g
  unfolding message_in
  heard m t q s port frame adjacent control taken turns =
      let view = m.view s in
      let read = control_in (payload_of frame) in
      let st = if◌then◌else◌ {A = SwitchStep} (port_of view port).host (rests view) (hears_control view port read) in
      let step : switch_step turns.ruled.choose view (Comes port frame) ≡ st =
      ap (λ b. if◌then◌else◌ {A = SwitchStep} b (control_comes view port frame) (data_comes turns.ruled.choose view port frame)) control in
      let kept = left_keeps f.plan f m taken.left placed in
      let no_host = (kept.links t q s port adjacent).recorded.no_host in
      let hears : st ≡ hears_control view port read = ap (λ b. if◌then◌else◌ {A = SwitchStep} b (rests view) (hears_control view port read)) no_host in
      let queued = (placed.links t q s port adjacent).queued in
      let all = subst (AllByRecursion (IsGoodMessage (f.view t).id (f.view t).place (has_heard (f.view t) q))) taken.first_said queued in
      let good : AllByRecursion (IsGoodMessage (m.view t).id (m.view t).place (has_heard (m.view t) q)) (messages_of read) =
      rw (taken.left.view t) (front t q (messages_of read) (m.says t q) all) in
      let so = subst (λ (x : SwitchStep). IsGoodTurn f.plan m s x.view x.acts) (sym (step ∙ hears))
      (control_turn f.plan m s is kept (differ_left m taken.left) (count_same m s taken.left.plan turns.there)
      (turns.size ∙ ap (λ (p : Plan). p.k) taken.left.plan) t q port adjacent read good) in
      let later = later_at m s (Comes port frame) taken.left.view turns so in
      record {
        edge = edge_at m s (Comes port frame) taken.left.view turns so;
        switch = s;
        mid = m;
        input = Comes port frame;
        turns = turns;
        plan = taken.left.plan;
        manager = taken.left.manager;
        view = taken.left.view;
        reports = taken.reports;
        others = λ x other. taken.orders x;
        takes = NoOrder (taken.orders s) (λ says same. absurd (cc same));
        later = later;
        own = nothing read (own_at m s (Comes port frame) taken.left.view turns (TellsPod read) later
            (subst (λ (x : SwitchStep). Knows view.place x.view.place (TellsPod read)) (sym step)
            (knows_heard view (own_level m s (taken.left.view s)) port read (port_of view port).host))) all;
      }
    where
      front : (t q : ℕ) (xs ys : List Control) → AllByRecursion (IsGoodMessage (f.view t).id (f.view t).place (has_heard (f.view t) q)) (xs ++ ys) →
          AllByRecursion (IsGoodMessage (f.view t).id (f.view t).place (has_heard (f.view t) q)) xs
      front t q [] ys all = tt
      front t q (x ∷ xs) ys all = (all.0, front t q xs ys all.1)

      never : (n : ℕ) → (f.view s).place.position ≡ Some 0 → (f.view s).place.pod ≡ None → (read : Result Control ControlError) →
          AllByRecursion (IsGoodMessage (f.view t).id (f.view t).place (has_heard (f.view t) q)) (messages_of read ++ m.says t q) → TellsPod read n → ⊥
      never n at none (Ok (Ldm id message)) good told =
          let true_place = good.0.of_sender.so in
          never_told f is placed apart t q s port n adjacent at none (true_place.level 1 told.0) (true_place.pod n told.1)
      never n at none (Ok (Proposal id p)) good told = told
      never n at none (Ok (Vote id vote)) good told = told
      never n at none (Err e) good told = told

      nothing : (read : Result Control ControlError) → KeepsOrTakes (f.view s).place (g.view s).place (TellsPod read) →
          AllByRecursion (IsGoodMessage (f.view t).id (f.view t).place (has_heard (f.view t) q)) (messages_of read ++ m.says t q) →
          KeepsOrTakes (f.view s).place (g.view s).place (λ n. ◌≡◌ {A = SwitchInput} (Comes port frame) (Says (say.Pod n)))
      nothing read (inl same) all = inl same
      nothing read (inr took) all = absurd (never took.0 took.1 took.2 read all took.4)

  ordered : (s : ℕ) (says : ToSwitch) (m : ControlPlane) → IsOrderTaken f s says m → SwitchTurns Loose m s (Says says) g → SwitchActs f g
  ordered s says m taken turns =
      let kept = left_keeps f.plan f m taken.left placed in
      let small : AllByRecursion IsPodNumber (says ∷ m.orders s) = subst (AllByRecursion IsPodNumber) taken.first (numbers s) in
      let good = order_turn f.plan m s is kept (count_same m s taken.left.plan turns.there) turns.ruled.choose says turns.ruled.is_choice small.0 in
      let later = later_at m s (Says says) taken.left.view turns good in
      record {
        edge = edge_at m s (Says says) taken.left.view turns good;
        switch = s;
        mid = m;
        input = Says says;
        turns = turns;
        plan = taken.left.plan;
        manager = taken.left.manager;
        view = taken.left.view;
        reports = taken.reports;
        others = taken.others;
        takes = AnOrder says refl taken.first;
        later = later;
        own = by says turns later;
      }
    where
      others : (says : ToSwitch) → ((n : ℕ) → says ≡ say.Pod n → ⊥) → SwitchTurns Loose m s (Says says) g → IsTrueOf (f.view s).place (g.view s).place →
          KeepsOrTakes (f.view s).place (g.view s).place (λ n. Says says ≡ Says (say.Pod n))
      others says other turns later =
          kept_at (f.view s).place (g.view s).place (own_at m s (Says says) taken.left.view turns (λ n. ⊥) later
          (knows_aside (m.view s) (own_level m s (taken.left.view s)) (λ n. ⊥) (switch_step turns.ruled.choose (m.view s) (Says says))
          (aside_manager turns.ruled.choose (m.view s) says other)))

      told : (n : ℕ) → KeepsOrTakes (f.view s).place (g.view s).place (λ x. n ≡ x) →
          KeepsOrTakes (f.view s).place (g.view s).place (λ x. Says (say.Pod n) ≡ Says (say.Pod x))
      told n (inl same) = inl same
      told n (inr took) = inr (took.0, took.1, took.2, took.3, ap (λ x. Says (say.Pod x)) took.4)

      by : (says : ToSwitch) → SwitchTurns Loose m s (Says says) g → IsTrueOf (f.view s).place (g.view s).place →
          KeepsOrTakes (f.view s).place (g.view s).place (λ n. Says says ≡ Says (say.Pod n))
      by (say.Pod n) turns later =
          told n (own_at m s (Says (say.Pod n)) taken.left.view turns (λ x. n ≡ x) later (knows_pod (m.view s) (own_level m s (taken.left.view s)) n))
      by (say.Avoid list) turns later = others (say.Avoid list) (λ n same. absurd (cc same)) turns later
      by (say.Tree group part) turns later = others (say.Tree group part) (λ n same. absurd (cc same)) turns later
      by (say.Answer a b c d) turns later = others (say.Answer a b c d) (λ n same. absurd (cc same)) turns later
      by (say.Flood a b c) turns later = others (say.Flood a b c) (λ n same. absurd (cc same)) turns later
      by (say.Invalidate a b c d) turns later = others (say.Invalidate a b c d) (λ n same. absurd (cc same)) turns later
      by (say.Release a) turns later = others (say.Release a) (λ n same. absurd (cc same)) turns later
      by (say.Hello epoch) turns later = others (say.Hello epoch) (λ n same. absurd (cc same)) turns later

  pub step_acted : (step : PlaneStep Loose manager f g) → LosesNoWord Loose manager f g step → Acted manager f g
  step_acted (Left left) kept = Nobody left kept
  step_acted (Ticked s turns) whole = Switch (ticked s turns)
  step_acted (Heard t q s port frame m adjacent control taken turns) whole = Switch (heard m t q s port frame adjacent control taken turns)
  step_acted (Carried t q s port frame m adjacent data_frame carries taken turns) whole =
      let kept = left_keeps f.plan f m taken.left placed in
      Switch (data_acts m s port frame taken.left taken.reports taken.orders data_frame turns
      (carried_turn f.plan m s is kept (count_same m s taken.left.plan turns.there) turns.shaped (turns.size ∙ ap (λ (p : Plan). p.k) taken.left.plan)
      turns.ruled.choose t q port frame turns.ruled.is_choice adjacent (rw (taken.left.view s) ((placed.links t q s port adjacent).evidence carries))))
  step_acted (Entered s port frame edge within free data_frame turns) whole =
      Switch (data_acts f s port frame (nothing_left f) (λ t. refl) (λ t. refl) data_frame turns
      (entered_turn f.plan f s is placed turns.there turns.shaped turns.size port edge within free turns.ruled.choose frame turns.ruled.is_choice))
  step_acted (Ordered s says m taken turns) whole = Switch (ordered s says m taken turns)
  step_acted (Managed s id told m there named taken turns) whole = Manager s id told m named taken turns
