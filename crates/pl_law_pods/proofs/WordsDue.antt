-- What is due of switches and what waits for them is true of the numbers of pods: each step to what is due keeps it so, and a manager that begins anew.
use Rattle.std.proofs.Common.{◌≡◌, ℕ, not, List, [], ◌∷◌, ◌++◌, Some, slice_get, refl, sym, ap, ◌∙◌, subst, subst₂, inl, inr, arith}
use Rattle.std.specs.List.{AllByRecursion, filter}
use Rattle.std.proofs.lemmas.Bool.{cases_eq, cases_lt, cond_both}
use Rattle.std.proofs.lemmas.Option.{get_or_from_slice_get}
use Rattle.pl_lemmas.proofs.Exports.{all_append, all_behind, all_filter, all_front, all_weaker, replicated}
use Rattle.pl_frame.specs.declared.address.SwitchId.{SwitchId}
use Rattle.pl_layouts.specs.declared.place.Place.{Place}
use Rattle.pl_wiring.specs.Labels.{switch_count}
use Rattle.pl_wiring.specs.Plan.{IsPlan, Plan}
use Rattle.pl_node.specs.declared.acts.Act.{Act}
use Rattle.pl_node.specs.declared.acts.Act.TheVariants as act
use Rattle.pl_node.specs.declared.messages.ToManager.{ToManager}
use Rattle.pl_node.specs.declared.messages.ToManager.TheVariants as tell
use Rattle.pl_node.specs.declared.messages.ToSwitch.{ToSwitch}
use Rattle.pl_node.specs.declared.messages.ToSwitch.TheVariants as say
use Rattle.pl_node.specs.declared.pod_given.PodGiven.{PodGiven}
use Rattle.pl_node.specs.ManagerViews.{ManagerView, pod_given}
use Rattle.pl_node.specs.SwitchInputs.{SwitchInput}
use Rattle.pl_node.specs.SwitchInputs.SwitchInput.{Says}
use Rattle.pl_node.specs.SwitchViews.{SwitchView}
use Rattle.pl_steps.specs.Steps.{SwitchStep}
use Rattle.pl_switch_rule.specs.Forwarding.{Choice}
use Rattle.pl_switch_rule.specs.SwitchRule.{Loose, switch_step}
use Rattle.pl_switch_rule.proofs.Exports.{ChangeActs, HostActs, step_acts}
use Rattle.pl_manager_rule.specs.ManagerRule.{manager_hears, manager_rule, view_after}
use Rattle.pl_manager_rule.specs.Treating.{waits_for_places}
use Rattle.pl_manager_rule.specs.WholeRule.{whole_rule}
use Rattle.pl_world.specs.declared.limits.Limits.{Limits}
use Rattle.pl_world.specs.Booting.{booted}
use Rattle.pl_law_control_plane.specs.ControlPlanes.{ControlPlane, control_plane, tells}
use Rattle.pl_law_control_plane.specs.PlaneSteps.{IsReportTaken, LosesNoWord, ManagerTurns, PlaneStep, WholeStep, ordered}
use Rattle.pl_law_control_plane.proofs.Exports.{told_all}
use Rattle.pl_law_due.specs.Due.{due_plane, words_of}
use Rattle.pl_law_control_plane.specs.Restarts.{Restarts}
use Rattle.pl_law_due.specs.DueSteps.{DueStep, IsSifted, IsTurned, ManagerPart, treats_one}
use Rattle.pl_law_due.specs.DueSteps.DueStep.{Managed as ManagedBy, Stepped}
use Rattle.pl_law_due.specs.DueSteps.ManagerPart.{Released, Treated, Turned}
use Rattle.pl_law_due.specs.Gathering.{GathersWell}
use Rattle.pl_law_due.proofs.Exports.{heard_or_noted, IsRelease, Learns, nothing_due, releases_learn, step_due, through_parts}
use Rattle.pl_law_places.specs.Places.{ArePlaced, ArePodNumbers}
use Rattle.pl_law_places.specs.Told.{IsTrueOf}
use Rattle.pl_law_votes.specs.Voting.{FixedAreApart}
use Rattle.pl_law_pods.specs.Numbering.{AreTrulyDue, IsPlaceWith, IsTrulyDue, IsWordOf}
use Rattle.pl_law_pods.specs.Pods.{IsPodGiven, id_of}
use Rattle.pl_law_pods.specs.Ways.{own_pod}
use Rattle.pl_law_pods.proofs.Acting.{Acted, own_is, step_acted, SwitchActs, TakesOrder}
use Rattle.pl_law_pods.proofs.Acting.Acted.{Manager, Nobody, Switch}
use Rattle.pl_law_pods.proofs.Acting.TakesOrder.{AnOrder, NoOrder}
use Rattle.pl_law_pods.proofs.Managing.{due_acts, due_orders, given_then, order_then}

-- ---- what a switch tells
-- its wish only with position 0, and its own place
abbrev IsOwnWord : Place → ToManager → Type 0
IsOwnWord place tell.PodWanted = place.position ≡ Some 0
IsOwnWord place (tell.Place told) = told ≡ place
IsOwnWord place word = Unit {0}

abbrev IsOwnAct : Place → Act → Type 0
IsOwnAct place (act.Tell word) = IsOwnWord place word
IsOwnAct place a = Unit {0}

hosts_own : (place : Place) → HostActs (IsOwnAct place)
hosts_own place = record {
  frames = record { passed = λ port frame way. tt; redirected = λ old new. tt; dropped = λ cause. tt; taken = tt; asked = λ asker asker_ip ip. tt };
  grants = record { granted = λ address amac. tt; learnt = λ address amac ip. tt };
  made = λ frame. tt;
  aged = λ address number. tt;
  freed = λ address. tt;
  reported = record { begun = λ epoch. tt; ended = λ epoch. tt; trapped = λ old new number. tt };
}

change_own : (place : Place) → ChangeActs place (IsOwnAct place)
change_own place = record { placed = refl; linked = λ neighbour usable. tt; wanted = λ position. position }

told_own : (choose : Choice) (v : SwitchView) (input : SwitchInput) →
    AllByRecursion (IsOwnWord (switch_step choose v input).view.place) (tells (switch_step choose v input).acts)
told_own choose v input =
    let s : SwitchStep = switch_step choose v input in
    told_all (IsOwnAct s.view.place) s.acts
    (step_acts (IsOwnAct s.view.place) choose (hosts_own s.view.place) (λ group any. tt) (λ port frame. tt) v input (change_own s.view.place))

own_word : (place : Place) (word : ToManager) → IsOwnWord place word → IsWordOf place word
own_word place tell.PodWanted own = own
own_word place (tell.Place told) own = λ n has. ap (λ (p : Place). p.pod) (sym own) ∙ has
own_word place (tell.Link u usable) own = tt
own_word place (tell.Learned a b c) own = tt
own_word place (tell.Aged a b) own = tt
own_word place (tell.Begin n) own = tt
own_word place (tell.End n) own = tt
own_word place (tell.Trapped a b c) own = tt
own_word place (tell.Query a b c) own = tt
own_word place (tell.Members group any) own = tt

own_place : (place : Place) (n : ℕ) → place.pod ≡ Some n → (word : ToManager) → IsOwnWord place word → IsPlaceWith n word
own_place place n pod tell.PodWanted own = tt
own_place place n pod (tell.Place told) own = ap (λ (p : Place). p.pod) own ∙ pod
own_place place n pod (tell.Link u usable) own = tt
own_place place n pod (tell.Learned a b c) own = tt
own_place place n pod (tell.Aged a b) own = tt
own_place place n pod (tell.Begin m) own = tt
own_place place n pod (tell.End m) own = tt
own_place place n pod (tell.Trapped a b c) own = tt
own_place place n pod (tell.Query a b c) own = tt
own_place place n pod (tell.Members group any) own = tt

word_later : (old new : Place) → IsTrueOf old new → (word : ToManager) → IsWordOf old word → IsWordOf new word
word_later old new later tell.PodWanted is = later.position 0 is
word_later old new later (tell.Place told) is = λ n has. later.pod n (is n has)
word_later old new later (tell.Link u usable) is = tt
word_later old new later (tell.Learned a b c) is = tt
word_later old new later (tell.Aged a b) is = tt
word_later old new later (tell.Begin n) is = tt
word_later old new later (tell.End n) is = tt
word_later old new later (tell.Trapped a b c) is = tt
word_later old new later (tell.Query a b c) is = tt
word_later old new later (tell.Members group any) is = tt

-- ---- a switch acts
module _ (f g : ControlPlane) (all : AreTrulyDue f) (a : SwitchActs f g) where
  abbrev s : ℕ
  s = a.switch

  plan_then : g.plan ≡ f.plan
  plan_then = a.turns.acted.plan ∙ a.plan

  manager_then : g.manager ≡ f.manager
  manager_then = a.turns.acted.manager ∙ a.manager

  said_then : (t : ℕ) → AllByRecursion (IsPodGiven f.manager.pods (id_of f.plan t)) (g.orders t)
  said_then t = subst (AllByRecursion (IsPodGiven f.manager.pods (id_of f.plan t))) (sym (a.turns.acted.orders t)) (elim (cases_eq t s) [
    | inl here ↦ subst (λ x. AllByRecursion (IsPodGiven f.manager.pods (id_of f.plan x)) (a.mid.orders x)) (sym here) (own a.takes)
    | inr other ↦ subst (AllByRecursion (IsPodGiven f.manager.pods (id_of f.plan t))) (sym (a.others t other)) (all.said t)
  ])
    where
      own : TakesOrder f a.mid s a.input → AllByRecursion (IsPodGiven f.manager.pods (id_of f.plan s)) (a.mid.orders s)
      own (NoOrder same none) = subst (AllByRecursion (IsPodGiven f.manager.pods (id_of f.plan s))) (sym same) (all.said s)
      own (AnOrder says is first) = (subst (AllByRecursion (IsPodGiven f.manager.pods (id_of f.plan s))) first (all.said s)).1

  module _ (id : SwitchId) (named : slice_get f.plan.ids s ≡ Some id) where
    abbrev new : Place
    new = (g.view s).place

    was_due : IsTrulyDue f.manager.pods id (f.view s).place (f.reports s)
    was_due = all.due s id named

    place_then : (switch_step a.turns.ruled.choose (a.mid.view s) a.input).view.place ≡ new
    place_then = ap (λ (v : SwitchView). v.place) (sym (a.turns.acted.here ∙ a.turns.ruled.steps.view))

    told : AllByRecursion (IsOwnWord new) (tells a.turns.acts)
    told =
        subst₂ (λ place acts. AllByRecursion (IsOwnWord place) (tells acts)) place_then (sym a.turns.ruled.steps.done)
        (told_own a.turns.ruled.choose (a.mid.view s) a.input)

    -- a number that it takes it was given
    given : (n m : ℕ) → own_pod new ≡ Some n → own_pod new ≡ Some m → a.input ≡ Says (say.Pod m) → TakesOrder f a.mid s a.input →
        pod_given f.manager.pods id ≡ Some n
    given n m knows takes is (NoOrder same none) = absurd (none (say.Pod m) is)
    given n m knows takes is (AnOrder says also first) =
        let order : says ≡ say.Pod m = same_order says (say.Pod m) (sym also ∙ is) in
        let due : IsPodGiven f.manager.pods (id_of f.plan s) (say.Pod m) =
        (subst (AllByRecursion (IsPodGiven f.manager.pods (id_of f.plan s))) (first ∙ ap (λ x. x ∷ a.mid.orders s) order) (all.said s)).0 in
        ap (pod_given f.manager.pods) (sym (get_or_from_slice_get f.plan.ids s id (record { 0 = 0 }) named)) ∙ due ∙ sym takes ∙ knows
      where
        same_order : (x y : ToSwitch) → ◌≡◌ {A = SwitchInput} (Says x) (Says y) → x ≡ y
        same_order x y same = cc same

    due_then : IsTrulyDue f.manager.pods id new (g.reports s)
    due_then =
        let reports : g.reports s ≡ f.reports s ++ tells a.turns.acts = a.turns.acted.reports ∙ ap (λ r. r ++ tells a.turns.acts) (a.reports s) in
        subst (IsTrulyDue f.manager.pods id new) (sym reports) (record {
          words = all_append (IsWordOf new) (f.reports s) (tells a.turns.acts)
              (all_weaker (IsWordOf (f.view s).place) (IsWordOf new) (word_later (f.view s).place new a.later) (f.reports s) was_due.words)
              (all_weaker (IsOwnWord new) (IsWordOf new) (own_word new) (tells a.turns.acts) told);
          again = λ n knows. elim a.own [
            | inr took ↦ inl (given n took.0 knows took.3 took.4 a.takes)
            | inl same ↦ elim (was_due.again n (sym same ∙ knows)) [
              | inl was ↦ inl was
              | inr places ↦ inr (all_append (IsPlaceWith n) (f.reports s) (tells a.turns.acts) places
                  (all_weaker (IsOwnWord new) (IsPlaceWith n) (own_place new n (own_is new n knows).1) (tells a.turns.acts) told))
            ]
          ];
        })

  pub acts_due : AreTrulyDue g
  acts_due = record {
    said = λ t. subst₂ (λ (p : Plan) (v : ManagerView). AllByRecursion (IsPodGiven v.pods (id_of p t)) (g.orders t)) (sym plan_then) (sym manager_then)
        (said_then t);
    due = λ t id named.
        let there : slice_get f.plan.ids t ≡ Some id = ap (λ (p : Plan). slice_get p.ids t) (sym plan_then) ∙ named in
        subst (λ (v : ManagerView). IsTrulyDue v.pods id (g.view t).place (g.reports t)) (sym manager_then) (elim (cases_eq t s) [
          | inl here ↦
              subst (λ x. IsTrulyDue f.manager.pods id (g.view x).place (g.reports x)) (sym here) (due_then id (ap (slice_get f.plan.ids) (sym here) ∙ there))
          | inr other ↦
              subst₂ (λ (v : SwitchView) r. IsTrulyDue f.manager.pods id v.place r) (sym (a.turns.acted.others t other ∙ a.view t))
              (sym (a.turns.acted.other_reports t other ∙ a.reports t)) (all.due t id there)
        ]);
  }

-- ---- the manager acts
-- where less is due, and more was given
less_due : (before after : List PodGiven) (id : SwitchId) (place : Place) (gone due : List ToManager) →
    ((n : ℕ) → pod_given before id ≡ Some n → pod_given after id ≡ Some n) →
    IsTrulyDue before id place (gone ++ due) → IsTrulyDue after id place due
less_due before after id place gone due stays is = record {
  words = all_behind (IsWordOf place) gone due is.words;
  again = λ n knows. elim (is.again n knows) [
    | inl given ↦ inl (stays n given)
    | inr places ↦ inr (all_behind (IsPlaceWith n) gone due places)
  ];
}

same_due : (pods : List PodGiven) (id : SwitchId) (place : Place) (before after : List ToManager) →
    ((P : ToManager → Type 0) → AllByRecursion P before → AllByRecursion P after) →
    IsTrulyDue pods id place before → IsTrulyDue pods id place after
same_due pods id place before after each is = record {
  words = each (IsWordOf place) is.words;
  again = λ n knows. elim (is.again n knows) [
    | inl given ↦ inl given
    | inr places ↦ inr (each (IsPlaceWith n) places)
  ];
}

releases_given : (pods : List PodGiven) (id : SwitchId) (orders : List ToSwitch) → AllByRecursion IsRelease orders → AllByRecursion (IsPodGiven pods id) orders
releases_given pods id [] all = tt
releases_given pods id (say.Release x ∷ orders) all = (tt, releases_given pods id orders all.1)
releases_given pods id (say.Pod n ∷ orders) all = absurd all.0
releases_given pods id (say.Avoid list ∷ orders) all = absurd all.0
releases_given pods id (say.Tree group part ∷ orders) all = absurd all.0
releases_given pods id (say.Answer a b c d ∷ orders) all = absurd all.0
releases_given pods id (say.Flood a b c ∷ orders) all = absurd all.0
releases_given pods id (say.Invalidate a b c d ∷ orders) all = absurd all.0
releases_given pods id (say.Hello epoch ∷ orders) all = absurd all.0

-- of addresses alone something is known then
learns_due : (f g : ControlPlane) → Learns f g → ((t : ℕ) → g.reports t ≡ f.reports t) → AreTrulyDue f → AreTrulyDue g
learns_due f g learns reports all =
    let pods : g.manager.pods ≡ f.manager.pods = ap (λ (v : ManagerView). v.pods) learns.manager in
    record {
      said = λ t. subst₂ (λ (p : Plan) gs. AllByRecursion (IsPodGiven gs (id_of p t)) (g.orders t)) (sym learns.alike.plan) (sym pods)
          (subst (AllByRecursion (IsPodGiven f.manager.pods (id_of f.plan t))) (sym (learns.orders t))
          (all_append (IsPodGiven f.manager.pods (id_of f.plan t)) (f.orders t) (learns.more t) (all.said t)
          (releases_given f.manager.pods (id_of f.plan t) (learns.more t) (learns.releases t))));
      due = λ t id named. subst (λ gs. IsTrulyDue gs id (g.view t).place (g.reports t)) (sym pods)
          (subst₂ (λ (v : SwitchView) r. IsTrulyDue f.manager.pods id v.place r) (sym (learns.alike.view t)) (sym (reports t))
          (all.due t id (ap (λ (p : Plan). slice_get p.ids t) (sym learns.alike.plan) ∙ named)));
    }

-- the first word of a switch is taken
taken_due : (f m : ControlPlane) (s : ℕ) (word : ToManager) → IsReportTaken f s word m → AreTrulyDue f → AreTrulyDue m
taken_due f m s word taken all =
    subst₂ (λ (p : Plan) (v : ManagerView). AreTrulyDue (record m { plan = p; manager = v })) (sym taken.left.plan) (sym taken.left.manager) (record {
      said = λ t. subst (AllByRecursion (IsPodGiven f.manager.pods (id_of f.plan t))) (sym (taken.orders t)) (all.said t);
      due = λ t id named.
          let queue = taken.left.reports t in
          less_due f.manager.pods f.manager.pods id (m.view t).place queue.gone (m.reports t) (λ n is. is)
          (subst₂ (λ (v : SwitchView) r. IsTrulyDue f.manager.pods id v.place r) (sym (taken.left.view t)) queue.split (all.due t id named));
    })

heard_due : (m g : ControlPlane) (id : SwitchId) (word : ToManager) → ManagerTurns manager_rule m id word g → AreTrulyDue m → AreTrulyDue g
unfolding manager_hears
heard_due m g id word turns all =
    let after : ManagerView = view_after m.manager id word in
    let is_after = turns.manager ∙ turns.ruled.0 in
    record {
      said = λ t. subst₂ (λ (p : Plan) (v : ManagerView). AllByRecursion (IsPodGiven v.pods (id_of p t)) (g.orders t)) (sym turns.plan) (sym is_after)
          (subst (AllByRecursion (IsPodGiven after.pods (id_of m.plan t)))
          (sym (turns.orders t ∙ ap (λ acts. m.orders t ++ ordered m.plan t acts) turns.ruled.1))
          (all_append (IsPodGiven after.pods (id_of m.plan t)) (m.orders t) (ordered m.plan t (manager_hears m.manager id word).acts)
          (all_weaker (IsPodGiven m.manager.pods (id_of m.plan t)) (IsPodGiven after.pods (id_of m.plan t))
          (λ order is. order_then m.manager id (id_of m.plan t) word order is) (m.orders t) (all.said t))
          (due_orders m.plan after.pods t (manager_hears m.manager id word).acts (due_acts m.manager id word))));
      due = λ t other named. subst (λ (v : ManagerView). IsTrulyDue v.pods other (g.view t).place (g.reports t)) (sym is_after)
          (less_due m.manager.pods after.pods other (g.view t).place [] (g.reports t) (λ n is. given_then m.manager id other word n is)
          (subst₂ (λ (v : SwitchView) r. IsTrulyDue m.manager.pods other v.place r) (sym (turns.view t)) (sym (turns.reports t))
          (all.due t other (ap (λ (p : Plan). slice_get p.ids t) (sym turns.plan) ∙ named))));
    }

treated_due : (f m g : ControlPlane) (s : ℕ) (id : SwitchId) (word : ToManager) → IsReportTaken f s word m → ManagerTurns treats_one m id word g →
    AreTrulyDue f → AreTrulyDue g
treated_due f m g s id word taken turns all = elim (heard_or_noted m g id word turns) [
  | inl ruled ↦ heard_due m g id word ruled (taken_due f m s word taken all)
  | inr noted ↦ learns_due m g noted.1 turns.reports (taken_due f m s word taken all)
]

turned_all : (before after : List ToManager) → IsTurned before after → (P : ToManager → Type 0) → AllByRecursion P before → AllByRecursion P after
turned_all before after turned P all =
    let rest = filter (λ word. not (waits_for_places word)) turned.first in
    let wishes = filter waits_for_places turned.first in
    let parts = subst (AllByRecursion P) turned.was all in
    let first = all_front P turned.first turned.others parts in
    subst (AllByRecursion P) (sym turned.now)
    (all_append P (rest ++ wishes) turned.others
    (all_append P rest wishes (all_filter P (λ word. not (waits_for_places word)) turned.first first) (all_filter P waits_for_places turned.first first))
    (all_behind P turned.first turned.others parts))

part_due : (f g : ControlPlane) → ManagerPart f g → AreTrulyDue f → AreTrulyDue g
part_due f g (Treated s id word mid there named taken turns) all = treated_due f mid g s id word taken turns all
part_due f g (Turned turns) all = record {
  said = λ t. subst₂ (λ (p : Plan) (v : ManagerView). AllByRecursion (IsPodGiven v.pods (id_of p t)) (g.orders t)) (sym turns.alike.plan) (sym turns.manager)
      (subst (AllByRecursion (IsPodGiven f.manager.pods (id_of f.plan t))) (sym (turns.orders t)) (all.said t));
  due = λ t id named. subst (λ (v : ManagerView). IsTrulyDue v.pods id (g.view t).place (g.reports t)) (sym turns.manager)
      (same_due f.manager.pods id (g.view t).place (f.reports t) (g.reports t) (turned_all (f.reports t) (g.reports t) (turns.reports t))
      (subst (λ (v : SwitchView). IsTrulyDue f.manager.pods id v.place (f.reports t)) (sym (turns.alike.view t))
      (all.due t id (ap (λ (p : Plan). slice_get p.ids t) (sym turns.alike.plan) ∙ named))));
}
part_due f g (Released aged releases) all = learns_due f g (releases_learn f aged g releases) releases.reports all

-- what was told is sifted
words_all : (P : ToManager → Type 0) (queue : List ToManager) → AllByRecursion P queue → AllByRecursion P (words_of queue)
words_all P [] all = tt
words_all P (tell.Begin n ∷ queue) all = words_all P queue all.1
words_all P (tell.End n ∷ queue) all = words_all P queue all.1
words_all P (tell.Place place ∷ queue) all = (all.0, words_all P queue all.1)
words_all P (tell.Link u usable ∷ queue) all = (all.0, words_all P queue all.1)
words_all P (tell.PodWanted ∷ queue) all = (all.0, words_all P queue all.1)
words_all P (tell.Learned a b c ∷ queue) all = (all.0, words_all P queue all.1)
words_all P (tell.Aged a b ∷ queue) all = (all.0, words_all P queue all.1)
words_all P (tell.Trapped a b c ∷ queue) all = (all.0, words_all P queue all.1)
words_all P (tell.Query a b c ∷ queue) all = (all.0, words_all P queue all.1)
words_all P (tell.Members group any ∷ queue) all = (all.0, words_all P queue all.1)

sifted_due : (f g : ControlPlane) → IsSifted f g → AreTrulyDue f → AreTrulyDue g
sifted_due f g sifted all = record {
  said = λ t. subst₂ (λ (p : Plan) (v : ManagerView). AllByRecursion (IsPodGiven v.pods (id_of p t)) (g.orders t)) (sym sifted.alike.plan) (sym sifted.manager)
      (subst (AllByRecursion (IsPodGiven f.manager.pods (id_of f.plan t))) (sym (sifted.orders t)) (all.said t));
  due = λ t id named. subst (λ (v : ManagerView). IsTrulyDue v.pods id (g.view t).place (g.reports t)) (sym sifted.manager)
      (same_due f.manager.pods id (g.view t).place (f.reports t) (g.reports t)
      (λ P each. subst (AllByRecursion P) (sym (sifted.reports t)) (cond_both _ [] (words_of (f.reports t)) (AllByRecursion P)
      (λ silent. tt) (λ loud. words_all P (f.reports t) each)))
      (subst (λ (v : SwitchView). IsTrulyDue f.manager.pods id v.place (f.reports t)) (sym (sifted.alike.view t))
      (all.due t id (ap (λ (p : Plan). slice_get p.ids t) (sym sifted.alike.plan) ∙ named))));
}

-- ---- each step
left_due : (f g : ControlPlane) → g.plan ≡ f.plan → g.manager ≡ f.manager → ((t : ℕ) → g.view t ≡ f.view t) → ((t : ℕ) → g.reports t ≡ f.reports t) →
    ((t : ℕ) → g.orders t ≡ f.orders t) → AreTrulyDue f → AreTrulyDue g
left_due f g plan manager view reports orders all = record {
  said = λ t. subst₂ (λ (p : Plan) (v : ManagerView). AllByRecursion (IsPodGiven v.pods (id_of p t)) (g.orders t)) (sym plan) (sym manager)
      (subst (AllByRecursion (IsPodGiven f.manager.pods (id_of f.plan t))) (sym (orders t)) (all.said t));
  due = λ t id named. subst (λ (v : ManagerView). IsTrulyDue v.pods id (g.view t).place (g.reports t)) (sym manager)
      (subst₂ (λ (v : SwitchView) r. IsTrulyDue f.manager.pods id v.place r) (sym (view t)) (sym (reports t))
      (all.due t id (ap (λ (p : Plan). slice_get p.ids t) (sym plan) ∙ named)));
}

module _ (f g : ControlPlane) (is : IsPlan f.plan) (placed : ArePlaced f.plan f) (apart : FixedAreApart f.plan f.view)
    (apart_then : FixedAreApart f.plan g.view)
    (numbers : ArePodNumbers f) (all : AreTrulyDue f) where
  step_truly : (step : PlaneStep Loose treats_one f g) → LosesNoWord Loose treats_one f g step → AreTrulyDue g
  step_truly step kept = by (step_acted treats_one f g is placed apart apart_then numbers step kept)
    where
      by : Acted treats_one f g → AreTrulyDue g
      by (Nobody left same) = left_due f g left.plan left.manager left.view same.reports same.orders all
      by (Switch acts) = acts_due f g all acts
      by (Manager s id word m named taken turns) = treated_due f m g s id word taken turns all

due_truly : (f g : ControlPlane) → IsPlan f.plan → ArePlaced f.plan f → FixedAreApart f.plan f.view → FixedAreApart f.plan g.view → ArePodNumbers f →
    AreTrulyDue f → DueStep Loose f g → AreTrulyDue g
due_truly f g is placed apart apart_then numbers all (Stepped told step sifted) =
    sifted_due told g sifted (step_truly f told is placed apart (λ pod i j x s t a b c d. apart_then pod i j x s t a b
    (ap (λ (v : SwitchView). v.place.position) (sifted.alike.view s) ∙ c)
    (ap (λ (v : SwitchView). v.place.position) (sifted.alike.view t) ∙ d)) numbers all step.0 step.1)
due_truly f g is placed apart apart_then numbers all (ManagedBy mids parts) = through_parts AreTrulyDue part_due mids f g parts all

pub truly_kept : (f g : ControlPlane) → IsPlan f.plan → GathersWell f → ArePlaced f.plan f → FixedAreApart f.plan f.view → FixedAreApart f.plan g.view →
    ArePodNumbers f →
    AreTrulyDue (due_plane f) → WholeStep Loose whole_rule f g → AreTrulyDue (due_plane g)
truly_kept f g is well placed apart apart_then numbers all step =
    due_truly (due_plane f) (due_plane g) is
    (record { links = placed.links; strangers = placed.strangers; own = placed.own; pods = placed.pods; sound = placed.sound })
    apart apart_then numbers all (step_due f g is well step.0 step.1)

-- a manager that begins anew gave no number, and nothing is due
truly_nothing : (f g : ControlPlane) → Restarts f g → AreTrulyDue g
truly_nothing f g restarts = record {
  said = λ t. elim (cases_lt t (switch_count f.plan.k)) [
    | inl there ↦ subst (AllByRecursion (IsPodGiven g.manager.pods (id_of g.plan t))) (sym (restarts.orders t there)) (tt, tt)
    | inr beyond ↦ subst (AllByRecursion (IsPodGiven g.manager.pods (id_of g.plan t)))
        (sym (restarts.beyond t (λ less. absurd (omega (arith, less, beyond))))) tt
  ];
  due = λ t id named. subst (IsTrulyDue g.manager.pods id (g.view t).place) (sym (restarts.reports t)) (record { words = tt; again = λ n knows. inr tt });
}

pub truly_anew : (f g : ControlPlane) → Restarts (due_plane f) (due_plane g) → AreTrulyDue (due_plane g)
truly_anew f g restarts = truly_nothing (due_plane f) (due_plane g) restarts

pub truly_at_first : (plan : Plan) (limits : Limits) → AreTrulyDue (due_plane (control_plane (booted plan limits)))
truly_at_first plan limits =
    let f = control_plane (booted plan limits) in
    record {
      said = λ s. subst (AllByRecursion (IsPodGiven [] (id_of plan s))) (sym (replicated (switch_count plan.k) s [])) tt;
      due = λ s id named. subst (IsTrulyDue [] id (f.view s).place) (sym (nothing_due f refl s (replicated (switch_count plan.k) s [])))
          (record { words = tt; again = λ n knows. inr tt });
    }
