-- Each step keeps it that an edge switch with position 0 is on one way to the number of its pod, and any other switch on none.
use Rattle.std.proofs.Common.{◌≡◌, ◌<◌, ◌≤◌, ℕ, ◌+◌, ◌==◌, ◌&&◌, not, Bool, true, false, if◌then◌else◌, cond, List, [], ◌∷◌, ◌++◌, length, map, Option, Some, None, is_none, is_some, slice_get, refl, sym, ap, ◌∙◌, subst, inl, inr, arith, eq-eqb, ne_eqb}
use Rattle.std.specs.List.{AllByRecursion, filter, list_any}
use Rattle.std.proofs.lemmas.Bool.{and_from, cases_Bool, cases_eq, false≢true}
use Rattle.pl_frame.specs.declared.address.SwitchId.{SwitchId}
use Rattle.pl_layouts.specs.declared.place.Place.{Place}
use Rattle.pl_layouts.specs.Placement.{is_known}
use Rattle.pl_layouts.proofs.Exports.{known_is}
use Rattle.pl_wiring.specs.Plan.{Plan}
use Rattle.pl_node.specs.declared.messages.ToManager.{ToManager}
use Rattle.pl_node.specs.declared.messages.ToManager.TheVariants as tell
use Rattle.pl_node.specs.declared.messages.ToSwitch.{ToSwitch}
use Rattle.pl_node.specs.declared.messages.ToSwitch.TheVariants as say
use Rattle.pl_node.specs.SwitchInputs.{SwitchInput}
use Rattle.pl_node.specs.SwitchInputs.SwitchInput.{Says}
use Rattle.pl_node.specs.SwitchViews.{SwitchView}
use Rattle.pl_steps.specs.Steps.{SwitchStep, rests}
use Rattle.pl_switch_rule.specs.Intake.{groups_of}
use Rattle.pl_switch_rule.specs.Levels.{changes_to, with_pod}
use Rattle.pl_switch_rule.specs.Messages.{hears_pod, takes_pod}
use Rattle.pl_switch_rule.specs.Reporting.{addresses_reported, links_reported, members_reported, own_reported, report, report_for, wish_reported}
use Rattle.pl_switch_rule.specs.SwitchRule.{switch_step}
use Rattle.pl_switch_rule.proofs.Exports.{addresses_there, links_acts}
use Rattle.pl_manager_rule.specs.ManagerRule.{manager_hears}
use Rattle.pl_manager_rule.specs.Treating.{waits_for_places}
use Rattle.pl_law_control_plane.specs.ControlPlanes.{ControlPlane, tells}
use Rattle.pl_law_control_plane.specs.PlaneSteps.{IsReportTaken, ManagerTurns, ordered}
use Rattle.pl_law_due.specs.Due.{is_hello, is_silent, words_of}
use Rattle.pl_law_due.specs.DueSteps.{IsTurned, treats_one}
use Rattle.pl_law_due.specs.Gathering.{AreUnheard}
use Rattle.pl_law_due.proofs.Exports.{each_tells, heard_or_noted, IsRelease, is_note}
use Rattle.pl_law_places.specs.Places.{ArePodNumbers, IsPodNumber}
use Rattle.pl_law_votes.proofs.Exports.{changes}
use Rattle.pl_law_pods.specs.Ways.{HasOneWay, HaveOneWay, how_many, is_number, is_wish, one_if, own_pod}
use Rattle.pl_law_pods.proofs.Acting.{own_some, SwitchActs, TakesOrder}
use Rattle.pl_law_pods.proofs.Acting.TakesOrder.{AnOrder, NoOrder}
use Rattle.pl_law_pods.proofs.NumbersSaid.{AreApart, one_said}
use Rattle.pl_law_pods.proofs.WishesTold.{how_many_append, IsNoWish, none_among, step_asks_once}

-- ---- counting
small_one : (b : Bool) → one_if b ≤ 1
small_one true = omega arith
small_one false = omega arith

pub how_many_first : {X : Type 0} (p : X → Bool) (x : X) (xs : List X) → how_many p (x ∷ xs) ≡ one_if (p x) + how_many p xs
how_many_first p x xs = by (p x)
  where
    by : (b : Bool) → length (cond b (x ∷ filter p xs) (filter p xs)) ≡ one_if b + length (filter p xs)
    by true = omega arith
    by false = omega arith

-- those of which something holds, behind the others
parted : {X : Type 0} (p q : X → Bool) (xs : List X) → how_many q (filter (λ x. not (p x)) xs) + how_many q (filter p xs) ≡ how_many q xs
parted p q [] = refl
parted p q (x ∷ xs) = by (p x) (parted p q xs)
  where
    by : (b : Bool) → how_many q (filter (λ y. not (p y)) xs) + how_many q (filter p xs) ≡ how_many q xs →
        how_many q (cond (not b) (x ∷ filter (λ y. not (p y)) xs) (filter (λ y. not (p y)) xs)) + how_many q
        (cond b (x ∷ filter p xs) (filter p xs)) ≡ how_many q (x ∷ xs)
    by true rest =
        let here = how_many_first q x (filter p xs) in
        let all = how_many_first q x xs in
        omega (arith, rest, here, all)
    by false rest =
        let here = how_many_first q x (filter (λ y. not (p y)) xs) in
        let all = how_many_first q x xs in
        omega (arith, rest, here, all)

pub turned_wishes : (before after : List ToManager) → IsTurned before after → how_many is_wish after ≡ how_many is_wish before
turned_wishes before after turned =
    let rest = filter (λ word. not (waits_for_places word)) turned.first in
    let wishes = filter waits_for_places turned.first in
    let now = ap (how_many is_wish) turned.now ∙ how_many_append is_wish (rest ++ wishes) turned.others in
    let both = how_many_append is_wish rest wishes in
    let parts = parted waits_for_places is_wish turned.first in
    let was = ap (how_many is_wish) turned.was ∙ how_many_append is_wish turned.first turned.others in
    omega (arith, now, both, parts, was)

-- a wish is a word
pub wish_words : (queue : List ToManager) → how_many is_wish (words_of queue) ≡ how_many is_wish queue
wish_words [] = refl
wish_words (tell.PodWanted ∷ queue) = let rest = wish_words queue in omega (arith, rest)
wish_words (tell.Begin n ∷ queue) = wish_words queue
wish_words (tell.End n ∷ queue) = wish_words queue
wish_words (tell.Place place ∷ queue) = wish_words queue
wish_words (tell.Link u usable ∷ queue) = wish_words queue
wish_words (tell.Learned a b c ∷ queue) = wish_words queue
wish_words (tell.Aged a b ∷ queue) = wish_words queue
wish_words (tell.Trapped a b c ∷ queue) = wish_words queue
wish_words (tell.Query a b c ∷ queue) = wish_words queue
wish_words (tell.Members group any ∷ queue) = wish_words queue

-- ---- a report
none_groups : (groups : List ℕ) → how_many is_wish (map (λ group. tell.Members group true) groups) ≡ 0
none_groups [] = refl
none_groups (group ∷ groups) = none_groups groups

report_wishes : (epoch : ℕ) (v : SwitchView) → how_many is_wish (report_for epoch v) ≡ how_many is_wish (wish_reported v.place)
report_wishes epoch v =
    let ends : how_many is_wish (report_for epoch v) ≡ how_many is_wish (report v) + 0 = how_many_append is_wish (report v) (tell.End epoch ∷ []) in
    let parts : how_many is_wish (report v) ≡ how_many is_wish (own_reported v) + how_many is_wish (addresses_reported v ++ members_reported v) =
    how_many_append is_wish (own_reported v) (addresses_reported v ++ members_reported v) in
    let later = how_many_append is_wish (addresses_reported v) (members_reported v) in
    let own : how_many is_wish (own_reported v) ≡ how_many is_wish (links_reported v) + how_many is_wish (wish_reported v.place) =
    how_many_append is_wish (links_reported v) (wish_reported v.place) in
    let links = none_among (links_reported v) (links_acts IsNoWish v (λ neighbour usable. tt)) in
    let addresses = none_among (addresses_reported v) (addresses_there IsNoWish v (λ port n g is used. tt) (λ x number. tt)
    (record { begun = λ n. tt; ended = λ n. tt; trapped = λ old new number. tt })) in
    let members : how_many is_wish (members_reported v) ≡ 0 = none_groups (groups_of v.members) in
    omega (arith, ends, parts, later, own, links, addresses, members)

wish_shown : (place : Place) → (place.position ≡ Some 0 → place.level ≡ Some 0) →
    how_many is_wish (wish_reported place) + one_if (is_some (own_pod place)) ≡ one_if (is_known place.position 0)
wish_shown place edge =
    by (is_known place.level 0) (is_known place.position 0) place.pod (λ zero. ap (λ (o : Option ℕ). is_known o 0) (edge (known_is place.position 0 zero)))
  where
    by : (a b : Bool) (pod : Option ℕ) → (b ≡ true → a ≡ true) →
        how_many is_wish (if a && b && is_none pod then tell.PodWanted ∷ [] else []) + one_if (is_some (if b then pod else None)) ≡ one_if b
    by true true None h = refl
    by true true (Some n) h = refl
    by true false pod h = refl
    by false false pod h = refl
    by false true pod h = absurd (false≢true (h refl))

-- a switch that hears the number of its pod takes it
takes : (v : SwitchView) (n : ℕ) → v.place.level ≡ Some 0 → v.place.position ≡ Some 0 → v.place.pod ≡ None → n < 65535 → (hears_pod v n).view.place.pod ≡ Some n
takes v n level position none within =
    let known = and_from (is_known v.place.level 0) (is_known v.place.position 0) (ap (λ (o : Option ℕ). is_known o 0) level)
    (ap (λ (o : Option ℕ). is_known o 0) position) in
    let without = and_from (is_known v.place.level 0 && is_known v.place.position 0) (is_none v.place.pod) known (ap (λ (o : Option ℕ). is_none o) none) in
    let may : takes_pod v n ≡ true = and_from (is_known v.place.level 0 && is_known v.place.position 0 && is_none v.place.pod) (not (n == 65535)) without
    (ap not (ne_eqb n 65535 (λ is. absurd (omega (arith, within, is))))) in
    ap (λ b. (if◌then◌else◌ {A = SwitchStep} b (changes_to v (with_pod v (Some n))) (rests v)).view.place.pod) may
    ∙ ap (λ (p : Place). p.pod) ((changes v (with_pod v (Some n))).stays_placed level)

-- ---- a switch acts
module _ (f g : ControlPlane) (edges : (s : ℕ) → (f.view s).place.position ≡ Some 0 → (f.view s).place.level ≡ Some 0) (numbers : ArePodNumbers f)
    (unheard : AreUnheard f) (all : HaveOneWay f) (a : SwitchActs f g) where
  abbrev s : ℕ
  s = a.switch

  abbrev old : Place
  old = (f.view s).place

  abbrev new : Place
  new = (g.view s).place

  abbrev told : List ToManager
  told = tells a.turns.acts

  reports_then : how_many is_wish (g.reports s) ≡ how_many is_wish (f.reports s) + how_many is_wish told
  reports_then =
      ap (how_many is_wish) (a.turns.acted.reports ∙ ap (λ r. r ++ told) (a.reports s)) ∙ how_many_append is_wish (f.reports s) told

  orders_then : how_many is_number (g.orders s) ≡ how_many is_number (a.mid.orders s)
  orders_then = ap (how_many is_number) (a.turns.acted.orders s)

  view_then : g.view s ≡ (switch_step a.turns.ruled.choose (a.mid.view s) a.input).view
  view_then = a.turns.acted.here ∙ a.turns.ruled.steps.view

  asks : ((epoch : ℕ) → a.input ≡ Says (say.Hello epoch) → ⊥) → how_many is_wish told + one_if (is_known old.position 0) ≡ one_if (is_known new.position 0)
  asks other =
      let w = a.mid.view s in
      let same = ap (λ (v : SwitchView). v.place) view_then in
      let before = ap (λ (v : SwitchView). v.place) (a.view s) in
      let once = step_asks_once a.turns.ruled.choose w a.input other
      (λ is. ap (λ (p : Place). p.position) (sym same) ∙ a.later.position 0 (ap (λ (p : Place). p.position) (sym before) ∙ is))
      (λ is. ap (λ (p : Place). p.level) (sym same) ∙ a.edge (ap (λ (p : Place). p.position) same ∙ is)) in
      let acts = ap (λ x. how_many is_wish (tells x)) a.turns.ruled.steps.done in
      let first = ap (λ (p : Place). one_if (is_known p.position 0)) before in
      let last = ap (λ (p : Place). one_if (is_known p.position 0)) same in
      omega (arith, once, acts, first, last)

  -- it takes no number
  quiet_way : ((epoch : ℕ) → a.input ≡ Says (say.Hello epoch) → ⊥) → ((n : ℕ) → a.input ≡ Says (say.Pod n) → ⊥) →
      how_many is_number (a.mid.orders s) ≡ how_many is_number (f.orders s) → HasOneWay old (f.reports s) (f.orders s) →
      HasOneWay new (g.reports s) (g.orders s)
  quiet_way no_hello no_pod same before =
      let more = reports_then in
      let orders = orders_then in
      let wishes = asks no_hello in
      let own : one_if (is_some (own_pod new)) ≡ one_if (is_some (own_pod old)) = elim a.own [
        | inl kept ↦ ap (λ (o : Option ℕ). one_if (is_some o)) kept
        | inr took ↦ absurd (no_pod took.0 took.4)
      ] in
      omega (arith, more, orders, wishes, own, same, before)

  -- it takes the number of its pod
  pod_way : (n : ℕ) → a.input ≡ Says (say.Pod n) → f.orders s ≡ say.Pod n ∷ a.mid.orders s → HasOneWay old (f.reports s) (f.orders s) →
      HasOneWay new (g.reports s) (g.orders s)
  pod_way n is first before =
      let more = reports_then in
      let orders = orders_then in
      let wishes = asks (λ epoch hello. let apart = sym is ∙ hello in absurd (cc apart)) in
      let one : how_many is_number (f.orders s) ≡ 1 + how_many is_number (a.mid.orders s) = ap (how_many is_number) first
      ∙ how_many_first is_number (say.Pod n) (a.mid.orders s) in
      let least = small_one (is_known old.position 0) in
      let most = small_one (is_known new.position 0) in
      let zero : one_if (is_known old.position 0) ≡ 1 = omega (arith, one, least, before) in
      let unknown : one_if (is_some (own_pod old)) ≡ 0 = omega (arith, one, least, before) in
      let position : old.position ≡ Some 0 = known_is old.position 0 (so (is_known old.position 0) zero) in
      let pod : old.pod ≡ None = without old.pod refl position unknown in
      let small : n < 65535 = (subst (AllByRecursion IsPodNumber) first (numbers s)).0 in
      let w = a.mid.view s in
      let same = ap (λ (v : SwitchView). v.place) (a.view s) in
      let takes = takes w n (ap (λ (p : Place). p.level) same ∙ edges s position) (ap (λ (p : Place). p.position) same ∙ position)
      (ap (λ (p : Place). p.pod) same ∙ pod) small in
      let after : new.pod ≡ Some n =
      ap (λ (v : SwitchView). v.place.pod) view_then ∙ ap (λ x. (switch_step a.turns.ruled.choose w x).view.place.pod) is ∙ takes in
      let known : one_if (is_some (own_pod new)) ≡ 1 = ap (λ (o : Option ℕ). one_if (is_some o)) (own_some new n (a.later.position 0 position) after) in
      omega (arith, more, orders, wishes, one, least, most, before, known)
    where
      so : (b : Bool) → one_if b ≡ 1 → b ≡ true
      so true is = refl
      so false is = absurd (omega (arith, is))

      without : (o : Option ℕ) → old.pod ≡ o → old.position ≡ Some 0 → one_if (is_some (own_pod old)) ≡ 0 → o ≡ None
      without None is at unknown = refl
      without (Some x) is at unknown =
          let some = ap (λ (o : Option ℕ). one_if (is_some o)) (own_some old x at is) in absurd (omega (arith, unknown, some))

  -- it hears that the manager began anew, and tells its report
  greeted : (id : SwitchId) → slice_get f.plan.ids s ≡ Some id → is_silent f.orders s ≡ true → (says : ToSwitch) → a.input ≡ Says says →
      f.orders s ≡ says ∷ a.mid.orders s →
      HasOneWay new (g.reports s) (g.orders s)
  greeted id named silent says is first =
      let so = unheard s id named silent in
      let both : says ∷ a.mid.orders s ≡ say.Hello f.manager.epoch ∷ [] = sym first ∙ so.alone in
      let hello : says ≡ say.Hello f.manager.epoch = front says (say.Hello f.manager.epoch) (a.mid.orders s) [] both in
      let none : a.mid.orders s ≡ [] = behind says (say.Hello f.manager.epoch) (a.mid.orders s) [] both in
      let w = a.mid.view s in
      let greets : a.input ≡ Says (say.Hello f.manager.epoch) = is ∙ ap (λ x. Says x) hello in
      let words : told ≡ report_for f.manager.epoch w =
      ap tells a.turns.ruled.steps.done ∙ ap (λ x. tells (switch_step a.turns.ruled.choose w x).acts) greets ∙ each_tells (report_for f.manager.epoch w) in
      let place : new ≡ w.place = ap (λ (v : SwitchView). v.place) view_then ∙ ap (λ x. (switch_step a.turns.ruled.choose w x).view.place) greets in
      let more = reports_then in
      let nothing = ap (how_many is_wish) so.nothing in
      let wishes = ap (how_many is_wish) words ∙ report_wishes f.manager.epoch w ∙ ap (λ (p : Place). how_many is_wish (wish_reported p)) (sym place) in
      let orders = orders_then ∙ ap (how_many is_number) none in
      let shown = wish_shown new a.edge in
      omega (arith, more, nothing, wishes, orders, shown)
    where
      front : (x y : ToSwitch) (xs ys : List ToSwitch) → x ∷ xs ≡ y ∷ ys → x ≡ y
      front x y xs ys same = cc same

      behind : (x y : ToSwitch) (xs ys : List ToSwitch) → x ∷ xs ≡ y ∷ ys → xs ≡ ys
      behind x y xs ys same = cc same

  acts_here : (id : SwitchId) → slice_get f.plan.ids s ≡ Some id → is_silent g.orders s ≡ false → HasOneWay new (g.reports s) (g.orders s)
  acts_here id named loud = by a.takes
    where
      by : TakesOrder f a.mid s a.input → HasOneWay new (g.reports s) (g.orders s)
      by (NoOrder same no_order) =
          quiet_way (λ epoch is. no_order (say.Hello epoch) is) (λ n is. no_order (say.Pod n) is) (ap (how_many is_number) same)
          (all s id named (ap (list_any is_hello) (sym (a.turns.acted.orders s ∙ same)) ∙ loud))
      by (AnOrder says is first) = elim (cases_Bool (is_silent f.orders s)) [
        | inl silent ↦ greeted id named silent says is first
        | inr before ↦ heard says is first (all s id named before) before
      ]
        where
          other : (says : ToSwitch) → is_number says ≡ false → a.input ≡ Says says → f.orders s ≡ says ∷ a.mid.orders s →
              ((epoch : ℕ) → says ≡ say.Hello epoch → ⊥) →
              ((n : ℕ) → says ≡ say.Pod n → ⊥) → HasOneWay old (f.reports s) (f.orders s) → HasOneWay new (g.reports s) (g.orders s)
          other says no_number is first no_hello no_pod before =
              let one = ap (how_many is_number) first ∙ how_many_first is_number says (a.mid.orders s) in
              let none = ap one_if no_number in
              quiet_way (λ epoch hello. no_hello epoch (said says (say.Hello epoch) (sym is ∙ hello)))
              (λ n pod. no_pod n (said says (say.Pod n) (sym is ∙ pod)))
              (omega (arith, one, none)) before
            where
              said : (x y : ToSwitch) → ◌≡◌ {A = SwitchInput} (Says x) (Says y) → x ≡ y
              said x y same = cc same

          heard : (says : ToSwitch) → a.input ≡ Says says → f.orders s ≡ says ∷ a.mid.orders s → HasOneWay old (f.reports s) (f.orders s) →
              is_silent f.orders s ≡ false →
              HasOneWay new (g.reports s) (g.orders s)
          heard (say.Pod n) is first before loud_before = pod_way n is first before
          heard (say.Hello epoch) is first before loud_before = absurd (false≢true (sym loud_before ∙ ap (list_any is_hello) first))
          heard (say.Avoid list) is first before loud_before =
              other (say.Avoid list) refl is first (λ e same. absurd (cc same)) (λ n same. absurd (cc same)) before
          heard (say.Tree group part) is first before loud_before =
              other (say.Tree group part) refl is first (λ e same. absurd (cc same)) (λ n same. absurd (cc same)) before
          heard (say.Answer x b c d) is first before loud_before =
              other (say.Answer x b c d) refl is first (λ e same. absurd (cc same)) (λ n same. absurd (cc same)) before
          heard (say.Flood x b c) is first before loud_before =
              other (say.Flood x b c) refl is first (λ e same. absurd (cc same)) (λ n same. absurd (cc same)) before
          heard (say.Invalidate x b c d) is first before loud_before =
              other (say.Invalidate x b c d) refl is first (λ e same. absurd (cc same)) (λ n same. absurd (cc same)) before
          heard (say.Release x) is first before loud_before =
              other (say.Release x) refl is first (λ e same. absurd (cc same)) (λ n same. absurd (cc same)) before

  pub acts_way : HaveOneWay g
  acts_way t id named loud = elim (cases_eq t s) [
    | inl here ↦
        subst (λ x. HasOneWay (g.view x).place (g.reports x) (g.orders x)) (sym here)
        (acts_here id (ap (slice_get f.plan.ids) (sym here) ∙ before) (ap (is_silent g.orders) (sym here) ∙ loud))
    | inr other ↦
        let orders = a.turns.acted.orders t ∙ a.others t other in
        subst (λ (v : SwitchView). HasOneWay v.place (g.reports t) (g.orders t)) (sym (a.turns.acted.others t other ∙ a.view t))
        (subst (λ r. HasOneWay (f.view t).place r (g.orders t)) (sym (a.turns.acted.other_reports t other ∙ a.reports t))
        (subst (HasOneWay (f.view t).place (f.reports t)) (sym orders) (all t id before (ap (list_any is_hello) (sym orders) ∙ loud))))
  ]
    where
      before : slice_get f.plan.ids t ≡ Some id
      before = ap (λ (p : Plan). slice_get p.ids t) (sym (a.turns.acted.plan ∙ a.plan)) ∙ named

-- ---- the manager treats a word
no_wish : (w : ToManager) → is_note w ≡ true → is_wish w ≡ false
no_wish tell.PodWanted is = absurd (false≢true is)
no_wish (tell.Place place) is = refl
no_wish (tell.Link u usable) is = refl
no_wish (tell.Learned a b c) is = refl
no_wish (tell.Aged a b) is = refl
no_wish (tell.Begin n) is = refl
no_wish (tell.End n) is = refl
no_wish (tell.Trapped a b c) is = refl
no_wish (tell.Query a b c) is = refl
no_wish (tell.Members group any) is = refl

pub none_released : (orders : List ToSwitch) → AllByRecursion IsRelease orders → how_many is_number orders ≡ 0
none_released [] all = refl
none_released (say.Release x ∷ orders) all = none_released orders all.1
none_released (say.Pod n ∷ orders) all = absurd all.0
none_released (say.Avoid list ∷ orders) all = absurd all.0
none_released (say.Tree group part ∷ orders) all = absurd all.0
none_released (say.Answer a b c d ∷ orders) all = absurd all.0
none_released (say.Flood a b c ∷ orders) all = absurd all.0
none_released (say.Invalidate a b c d ∷ orders) all = absurd all.0
none_released (say.Hello epoch ∷ orders) all = absurd all.0

module _ (f m g : ControlPlane) (apart : AreApart f.plan) (s : ℕ) (id : SwitchId) (told : ToManager) (named : slice_get f.plan.ids s ≡ Some id)
    (taken : IsReportTaken f s told m) (turns : ManagerTurns treats_one m id told g) (t : ℕ) (other : SwitchId) (there : slice_get f.plan.ids t ≡ Some other)
    (before : HasOneWay (f.view t).place (f.reports t) (f.orders t)) where
  -- of the words that wait
  left_then : how_many is_wish (f.reports t) ≡ one_if (is_wish told && (t == s)) + how_many is_wish (m.reports t)
  left_then = elim (cases_eq t s) [
    | inl here ↦
        ap (λ x. how_many is_wish (f.reports x)) here ∙ ap (how_many is_wish) taken.first ∙ how_many_first is_wish told (m.reports s)
        ∙ ap (λ b. one_if b + how_many is_wish (m.reports s)) (own (is_wish told) (eq-eqb t s here))
        ∙ ap (λ x. one_if (is_wish told && (t == s)) + how_many is_wish (m.reports x)) (sym here)
    | inr differ ↦
        let none : one_if (is_wish told && (t == s)) ≡ 0 = ap one_if (nothing (is_wish told) (ne_eqb t s differ)) in
        let same = ap (how_many is_wish) (taken.others t differ) in
        omega (arith, none, same)
  ]
    where
      own : (b : Bool) → (t == s) ≡ true → b ≡ (b && (t == s))
      own true is = sym is
      own false is = refl

      nothing : (b : Bool) → (t == s) ≡ false → (b && (t == s)) ≡ false
      nothing true is = is
      nothing false is = refl

  goes : (more : List ToSwitch) → how_many is_number more ≡ one_if (is_wish told && (t == s)) → g.orders t ≡ f.orders t ++ more →
      HasOneWay (g.view t).place (g.reports t) (g.orders t)
  goes more many orders =
      let left = left_then in
      let wishes = ap (how_many is_wish) (turns.reports t) in
      let numbers = ap (how_many is_number) orders ∙ how_many_append is_number (f.orders t) more in
      let view = turns.view t ∙ taken.left.view t in
      let known = ap (λ (v : SwitchView). one_if (is_some (own_pod v.place))) view in
      let position = ap (λ (v : SwitchView). one_if (is_known v.place.position 0)) view in
      omega (arith, left, wishes, numbers, known, position, many, before)

  pub treated_way : HasOneWay (g.view t).place (g.reports t) (g.orders t)
  treated_way = elim (heard_or_noted m g id told turns) [
    | inl ruled ↦
        let acts = (manager_hears m.manager id told).acts in
        goes (ordered f.plan t acts) (one_said f.plan apart m.manager s t id other told named there)
        (ruled.orders t ∙ ap (λ o. o ++ ordered m.plan t ruled.acts) (taken.orders t) ∙ ap (λ p. f.orders t ++ ordered p t ruled.acts) taken.left.plan
        ∙ ap (λ x. f.orders t ++ ordered f.plan t x) ruled.ruled.1)
    | inr noted ↦
        goes (noted.1.more t) (none_released (noted.1.more t) (noted.1.releases t) ∙ sym (ap (λ b. one_if (b && (t == s))) (no_wish told noted.0)))
        (noted.1.orders t ∙ ap (λ o. o ++ noted.1.more t) (taken.orders t))
  ]
