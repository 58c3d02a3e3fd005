-- What the acts of the manager say to one switch.
use Rattle.std.proofs.Common.{◌≡◌, ℕ, ◌+◌, ◌==◌, Bool, true, false, if◌then◌else◌, List, [], ◌∷◌, ◌++◌, map, flat_map, Option, Some, None, unwrap_or, slice_get, get_or, position, refl, sym, ap, ◌∙◌, subst, inl, inr, eqb-true, eq-eqb, true≢false}
use Rattle.std.specs.List.{AllByRecursion, list_any}
use Rattle.std.proofs.lemmas.List.Quantifiers.{position-Some}
use Rattle.std.proofs.lemmas.Option.{get_or_from_slice_get}
use Rattle.pl_lemmas.proofs.Exports.{all_weaker}
use Rattle.pl_frame.specs.declared.address.Ip4.{Ip4}
use Rattle.pl_frame.specs.declared.address.SwitchId.{SwitchId}
use Rattle.pl_pmac.specs.declared.pmac.Pmac.{Pmac}
use Rattle.pl_layouts.specs.Equality.{same_pmac, same_switch}
use Rattle.pl_layouts.proofs.Exports.{switch_itself}
use Rattle.pl_wiring.specs.Plan.{IsPlan, Plan}
use Rattle.pl_node.specs.declared.acts.ManagerAct.{ManagerAct}
use Rattle.pl_node.specs.declared.acts.ManagerAct.TheVariants.{Number, Say}
use Rattle.pl_node.specs.declared.messages.ToManager.{ToManager}
use Rattle.pl_node.specs.declared.messages.ToManager.TheVariants as tell
use Rattle.pl_node.specs.declared.messages.ToSwitch.{ToSwitch}
use Rattle.pl_node.specs.ManagerViews.{Learnt, ManagerView, Registration, lookup, newest, registry}
use Rattle.pl_node.proofs.Exports.{IsAmong}
use Rattle.pl_manager_rule.specs.ManagerRule.{answer_to, hears_aged, invalidation, reply}
use Rattle.pl_manager_rule.proofs.Exports.{aged_releases, IsReleaseOf}
use Rattle.pl_manager_rule.proofs.Exports.{same_is}
use Rattle.pl_law_addresses.proofs.Exports.{place_is}
use Rattle.pl_law_control_plane.specs.PlaneSteps.{is_to, ordered}
use Rattle.pl_law_control_plane.proofs.Exports.{flat_map_append}
use Rattle.pl_law_records.specs.Words.{IsNoOrder, last_said}
use Rattle.pl_law_records.proofs.Last.{last_append}

abbrev pub said_to : SwitchId → ManagerAct → List ToSwitch
said_to id (Say to says) = if same_switch to id then says ∷ [] else []
said_to id (Number pmac n) = []

abbrev pub all_said_to : SwitchId → List ManagerAct → List ToSwitch
all_said_to id acts = flat_map (said_to id) acts

-- what is put behind the queue to a switch is what is said to its id
module _ (plan : Plan) (is : IsPlan plan) (s : ℕ) (id : SwitchId) (named : slice_get plan.ids s ≡ Some id) where
  to_is : (to : SwitchId) → is_to (position (same_switch to) plan.ids) s ≡ same_switch to id
  to_is to = by (same_switch to id) refl
    where
      other : same_switch to id ≡ false → (found : Option ℕ) → position (same_switch to) plan.ids ≡ found → is_to found s ≡ false
      other e None found = refl
      other e (Some i) found = at (i == s) refl
        where
          at : (b : Bool) → (i == s) ≡ b → b ≡ false
          at false k = refl
          at true k =
              let there = (position-Some (same_switch to) plan.ids i (record { 0 = 0 }) found).1 in
              let same = eqb-true i s k in
              let here = get_or_from_slice_get plan.ids s id (record { 0 = 0 }) named in
              let passes = subst (λ x. same_switch to (get_or plan.ids x (record { 0 = 0 })) ≡ true) same there in
              absurd (true≢false (sym (subst (λ x. same_switch to x ≡ true) here passes) ∙ e))

      by : (b : Bool) → same_switch to id ≡ b → is_to (position (same_switch to) plan.ids) s ≡ b
      by true e =
          subst (λ (x : SwitchId). is_to (position (same_switch x) plan.ids) s ≡ true) (sym (same_is to id e))
          (ap (λ o. is_to o s) (place_is plan.ids is.ids_apart s id named) ∙ eq-eqb s s refl)
      by false e = other e (position (same_switch to) plan.ids) refl

  pub ordered_is : (acts : List ManagerAct) → ordered plan s acts ≡ all_said_to id acts
  ordered_is [] = refl
  ordered_is (Say to says ∷ acts) = ap (λ b. (if b then says ∷ [] else []) ++ ordered plan s acts) (to_is to) ∙ ap (λ xs. said_to id (Say to says) ++ xs) (ordered_is acts)
  ordered_is (Number pmac n ∷ acts) = ordered_is acts

-- the last that is said of one thing
module _ {X : Type 0} (said : ToSwitch → Option X) (id : SwitchId) where
  abbrev pub then_said : X → List ManagerAct → X
  then_said x acts = last_said said x (all_said_to id acts)

  pub then_more : (x : X) (xs ys : List ManagerAct) → then_said x (xs ++ ys) ≡ then_said (then_said x xs) ys
  then_more x xs ys = ap (last_said said x) (flat_map_append (said_to id) xs ys) ∙ last_append said x (all_said_to id xs) (all_said_to id ys)

  abbrev pub IsSilent : ManagerAct → Type 0
  IsSilent (Say to says) = said says ≡ None
  IsSilent (Number pmac n) = Unit {0}

  one_word : (b : Bool) (x y : X) (says : ToSwitch) → unwrap_or (said says) x ≡ y → (b ≡ false → x ≡ y) → last_said said x (if b then says ∷ [] else []) ≡ y
  one_word true x y says is other = is
  one_word false x y says is other = other refl

  pub then_silent : (x : X) (acts : List ManagerAct) → AllByRecursion IsSilent acts → then_said x acts ≡ x
  then_silent x [] all = refl
  then_silent x (Say to says ∷ acts) all =
      last_append said x (said_to id (Say to says)) (all_said_to id acts)
      ∙ ap (λ y. last_said said y (all_said_to id acts)) (one_word (same_switch to id) x x says (ap (λ o. unwrap_or o x) all.0) (λ e. refl))
      ∙ then_silent x acts all.1
  then_silent x (Number pmac n ∷ acts) all = then_silent x acts all.1

  -- each of some switches is sent its own
  module _ (own : SwitchId → X) (word : SwitchId → ToSwitch) (says : (t : SwitchId) → said (word t) ≡ Some (own t)) where
    abbrev pub words : List SwitchId → List ManagerAct
    words ts = map (λ t. Say t (word t)) ts

    front : (t : SwitchId) (x : X) → (same_switch t id ≡ false → x ≡ own id) → last_said said x (said_to id (Say t (word t))) ≡ own id
    front t x other = by (same_switch t id) refl
      where
        by : (b : Bool) → same_switch t id ≡ b → last_said said x (if b then word t ∷ [] else []) ≡ own id
        by true e = ap (λ o. unwrap_or o x) (says t) ∙ ap own (same_is t id e)
        by false e = other e

    pub own_stays : (ts : List SwitchId) (x : X) → x ≡ own id → then_said x (words ts) ≡ own id
    own_stays [] x is = is
    own_stays (t ∷ ts) x is = last_append said x (said_to id (Say t (word t))) (all_said_to id (words ts)) ∙ own_stays ts _ (front t x (λ e. is))

    pub own_said : (ts : List SwitchId) (x : X) → IsAmong id ts → then_said x (words ts) ≡ own id
    own_said [] x h = absurd h
    own_said (t ∷ ts) x h = last_append said x (said_to id (Say t (word t))) (all_said_to id (words ts)) ∙ elim h [
      | inl is ↦ own_stays ts _ (front t x (λ e. absurd (true≢false (sym (subst (λ y. same_switch y id ≡ true) (sym is) (switch_itself id)) ∙ e))))
      | inr later ↦ own_said ts _ later
    ]

-- the reply says nothing of lists and trees
abbrev pub OrdersNothing : ManagerAct → Type 0
OrdersNothing (Say to says) = IsNoOrder says
OrdersNothing (Number pmac n) = Unit {0}

invalidation_orders_nothing : (learnt : Learnt) (new : Pmac) (number : ℕ) (old : Option Registration) → AllByRecursion OrdersNothing (invalidation learnt new number old)
invalidation_orders_nothing learnt new number None = tt
invalidation_orders_nothing learnt new number (Some old) = (tt, tt)

answer_orders_nothing : (asker : Pmac) (asker_ip ip : Ip4) (found : Option Pmac) → IsNoOrder (answer_to asker asker_ip ip found)
answer_orders_nothing asker asker_ip ip None = tt
answer_orders_nothing asker asker_ip ip (Some pmac) = tt

reply_orders_nothing : (before after : ManagerView) (s : SwitchId) (told : ToManager) → AllByRecursion OrdersNothing (reply before after s told)
reply_orders_nothing before after s (tell.Aged pmac number) =
    all_weaker (IsReleaseOf before.learnt) OrdersNothing (λ act release. subst OrdersNothing (sym release.is) tt) (hears_aged before.learnt pmac number).acts
    (aged_releases before.learnt pmac number)
reply_orders_nothing before after s tell.PodWanted = (tt, tt)
reply_orders_nothing before after s (tell.Place place) = tt
reply_orders_nothing before after s (tell.Link u usable) = tt
reply_orders_nothing before after s (tell.Members group any) = tt
reply_orders_nothing before after s (tell.Begin epoch) = tt
reply_orders_nothing before after s (tell.End epoch) = tt
reply_orders_nothing before after s (tell.Trapped trapped toward numbered) = tt
reply_orders_nothing before after s (tell.Query asker asker_ip ip) = (answer_orders_nothing asker asker_ip ip (lookup after.learnt ip), tt)
reply_orders_nothing before after s (tell.Learned pmac amac ip) = by (list_any (λ r. same_pmac r.pmac pmac) (registry before.learnt))
  where
    by : (b : Bool) → AllByRecursion OrdersNothing (if b then []
        else Number pmac (before.learnt.count + 1) ∷ invalidation after.learnt pmac (before.learnt.count + 1) (newest before.learnt amac))
    by true = tt
    by false = (tt, invalidation_orders_nothing after.learnt pmac (before.learnt.count + 1) (newest before.learnt amac))

silent_of : {X : Type 0} (said : ToSwitch → Option X) (id : SwitchId) → ((w : ToSwitch) → IsNoOrder w → said w ≡ None) → (acts : List ManagerAct) → AllByRecursion OrdersNothing acts →
    AllByRecursion (IsSilent said id) acts
silent_of said id each [] all = tt
silent_of said id each (Say to says ∷ acts) all = (each says all.0, silent_of said id each acts all.1)
silent_of said id each (Number pmac n ∷ acts) all = (tt, silent_of said id each acts all.1)

pub reply_silent : {X : Type 0} (said : ToSwitch → Option X) (id : SwitchId) → ((w : ToSwitch) → IsNoOrder w → said w ≡ None) → (before after : ManagerView) (s : SwitchId) (told : ToManager)
    (x : X) → then_said said id x (reply before after s told) ≡ x
reply_silent said id each before after s told x =
    then_silent said id x (reply before after s told) (silent_of said id each (reply before after s told) (reply_orders_nothing before after s told))
