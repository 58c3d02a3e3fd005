-- The manager says the number of a pod to the switch whose wish it hears, once, and to no other.
use Rattle.std.proofs.Common.{◌≡◌, ℕ, zero, suc, ◌+◌, ◌==◌, ◌&&◌, Bool, true, false, if◌then◌else◌, cond, List, [], ◌∷◌, ◌++◌, Option, Some, None, unwrap_or, position, slice_get, length, refl, sym, ap, ◌∙◌, subst, arith, inl, inr, eqb-true, eq-eqb, ne_eqb}
use Rattle.std.specs.List.{AllByRecursion, filter, list_any, position_from}
use Rattle.std.proofs.lemmas.Bool.{cases_Bool, cases_eq, false≢true}
use Rattle.std.proofs.lemmas.List.Quantifiers.{position-Some}
use Rattle.std.proofs.lemmas.Iterator.Adapters.{position_from-zero}
use Rattle.std.proofs.lemmas.Option.{get_or_from_slice_get, slice_get-get_or, slice_get_within}
use Rattle.pl_lemmas.proofs.Exports.{all_append, all_weaker}
use Rattle.pl_frame.specs.declared.address.Ip4.{Ip4}
use Rattle.pl_frame.specs.declared.address.SwitchId.{SwitchId}
use Rattle.pl_frame.proofs.Exports.{same_id}
use Rattle.pl_pmac.specs.declared.pmac.Pmac.{Pmac}
use Rattle.pl_layouts.specs.Equality.{same_pmac, same_switch}
use Rattle.pl_layouts.proofs.Exports.{switch_itself}
use Rattle.pl_wiring.specs.Plan.{Plan}
use Rattle.pl_node.specs.declared.acts.ManagerAct.{ManagerAct}
use Rattle.pl_node.specs.declared.acts.ManagerAct.TheVariants.{Number, Say}
use Rattle.pl_node.specs.declared.messages.ToManager.{ToManager}
use Rattle.pl_node.specs.declared.messages.ToManager.TheVariants as tell
use Rattle.pl_node.specs.declared.messages.ToSwitch.{ToSwitch}
use Rattle.pl_node.specs.declared.messages.ToSwitch.TheVariants as say
use Rattle.pl_node.specs.ManagerViews.{Learnt, ManagerView, Registration, lookup, newest, pod_given, registry}
use Rattle.pl_node.specs.ManagerFacts.{groups}
use Rattle.pl_node.specs.AvoidLists.{avoid_list}
use Rattle.pl_manager_rule.specs.ManagerRule.{answer_to, avoid_acts, changed, changed_of_group, hears_aged, invalidation, manager_hears, part_in, reply, tree_acts, tree_acts_of, view_after}
use Rattle.pl_manager_rule.proofs.Exports.{aged_releases, IsReleaseOf}
use Rattle.pl_law_control_plane.specs.PlaneSteps.{is_to, ordered, ordered_by}
use Rattle.pl_law_pods.specs.Pods.{id_of}
use Rattle.pl_law_pods.specs.Ways.{how_many, is_number, is_wish, one_if}
use Rattle.pl_law_pods.proofs.Managing.{all_flat, all_mapped, to_is}
use Rattle.pl_law_pods.proofs.WishesTold.{how_many_append}

-- ---- where a switch stands among the ids
none_from : (p : SwitchId → Bool) (ids : List SwitchId) (n t : ℕ) (id : SwitchId) → position_from p n ids ≡ None → slice_get ids t ≡ Some id → p id ≡ true → ⊥
none_from p [] n t id none at passes = let less = slice_get_within [] t id at in omega (arith, less)
none_from p (x ∷ ids) n t id none at passes = by (p x) refl (λ u. none_from p ids (n + 1) u id) t none at
  where
    by : (b : Bool) → p x ≡ b → ((u : ℕ) → position_from p (n + 1) ids ≡ None → slice_get ids u ≡ Some id → p id ≡ true → ⊥) → (t : ℕ) →
        cond b (Some n) (position_from p (n + 1) ids) ≡ None → slice_get (x ∷ ids) t ≡ Some id → ⊥
    by true is rest t none at = absurd (cc none)
    by false is rest zero none at = (let same : x ≡ id = cc at in false≢true (sym is ∙ ap p same ∙ passes))
    by false is rest (suc u) none at = rest u none at passes

abbrev pub AreApart : Plan → Type 0
AreApart plan = (s t : ℕ) (id : SwitchId) → slice_get plan.ids s ≡ Some id → slice_get plan.ids t ≡ Some id → s ≡ t

-- what is said to a switch of the wiring is put behind its queue, and behind no other
to_itself : (plan : Plan) → AreApart plan → (s : ℕ) (id : SwitchId) → slice_get plan.ids s ≡ Some id → is_to (position (same_switch id) plan.ids) s ≡ true
to_itself plan apart s id named = by (position (same_switch id) plan.ids) refl
  where
    by : (o : Option ℕ) → position (same_switch id) plan.ids ≡ o → is_to o s ≡ true
    by None none = absurd (none_from (same_switch id) plan.ids 0 s id (sym (position_from-zero (same_switch id) plan.ids) ∙ none) named (switch_itself id))
    by (Some i) found =
        let there = position-Some (same_switch id) plan.ids i (record { 0 = 0 }) found in
        let same : id ≡ id_of plan i = same_id id (id_of plan i) (eqb-true id.0 (id_of plan i).0 there.1) in
        eq-eqb i s (apart i s id (slice_get-get_or plan.ids i (record { 0 = 0 }) there.0 ∙ ap Some (sym same)) named)

to_other : (plan : Plan) → AreApart plan → (s t : ℕ) (id other : SwitchId) → slice_get plan.ids s ≡ Some id → slice_get plan.ids t ≡ Some other → (t ≡ s → ⊥) →
    is_to (position (same_switch id) plan.ids) t ≡ false
to_other plan apart s t id other named there differ = elim (cases_Bool (is_to (position (same_switch id) plan.ids) t)) [
  | inr not_to ↦ not_to
  | inl to ↦
      let same : id ≡ other = to_is plan id t to ∙ get_or_from_slice_get plan.ids t other (record { 0 = 0 }) there in
      absurd (differ (apart t s id (there ∙ ap Some (sym same)) named))
]

-- ---- acts that say no number
abbrev IsNoNumber : ManagerAct → Type 0
IsNoNumber (Say to (say.Pod n)) = ⊥
IsNoNumber act = Unit {0}

none_said : (orders : List ToSwitch) → AllByRecursion (λ says. is_number says ≡ false) orders → how_many is_number orders ≡ 0
none_said [] all = refl
none_said (says ∷ orders) all = ap (λ b. length (cond b (says ∷ filter is_number orders) (filter is_number orders))) all.0 ∙ none_said orders all.1

not_number : (to : SwitchId) (says : ToSwitch) → IsNoNumber (Say to says) → is_number says ≡ false
not_number to (say.Pod n) none = absurd none
not_number to (say.Avoid list) none = refl
not_number to (say.Tree group part) none = refl
not_number to (say.Answer a b c d) none = refl
not_number to (say.Flood a b c) none = refl
not_number to (say.Invalidate a b c d) none = refl
not_number to (say.Release a) none = refl
not_number to (say.Hello epoch) none = refl

none_ordered : (plan : Plan) (t : ℕ) (acts : List ManagerAct) → AllByRecursion IsNoNumber acts → how_many is_number (ordered plan t acts) ≡ 0
none_ordered plan t [] all = refl
none_ordered plan t (Number x n ∷ acts) all = none_ordered plan t acts all.1
none_ordered plan t (Say to says ∷ acts) all =
    let rest = none_ordered plan t acts all.1 in
    let both = how_many_append is_number (ordered_by plan t (Say to says)) (ordered plan t acts) in
    let first = by (is_to (position (same_switch to) plan.ids) t) in
    omega (arith, rest, both, first)
  where
    by : (b : Bool) → how_many is_number (if b then says ∷ [] else []) ≡ 0
    by true = none_said (says ∷ []) (not_number to says all.0, tt)
    by false = refl

none_invalidation : (learnt : Learnt) (new : Pmac) (number : ℕ) (old : Option Registration) → AllByRecursion IsNoNumber (invalidation learnt new number old)
none_invalidation learnt new number None = tt
none_invalidation learnt new number (Some old) = (tt, tt)

none_answer : (s : SwitchId) (asker : Pmac) (asker_ip ip : Ip4) (found : Option Pmac) → IsNoNumber (Say s (answer_to asker asker_ip ip found))
none_answer s asker asker_ip ip None = tt
none_answer s asker asker_ip ip (Some pmac) = tt

none_avoids : (before after : ManagerView) → AllByRecursion IsNoNumber (avoid_acts before.told after.told)
none_avoids before after = all_mapped IsNoNumber (λ t. Say t (say.Avoid (avoid_list after.told t))) (changed before.told after.told) (λ t. tt)

none_trees : (before after : ManagerView) → AllByRecursion IsNoNumber (tree_acts before after)
none_trees before after = all_flat IsNoNumber (tree_acts_of before after) (groups after.members) (λ group.
    all_mapped IsNoNumber (λ t. Say t (say.Tree group (part_in after group t))) (changed_of_group before after group) (λ t. tt))

none_replied : (before after : ManagerView) (s : SwitchId) (told : ToManager) → is_wish told ≡ false → AllByRecursion IsNoNumber (reply before after s told)
none_replied before after s tell.PodWanted other = absurd (cc other)
none_replied before after s (tell.Place place) other = tt
none_replied before after s (tell.Link u usable) other = tt
none_replied before after s (tell.Members group any) other = tt
none_replied before after s (tell.Begin epoch) other = tt
none_replied before after s (tell.End epoch) other = tt
none_replied before after s (tell.Trapped trapped toward numbered) other = tt
none_replied before after s (tell.Query asker asker_ip ip) other = (none_answer s asker asker_ip ip (lookup after.learnt ip), tt)
none_replied before after s (tell.Aged pmac number) other =
    all_weaker (IsReleaseOf before.learnt) IsNoNumber (λ act release. subst IsNoNumber (sym release.is) tt) (hears_aged before.learnt pmac number).acts
    (aged_releases before.learnt pmac number)
none_replied before after s (tell.Learned pmac amac ip) other = by (list_any (λ r. same_pmac r.pmac pmac) (registry before.learnt)) after.learnt
  where
    by : (b : Bool) (learnt : Learnt) → AllByRecursion IsNoNumber (if b then []
        else Number pmac (before.learnt.count + 1) ∷ invalidation learnt pmac (before.learnt.count + 1) (newest before.learnt amac))
    by true learnt = tt
    by false learnt = (tt, none_invalidation learnt pmac (before.learnt.count + 1) (newest before.learnt amac))

-- one number where it hears a wish of this switch, else none
pub one_said : (plan : Plan) → AreApart plan → (before : ManagerView) (s t : ℕ) (id other : SwitchId) (told : ToManager) → slice_get plan.ids s ≡ Some id →
    slice_get plan.ids t ≡ Some other → how_many is_number (ordered plan t (manager_hears before id told).acts) ≡ one_if (is_wish told && (t == s))
unfolding manager_hears
one_said plan apart before s t id other told named there = elim (cases_Bool (is_wish told)) [
  | inl wish ↦ wished told wish
  | inr word ↦
      let after = view_after before id told in
      none_ordered plan t (manager_hears before id told).acts
      (all_append IsNoNumber (reply before after id told ++ avoid_acts before.told after.told) (tree_acts before after)
      (all_append IsNoNumber (reply before after id told) (avoid_acts before.told after.told)
      (none_replied before after id told word) (none_avoids before after))
      (none_trees before after))
      ∙ sym (ap (λ b. one_if (b && (t == s))) word)
]
  where
    wished : (told : ToManager) → is_wish told ≡ true →
        how_many is_number (ordered plan t (manager_hears before id told).acts) ≡ one_if (is_wish told && (t == s))
    wished tell.PodWanted wish =
        let after = view_after before id tell.PodWanted in
        let rest = avoid_acts before.told after.told ++ tree_acts before after in
        let both = how_many_append is_number (ordered_by plan t (reply_of after)) (ordered plan t rest) in
        let none = none_ordered plan t rest (all_append IsNoNumber (avoid_acts before.told after.told) (tree_acts before after)
        (none_avoids before after) (none_trees before after)) in
        let first = said after in
        omega (arith, both, none, first)
      where
        reply_of : ManagerView → ManagerAct
        reply_of after = Say id (say.Pod (unwrap_or (pod_given after.pods id) 0))

        by : (b c : Bool) (n : ℕ) → b ≡ c → how_many is_number (if b then say.Pod n ∷ [] else []) ≡ one_if c
        by true true n same = refl
        by false false n same = refl
        by true false n same = absurd (cc same)
        by false true n same = absurd (cc same)

        said : (after : ManagerView) → how_many is_number (ordered_by plan t (reply_of after)) ≡ one_if (t == s)
        said after = by (is_to (position (same_switch id) plan.ids) t) (t == s) (unwrap_or (pod_given after.pods id) 0) (elim (cases_eq t s) [
          | inl same ↦ subst (λ x. is_to (position (same_switch id) plan.ids) x ≡ true) (sym same) (to_itself plan apart s id named) ∙ sym (eq-eqb t s same)
          | inr differ ↦ to_other plan apart s t id other named there differ ∙ sym (ne_eqb t s differ)
        ])
    wished (tell.Place place) wish = absurd (cc wish)
    wished (tell.Link u usable) wish = absurd (cc wish)
    wished (tell.Members group any) wish = absurd (cc wish)
    wished (tell.Begin epoch) wish = absurd (cc wish)
    wished (tell.End epoch) wish = absurd (cc wish)
    wished (tell.Trapped a b c) wish = absurd (cc wish)
    wished (tell.Query a b c) wish = absurd (cc wish)
    wished (tell.Aged a b) wish = absurd (cc wish)
    wished (tell.Learned a b c) wish = absurd (cc wish)
