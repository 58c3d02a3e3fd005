-- What the manager says of pods.
use Rattle.std.proofs.Common.{◌≡◌, ℕ, ◌+◌, Bool, true, false, if◌then◌else◌, List, [], ◌∷◌, ◌++◌, map, flat_map, Option, Some, None, unwrap_or, IsSome, position, refl, sym, subst, eqb-true}
use Rattle.std.specs.List.{AllByRecursion, list_any}
use Rattle.std.proofs.lemmas.List.Quantifiers.{position-Some}
use Rattle.pl_lemmas.proofs.Exports.{all_append, all_weaker}
use Rattle.pl_frame.specs.declared.address.Ip4.{Ip4}
use Rattle.pl_frame.specs.declared.address.SwitchId.{SwitchId}
use Rattle.pl_frame.proofs.Exports.{same_id}
use Rattle.pl_pmac.specs.declared.pmac.Pmac.{Pmac}
use Rattle.pl_wiring.specs.Plan.{Plan}
use Rattle.pl_layouts.specs.Equality.{same_pmac, same_switch}
use Rattle.pl_node.specs.declared.acts.ManagerAct.{ManagerAct}
use Rattle.pl_node.specs.declared.acts.ManagerAct.TheVariants.{Number, Say}
use Rattle.pl_node.specs.declared.messages.ToManager.{ToManager}
use Rattle.pl_node.specs.declared.messages.ToManager.TheVariants as tell
use Rattle.pl_node.specs.declared.messages.ToSwitch.{ToSwitch}
use Rattle.pl_node.specs.declared.messages.ToSwitch.TheVariants as say
use Rattle.pl_node.specs.declared.pod_given.PodGiven.{PodGiven}
use Rattle.pl_node.specs.ManagerViews.{Learnt, ManagerView, Registration, lookup, newest, pod_given, registry}
use Rattle.pl_node.specs.ManagerFacts.{groups}
use Rattle.pl_node.specs.AvoidLists.{avoid_list}
use Rattle.pl_manager_rule.specs.ManagerRule.{answer_to, avoid_acts, changed, changed_of_group, hears_aged, invalidation, manager_hears, part_in, reply, tree_acts, tree_acts_of, view_after, with_asker}
use Rattle.pl_manager_rule.proofs.Exports.{aged_releases, asker_has_pod, IsReleaseOf, number_stays}
use Rattle.pl_law_control_plane.specs.PlaneSteps.{is_to, ordered, ordered_by}
use Rattle.pl_law_pods.specs.Pods.{IsPodGiven, id_of}

-- an act says no pod but the one that was given
abbrev pub IsDue : List PodGiven → ManagerAct → Type 0
IsDue pods (Say to says) = IsPodGiven pods to says
IsDue pods (Number pmac n) = Unit {0}

pub all_mapped : {X Y : Type 0} (P : Y → Type 0) (f : X → Y) (xs : List X) → ((x : X) → P (f x)) → AllByRecursion P (map f xs)
all_mapped P f [] each = tt
all_mapped P f (x ∷ xs) each = (each x, all_mapped P f xs each)

pub all_flat : {X Y : Type 0} (P : Y → Type 0) (f : X → List Y) (xs : List X) → ((x : X) → AllByRecursion P (f x)) → AllByRecursion P (flat_map f xs)
all_flat P f [] each = tt
all_flat P f (x ∷ xs) each = all_append P (f x) (flat_map f xs) (each x) (all_flat P f xs each)

some_is : (o : Option ℕ) → IsSome o → o ≡ Some (unwrap_or o 0)
some_is None h = absurd (cc h)
some_is (Some n) h = refl

due_invalidation : (pods : List PodGiven) (learnt : Learnt) (new : Pmac) (number : ℕ) (old : Option Registration) →
    AllByRecursion (IsDue pods) (invalidation learnt new number old)
due_invalidation pods learnt new number None = tt
due_invalidation pods learnt new number (Some old) = (tt, tt)

due_answer : (pods : List PodGiven) (s : SwitchId) (asker : Pmac) (asker_ip ip : Ip4) (found : Option Pmac) → IsPodGiven pods s (answer_to asker asker_ip ip found)
due_answer pods s asker asker_ip ip None = tt
due_answer pods s asker asker_ip ip (Some pmac) = tt

due_reply : (before : ManagerView) (s : SwitchId) (told : ToManager) →
    AllByRecursion (IsDue (view_after before s told).pods) (reply before (view_after before s told) s told)
due_reply before s tell.PodWanted = (some_is (pod_given (with_asker before.told before.pods s) s) (asker_has_pod before.told before.pods s), tt)
due_reply before s (tell.Place place) = tt
due_reply before s (tell.Link u usable) = tt
due_reply before s (tell.Members group any) = tt
due_reply before s (tell.Begin epoch) = tt
due_reply before s (tell.End epoch) = tt
due_reply before s (tell.Trapped trapped toward numbered) = tt
due_reply before s (tell.Query asker asker_ip ip) = (due_answer before.pods s asker asker_ip ip (lookup before.learnt ip), tt)
due_reply before s (tell.Aged pmac number) =
    all_weaker (IsReleaseOf before.learnt) (IsDue before.pods) (λ act release. subst (IsDue before.pods) (sym release.is) tt) (hears_aged before.learnt pmac number).acts
    (aged_releases before.learnt pmac number)
due_reply before s (tell.Learned pmac amac ip) =
    by (list_any (λ r. same_pmac r.pmac pmac) (registry before.learnt)) (view_after before s (tell.Learned pmac amac ip)).learnt
  where
    by : (b : Bool) (after : Learnt) → AllByRecursion (IsDue before.pods) (if b then []
        else Number pmac (before.learnt.count + 1) ∷ invalidation after pmac (before.learnt.count + 1) (newest before.learnt amac))
    by true after = tt
    by false after = (tt, due_invalidation before.pods after pmac (before.learnt.count + 1) (newest before.learnt amac))

-- all that the manager does in a step
pub due_acts : (before : ManagerView) (s : SwitchId) (told : ToManager) → AllByRecursion (IsDue (view_after before s told).pods) (manager_hears before s told).acts
unfolding manager_hears
due_acts before s told =
    let after = view_after before s told in
    let avoids = avoid_acts before.told after.told in
    let trees = tree_acts before after in
    all_append (IsDue after.pods) (reply before after s told ++ avoids) trees
    (all_append (IsDue after.pods) (reply before after s told) avoids (due_reply before s told)
    (all_mapped (IsDue after.pods) (λ t. Say t (say.Avoid (avoid_list after.told t))) (changed before.told after.told) (λ t. tt)))
    (all_flat (IsDue after.pods) (tree_acts_of before after) (groups after.members) (λ group.
    all_mapped (IsDue after.pods) (λ t. Say t (say.Tree group (part_in after group t))) (changed_of_group before after group) (λ t. tt)))

-- what was given stays so
pub given_then : (before : ManagerView) (s t : SwitchId) (told : ToManager) (n : ℕ) → pod_given before.pods t ≡ Some n →
    pod_given (view_after before s told).pods t ≡ Some n
given_then before s t tell.PodWanted n is = number_stays before.told before.pods s t n is
given_then before s t (tell.Place place) n is = is
given_then before s t (tell.Link u usable) n is = is
given_then before s t (tell.Members group any) n is = is
given_then before s t (tell.Begin epoch) n is = is
given_then before s t (tell.End epoch) n is = is
given_then before s t (tell.Trapped trapped toward numbered) n is = is
given_then before s t (tell.Query asker asker_ip ip) n is = is
given_then before s t (tell.Learned pmac amac ip) n is = is
given_then before s t (tell.Aged pmac number) n is = is

pub order_then : (before : ManagerView) (s t : SwitchId) (told : ToManager) (says : ToSwitch) → IsPodGiven before.pods t says →
    IsPodGiven (view_after before s told).pods t says
order_then before s t told (say.Pod n) is = given_then before s t told n is
order_then before s t told (say.Answer a b c d) is = tt
order_then before s t told (say.Flood a b c) is = tt
order_then before s t told (say.Avoid list) is = tt
order_then before s t told (say.Invalidate a b c d) is = tt
order_then before s t told (say.Release a) is = tt
order_then before s t told (say.Hello epoch) is = tt
order_then before s t told (say.Tree group part) is = tt

-- The switch to which an act speaks.

pub to_is : (plan : Plan) (to : SwitchId) (t : ℕ) → is_to (position (same_switch to) plan.ids) t ≡ true → to ≡ id_of plan t
to_is plan to t is = by (position (same_switch to) plan.ids) refl is
  where
    by : (found : Option ℕ) → position (same_switch to) plan.ids ≡ found → is_to found t ≡ true → to ≡ id_of plan t
    by None none is = absurd (cc is)
    by (Some i) found is =
        let at = eqb-true i t is in
        let there = position-Some (same_switch to) plan.ids i (record { 0 = 0 }) found in
        same_id to (id_of plan t) (eqb-true to.0 (id_of plan t).0 (subst (λ x. same_switch to (id_of plan x) ≡ true) at there.1))

-- what the acts say to a switch is due
pub due_orders : (plan : Plan) (pods : List PodGiven) (t : ℕ) (acts : List ManagerAct) → AllByRecursion (IsDue pods) acts →
    AllByRecursion (IsPodGiven pods (id_of plan t)) (ordered plan t acts)
due_orders plan pods t [] due = tt
due_orders plan pods t (Number pmac n ∷ acts) due = due_orders plan pods t acts due.1
due_orders plan pods t (Say to says ∷ acts) due =
    all_append (IsPodGiven pods (id_of plan t)) (ordered_by plan t (Say to says)) (ordered plan t acts)
    (by (is_to (position (same_switch to) plan.ids) t) refl) (due_orders plan pods t acts due.1)
  where
    by : (b : Bool) → is_to (position (same_switch to) plan.ids) t ≡ b → AllByRecursion (IsPodGiven pods (id_of plan t)) (if b then says ∷ [] else [])
    by false is = tt
    by true is = (subst (λ x. IsPodGiven pods x says) (to_is plan to t is) due.0, tt)
