-- The manager never says that it begins anew: its acts are other orders.
use Rattle.std.proofs.Common.{◌≡◌, ℕ, ◌+◌, ◌||◌, Bool, true, false, if◌then◌else◌, List, [], ◌∷◌, ◌++◌, map, Option, Some, None, fold, refl, sym, subst}
use Rattle.std.specs.List.{AllByRecursion, flat_map, list_any, position}
use Rattle.pl_lemmas.proofs.Exports.{all_append, all_weaker}
use Rattle.pl_frame.specs.declared.address.Ip4.{Ip4}
use Rattle.pl_frame.specs.declared.address.SwitchId.{SwitchId}
use Rattle.pl_pmac.specs.declared.pmac.Pmac.{Pmac}
use Rattle.pl_layouts.specs.Equality.{same_pmac, same_switch}
use Rattle.pl_wiring.specs.Plan.{Plan}
use Rattle.pl_gathering.specs.Acting.{Done, then_treats}
use Rattle.pl_gathering.specs.Gathering.{Heard}
use Rattle.pl_node.specs.declared.acts.ManagerAct.{ManagerAct}
use Rattle.pl_node.specs.declared.acts.ManagerAct.TheVariants.{Number, Say}
use Rattle.pl_node.specs.declared.messages.ToManager.{ToManager}
use Rattle.pl_node.specs.declared.messages.ToManager.TheVariants as tell
use Rattle.pl_node.specs.declared.messages.ToSwitch.TheVariants as say
use Rattle.pl_node.specs.AvoidLists.{avoid_list}
use Rattle.pl_node.specs.ManagerFacts.{groups}
use Rattle.pl_node.specs.ManagerViews.{Learnt, ManagerView, Registration, lookup, newest, registry}
use Rattle.pl_manager_rule.specs.ManagerRule.{ManagerStep, answer_to, avoid_acts, changed, changed_of_group, hears_aged, invalidation, manager_hears, part_in, reply, tree_acts, tree_acts_of, view_after}
use Rattle.pl_manager_rule.specs.Reports.{releases_known}
use Rattle.pl_manager_rule.specs.Treating.{Treating, follows, then_releases, to_release, treats, treats_word}
use Rattle.pl_manager_rule.proofs.Exports.{aged_releases, IsReleaseOf, IsReleaseTo, released_to}
use Rattle.pl_law_control_plane.specs.PlaneSteps.{is_to, ordered}
use Rattle.pl_law_due.specs.Due.{is_hello}

abbrev pub IsOther : ManagerAct → Type 0
IsOther (Say to says) = is_hello says ≡ false
IsOther (Number pmac n) = Unit {0}

all_mapped : {X : Type 0} (f : X → ManagerAct) (xs : List X) → ((x : X) → IsOther (f x)) → AllByRecursion IsOther (map f xs)
all_mapped f [] each = tt
all_mapped f (x ∷ xs) each = (each x, all_mapped f xs each)

all_flat : {X : Type 0} (f : X → List ManagerAct) (xs : List X) → ((x : X) → AllByRecursion IsOther (f x)) → AllByRecursion IsOther (flat_map f xs)
all_flat f [] each = tt
all_flat f (x ∷ xs) each = all_append IsOther (f x) (flat_map f xs) (each x) (all_flat f xs each)

invalidation_other : (learnt : Learnt) (new : Pmac) (number : ℕ) (old : Option Registration) → AllByRecursion IsOther (invalidation learnt new number old)
invalidation_other learnt new number None = tt
invalidation_other learnt new number (Some old) = (refl, tt)

answer_other : (asker : Pmac) (asker_ip ip : Ip4) (found : Option Pmac) → is_hello (answer_to asker asker_ip ip found) ≡ false
answer_other asker asker_ip ip None = refl
answer_other asker asker_ip ip (Some pmac) = refl

reply_other : (before after : ManagerView) (s : SwitchId) (told : ToManager) → AllByRecursion IsOther (reply before after s told)
reply_other before after s tell.PodWanted = (refl, tt)
reply_other before after s (tell.Place place) = tt
reply_other before after s (tell.Link u usable) = tt
reply_other before after s (tell.Members group any) = tt
reply_other before after s (tell.Begin epoch) = tt
reply_other before after s (tell.End epoch) = tt
reply_other before after s (tell.Trapped a b c) = tt
reply_other before after s (tell.Query asker asker_ip ip) = (answer_other asker asker_ip ip (lookup after.learnt ip), tt)
reply_other before after s (tell.Aged pmac number) =
    all_weaker (IsReleaseOf before.learnt) IsOther (λ act release. subst IsOther (sym release.is) refl) (hears_aged before.learnt pmac number).acts
    (aged_releases before.learnt pmac number)
reply_other before after s (tell.Learned pmac amac ip) = by (list_any (λ r. same_pmac r.pmac pmac) (registry before.learnt))
  where
    by : (b : Bool) → AllByRecursion IsOther (if b then [] else Number pmac (before.learnt.count + 1) ∷ invalidation after.learnt pmac (before.learnt.count + 1) (newest before.learnt amac))
    by true = tt
    by false = (tt, invalidation_other after.learnt pmac (before.learnt.count + 1) (newest before.learnt amac))

heard_other : (before : ManagerView) (s : SwitchId) (told : ToManager) → AllByRecursion IsOther (manager_hears before s told).acts
unfolding manager_hears
heard_other before s told =
    let after = view_after before s told in
    let avoids = avoid_acts before.told after.told in
    let trees = tree_acts before after in
    all_append IsOther (reply before after s told ++ avoids) trees
    (all_append IsOther (reply before after s told) avoids (reply_other before after s told)
    (all_mapped (λ t. Say t (say.Avoid (avoid_list after.told t))) (changed before.told after.told) (λ t. refl)))
    (all_flat (tree_acts_of before after) (groups after.members) (λ group.
    all_mapped (λ t. Say t (say.Tree group (part_in after group t))) (changed_of_group before after group) (λ t. refl)))

-- ---- words that are treated, and what follows
pub word_other : (t : Treating) (s : SwitchId) (says : ToManager) → AllByRecursion IsOther (treats_word t s says).acts
word_other t s (tell.Aged x number) = tt
word_other t s (tell.Trapped a b c) = tt
word_other t s (tell.Place place) = heard_other t.view s (tell.Place place)
word_other t s (tell.Link u usable) = heard_other t.view s (tell.Link u usable)
word_other t s tell.PodWanted = heard_other t.view s tell.PodWanted
word_other t s (tell.Learned a b c) = heard_other t.view s (tell.Learned a b c)
word_other t s (tell.Begin n) = heard_other t.view s (tell.Begin n)
word_other t s (tell.End n) = heard_other t.view s (tell.End n)
word_other t s (tell.Query a b c) = heard_other t.view s (tell.Query a b c)
word_other t s (tell.Members group any) = heard_other t.view s (tell.Members group any)

pub each_other : (heard : List (Heard ToManager)) (done : Done Treating ManagerAct) → AllByRecursion IsOther done.acts →
    AllByRecursion IsOther (fold (then_treats treats) done heard).acts
each_other [] done all = all
each_other (h ∷ heard) done all =
    each_other heard (then_treats treats done h) (all_append IsOther done.acts (treats done.known h).acts all (word_other done.known h.switch h.word))

pub releases_other : (aged : List Pmac) (step : ManagerStep) → AllByRecursion IsOther step.acts → AllByRecursion IsOther (fold then_releases step aged).acts
releases_other [] step all = all
releases_other (x ∷ aged) step all =
    releases_other aged (then_releases step x)
    (all_append IsOther step.acts (releases_known x step.view.learnt).acts all
    (all_weaker (IsReleaseTo (λ to. Unit {0})) IsOther (λ act release. subst IsOther (sym release.is) refl) (releases_known x step.view.learnt).acts
    (released_to (λ to. Unit {0}) x step.view.learnt (λ r among. tt))))

pub all_other : (heard : List (Heard ToManager)) (start : Treating) →
    let done : Done Treating ManagerAct = fold (then_treats treats) (record { known = start; acts = [] }) heard in AllByRecursion IsOther (done.acts ++ (follows done.known).acts)
all_other heard start =
    let first : Done Treating ManagerAct = record { known = start; acts = [] } in
    let done = fold (then_treats treats) first heard in
    all_append IsOther done.acts (follows done.known).acts (each_other heard first tt) (releases_other (to_release done.known) (record { view = done.known.view; acts = [] }) tt)

-- ---- so nobody becomes silent
pub ordered_other : (plan : Plan) (s : ℕ) (acts : List ManagerAct) → AllByRecursion IsOther acts → list_any is_hello (ordered plan s acts) ≡ false
ordered_other plan s [] all = refl
ordered_other plan s (Number pmac n ∷ acts) all = ordered_other plan s acts all.1
ordered_other plan s (Say to says ∷ acts) all = by (is_to (position (same_switch to) plan.ids) s) (ordered_other plan s acts all.1)
  where
    by : (b : Bool) → list_any is_hello (ordered plan s acts) ≡ false → list_any is_hello ((if b then says ∷ [] else []) ++ ordered plan s acts) ≡ false
    by true rest = λ i. all.0 i || rest i
    by false rest = rest
