-- A word that was told last already changes nothing.
use Rattle.std.specs.Prelude.{unwrap_or}
use Rattle.std.proofs.Common.{◌≡◌, ℕ, ◌||◌, not, Bool, true, false, cond, List, [], ◌∷◌, ◌++◌, ◌+◌, map, Option, Some, None, is_some, IsSome, filter, flat_map, refl, sym, ap, ◌∙◌, subst, append-nil}
use Rattle.std.specs.List.{AllByRecursion, IsDistinct, find, list_any}
use Rattle.std.specs.Option.{option_and_then, option_map, option_or}
use Rattle.std.proofs.lemmas.Bool.{cond_both, false≢true}
use Rattle.pl_frame.specs.declared.address.Ip4.{Ip4}
use Rattle.pl_frame.specs.declared.address.Mac.{Mac}
use Rattle.pl_frame.specs.declared.address.SwitchId.{SwitchId}
use Rattle.pl_pmac.specs.declared.pmac.Pmac.{Pmac}
use Rattle.pl_layouts.specs.Equality.{same_pmac, same_switch}
use Rattle.pl_layouts.proofs.Exports.{pmac_is, pmac_itself}
use Rattle.pl_node.specs.declared.acts.ManagerAct.TheVariants.{Number}
use Rattle.pl_node.specs.declared.messages.ToManager.{ToManager}
use Rattle.pl_node.specs.declared.messages.ToManager.TheVariants as tell
use Rattle.pl_node.specs.HostViews.{ip_cmp}
use Rattle.pl_node.specs.ManagerFacts.{groups}
use Rattle.pl_node.specs.declared.pod_given.PodGiven.{PodGiven}
use Rattle.pl_node.specs.ManagerViews.{Learnt, LearntAddress, ManagerView, Recall, Registration, Told, first_free, id_cmp, link_cmp, members_cmp, newest, recall_of, registration, registry, switches}
use Rattle.pl_node.specs.AvoidLists.{avoid_list}
use Rattle.pl_manager_rule.specs.ManagerRule.{LearntStep, ManagerStep, ToldAddress, acts_of, ages_now, avoid_acts, can_release, counts, hears_aged, host_of, invalidation, is_registered, learnt_as, manager_hears, nothing_said, part_in, recalled, releases, releases_as, releases_both, reply, same_avoid_list, same_part, told_again, tree_acts, tree_acts_of, view_after, with_address, with_aged, with_learnt, with_owner}
use Rattle.pl_manager_rule.specs.Repeats.{HasToldLast, IsCounted, IsKeptBehind, IsKnownAddress, TablesAreInOrder, answers}
use Rattle.pl_manager_rule.proofs.Kept.{ip_exact, ip_total, link_exact, link_total, members_exact, members_total}
use Rattle.pl_node.proofs.Exports.{id_exact}
use Rattle.pl_manager_rule.proofs.Learning.{any_where_found, some_host}
use Rattle.pl_manager_rule.proofs.Sameness.{avoid_lists_alike, parts_alike}
use Rattle.pl_manager_rule.proofs.Tables.{put_again}
use Rattle.pl_node.proofs.Exports.{id_total}

-- ---- what is the same brings no act about
pub none_differ : {X : Type 0} (same : X → Bool) → ((x : X) → same x ≡ true) → (xs : List X) → filter (λ x. not (same x)) xs ≡ []
none_differ same each [] = refl
none_differ same each (x ∷ xs) =
    ap (λ b. cond (not b) (x ∷ filter (λ y. not (same y)) xs) (filter (λ y. not (same y)) xs)) (each x) ∙ none_differ same each xs

pub no_avoid_acts : (told : Told) → avoid_acts told told ≡ []
no_avoid_acts told =
    ap (map _) (none_differ (λ s. same_avoid_list (avoid_list told s) (avoid_list told s))
    (λ s. (avoid_lists_alike (avoid_list told s) (avoid_list told s)).1 refl) (switches told))

pub no_acts_of_group : (view : ManagerView) (group : ℕ) → tree_acts_of view view group ≡ []
no_acts_of_group view group =
    ap (map _) (none_differ (λ s. same_part (part_in view group s) (part_in view group s))
    (λ s. (parts_alike (part_in view group s) (part_in view group s)).1 refl) (switches view.told))

pub no_tree_acts : (view : ManagerView) → tree_acts view view ≡ []
no_tree_acts view = none (groups view.members)
  where
    none : (gs : List ℕ) → flat_map (tree_acts_of view view) gs ≡ []
    none [] = refl
    none (g ∷ gs) = ap (λ acts. acts ++ flat_map (tree_acts_of view view) gs) (no_acts_of_group view g) ∙ none gs

-- ---- found, and so among them
found_any : {X Y : Type 0} (f : X → Y) (test : X → Bool) (xs : List X) → is_some (option_map f (find test xs)) ≡ true → list_any test xs ≡ true
found_any f test [] h = absurd (false≢true h)
found_any f test (x ∷ xs) h = by (λ k. found_any f test xs k) (test x) h
  where
    by : (is_some (option_map f (find test xs)) ≡ true → list_any test xs ≡ true) → (b : Bool) →
        is_some (option_map f (cond b (Some x) (find test xs))) ≡ true → (b || list_any test xs) ≡ true
    by rest true k = refl
    by rest false k = rest k

-- ---- the address that is told again
-- its own IPv4 address, told again, leaves it as it is
same_with : (new : ToldAddress) (a : LearntAddress) → (same_pmac a.pmac new.pmac ≡ true → option_or new.ip a.ip ≡ a.ip) → told_again new a ≡ a
same_with new a own =
    ap (λ ip. record a { ip = ip })
    (cond_both (same_pmac a.pmac new.pmac) (option_or new.ip a.ip) a.ip (λ ip. ip ≡ a.ip) own (λ other. refl))

all_same : (new : ToldAddress) (addresses : List LearntAddress) →
    AllByRecursion (λ a. same_pmac a.pmac new.pmac ≡ true → option_or new.ip a.ip ≡ a.ip) addresses → map (told_again new) addresses ≡ addresses
all_same new [] h = refl
all_same new (a ∷ addresses) h = λ i. same_with new a h.0 i ∷ all_same new addresses h.1 i

-- where each address is there once, the first that is found is the only one
others : (new : ToldAddress) (p : Pmac) (addresses : List LearntAddress) → AllByRecursion (λ q. same_pmac p q ≡ false) (map (λ a. a.pmac) addresses) →
    p ≡ new.pmac → AllByRecursion (λ a. same_pmac a.pmac new.pmac ≡ true → option_or new.ip a.ip ≡ a.ip) addresses
others new p [] h is = tt
others new p (a ∷ addresses) h is = (
  λ same. absurd (false≢true (sym h.0 ∙ subst (λ q. same_pmac p q ≡ true) (is ∙ sym (pmac_is a.pmac new.pmac same)) (pmac_itself p))),
  others new p addresses h.1 is,
)

only_one : (new : ToldAddress) (ip : Ip4) → new.ip ≡ Some ip → (addresses : List LearntAddress) → IsDistinct same_pmac (map (λ a. a.pmac) addresses) →
    option_and_then (λ a. a.ip) (find (λ a. same_pmac a.pmac new.pmac) addresses) ≡ Some ip →
    AllByRecursion (λ a. same_pmac a.pmac new.pmac ≡ true → option_or new.ip a.ip ≡ a.ip) addresses
unfolding IsDistinct
only_one new ip names [] once found = tt
only_one new ip names (a ∷ addresses) once found = by (λ k. only_one new ip names addresses once.1 k) (same_pmac a.pmac new.pmac) refl found
  where
    by : (option_and_then (λ c. c.ip) (find (λ c. same_pmac c.pmac new.pmac) addresses) ≡ Some ip →
        AllByRecursion (λ c. same_pmac c.pmac new.pmac ≡ true → option_or new.ip c.ip ≡ c.ip) addresses) →
        (b : Bool) → same_pmac a.pmac new.pmac ≡ b →
        option_and_then (λ c. c.ip) (cond b (Some a) (find (λ c. same_pmac c.pmac new.pmac) addresses)) ≡ Some ip →
        AllByRecursion (λ c. same_pmac c.pmac new.pmac ≡ true → option_or new.ip c.ip ≡ c.ip) (a ∷ addresses)
    by rest true is k = (λ same. ap (λ o. option_or o a.ip) names ∙ sym k, others new a.pmac addresses once.0 (pmac_is a.pmac new.pmac is))
    by rest false not k = (λ same. absurd (false≢true (sym not ∙ same)), rest k)

-- where no IPv4 address is named, none changes
all_silent : (new : ToldAddress) → new.ip ≡ None → (addresses : List LearntAddress) →
    AllByRecursion (λ a. same_pmac a.pmac new.pmac ≡ true → option_or new.ip a.ip ≡ a.ip) addresses
all_silent new silent [] = tt
all_silent new silent (a ∷ addresses) = (λ same. ap (λ o. option_or o a.ip) silent, all_silent new silent addresses)

learnt_same : (view : ManagerView) (new : ToldAddress) → IsSome (registration view.learnt new.pmac) →
    AllByRecursion (λ a. same_pmac a.pmac new.pmac ≡ true → option_or new.ip a.ip ≡ a.ip) view.learnt.addresses →
    with_owner view.learnt.owners new.ip (host_of view.learnt new) ≡ view.learnt.owners → with_learnt view.learnt new ≡ view.learnt
learnt_same view new there own owners =
    let learnt : Learnt = view.learnt in
    let n = learnt.count + 1 in
    let registered : is_registered learnt.addresses new.pmac ≡ true = any_where_found (λ (r : Registration). same_pmac r.pmac new.pmac) (registry learnt) there in
    let those : with_address learnt new ≡ learnt.addresses =
    ap (λ b. cond b (map (told_again new) learnt.addresses) (learnt_as n new ∷ recalled (newest learnt new.amac) new.pmac n learnt.addresses)) registered
    ∙ all_same new learnt.addresses own in
    λ i. record learnt { addresses = those i; owners = owners i; count = cond (registered i) learnt.count (learnt.count + 1) }

told_same : (view : ManagerView) (s : SwitchId) (pmac : Pmac) (amac : Mac) (ip : Option Ip4) → TablesAreInOrder view →
    IsSome (registration view.learnt pmac) → IsKnownAddress view.learnt pmac ip →
    with_learnt view.learnt (record { switch = s; pmac = pmac; amac = amac; ip = ip }) ≡ view.learnt
told_same view s pmac amac None order there known =
    let new : ToldAddress = record { switch = s; pmac = pmac; amac = amac; ip = None } in
    learnt_same view new there (all_silent new refl view.learnt.addresses) refl
told_same view s pmac amac (Some ip) order there known =
    let new : ToldAddress = record { switch = s; pmac = pmac; amac = amac; ip = Some ip } in
    learnt_same view new there (only_one new ip refl view.learnt.addresses order.addresses known.0)
    (put_again ip_cmp ip_total ip_exact view.learnt.owners ip (host_of view.learnt new) order.owners
    (known.1 ∙ some_host (registration view.learnt pmac) amac there))

-- ---- an address that has aged
-- what has aged ages no more
ages_again : (x : Pmac) (a : LearntAddress) → (same_pmac a.pmac x ≡ true → a.aged ≡ true) → ages_now x a ≡ a
ages_again x a own = ap (λ aged. record a { aged = aged }) (by (same_pmac a.pmac x) refl)
  where
    by : (b : Bool) → same_pmac a.pmac x ≡ b → (b || a.aged) ≡ a.aged
    by true same = sym (own same)
    by false other = refl

all_age_again : (x : Pmac) (addresses : List LearntAddress) → AllByRecursion (λ a. same_pmac a.pmac x ≡ true → a.aged ≡ true) addresses →
    map (ages_now x) addresses ≡ addresses
all_age_again x [] all = refl
all_age_again x (a ∷ addresses) all = λ i. ages_again x a all.0 i ∷ all_age_again x addresses all.1 i

-- behind the one that is found there is no other of that address
others_aged : (x p : Pmac) (addresses : List LearntAddress) → AllByRecursion (λ q. same_pmac p q ≡ false) (map (λ a. a.pmac) addresses) → p ≡ x →
    AllByRecursion (λ a. same_pmac a.pmac x ≡ true → a.aged ≡ true) addresses
others_aged x p [] apart is = tt
others_aged x p (a ∷ addresses) apart is = (
  λ same. absurd (false≢true (sym apart.0 ∙ subst (λ q. same_pmac p q ≡ true) (is ∙ sym (pmac_is a.pmac x same)) (pmac_itself p))),
  others_aged x p addresses apart.1 is,
)

found_aged : (x : Pmac) (addresses : List LearntAddress) → IsDistinct same_pmac (map (λ a. a.pmac) addresses) →
    unwrap_or (option_map (λ a. a.aged) (find (λ a. same_pmac a.pmac x) addresses)) false ≡ true →
    AllByRecursion (λ a. same_pmac a.pmac x ≡ true → a.aged ≡ true) addresses
unfolding IsDistinct
found_aged x [] once found = tt
found_aged x (a ∷ addresses) once found = by (λ k. found_aged x addresses once.1 k) (same_pmac a.pmac x) refl found
  where
    by : (unwrap_or (option_map (λ c. c.aged) (find (λ c. same_pmac c.pmac x) addresses)) false ≡ true →
        AllByRecursion (λ c. same_pmac c.pmac x ≡ true → c.aged ≡ true) addresses) → (b : Bool) → same_pmac a.pmac x ≡ b →
        unwrap_or (option_map (λ (c : LearntAddress). c.aged) (cond b (Some a) (find (λ c. same_pmac c.pmac x) addresses))) false ≡ true →
        AllByRecursion (λ c. same_pmac c.pmac x ≡ true → c.aged ≡ true) (a ∷ addresses)
    by rest true is aged = (λ same. aged, others_aged x a.pmac addresses once.0 (pmac_is a.pmac x is))
    by rest false other k = (λ same. absurd (false≢true (sym other ∙ same)), rest k)

kept_one : (x : Pmac) (learnt : Learnt) → can_release learnt x ≡ false → releases x learnt ≡ nothing_said learnt
kept_one x learnt kept = ap (λ b. cond {A = LearntStep} b (releases_as x learnt (registration learnt x)) (nothing_said learnt)) kept

kept_both : (x : Pmac) (learnt : Learnt) (o : Option Recall) → can_release learnt x ≡ false → IsKeptBehind learnt o → releases_both x o learnt ≡ nothing_said learnt
kept_both x learnt None kept behind = ap (λ (step : LearntStep). let both : LearntStep = record { learnt = step.learnt; acts = step.acts ++ [] } in both) (kept_one x learnt kept)
kept_both x learnt (Some recall) kept behind =
    ap (λ (step : LearntStep).
    let both : LearntStep = record { learnt = (releases recall.new step.learnt).learnt; acts = step.acts ++ (releases recall.new step.learnt).acts } in both)
    (kept_one x learnt kept)
    ∙ ap (λ (step : LearntStep). let both : LearntStep = record { learnt = step.learnt; acts = [] ++ step.acts } in both) (kept_one recall.new learnt behind)

aged_same : (learnt : Learnt) (x : Pmac) (n : ℕ) → IsDistinct same_pmac (map (λ a. a.pmac) learnt.addresses) → (counts learnt x n ≡ true → IsCounted learnt x) →
    hears_aged learnt x n ≡ nothing_said learnt
aged_same learnt x n once last = by (counts learnt x n) refl
  where
    by : (b : Bool) → counts learnt x n ≡ b →
        cond {A = LearntStep} b (releases_both x (recall_of learnt x) (with_aged learnt x)) (nothing_said learnt) ≡ nothing_said learnt
    by true is =
        let it = last is in
        ap (λ addresses. releases_both x (recall_of learnt x) (record learnt { addresses = addresses }))
        (all_age_again x learnt.addresses (found_aged x learnt.addresses once it.aged))
        ∙ kept_both x learnt (recall_of learnt x) it.kept it.led
    by false void = refl

-- ---- the whole step
pub view_same : (view : ManagerView) (s : SwitchId) (says : ToManager) → TablesAreInOrder view → HasToldLast view s says → view_after view s says ≡ view
view_same view s (tell.Place place) order last =
    let same = put_again id_cmp id_total id_exact view.told.places s place order.places last in
    ap (λ table. record view { told = record view.told { places = table } }) same
view_same view s (tell.Link u usable) order last =
    let same = put_again link_cmp link_total link_exact view.told.links (s, u) usable order.links last in
    ap (λ table. record view { told = record view.told { links = table } }) same
view_same view s tell.PodWanted order last =
    let new : PodGiven = record { switch = s; pod = first_free view.told view.pods } in
    ap (λ b. record view { pods = cond b view.pods (new ∷ view.pods) }) (found_any (λ g. g.pod) (λ g. same_switch g.switch s) view.pods last)
view_same view s (tell.Learned pmac amac ip) order last = ap (λ learnt. record view { learnt = learnt }) (told_same view s pmac amac ip order last.0 last.1)
view_same view s (tell.Aged pmac number) order last = ap (λ learnt. record view { learnt = learnt }) (ap (λ (step : LearntStep). step.learnt) (aged_same view.learnt pmac number order.addresses last))
view_same view s (tell.Begin epoch) order last = refl
view_same view s (tell.End epoch) order last = refl
view_same view s (tell.Trapped trapped toward numbered) order last = refl
view_same view s (tell.Query asker asker_ip ip) order last = refl
view_same view s (tell.Members group any) order last =
    ap (λ table. record view { members = table }) (put_again members_cmp members_total members_exact view.members (s, group) any order.members last)

only_answers : (view : ManagerView) (s : SwitchId) (says : ToManager) → TablesAreInOrder view → HasToldLast view s says → reply view view s says ≡ answers view s says
only_answers view s (tell.Place place) order last = refl
only_answers view s (tell.Link u usable) order last = refl
only_answers view s tell.PodWanted order last = refl
only_answers view s (tell.Learned pmac amac ip) order last =
    let n = view.learnt.count + 1 in
    ap (λ b. cond b [] (Number pmac n ∷ invalidation view.learnt pmac n (newest view.learnt amac)))
    (any_where_found (λ r. same_pmac r.pmac pmac) (registry view.learnt) last.0)
only_answers view s (tell.Aged pmac number) order last = ap (λ (step : LearntStep). step.acts) (aged_same view.learnt pmac number order.addresses last)
only_answers view s (tell.Begin epoch) order last = refl
only_answers view s (tell.End epoch) order last = refl
only_answers view s (tell.Trapped trapped toward numbered) order last = refl
only_answers view s (tell.Query asker asker_ip ip) order last = refl
only_answers view s (tell.Members group any) order last = refl

acts_same : (view : ManagerView) (s : SwitchId) (says : ToManager) → TablesAreInOrder view → HasToldLast view s says → acts_of view view s says ≡ answers view s says
acts_same view s says order last =
    (λ i. only_answers view s says order last i ++ no_avoid_acts view.told i ++ no_tree_acts view i)
    ∙ append-nil (answers view s says ++ []) ∙ append-nil (answers view s says)

pub nothing_changes : (view : ManagerView) (s : SwitchId) (says : ToManager) → TablesAreInOrder view → HasToldLast view s says →
    manager_hears view s says ≡ record { view = view; acts = answers view s says }
unfolding manager_hears
nothing_changes view s says order last =
    let same = view_same view s says order last in
    (λ i. let step : ManagerStep = record { view = same i; acts = acts_of view (same i) s says } in step)
    ∙ ap (λ acts. let step : ManagerStep = record { view = view; acts = acts } in step) (acts_same view s says order last)
