-- The fabric manager speaks to switches that it heard, and numbers just the addresses that it learns.
use Rattle.std.proofs.Common.{◌≡◌, ◌≤◌, ◌⊎◌, arith, ℕ, ◌+◌, ◌||◌, not, Bool, true, false, cond, List, [], ◌∷◌, ◌++◌, map, length, Option, Some, None, IsSome, is_some, filter_map, flat_map, refl, sym, ap, append-nil, ◌∙◌, subst, inl, inr}
use Rattle.std.specs.Prelude.{unwrap_or}
use Rattle.std.specs.List.{find, list_all, list_any}
use Rattle.std.specs.Option.{option_map}
use Rattle.std.proofs.lemmas.Option.{same_Some}
use Rattle.std.proofs.lemmas.Bool.{and_from, cond_both, or_left}
use Rattle.std.proofs.lemmas.List.Folds.{list_all-append}
use Rattle.std.proofs.lemmas.List.Elements.{filter_map-append}
use Rattle.pl_frame.specs.declared.address.Mac.{Mac}
use Rattle.pl_frame.specs.declared.address.SwitchId.{SwitchId}
use Rattle.pl_pmac.specs.declared.pmac.Pmac.{Pmac}
use Rattle.pl_layouts.specs.Equality.{same_pmac, same_switch}
use Rattle.pl_layouts.proofs.Exports.{pmac_itself, switch_itself}
use Rattle.pl_node.specs.declared.acts.ManagerAct.{ManagerAct}
use Rattle.pl_node.specs.declared.acts.ManagerAct.TheVariants.{Say, Number}
use Rattle.pl_node.specs.declared.messages.ToSwitch.{ToSwitch}
use Rattle.pl_node.specs.declared.messages.ToSwitch.TheVariants as say
use Rattle.pl_node.specs.declared.messages.ToManager.{ToManager}
use Rattle.pl_node.specs.declared.messages.ToManager.TheVariants as tell
use Rattle.pl_node.specs.ManagerViews.{Learnt, ManagerView, Members, Registration, Told, is_heard, lookup, newest, pod_given, registered_as, registration, registry, switches}
use Rattle.pl_node.specs.ManagerFacts.{groups}
use Rattle.pl_node.specs.ManagerDuties.{AnswersDuly, AreNumbered, AreRegistered, IsGrown, numbered_by, with_number, is_for_heard}
use Rattle.pl_node.specs.AvoidLists.{avoid_list}
use Rattle.pl_node.specs.declared.pod_given.PodGiven.{PodGiven}
use Rattle.pl_node.proofs.Exports.{all_among, among_filter, among_flat_map, among_map, among_of_Contains, IsAmong, nothing_learnt, nothing_numbered}
use Rattle.pl_manager_rule.specs.ManagerRule.{ToldAddress, acts_of, answer_to, avoid_acts, changed, changed_of_group, hears_aged, host_of, invalidation, is_registered, learning, learnt_as, manager_hears, manager_rule, part_in, recalled, reply, same_avoid_list, same_part, told_again, tree_acts, tree_acts_of, view_after, with_learnt, with_owner}
use Rattle.pl_manager_rule.proofs.Aging.{AreReleases, aged_count, aged_releases, aged_was, releases_number_nothing}
use Rattle.pl_manager_rule.proofs.Learning.{found_nowhere, recalled_numbers, same_numbers, still_registered}
use Rattle.pl_manager_rule.proofs.Numbers.{LearnsAs, learns_nothing, numbered_of, some_numbered}
use Rattle.pl_manager_rule.proofs.Speakers.{heard_after, learner_speaks, listed_is_heard, newest_heard, now_or_before, registered_heard}

-- ---- the acts
invalidation_heard : (view : ManagerView) (s : SwitchId) (learnt : Learnt) (new : Pmac) (n : ℕ) (amac : Mac) (o : Option Registration) →
    newest view.learnt amac ≡ o → list_all (is_for_heard view s) (invalidation learnt new n o) ≡ true
invalidation_heard view s learnt new n amac None e = refl
invalidation_heard view s learnt new n amac (Some old) e =
    let among = learner_speaks view old.switch (newest_heard view.learnt amac old e) in
    and_from (same_switch s old.switch || is_heard view old.switch) true (now_or_before view s old.switch (inr among)) refl

learning_heard : (view : ManagerView) (s : SwitchId) (after : Learnt) (pmac : Pmac) (amac : Mac) →
    list_all (is_for_heard view s) (learning view.learnt after pmac amac) ≡ true
learning_heard view s after pmac amac =
    let n = view.learnt.count + 1 in
    cond_both (list_any (λ r. same_pmac r.pmac pmac) (registry view.learnt)) [] (Number pmac n ∷ invalidation after pmac n (newest view.learnt amac))
    (λ acts. list_all (is_for_heard view s) acts ≡ true)
    (λ old. refl)
    (λ fresh. invalidation_heard view s after pmac n amac (newest view.learnt amac) refl)

-- of one that told an address
teller_heard : (view : ManagerView) (s : SwitchId) (x : Pmac) (r : Registration) → registration view.learnt x ≡ Some r →
    (same_switch s r.switch || is_heard view r.switch) ≡ true
teller_heard view s x r is =
    now_or_before view s r.switch (inr (learner_speaks view r.switch (registered_heard view.learnt x r is)))

releases_heard : (view : ManagerView) (s : SwitchId) (acts : List ManagerAct) → AreReleases view.learnt acts → list_all (is_for_heard view s) acts ≡ true
releases_heard view s [] all = refl
releases_heard view s (act ∷ acts) all =
    and_from (is_for_heard view s act) (list_all (is_for_heard view s) acts)
    (ap (is_for_heard view s) all.0.is ∙ teller_heard view s all.0.pmac all.0.reg all.0.registered) (releases_heard view s acts all.1)

-- a message to the one that speaks
speaker_heard : (view : ManagerView) (s : SwitchId) (says : ToSwitch) → list_all (is_for_heard view s) (Say s says ∷ []) ≡ true
speaker_heard view s says = and_from (same_switch s s || is_heard view s) true (or_left (same_switch s s) (is_heard view s) (switch_itself s)) refl

reply_heard : (before after : ManagerView) (s : SwitchId) (says : ToManager) → list_all (is_for_heard before s) (reply before after s says) ≡ true
reply_heard before after s tell.PodWanted = speaker_heard before s (say.Pod (unwrap_or (pod_given after.pods s) 0))
reply_heard before after s (tell.Learned pmac amac ip) = learning_heard before s after.learnt pmac amac
reply_heard before after s (tell.Aged pmac number) = releases_heard before s (hears_aged before.learnt pmac number).acts (aged_releases before.learnt pmac number)
reply_heard before after s (tell.Begin epoch) = refl
reply_heard before after s (tell.End epoch) = refl
reply_heard before after s (tell.Trapped trapped toward numbered) = refl
reply_heard before after s (tell.Query asker asker_ip ip) = speaker_heard before s (answer_to asker asker_ip ip (lookup after.learnt ip))
reply_heard before after s (tell.Place place) = refl
reply_heard before after s (tell.Link u usable) = refl
reply_heard before after s (tell.Members group any) = refl

module _ (view : ManagerView) (s : SwitchId) (says : ToManager) where
  abbrev then : ManagerView
  then = view_after view s says

  avoid_acts_heard : list_all (is_for_heard view s) (avoid_acts view.told then.told) ≡ true
  avoid_acts_heard = all_among (is_for_heard view s) (avoid_acts view.told then.told) (λ act h.
      let at = among_map (λ t. Say t (say.Avoid (avoid_list then.told t))) act (changed view.told then.told) h in
      let listed = among_filter (λ t. not (same_avoid_list (avoid_list view.told t) (avoid_list then.told t))) at.0 (switches then.told) at.1 in
      subst (λ a. is_for_heard view s a ≡ true) at.2 (listed_is_heard view s says at.0 listed.0))

  tree_acts_heard : list_all (is_for_heard view s) (tree_acts view then) ≡ true
  tree_acts_heard = all_among (is_for_heard view s) (tree_acts view then) (λ act h.
      let of = among_flat_map (tree_acts_of view then) act (groups then.members) h in
      let at = among_map (λ t. Say t (say.Tree of.0 (part_in then of.0 t))) act (changed_of_group view then of.0) of.2 in
      let listed = among_filter (λ t. not (same_part (part_in view of.0 t) (part_in then of.0 t))) at.0 (switches then.told) at.1 in
      subst (λ a. is_for_heard view s a ≡ true) at.2 (listed_is_heard view s says at.0 listed.0))

  pub acts_heard : list_all (is_for_heard view s) (acts_of view then s says) ≡ true
  acts_heard =
      let test = is_for_heard view s in let own = reply view then s says in
      let avoid = avoid_acts view.told then.told in let trees = tree_acts view then in
      list_all-append test (own ++ avoid) trees
      ∙ and_from (list_all test (own ++ avoid)) (list_all test trees)
      (list_all-append test own avoid
      ∙ and_from (list_all test own) (list_all test avoid) (reply_heard view then s says) avoid_acts_heard)
      tree_acts_heard

-- ---- the numbers
said_numbers_nothing : (say_to : SwitchId → ToSwitch) (ss : List SwitchId) → filter_map numbered_by (map (λ t. Say t (say_to t)) ss) ≡ []
said_numbers_nothing say_to [] = refl
said_numbers_nothing say_to (t ∷ ss) = said_numbers_nothing say_to ss

trees_number_nothing : (before after : ManagerView) (gs : List ℕ) → filter_map numbered_by (flat_map (tree_acts_of before after) gs) ≡ []
trees_number_nothing before after [] = refl
trees_number_nothing before after (g ∷ gs) =
    filter_map-append numbered_by (tree_acts_of before after g) (flat_map (tree_acts_of before after) gs)
    ∙ ap (λ ns. ns ++ filter_map numbered_by (flat_map (tree_acts_of before after) gs))
    (said_numbers_nothing (λ t. say.Tree g (part_in after g t)) (changed_of_group before after g))
    ∙ trees_number_nothing before after gs

invalidation_numbers_nothing : (learnt : Learnt) (new : Pmac) (n : ℕ) (o : Option Registration) →
    filter_map numbered_by (invalidation learnt new n o) ≡ []
invalidation_numbers_nothing learnt new n None = refl
invalidation_numbers_nothing learnt new n (Some old) = refl

-- what is registered once an address was learnt is that one, or was before
new_or_old : (before : Learnt) (new : ToldAddress) (first : Registration)
    (same : map registered_as (recalled (newest before new.amac) new.pmac (before.count + 1) before.addresses) ≡ registry before) (x : Pmac) (r : Registration) →
    cond (same_pmac first.pmac x) (Some first) (find (λ r. same_pmac r.pmac x) (map registered_as (recalled (newest before new.amac) new.pmac (before.count + 1) before.addresses))) ≡ Some r →
    (registration before x ≡ Some r) ⊎ IsAmong (with_number r) (with_number first ∷ [])
new_or_old before new first same x r = by (same_pmac first.pmac x)
  where
    by : (b : Bool) → cond b (Some first) (find (λ r. same_pmac r.pmac x) (map registered_as (recalled (newest before new.amac) new.pmac (before.count + 1) before.addresses))) ≡ Some r →
        (registration before x ≡ Some r) ⊎ IsAmong (with_number r) (with_number first ∷ [])
    by true is = inr (inl (ap with_number (same_Some first r is)))
    by false is = inl (sym (ap (find (λ r. same_pmac r.pmac x)) same) ∙ is)

-- what was learnt once this was told: of an address that was registered, or not
abbrev learnt_by : Learnt → ToldAddress → Bool → Learnt
learnt_by before new b = record before {
  addresses = cond b (map (told_again new) before.addresses)
      (learnt_as (before.count + 1) new ∷ recalled (newest before new.amac) new.pmac (before.count + 1) before.addresses);
  owners = with_owner before.owners new.ip (host_of before new);
  count = cond b before.count (before.count + 1);
}

-- it is given the next number
pub learning_numbers : (before : Learnt) (new : ToldAddress) →
    LearnsAs before (with_learnt before new) (filter_map numbered_by (learning before (with_learnt before new) new.pmac new.amac))
learning_numbers before new = by (is_registered before.addresses new.pmac) refl
  where
    keeps : (x : Pmac) (r : Registration) → registration before x ≡ Some r → registration (with_learnt before new) x ≡ Some r
    keeps x r is = still_registered before new x (ap is_some is) ∙ is

    by : (b : Bool) → is_registered before.addresses new.pmac ≡ b → LearnsAs before (learnt_by before new b) (filter_map numbered_by
        (cond b [] (Number new.pmac (before.count + 1) ∷ invalidation (with_learnt before new) new.pmac (before.count + 1) (newest before new.amac))))
    by true there = learns_nothing before (learnt_by before new true) refl (λ x. ap (find (λ r. same_pmac r.pmac x)) (same_numbers new before.addresses))
    by false fresh =
        let n = before.count + 1 in
        let one : Pmac × ℕ = (new.pmac, n) in
        let first : Registration = registered_as (learnt_as n new) in
        let same : map registered_as (recalled (newest before new.amac) new.pmac n before.addresses) ≡ registry before =
        recalled_numbers (newest before new.amac) new.pmac n before.addresses in
        subst (λ ns. LearnsAs before (learnt_by before new false) (one ∷ ns))
        (sym (invalidation_numbers_nothing (with_learnt before new) new.pmac n (newest before new.amac)))
        (record {
          count = omega arith;
          numbers = refl;
          fresh = λ x m h. elim h [
            | inl is ↦ subst (λ (g : Pmac × ℕ). registration before g.0 ≡ None) is (found_nowhere (λ r. same_pmac r.pmac new.pmac) (registry before) fresh)
            | inr none ↦ absurd none
          ];
          stands = λ x m h. elim h [
            | inl is ↦ subst (λ (g : Pmac × ℕ). option_map with_number (registration (learnt_by before new false) g.0) ≡ Some g) is
                (ap (λ b. option_map with_number (cond b (Some first) (find (λ r. same_pmac r.pmac new.pmac) (map registered_as (recalled (newest before new.amac) new.pmac n before.addresses)))))
                (pmac_itself new.pmac))
            | inr none ↦ absurd none
          ];
          keeps = λ x r is. subst (λ b. registration (learnt_by before new b) x ≡ Some r) fresh (keeps x r is);
          registered = λ x r is. new_or_old before new first same x r is;
        })

-- an address that has aged is given none
aging_numbers : (view : ManagerView) (x : Pmac) (n : ℕ) →
    AreNumbered view (record view { learnt = (hears_aged view.learnt x n).learnt }) (filter_map numbered_by (hears_aged view.learnt x n).acts)
aging_numbers view x n =
    let after = record view { learnt = (hears_aged view.learnt x n).learnt } in
    subst (AreNumbered view after) (sym (releases_number_nothing view.learnt (hears_aged view.learnt x n).acts (aged_releases view.learnt x n)))
    (numbered_of view after view.learnt [] (learns_nothing view.learnt view.learnt refl (λ y. refl)) (aged_count view.learnt x n) (aged_was view.learnt x n)
    (λ none y m h. absurd h))

learned_numbers : (view : ManagerView) (new : ToldAddress) →
    AreNumbered view (record view { learnt = with_learnt view.learnt new }) (filter_map numbered_by (learning view.learnt (with_learnt view.learnt new) new.pmac new.amac))
learned_numbers view new =
    let after = with_learnt view.learnt new in
    let given = filter_map numbered_by (learning view.learnt after new.pmac new.amac) in
    let learns = learning_numbers view.learnt new in
    numbered_of view (record view { learnt = after }) after given learns refl (λ x r is. is) (λ none x n h. some_numbered (registration after x) (x, n) (learns.stands x n h))

-- an address that is given a number is registered then
reply_registers : (view : ManagerView) (s : SwitchId) (says : ToManager) (x : Pmac) (n : ℕ) →
    IsAmong (x, n) (filter_map numbered_by (reply view (view_after view s says) s says)) → IsSome (registration (view_after view s says).learnt x)
reply_registers view s tell.PodWanted x n h = absurd h
reply_registers view s (tell.Learned pmac amac ip) x n h =
    let new : ToldAddress = record { switch = s; pmac = pmac; amac = amac; ip = ip } in
    some_numbered (registration (with_learnt view.learnt new) x) (x, n) ((learning_numbers view.learnt new).stands x n h)
reply_registers view s (tell.Aged pmac number) x n h =
    absurd (subst (IsAmong (x, n)) (releases_number_nothing view.learnt (hears_aged view.learnt pmac number).acts (aged_releases view.learnt pmac number)) h)
reply_registers view s (tell.Begin epoch) x n h = absurd h
reply_registers view s (tell.End epoch) x n h = absurd h
reply_registers view s (tell.Trapped trapped toward numbered) x n h = absurd h
reply_registers view s (tell.Query asker asker_ip ip) x n h = absurd h
reply_registers view s (tell.Place place) x n h = absurd h
reply_registers view s (tell.Link u usable) x n h = absurd h
reply_registers view s (tell.Members group any) x n h = absurd h

reply_numbers : (view : ManagerView) (s : SwitchId) (says : ToManager) →
    AreNumbered view (view_after view s says) (filter_map numbered_by (reply view (view_after view s says) s says))
reply_numbers view s tell.PodWanted = nothing_learnt view _ refl
reply_numbers view s (tell.Learned pmac amac ip) = learned_numbers view (record { switch = s; pmac = pmac; amac = amac; ip = ip })
reply_numbers view s (tell.Aged pmac number) = aging_numbers view pmac number
reply_numbers view s (tell.Begin epoch) = nothing_numbered view
reply_numbers view s (tell.End epoch) = nothing_numbered view
reply_numbers view s (tell.Trapped trapped toward numbered) = nothing_numbered view
reply_numbers view s (tell.Query asker asker_ip ip) = nothing_numbered view
reply_numbers view s (tell.Place place) = nothing_learnt view _ refl
reply_numbers view s (tell.Link u usable) = nothing_learnt view _ refl
reply_numbers view s (tell.Members group any) = nothing_learnt view _ refl

pub acts_number : (view : ManagerView) (s : SwitchId) (says : ToManager) →
    filter_map numbered_by (acts_of view (view_after view s says) s says) ≡ filter_map numbered_by (reply view (view_after view s says) s says)
acts_number view s says =
    let after = view_after view s says in let own = reply view after s says in
    let avoid = avoid_acts view.told after.told in let trees = tree_acts view after in
    filter_map-append numbered_by (own ++ avoid) trees
    ∙ ap (λ ns. filter_map numbered_by (own ++ avoid) ++ ns) (trees_number_nothing view after (groups after.members))
    ∙ append-nil (filter_map numbered_by (own ++ avoid))
    ∙ filter_map-append numbered_by own avoid
    ∙ ap (λ ns. filter_map numbered_by own ++ ns) (said_numbers_nothing (λ t. say.Avoid (avoid_list after.told t)) (changed view.told after.told))
    ∙ append-nil (filter_map numbered_by own)

acts_register : (view : ManagerView) (s : SwitchId) (says : ToManager) → AreRegistered (view_after view s says) (acts_of view (view_after view s says) s says)
acts_register view s says x n h =
    let acts = acts_of view (view_after view s says) s says in
    inl (reply_registers view s says x n (subst (IsAmong (x, n)) (acts_number view s says) (among_of_Contains (x, n) (filter_map numbered_by acts) h)))

-- one address is learnt at most
one_more : (b : Bool) (n : ℕ) → cond b n (n + 1) ≤ n + 1
one_more true n = omega arith
one_more false n = omega arith

pub addresses_after : (view : ManagerView) (s : SwitchId) (says : ToManager) → (view_after view s says).learnt.count ≤ view.learnt.count + 1
addresses_after view s (tell.Learned pmac amac ip) = one_more (is_registered view.learnt.addresses pmac) view.learnt.count
addresses_after view s (tell.Aged pmac number) = let same = aged_count view.learnt pmac number in omega (arith, same)
addresses_after view s (tell.Begin epoch) = omega arith
addresses_after view s (tell.End epoch) = omega arith
addresses_after view s (tell.Trapped trapped toward numbered) = omega arith
addresses_after view s (tell.Query asker asker_ip ip) = omega arith
addresses_after view s (tell.Place place) = omega arith
addresses_after view s (tell.Link u usable) = omega arith
addresses_after view s tell.PodWanted = omega arith
addresses_after view s (tell.Members group any) = omega arith

-- what a word leaves alone
pub same_besides : {X : Type 0} (f : ManagerView → X) → ((view : ManagerView) (told : Told) (members : Members) (pods : List PodGiven) (learnt : Learnt) →
    f (record view { told = told; members = members; pods = pods; learnt = learnt }) ≡ f view) →
    (view : ManagerView) (s : SwitchId) (says : ToManager) → f (view_after view s says) ≡ f view
same_besides f same view s (tell.Learned pmac amac ip) = same view view.told view.members view.pods _
same_besides f same view s (tell.Aged pmac number) = same view view.told view.members view.pods _
same_besides f same view s (tell.Begin epoch) = refl
same_besides f same view s (tell.End epoch) = refl
same_besides f same view s (tell.Trapped trapped toward numbered) = refl
same_besides f same view s (tell.Query asker asker_ip ip) = refl
same_besides f same view s (tell.Place place) = same view _ view.members view.pods view.learnt
same_besides f same view s (tell.Link u usable) = same view _ view.members view.pods view.learnt
same_besides f same view s tell.PodWanted = same view view.told view.members _ view.learnt
same_besides f same view s (tell.Members group any) = same view view.told _ view.pods view.learnt

grown : (view : ManagerView) (s : SwitchId) (says : ToManager) → IsGrown view s (view_after view s says)
grown view s says = record {
  k = same_besides (λ v. v.k) (λ v told members pods learnt. refl) view s says;
  epoch = same_besides (λ v. v.epoch) (λ v told members pods learnt. refl) view s says;
  heard = λ t h. heard_after view s t says h;
  addresses =
      let more = addresses_after view s says in
      let kept = same_besides (λ v. length v.kept) (λ v told members pods learnt. refl) view s says in
      omega (arith, more, kept);
}

pub manager_answers : AnswersDuly manager_rule
unfolding manager_hears
manager_answers = record {
  heard = λ before s says after acts h. subst (λ a. list_all (is_for_heard before s) a ≡ true) (sym h.1) (acts_heard before s says);
  numbered = λ before s says after acts h.
      subst (λ v. AreNumbered before v (filter_map numbered_by acts)) (sym h.0)
      (subst (AreNumbered before (view_after before s says)) (sym (ap (filter_map numbered_by) h.1 ∙ acts_number before s says))
      (reply_numbers before s says));
  registers = λ before s says after acts h.
      subst (λ v. AreRegistered v acts) (sym h.0) (subst (AreRegistered (view_after before s says)) (sym h.1) (acts_register before s says));
  grows = λ before s says after acts h. subst (IsGrown before s) (sym h.0) (grown before s says);
}
