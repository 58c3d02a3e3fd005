-- Over all epochs too the manager speaks to switches that it heard, numbers just the addresses that it learns, and grows by one with each message.
use Rattle.std.proofs.Common.{◌≡◌, ◌≤◌, ◌⊎◌, ℕ, ◌+◌, ◌==◌, ◌||◌, not, Bool, true, false, cond, List, [], ◌∷◌, ◌++◌, length, map, fold, Option, IsSome, filter, filter_map, refl, sym, ap, subst, inl, inr, ◌∙◌, arith, append-nil}
use Rattle.std.specs.List.{AllByRecursion, list_all}
use Rattle.std.proofs.lemmas.Bool.{and_from, and_parts, or_cases}
use Rattle.std.proofs.lemmas.List.{map-append}
use Rattle.std.proofs.lemmas.List.Folds.{list_all-append}
use Rattle.std.proofs.lemmas.List.Elements.{filter_map-append}
use Rattle.pl_lemmas.proofs.Exports.{all_append, all_filter}
use Rattle.pl_frame.specs.declared.address.Ip4.{Ip4}
use Rattle.pl_frame.specs.declared.address.Mac.{Mac}
use Rattle.pl_frame.specs.declared.address.SwitchId.{SwitchId}
use Rattle.pl_pmac.specs.declared.pmac.Pmac.{Pmac}
use Rattle.pl_layouts.specs.Equality.{same_pmac, same_switch}
use Rattle.pl_gathering.specs.Acting.{Done, Step, does_nothing, goes_through, is_void_end, steps, steps_at_end, steps_at_word, then_treats, treats_all}
use Rattle.pl_gathering.specs.Gathering.{Gathered, Heard, Report, hears_begin, in_turn, is_among, is_whole, keeps_word, with_ended}
use Rattle.pl_gathering.specs.Gathering.Report.{Begin, End, Tells}
use Rattle.pl_gathering.proofs.Exports.{grows_by_one, it_gathers}
use Rattle.pl_node.specs.declared.acts.ManagerAct.{ManagerAct}
use Rattle.pl_node.specs.declared.acts.ManagerAct.TheVariants.{Number, Say}
use Rattle.pl_node.specs.declared.messages.ToManager.{ToManager}
use Rattle.pl_node.specs.declared.messages.ToManager.TheVariants as tell
use Rattle.pl_node.specs.ManagerDuties.{AnswersDuly, AreNumbered, AreRegistered, IsGrown, is_for_heard, numbered_by, released_by}
use Rattle.pl_node.specs.ManagerViews.{Learnt, LearntAddress, ManagerView, Recall, Reported, is_heard, registration, speakers}
use Rattle.pl_node.proofs.Exports.{among_append, among_filter, among_left, among_map, among_mapped, among_of_Contains, among_right, Contains-of_among, IsAmong, nothing_learnt, nothing_registered}
use Rattle.pl_manager_rule.specs.ManagerRule.{ManagerStep, ToldAddress, acts_of, manager_hears, reply, view_after, with_learnt}
use Rattle.pl_manager_rule.specs.Reports.{as_reported, counts_as, forgets_known, known_at, releases_known, with_aged_as, with_trap}
use Rattle.pl_manager_rule.specs.Treating.{Treating, as_report, at_rest, follows, notes_aged, then_releases, to_release, treats, treats_word, waits_for_places}
use Rattle.pl_manager_rule.specs.WholeRule.{gathered, manager_steps, viewed, whole_rule}
use Rattle.pl_manager_rule.proofs.Aging.{WasRegistered}
use Rattle.pl_manager_rule.proofs.Avoided.{same_is}
use Rattle.pl_manager_rule.proofs.HeardSwitches.{acts_heard, acts_number, addresses_after, learning_numbers, same_besides}
use Rattle.pl_manager_rule.proofs.Numbers.{LearnsAs, learns_both, learns_nothing, numbered_of, some_numbered}
use Rattle.pl_manager_rule.proofs.Reported.{IsLeftOrReleased, KnownIn, aged_learns, aged_ones, kept_released, IsReleaseTo, left_both, left_released, release_numbers_nothing, released_to, released_was, trap_learns, trap_ones}
use Rattle.pl_manager_rule.proofs.Speakers.{IsWithOne, among_is_heard, fewer_learnt, gathered_speaks, heard_after, known_among, now_or_before, reporter_speaks, learner_speaks, spoke_or_gathered}

fewer_switches : {X : Type 0} (f : X → SwitchId) (test : X → Bool) (xs : List X) (t : SwitchId) → IsAmong t (map f (filter test xs)) → IsAmong t (map f xs)
fewer_switches f test xs t h =
    let at = among_map f t (filter test xs) h in subst (λ u. IsAmong u (map f xs)) at.2 (among_mapped f at.0 xs (among_filter test at.0 xs at.1).0)

-- ---- of switches that a test lets pass
module _ (H : SwitchId → Bool) where
  abbrev is_for : ManagerAct → Bool
  is_for (Say to says) = H to
  is_for (Number x n) = true

  abbrev Within : ManagerView → Type 0
  Within view = (t : SwitchId) → IsAmong t (speakers view) → H t ≡ true

  within_heard : (view : ManagerView) → Within view → (t : SwitchId) → is_heard view t ≡ true → H t ≡ true
  within_heard view within t h = within t (known_among t (speakers view) h)

  for_one : (view : ManagerView) (s : SwitchId) → H s ≡ true → Within view → (act : ManagerAct) → is_for_heard view s act ≡ true → is_for act ≡ true
  for_one view s speaks within (Say to says) h = elim (or_cases (same_switch s to) (is_heard view to) h) [
    | inl is ↦ subst (λ t. H t ≡ true) (same_is s to is) speaks
    | inr was ↦ within_heard view within to was
  ]
  for_one view s speaks within (Number x n) h = refl

  for_all : (view : ManagerView) (s : SwitchId) → H s ≡ true → Within view → (acts : List ManagerAct) → list_all (is_for_heard view s) acts ≡ true →
      list_all is_for acts ≡ true
  for_all view s speaks within [] h = refl
  for_all view s speaks within (act ∷ acts) h =
      let parts = and_parts (is_for_heard view s act) (list_all (is_for_heard view s) acts) h in
      and_from (is_for act) (list_all is_for acts) (for_one view s speaks within act parts.0) (for_all view s speaks within acts parts.1)

  -- ---- a word that is treated
  record Holds (start : ManagerView) (done : Done Treating ManagerAct) : Type 0 where
    k : done.known.view.k ≡ start.k
    within : Within done.known.view
    acts : list_all is_for done.acts ≡ true
    learns : LearnsAs start.learnt done.known.view.learnt (filter_map numbered_by done.acts)

  with_speaker : (before after : ManagerView) (s : SwitchId) → H s ≡ true → Within before → IsWithOne s (speakers after) (speakers before) → Within after
  with_speaker before after s speaks within ones t h = elim (ones t h) [
    | inl is ↦ subst (λ u. H u ≡ true) is speaks
    | inr was ↦ within t was
  ]

  module _ (t : Treating) (s : SwitchId) (speaks : H s ≡ true) (within : Within t.view) where
    now_or_was : (u : SwitchId) → (same_switch s u || is_heard t.view u) ≡ true → H u ≡ true
    now_or_was u h = elim (or_cases (same_switch s u) (is_heard t.view u) h) [
      | inl is ↦ subst (λ v. H v ≡ true) (same_is s u is) speaks
      | inr was ↦ within_heard t.view within u was
    ]

    heard_holds : (says : ToManager) → LearnsAs t.view.learnt (view_after t.view s says).learnt (filter_map numbered_by (reply t.view (view_after t.view s says) s says)) →
        Holds t.view (record { known = record t { view = (manager_hears t.view s says).view }; acts = (manager_hears t.view s says).acts })
    unfolding manager_hears
    heard_holds says learns = record {
      k = same_besides (λ v. v.k) (λ v told members pods learnt. refl) t.view s says;
      within = λ u h. now_or_was u (heard_after t.view s u says (among_is_heard (view_after t.view s says) s u h));
      acts = for_all t.view s speaks within (acts_of t.view (view_after t.view s says) s says) (acts_heard t.view s says);
      learns = subst (LearnsAs t.view.learnt (view_after t.view s says).learnt) (sym (acts_number t.view s says)) learns;
    }

    quiet : (after : Learnt) → after.count ≡ t.view.learnt.count → ((x : Pmac) → registration after x ≡ registration t.view.learnt x) → LearnsAs t.view.learnt after []
    quiet after = learns_nothing t.view.learnt after

    aged_holds : (x : Pmac) (number : ℕ) → Holds t.view (treats_word t s (tell.Aged x number))
    aged_holds x number = by (counts_as t.view.epoch number known)
      where
        known : Option Reported
        known = known_at t.view.learnt x

        by : (b : Bool) → Holds t.view (record {
          known = cond {A = Treating} b (record { view = record t.view { learnt = with_aged_as t.view.learnt s x known }; aged = t.aged ++ x ∷ [] }) t;
          acts = [];
        })
        by true = record {
          k = refl;
          within = with_speaker t.view (record t.view { learnt = with_aged_as t.view.learnt s x known }) s speaks within (aged_ones t.view s x known);
          acts = refl;
          learns = aged_learns t.view s x known;
        }
        by false = record { k = refl; within = within; acts = refl; learns = learns_nothing t.view.learnt t.view.learnt refl (λ y. refl) }

    trap_holds : (old new : Pmac) (number : ℕ) → Holds t.view (treats_word t s (tell.Trapped old new number))
    trap_holds old new number =
        let to : Recall = record { new = new; number = number } in
        record {
          k = refl;
          within = with_speaker t.view (record t.view { learnt = with_trap t.view.epoch t.view.learnt s old to }) s speaks within (trap_ones t.view s old to);
          acts = refl;
          learns = trap_learns t.view s old to;
        }

    one_treated : (says : ToManager) → Holds t.view (treats_word t s says)
    one_treated (tell.Aged x number) = aged_holds x number
    one_treated (tell.Trapped old new number) = trap_holds old new number
    one_treated (tell.Learned pmac amac ip) =
        heard_holds (tell.Learned pmac amac ip) (learning_numbers t.view.learnt (record { switch = s; pmac = pmac; amac = amac; ip = ip }))
    one_treated (tell.Place place) = heard_holds (tell.Place place) (quiet t.view.learnt refl (λ x. refl))
    one_treated (tell.Link u usable) = heard_holds (tell.Link u usable) (quiet t.view.learnt refl (λ x. refl))
    one_treated tell.PodWanted = heard_holds tell.PodWanted (quiet t.view.learnt refl (λ x. refl))
    one_treated (tell.Begin epoch) = heard_holds (tell.Begin epoch) (quiet t.view.learnt refl (λ x. refl))
    one_treated (tell.End epoch) = heard_holds (tell.End epoch) (quiet t.view.learnt refl (λ x. refl))
    one_treated (tell.Query asker asker_ip ip) = heard_holds (tell.Query asker asker_ip ip) (quiet t.view.learnt refl (λ x. refl))
    one_treated (tell.Members group any) = heard_holds (tell.Members group any) (quiet t.view.learnt refl (λ x. refl))

  both_for : (xs ys : List ManagerAct) → list_all is_for xs ≡ true → list_all is_for ys ≡ true → list_all is_for (xs ++ ys) ≡ true
  both_for xs ys one two = list_all-append is_for xs ys ∙ and_from (list_all is_for xs) (list_all is_for ys) one two

  -- ---- words that are treated in turn
  one_more_treated : (start : ManagerView) (done : Done Treating ManagerAct) (h : Heard ToManager) → H h.switch ≡ true → Holds start done → Holds start (then_treats treats done h)
  one_more_treated start done h speaks so =
      let one = one_treated done.known h.switch speaks so.within h.word in
      let step = treats done.known h in
      record {
        k = one.k ∙ so.k;
        within = one.within;
        acts = both_for done.acts step.acts so.acts one.acts;
        learns = subst (LearnsAs start.learnt step.known.view.learnt) (sym (filter_map-append numbered_by done.acts step.acts))
            (learns_both start.learnt done.known.view.learnt step.known.view.learnt (filter_map numbered_by done.acts) (filter_map numbered_by step.acts) so.learns one.learns);
      }

  each_treated : (start : ManagerView) (heard : List (Heard ToManager)) → AllByRecursion (λ h. H h.switch ≡ true) heard →
      (done : Done Treating ManagerAct) → Holds start done → Holds start (fold (then_treats treats) done heard)
  each_treated start [] speak done so = so
  each_treated start (h ∷ heard) speak done so = each_treated start heard speak.1 (then_treats treats done h) (one_more_treated start done h speak.0 so)

  -- ---- and then what follows from them
  record Leaves (mid : ManagerView) (step : ManagerStep) : Type 0 where
    k : step.view.k ≡ mid.k
    within : Within step.view
    releases : AllByRecursion (IsReleaseTo (λ t. H t ≡ true)) step.acts
    count : step.view.learnt.count ≡ mid.learnt.count
    was : WasRegistered mid.learnt step.view.learnt
    left : (x : Pmac) → IsLeftOrReleased mid.learnt (record { learnt = step.view.learnt; acts = step.acts }) x

  knows : (view : ManagerView) → Within view → KnownIn (λ t. H t ≡ true) view.learnt
  knows view within r h = elim (among_append r (map as_reported view.learnt.addresses) view.learnt.reported h) [
    | inl left ↦ (let at = among_map as_reported r view.learnt.addresses left in
        within r.switch (learner_speaks view r.switch (subst (λ (q : Reported). IsAmong q.switch (map (λ a. a.switch) view.learnt.addresses)) at.2
        (among_mapped (λ (a : LearntAddress). a.switch) at.0 view.learnt.addresses at.1))))
    | inr right ↦ within r.switch (reporter_speaks view r.switch
        (among_left r.switch (map (λ r. r.switch) view.learnt.reported) (view.begun ++ map (λ h. h.switch) view.kept)
        (among_mapped (λ (r : Reported). r.switch) r view.learnt.reported right)))
  ]

  within_forgets : (view : ManagerView) (learnt : Learnt) (x : Pmac) → Within (record view { learnt = learnt }) → Within (record view { learnt = forgets_known learnt x })
  within_forgets view learnt x within t h =
      within t (fewer_learnt (record view { learnt = learnt }) (forgets_known learnt x) t
      (λ k. fewer_switches (λ (a : LearntAddress). a.switch) (λ a. not (same_pmac a.pmac x)) learnt.addresses t k)
      (λ k. fewer_switches (λ (r : Reported). r.switch) (λ r. not (same_pmac r.pmac x)) learnt.reported t k) h)

  one_more_released : (mid : ManagerView) (step : ManagerStep) (x : Pmac) → Leaves mid step → Leaves mid (then_releases step x)
  one_more_released mid step x so =
      let released = releases_known x step.view.learnt in
      record {
        k = so.k;
        within = kept_released (λ l. Within (record step.view { learnt = l })) (within_forgets step.view) x step.view.learnt so.within;
        releases = all_append (IsReleaseTo (λ t. H t ≡ true)) step.acts released.acts so.releases
            (released_to (λ t. H t ≡ true) x step.view.learnt (knows step.view so.within));
        count = kept_released (λ l. l.count ≡ mid.learnt.count) (λ l y is. is) x step.view.learnt so.count;
        was = kept_released (WasRegistered mid.learnt) (released_was mid.learnt) x step.view.learnt so.was;
        left = λ y. left_both y mid.learnt (record { learnt = step.view.learnt; acts = step.acts }) released (so.left y) (left_released y x step.view.learnt);
      }

  each_released : (mid : ManagerView) (xs : List Pmac) (step : ManagerStep) → Leaves mid step → Leaves mid (fold then_releases step xs)
  each_released mid [] step so = so
  each_released mid (x ∷ xs) step so = each_released mid xs (then_releases step x) (one_more_released mid step x so)

  releases_for : (acts : List ManagerAct) → AllByRecursion (IsReleaseTo (λ t. H t ≡ true)) acts → list_all is_for acts ≡ true
  releases_for [] all = refl
  releases_for (act ∷ acts) all = and_from (is_for act) (list_all is_for acts) (ap is_for all.0.is ∙ all.0.heard) (releases_for acts all.1)

  -- ---- both
  record AllDone (start : ManagerView) (done : Done Treating ManagerAct) : Type 0 where
    k : done.known.view.k ≡ start.k
    within : Within done.known.view
    acts : list_all is_for done.acts ≡ true
    mid : Learnt
    learns : LearnsAs start.learnt mid (filter_map numbered_by done.acts)
    count : done.known.view.learnt.count ≡ mid.count
    was : WasRegistered mid done.known.view.learnt
    left : (x : Pmac) → IsLeftOrReleased mid (record { learnt = done.known.view.learnt; acts = done.acts }) x

  all_done : (start : ManagerView) (heard : List (Heard ToManager)) → Within start → AllByRecursion (λ h. H h.switch ≡ true) heard →
      AllDone start (treats_all treats follows (at_rest start) heard)
  all_done start heard within speak =
      let first : Done Treating ManagerAct = record { known = at_rest start; acts = [] } in
      let done = fold (then_treats treats) first heard in
      let so = each_treated start heard speak first
      (record { k = refl; within = within; acts = refl; learns = learns_nothing start.learnt start.learnt refl (λ x. refl) }) in
      let view = done.known.view in
      let left = each_released view (to_release done.known) (record { view = view; acts = [] })
      (record { k = refl; within = so.within; releases = tt; count = refl; was = λ x r is. is; left = λ x some. inl some }) in
      let last = (follows done.known).acts in
      record {
        k = left.k ∙ so.k;
        within = left.within;
        acts = both_for done.acts last so.acts (releases_for last left.releases);
        mid = view.learnt;
        learns = subst (LearnsAs start.learnt view.learnt)
            (sym (filter_map-append numbered_by done.acts last ∙ ap (λ ns. filter_map numbered_by done.acts ++ ns) (release_numbers_nothing (λ t. H t ≡ true) last left.releases)
            ∙ append-nil (filter_map numbered_by done.acts)))
            so.learns;
        count = left.count;
        was = left.was;
        left = λ x. left_both x view.learnt (record { learnt = view.learnt; acts = done.acts })
            (record { learnt = (follows done.known).known.view.learnt; acts = last }) (λ some. inl some) (left.left x);
      }

-- with a word that is treated no switch is heard but the speaker
pub treated_speaks : (t : Treating) (s : SwitchId) (says : ToManager) (u : SwitchId) → IsAmong u (speakers (treats_word t s says).known.view) →
    (s ≡ u) ⊎ IsAmong u (speakers t.view)
treated_speaks t s says u h =
    let now = (one_treated (λ v. same_switch s v || is_heard t.view v) t s (now_or_before t.view s s (inl refl)) (λ v k. now_or_before t.view s v (inr k)) says).within u h in
    elim (or_cases (same_switch s u) (is_heard t.view u) now) [ inl is ↦ inl (same_is s u is) | inr was ↦ inr (known_among u (speakers t.view) was) ]

-- ---- of one word that is treated alone, what is learnt is not forgotten with it
abbrev alone : ManagerView → SwitchId → ToManager → Done Treating ManagerAct
alone view s says = treats_all treats follows (at_rest view) (record { switch = s; word = says } ∷ [])

-- whatever is said of whom, releases forget
each_left : (t : Treating) → Leaves (λ u. true) t.view (fold then_releases (record { view = t.view; acts = [] }) (to_release t))
each_left t = each_released (λ u. true) t.view (to_release t) (record { view = t.view; acts = [] })
    (record { k = refl; within = λ u h. refl; releases = tt; count = refl; was = λ x r is. is; left = λ x some. inl some })

none_given : (x : Pmac) (n : ℕ) (acts : List ManagerAct) → filter_map numbered_by acts ≡ [] → (Q : Type 0) → IsAmong (x, n) (filter_map numbered_by acts) → Q
none_given x n acts none Q h = absurd (subst (IsAmong (x, n)) none h)

module _ (view : ManagerView) (s : SwitchId) (x : Pmac) (n : ℕ) where
  quiet_stands : (says : ToManager) → filter_map numbered_by (reply view (view_after view s says) s says) ≡ [] → (P : Type 0) →
      IsAmong (x, n) (filter_map numbered_by ((manager_hears view s says).acts ++ [])) → P
  unfolding manager_hears
  quiet_stands says none P = none_given x n ((manager_hears view s says).acts ++ [])
      (ap (filter_map numbered_by) (append-nil (acts_of view (view_after view s says) s says)) ∙ acts_number view s says ∙ none) P

  learned_stands : (pmac : Pmac) (amac : Mac) (ip : Option Ip4) →
      IsAmong (x, n) (filter_map numbered_by ((manager_hears view s (tell.Learned pmac amac ip)).acts ++ [])) → IsSome (registration (manager_hears view s (tell.Learned pmac amac ip)).view.learnt x)
  unfolding manager_hears
  learned_stands pmac amac ip h =
      let says : ToManager = tell.Learned pmac amac ip in
      let new : ToldAddress = record { switch = s; pmac = pmac; amac = amac; ip = ip } in
      some_numbered (registration (with_learnt view.learnt new) x) (x, n) ((learning_numbers view.learnt new).stands x n
      (subst (IsAmong (x, n)) (ap (filter_map numbered_by) (append-nil (acts_of view (view_after view s says) s says)) ∙ acts_number view s says) h))

  aged_stands : (y : Pmac) (number : ℕ) (P : Type 0) → IsAmong (x, n) (filter_map numbered_by (alone view s (tell.Aged y number)).acts) → P
  aged_stands y number P =
      let t = notes_aged (at_rest view) s y number in
      none_given x n (follows t).acts (release_numbers_nothing (λ u. true ≡ true) (follows t).acts (each_left t).releases) P

  stands_alone : (says : ToManager) → IsAmong (x, n) (filter_map numbered_by (alone view s says).acts) → IsSome (registration (alone view s says).known.view.learnt x)
  stands_alone (tell.Learned pmac amac ip) h = learned_stands pmac amac ip h
  stands_alone (tell.Aged y number) h = aged_stands y number _ h
  stands_alone (tell.Trapped old new number) h = absurd h
  stands_alone (tell.Place place) h = quiet_stands (tell.Place place) refl _ h
  stands_alone (tell.Link u usable) h = quiet_stands (tell.Link u usable) refl _ h
  stands_alone tell.PodWanted h = quiet_stands tell.PodWanted refl _ h
  stands_alone (tell.Begin epoch) h = quiet_stands (tell.Begin epoch) refl _ h
  stands_alone (tell.End epoch) h = quiet_stands (tell.End epoch) refl _ h
  stands_alone (tell.Query asker asker_ip ip) h = quiet_stands (tell.Query asker asker_ip ip) refl _ h
  stands_alone (tell.Members group any) h = quiet_stands (tell.Members group any) refl _ h

-- one address is learnt at most
word_sizes : (t : Treating) (s : SwitchId) (says : ToManager) → (treats_word t s says).known.view.learnt.count ≤ t.view.learnt.count + 1
unfolding manager_hears
word_sizes t s (tell.Aged x number) = let same = (aged_holds (λ u. true) t s refl (λ u h. refl) x number).learns.count in omega (arith, same)
word_sizes t s (tell.Trapped old new number) = let same = (trap_holds (λ u. true) t s refl (λ u h. refl) old new number).learns.count in omega (arith, same)
word_sizes t s (tell.Learned pmac amac ip) = addresses_after t.view s (tell.Learned pmac amac ip)
word_sizes t s (tell.Place place) = omega arith
word_sizes t s (tell.Link u usable) = omega arith
word_sizes t s tell.PodWanted = omega arith
word_sizes t s (tell.Begin epoch) = omega arith
word_sizes t s (tell.End epoch) = omega arith
word_sizes t s (tell.Query asker asker_ip ip) = omega arith
word_sizes t s (tell.Members group any) = omega arith

-- ---- each step of the whole rule
record StepsDuly (before : ManagerView) (s : SwitchId) (step : Step Treating ToManager ManagerAct) : Type 0 where
  heard : list_all (is_for_heard before s) step.acts ≡ true
  numbered : AreNumbered before (viewed step.now) (filter_map numbered_by step.acts)
  registers : AreRegistered (viewed step.now) step.acts
  k : (viewed step.now).k ≡ before.k
  epoch : (viewed step.now).epoch ≡ before.epoch
  speakers_then : (t : SwitchId) → IsAmong t (speakers (viewed step.now)) → (same_switch s t || is_heard before t) ≡ true

-- nothing is treated
kept_duly : (before : ManagerView) (s : SwitchId) (begun ended : List SwitchId) (kept : List (Heard ToManager)) →
    ((t : SwitchId) → IsAmong t (begun ++ map (λ h. h.switch) kept) → (s ≡ t) ⊎ IsAmong t (speakers before)) →
    StepsDuly before s (does_nothing (record (gathered before) { begun = begun; ended = ended; kept = kept }))
kept_duly before s begun ended kept ones = record {
  heard = refl;
  numbered = nothing_learnt before (record before { begun = begun; ended = ended; kept = kept }) refl;
  registers = nothing_registered (record before { begun = begun; ended = ended; kept = kept }) [] refl;
  k = refl;
  epoch = refl;
  speakers_then = λ t h. now_or_before before s t (elim (spoke_or_gathered before before.epoch begun ended kept t h) [ inl gathers ↦ ones t gathers | inr was ↦ inr was ]);
}

module _ (before : ManagerView) (s : SwitchId) where
  abbrev H : SwitchId → Bool
  H t = same_switch s t || is_heard before t

  abbrev g : Gathered Treating ToManager
  g = gathered before

  was_before : (t : SwitchId) → IsAmong t (before.begun ++ map (λ h. h.switch) before.kept) → (s ≡ t) ⊎ IsAmong t (speakers before)
  was_before t h = inr (gathered_speaks before t h)

  same_duly : StepsDuly before s (does_nothing g)
  same_duly = kept_duly before s before.begun before.ended before.kept was_before

  begin_duly : (n : ℕ) → StepsDuly before s (does_nothing (hears_begin g s n))
  begin_duly n = by (is_whole g || (not (n == g.epoch) || is_among s g.begun))
    where
      by : (b : Bool) → StepsDuly before s (does_nothing (cond b g (record g { begun = s ∷ g.begun })))
      by true = same_duly
      by false = kept_duly before s (s ∷ before.begun) before.ended before.kept (λ t h. elim h [ inl is ↦ inl is | inr was ↦ was_before t was ])

  keeps_duly : (word : ToManager) → StepsDuly before s (does_nothing (keeps_word g s word))
  keeps_duly word = by (is_among s g.begun)
    where
      h : Heard ToManager
      h = record { switch = s; word = word }

      ones : (t : SwitchId) → IsAmong t (before.begun ++ map (λ h. h.switch) (before.kept ++ h ∷ [])) → (s ≡ t) ⊎ IsAmong t (speakers before)
      ones t among =
          let kept : List SwitchId = map (λ h. h.switch) before.kept in
          elim (among_append t before.begun (kept ++ s ∷ [])
          (subst (λ (ss : List SwitchId). IsAmong t (before.begun ++ ss)) (map-append (λ (h : Heard ToManager). h.switch) before.kept (h ∷ [])) among)) [
            | inl began ↦ was_before t (among_left t before.begun kept began)
            | inr of_kept ↦ elim (among_append t kept (s ∷ []) of_kept) [
              | inl was ↦ was_before t (among_right t before.begun kept was)
              | inr now ↦ elim now [ inl is ↦ inl is | inr none ↦ absurd none ]
            ]
          ]

      by : (b : Bool) → StepsDuly before s (does_nothing (cond b (record g { kept = g.kept ++ h ∷ [] }) g))
      by true = kept_duly before s before.begun before.ended (before.kept ++ h ∷ []) ones
      by false = same_duly

  within_before : Within H before
  within_before t h = now_or_before before s t (inr h)

  for_heard : (acts : List ManagerAct) → list_all (is_for H) acts ≡ true → list_all (is_for_heard before s) acts ≡ true
  for_heard [] h = refl
  for_heard (Say to says ∷ acts) h =
      let parts = and_parts (H to) (list_all (is_for H) acts) h in and_from (H to) (list_all (is_for_heard before s) acts) parts.0 (for_heard acts parts.1)
  for_heard (Number x n ∷ acts) h = for_heard acts h

  treated_duly : (ended : List SwitchId) (kept heard : List (Heard ToManager)) → AllByRecursion (λ h. H h.switch ≡ true) heard →
      ((t : SwitchId) → IsAmong t (before.begun ++ map (λ h. h.switch) kept) → IsAmong t (before.begun ++ map (λ h. h.switch) before.kept)) →
      (before.kept ≡ [] → (x : Pmac) (n : ℕ) → IsAmong (x, n) (filter_map numbered_by (treats_all treats follows (at_rest before) heard).acts) →
      IsSome (registration (treats_all treats follows (at_rest before) heard).known.view.learnt x)) →
      StepsDuly before s (record {
        now = record g { ended = ended; kept = kept; known = (treats_all treats follows (at_rest before) heard).known };
        acts = (treats_all treats follows (at_rest before) heard).acts;
      })
  treated_duly ended kept heard speak fewer stand =
      let done = treats_all treats follows (at_rest before) heard in
      let all = all_done H before heard within_before speak in
      let view : ManagerView = record done.known.view { epoch = before.epoch; begun = before.begun; ended = ended; kept = kept } in
      record {
        heard = for_heard done.acts all.acts;
        numbered = numbered_of before view all.mid (filter_map numbered_by done.acts) all.learns all.count all.was stand;
        registers = λ x n h.
            let mid = some_numbered (registration all.mid x) (x, n) (all.learns.stands x n (among_of_Contains (x, n) (filter_map numbered_by done.acts) h)) in
            elim (all.left x mid) [ inl still ↦ inl still | inr now ↦ inr (Contains-of_among x (filter_map released_by done.acts) now) ];
        k = all.k;
        epoch = refl;
        speakers_then = λ t h. elim (spoke_or_gathered done.known.view before.epoch before.begun ended kept t h) [
          | inl gathers ↦ within_before t (gathered_speaks before t (fewer t gathers))
          | inr was ↦ all.within t was
        ];
      }

  kept_speak : AllByRecursion (λ h. H h.switch ≡ true) before.kept
  kept_speak = each before.kept (λ t h. within_before t (gathered_speaks before t (among_right t before.begun (map (λ h. h.switch) before.kept) h)))
    where
      each : (kept : List (Heard ToManager)) → ((t : SwitchId) → IsAmong t (map (λ h. h.switch) kept) → H t ≡ true) → AllByRecursion (λ h. H h.switch ≡ true) kept
      each [] speak = tt
      each (h ∷ kept) speak = (speak h.switch (inl refl), each kept (λ t k. speak t (inr k)))

  turned_speak : AllByRecursion (λ h. H h.switch ≡ true) (in_turn waits_for_places before.kept)
  turned_speak = all_append (λ h. H h.switch ≡ true) (filter (λ h. not (waits_for_places h.word)) before.kept) (filter (λ h. waits_for_places h.word) before.kept)
      (all_filter (λ h. H h.switch ≡ true) (λ h. not (waits_for_places h.word)) before.kept kept_speak)
      (all_filter (λ h. H h.switch ≡ true) (λ h. waits_for_places h.word) before.kept kept_speak)

  fewer_left : (t : SwitchId) → IsAmong t (before.begun ++ []) → IsAmong t (before.begun ++ map (λ h. h.switch) before.kept)
  fewer_left t h = among_left t before.begun (map (λ h. h.switch) before.kept) (subst (IsAmong t) (append-nil before.begun) h)

  nothing_kept : (kept : List (Heard ToManager)) → kept ≡ [] → (x : Pmac) (n : ℕ) (P : Type 0) →
      IsAmong (x, n) (filter_map numbered_by (treats_all treats follows (at_rest before) (in_turn waits_for_places kept)).acts) → P
  nothing_kept kept none x n P h =
      absurd (subst (λ (k : List (Heard ToManager)). IsAmong (x, n) (filter_map numbered_by (treats_all treats follows (at_rest before) (in_turn waits_for_places k)).acts)) none h)

  end_duly : (n : ℕ) → StepsDuly before s (steps treats waits_for_places follows g s (End n))
  end_duly n = by (is_void_end g s n)
    where
      last : (b : Bool) → StepsDuly before s (cond b (goes_through treats waits_for_places follows (with_ended s g)) (does_nothing (with_ended s g)))
      last true = treated_duly (s ∷ before.ended) [] (in_turn waits_for_places before.kept) turned_speak fewer_left
          (λ none x n h. nothing_kept before.kept none x n _ h)
      last false = kept_duly before s before.begun (s ∷ before.ended) before.kept was_before

      by : (b : Bool) → StepsDuly before s (cond b (does_nothing g) (steps_at_end treats waits_for_places follows g s))
      by true = same_duly
      by false = last (is_whole (with_ended s g))

  word_duly : (word : ToManager) → StepsDuly before s (steps treats waits_for_places follows g s (Tells word))
  word_duly word = by (is_whole g)
    where
      h : Heard ToManager
      h = record { switch = s; word = word }

      by : (b : Bool) → StepsDuly before s (cond b (steps_at_word treats follows g h) (does_nothing (keeps_word g s word)))
      by true = treated_duly before.ended before.kept (h ∷ []) (now_or_before before s s (inl refl), tt) (λ t k. k) (λ none x n among. stands_alone before s x n word among)
      by false = keeps_duly word

  duly : (r : Report ToManager) → StepsDuly before s (steps treats waits_for_places follows g s r)
  duly (Begin n) = begin_duly n
  duly (End n) = end_duly n
  duly (Tells word) = word_duly word

  -- what is learnt and kept grows by one
  abbrev size : Treating → ℕ
  size t = t.view.learnt.count

  one_more : (t : Treating) (h : Heard ToManager) → size (treats t h).known ≤ size t + 1
  one_more t h = word_sizes t h.switch h.word

  no_more : (t : Treating) → size (follows t).known ≤ size t
  no_more t = let same = (each_left t).count in omega (arith, same)

  loaded : (r : Report ToManager) →
      (viewed (steps treats waits_for_places follows g s r).now).learnt.count + length (viewed (steps treats waits_for_places follows g s r).now).kept
      ≤ before.learnt.count + length before.kept + 1
  loaded r = subst (λ (x : Gathered Treating ToManager). size x.known + length x.kept ≤ before.learnt.count + length before.kept + 1)
      (sym (it_gathers treats waits_for_places follows g s r))
      (grows_by_one (λ t h. (treats t h).known) waits_for_places (λ t. (follows t).known) size one_more no_more g s r)

whole_grown : (before : ManagerView) (s : SwitchId) (says : ToManager) → IsGrown before s (manager_steps before s says).view
unfolding manager_steps
whole_grown before s says =
    let all = duly before s (as_report says) in
    let then = (manager_steps before s says).view in
    record {
      k = all.k;
      epoch = all.epoch;
      heard = λ t h. all.speakers_then t (known_among t (speakers then) h);
      addresses = loaded before s (as_report says);
    }

pub whole_answers : AnswersDuly whole_rule
unfolding manager_steps
whole_answers = record {
  heard = λ before s says after acts h. subst (λ a. list_all (is_for_heard before s) a ≡ true) (sym h.1) (duly before s (as_report says)).heard;
  numbered = λ before s says after acts h.
      subst (λ v. AreNumbered before v (filter_map numbered_by acts)) (sym h.0)
      (subst (λ a. AreNumbered before (manager_steps before s says).view (filter_map numbered_by a)) (sym h.1) (duly before s (as_report says)).numbered);
  registers = λ before s says after acts h.
      subst (λ v. AreRegistered v acts) (sym h.0)
      (subst (AreRegistered (manager_steps before s says).view) (sym h.1) (duly before s (as_report says)).registers);
  grows = λ before s says after acts h. subst (IsGrown before s) (sym h.0) (whole_grown before s says);
}
