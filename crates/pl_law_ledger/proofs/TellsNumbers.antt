-- The fabric manager numbers no address but those that are told by words which are due.
use Rattle.std.proofs.Common.{◌≡◌, ◌+◌, not, ℕ, Bool, true, false, if◌then◌else◌, fold, List, [], ◌∷◌, ◌++◌, map, Option, Some, None, slice_get, sym, ap, subst, ◌∙◌, inl, inr}
use Rattle.std.specs.List.{AllByRecursion, filter, flat_map, list_any}
use Rattle.std.proofs.lemmas.Bool.{cases_Bool, cond-false, cond-true, cond_both, false≢true, or_left, or_right}
use Rattle.std.proofs.lemmas.List.Folds.{list_any-append}
use Rattle.pl_lemmas.proofs.Exports.{all_append, all_filter, all_weaker}
use Rattle.pl_frame.specs.declared.address.SwitchId.{SwitchId}
use Rattle.pl_pmac.specs.declared.pmac.Pmac.{Pmac}
use Rattle.pl_layouts.specs.Equality.{same_pmac, same_switch}
use Rattle.pl_layouts.proofs.Exports.{pmac_itself, switch_itself}
use Rattle.pl_gathering.specs.Acting.{Done, does_nothing, goes_through, is_void_end, steps_at_end, steps_at_word, then_treats, treats_all}
use Rattle.pl_gathering.specs.Gathering.{Gathered, Heard, in_turn, is_among, is_whole, kept_of, keeps_word, with_ended, words_behind_begin}
use Rattle.pl_node.specs.declared.acts.ManagerAct.{ManagerAct}
use Rattle.pl_node.specs.declared.acts.ManagerAct.TheVariants.{Number, Say}
use Rattle.pl_node.specs.declared.messages.ToManager.{ToManager}
use Rattle.pl_node.specs.declared.messages.ToManager.TheVariants as tell
use Rattle.pl_node.specs.declared.messages.ToSwitch.TheVariants as say
use Rattle.pl_node.specs.AvoidLists.{avoid_list}
use Rattle.pl_node.specs.ManagerFacts.{groups}
use Rattle.pl_node.specs.ManagerViews.{Learnt, ManagerView, Registration, newest, registry}
use Rattle.pl_manager_rule.specs.ManagerRule.{ManagerStep, avoid_acts, changed, changed_of_group, hears_aged, invalidation, manager_hears, part_in, reply, tree_acts, tree_acts_of, view_after}
use Rattle.pl_manager_rule.specs.Reports.{releases_known}
use Rattle.pl_manager_rule.specs.Treating.{Treating, at_rest, follows, then_releases, to_release, treats, treats_word, waits_for_places}
use Rattle.pl_manager_rule.specs.WholeRule.{gathered, manager_steps}
use Rattle.pl_manager_rule.proofs.Exports.{aged_releases, IsReleaseOf, IsReleaseTo, released_to}
use Rattle.pl_law_control_plane.specs.ControlPlanes.{ControlPlane}
use Rattle.pl_law_due.specs.Due.{due_of, due_plane, read, words_of}
use Rattle.pl_law_due.specs.Gathering.{GathersWell}
use Rattle.pl_law_due.proofs.Exports.{there_named}
use Rattle.pl_law_addresses.specs.EdgeAddresses.{tells}

-- a word that is due tells this address
pub record IsDue (f : ControlPlane) (x : Pmac) : Type 0 where
  pub switch : ℕ
  pub id : SwitchId
  pub named : slice_get f.plan.ids switch ≡ Some id
  pub told : list_any (tells x) ((due_plane f).reports switch) ≡ true

-- ---- acts that number addresses of which this holds alone
abbrev pub IsNumberOf : (Pmac → Type 0) → ManagerAct → Type 0
IsNumberOf P (Say to says) = Unit {0}
IsNumberOf P (Number x n) = P x

module _ (P : Pmac → Type 0) where
  abbrev Numbers : List ManagerAct → Type 0
  Numbers acts = AllByRecursion (IsNumberOf P) acts

  -- what this word tells
  abbrev pub IsOfTold : ToManager → Type 0
  IsOfTold says = (x : Pmac) → tells x says ≡ true → P x

  said_none : {X : Type 0} (f : X → ManagerAct) (xs : List X) → ((x : X) → IsNumberOf P (f x)) → Numbers (map f xs)
  said_none f [] each = tt
  said_none f (x ∷ xs) each = (each x, said_none f xs each)

  all_flat : {X : Type 0} (f : X → List ManagerAct) (xs : List X) → ((x : X) → Numbers (f x)) → Numbers (flat_map f xs)
  all_flat f [] each = tt
  all_flat f (x ∷ xs) each = all_append (IsNumberOf P) (f x) (flat_map f xs) (each x) (all_flat f xs each)

  invalidation_none : (learnt : Learnt) (new : Pmac) (number : ℕ) (old : Option Registration) → Numbers (invalidation learnt new number old)
  invalidation_none learnt new number None = tt
  invalidation_none learnt new number (Some old) = (tt, tt)

  reply_numbers : (before after : ManagerView) (s : SwitchId) (told : ToManager) → IsOfTold told → Numbers (reply before after s told)
  reply_numbers before after s tell.PodWanted of = (tt, tt)
  reply_numbers before after s (tell.Place place) of = tt
  reply_numbers before after s (tell.Link u usable) of = tt
  reply_numbers before after s (tell.Members group any) of = tt
  reply_numbers before after s (tell.Begin epoch) of = tt
  reply_numbers before after s (tell.End epoch) of = tt
  reply_numbers before after s (tell.Trapped a b c) of = tt
  reply_numbers before after s (tell.Query asker asker_ip ip) of = (tt, tt)
  reply_numbers before after s (tell.Aged pmac number) of =
      all_weaker (IsReleaseOf before.learnt) (IsNumberOf P) (λ act release. subst (IsNumberOf P) (sym release.is) tt)
      (hears_aged before.learnt pmac number).acts
      (aged_releases before.learnt pmac number)
  reply_numbers before after s (tell.Learned pmac amac ip) of = by (list_any (λ r. same_pmac r.pmac pmac) (registry before.learnt))
    where
      by : (b : Bool) → Numbers (if b then [] else Number pmac (before.learnt.count + 1) ∷ invalidation after.learnt pmac (before.learnt.count + 1)
          (newest before.learnt amac))
      by true = tt
      by false = (of pmac (pmac_itself pmac), invalidation_none after.learnt pmac (before.learnt.count + 1) (newest before.learnt amac))

  heard_numbers : (before : ManagerView) (s : SwitchId) (told : ToManager) → IsOfTold told → Numbers (manager_hears before s told).acts
  unfolding manager_hears
  heard_numbers before s told of =
      let after = view_after before s told in
      let avoids = avoid_acts before.told after.told in
      let trees = tree_acts before after in
      all_append (IsNumberOf P) (reply before after s told ++ avoids) trees
      (all_append (IsNumberOf P) (reply before after s told) avoids (reply_numbers before after s told of)
      (said_none (λ t. Say t (say.Avoid (avoid_list after.told t))) (changed before.told after.told) (λ t. tt)))
      (all_flat (tree_acts_of before after) (groups after.members) (λ group.
      said_none (λ t. Say t (say.Tree group (part_in after group t))) (changed_of_group before after group) (λ t. tt)))

  -- ---- words that are treated, and what follows
  word_numbers : (t : Treating) (s : SwitchId) (says : ToManager) → IsOfTold says → Numbers (treats_word t s says).acts
  word_numbers t s (tell.Aged x number) of = tt
  word_numbers t s (tell.Trapped a b c) of = tt
  word_numbers t s (tell.Place place) of = heard_numbers t.view s (tell.Place place) of
  word_numbers t s (tell.Link u usable) of = heard_numbers t.view s (tell.Link u usable) of
  word_numbers t s tell.PodWanted of = heard_numbers t.view s tell.PodWanted of
  word_numbers t s (tell.Learned a b c) of = heard_numbers t.view s (tell.Learned a b c) of
  word_numbers t s (tell.Begin n) of = heard_numbers t.view s (tell.Begin n) of
  word_numbers t s (tell.End n) of = heard_numbers t.view s (tell.End n) of
  word_numbers t s (tell.Query a b c) of = heard_numbers t.view s (tell.Query a b c) of
  word_numbers t s (tell.Members group any) of = heard_numbers t.view s (tell.Members group any) of

  each_numbers : (heard : List (Heard ToManager)) → AllByRecursion (λ h. IsOfTold h.word) heard → (done : Done Treating ManagerAct) → Numbers done.acts →
      Numbers (fold (then_treats treats) done heard).acts
  each_numbers [] of done all = all
  each_numbers (h ∷ heard) of done all =
      each_numbers heard of.1 (then_treats treats done h) (all_append (IsNumberOf P) done.acts (treats done.known h).acts all
      (word_numbers done.known h.switch h.word of.0))

  releases_number : (aged : List Pmac) (step : ManagerStep) → Numbers step.acts → Numbers (fold then_releases step aged).acts
  releases_number [] step all = all
  releases_number (x ∷ aged) step all =
      releases_number aged (then_releases step x)
      (all_append (IsNumberOf P) step.acts (releases_known x step.view.learnt).acts all
      (all_weaker (IsReleaseTo (λ to. Unit {0})) (IsNumberOf P) (λ act release. subst (IsNumberOf P) (sym release.is) tt)
      (releases_known x step.view.learnt).acts
      (released_to (λ to. Unit {0}) x step.view.learnt (λ r among. tt))))

  all_numbers : (known : ManagerView) (heard : List (Heard ToManager)) → AllByRecursion (λ h. IsOfTold h.word) heard →
      Numbers (treats_all treats follows (at_rest known) heard).acts
  all_numbers known heard of =
      let done = fold (then_treats treats) (record { known = at_rest known; acts = [] }) heard in
      all_append (IsNumberOf P) done.acts (follows done.known).acts (each_numbers heard of (record { known = at_rest known; acts = [] }) tt)
      (releases_number (to_release done.known) (record { view = done.known.view; acts = [] }) tt)

  -- ---- a step of the manager
  module _ (view : ManagerView) (s : SwitchId) (kept : AllByRecursion (λ h. IsOfTold h.word) view.kept) where
    abbrev g : Gathered Treating ToManager
    g = gathered view

    turned : AllByRecursion (λ h. IsOfTold h.word) (in_turn waits_for_places view.kept)
    turned =
        all_append (λ h. IsOfTold h.word) (filter (λ h. not (waits_for_places h.word)) view.kept) (filter (λ h. waits_for_places h.word) view.kept)
        (all_filter (λ h. IsOfTold h.word) (λ h. not (waits_for_places h.word)) view.kept kept)
        (all_filter (λ h. IsOfTold h.word) (λ h. waits_for_places h.word) view.kept kept)

    at_end : (epoch : ℕ) → Numbers (if is_void_end g s epoch then does_nothing g else steps_at_end treats waits_for_places follows g s).acts
    at_end epoch = by (is_void_end g s epoch) (is_whole (with_ended s g))
      where
        by : (b c : Bool) → Numbers (if b then does_nothing g else (if c then goes_through treats waits_for_places follows (with_ended s g) else does_nothing
            (with_ended s g))).acts
        by true c = tt
        by false true = all_numbers view (in_turn waits_for_places view.kept) turned
        by false false = tt

    at_word : (word : ToManager) → (is_whole g ≡ true → IsOfTold word) →
        Numbers (if is_whole g then steps_at_word treats follows g (record { switch = s; word = word }) else does_nothing (keeps_word g s word)).acts
    at_word word of =
        cond_both (is_whole g) (steps_at_word treats follows g (record { switch = s; word = word })) (does_nothing (keeps_word g s word))
        (λ step. Numbers step.acts)
        (λ whole. all_numbers view (record { switch = s; word = word } ∷ []) (of whole, tt)) (λ part. tt)

    pub step_numbers : (says : ToManager) → (is_whole g ≡ true → IsOfTold says) → Numbers (manager_steps view s says).acts
    unfolding manager_steps
    step_numbers (tell.Begin epoch) of = tt
    step_numbers (tell.End epoch) of = at_end epoch
    step_numbers says of = at_word says of

-- ---- what is due
-- a word that is kept is of its switch
kept_told : (kept : List (Heard ToManager)) → AllByRecursion (λ h. (x : Pmac) → tells x h.word ≡ true → list_any (tells x) (kept_of h.switch kept) ≡ true) kept
kept_told [] = tt
kept_told (h ∷ kept) = (
  λ x told. ap (list_any (tells x)) (cond-true (same_switch h.switch h.switch) (h.word ∷ kept_of h.switch kept) (kept_of h.switch kept)
      (switch_itself h.switch))
      ∙ or_left (tells x h.word) (list_any (tells x) (kept_of h.switch kept)) told,
  all_weaker (λ q. (x : Pmac) → tells x q.word ≡ true → list_any (tells x) (kept_of q.switch kept) ≡ true)
      (λ q. (x : Pmac) → tells x q.word ≡ true → list_any (tells x) (kept_of q.switch (h ∷ kept)) ≡ true)
      (λ q is x told. more x q.switch (is x told)) kept (kept_told kept),
)
  where
    more : (x : Pmac) (s : SwitchId) → list_any (tells x) (kept_of s kept) ≡ true → list_any (tells x) (kept_of s (h ∷ kept)) ≡ true
    more x s is =
        cond_both (same_switch h.switch s) (h.word ∷ kept_of s kept) (kept_of s kept) (λ ws. list_any (tells x) ws ≡ true)
        (λ same. or_right (tells x h.word) (list_any (tells x) (kept_of s kept)) is) (λ other. is)

module _ (f : ControlPlane) (well : GathersWell f) where
  abbrev gathering : Gathered Treating ToManager
  gathering = gathered f.manager

  due_there : (t : ℕ) (id : SwitchId) → slice_get f.plan.ids t ≡ Some id → (ws : List ToManager) → due_of f.manager (Some id) (f.reports t) ≡ ws → (x : Pmac) →
      list_any (tells x) ws ≡ true → IsDue f x
  due_there t id named ws are x any = record {
    switch = t;
    id = id;
    named = named;
    told = ap (λ o. list_any (tells x) (due_of f.manager o (f.reports t))) named ∙ ap (list_any (tells x)) are ∙ any;
  }

  -- a word that is kept is due: its switch has begun, and a report is missing
  kept_due : (s : SwitchId) (x : Pmac) → list_any (tells x) (kept_of s f.manager.kept) ≡ true → IsDue f x
  kept_due s x any =
      let at = there_named f.plan.ids s (well.orderly.within s begun) in
      due_there at.0 s at.1 (kept_of s f.manager.kept ++ words_of (f.reports at.0))
      (cond-false (is_whole gathering) (words_of (f.reports at.0))
      (if is_among s f.manager.begun then kept_of s f.manager.kept ++ words_of (f.reports at.0) else words_behind_begin f.manager.epoch
      (read (f.reports at.0))) part
      ∙ cond-true (is_among s f.manager.begun) (kept_of s f.manager.kept ++ words_of (f.reports at.0))
      (words_behind_begin f.manager.epoch (read (f.reports at.0))) begun) x
      (list_any-append (tells x) (kept_of s f.manager.kept) (words_of (f.reports at.0))
      ∙ or_left (list_any (tells x) (kept_of s f.manager.kept)) (list_any (tells x) (words_of (f.reports at.0))) any)
    where
      begun : is_among s f.manager.begun ≡ true
      begun = elim (cases_Bool (is_among s f.manager.begun)) [
        | inl is ↦ is
        | inr not_yet ↦ absurd (false≢true (ap (list_any (tells x)) (sym (well.orderly.gathering.kept s not_yet)) ∙ any))
      ]

      part : is_whole gathering ≡ false
      part = elim (cases_Bool (is_whole gathering)) [
        | inr is ↦ is
        | inl whole ↦ absurd (false≢true (ap (λ (kept : List (Heard ToManager)). list_any (tells x) (kept_of s kept)) (sym (well.orderly.gathering.none whole))
            ∙ any))
      ]

  -- and while no report is missing so is the first word that waits
  first_due : (s : ℕ) (id : SwitchId) → slice_get f.plan.ids s ≡ Some id → (says : ToManager) (rest : List ToManager) → f.reports s ≡ says ∷ rest →
      is_whole gathering ≡ true →
      IsOfTold (IsDue f) says
  first_due s id named (tell.Learned pmac amac ip) rest head whole x told =
      due_there s id named (words_of (f.reports s))
      (cond-true (is_whole gathering) (words_of (f.reports s))
      (if is_among id f.manager.begun then kept_of id f.manager.kept ++ words_of (f.reports s) else words_behind_begin f.manager.epoch
      (read (f.reports s))) whole) x
      (ap (λ ws. list_any (tells x) (words_of ws)) head ∙ or_left (tells x (tell.Learned pmac amac ip)) (list_any (tells x) (words_of rest)) told)
  first_due s id named says rest head whole x told = absurd (false≢true told)

  -- So each address that the manager numbers is told by a word that was due.
  pub numbers_due : (s : ℕ) (id : SwitchId) → slice_get f.plan.ids s ≡ Some id → (says : ToManager) (rest : List ToManager) → f.reports s ≡ says ∷ rest →
      AllByRecursion (IsNumberOf (IsDue f)) (manager_steps f.manager id says).acts
  numbers_due s id named says rest head =
      step_numbers (IsDue f) f.manager id
      (all_weaker (λ h. (x : Pmac) → tells x h.word ≡ true → list_any (tells x) (kept_of h.switch f.manager.kept) ≡ true) (λ h. IsOfTold (IsDue f) h.word)
      (λ h is x told. kept_due h.switch x (is x told)) f.manager.kept (kept_told f.manager.kept))
      says (λ whole. first_due s id named says rest head whole)
