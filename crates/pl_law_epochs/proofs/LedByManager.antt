-- The manager treats a word, or releases addresses, and traps lead on: it releases none to which a trap leads.
use mathlib.Core.Path.{fun_ext}
use Rattle.std.proofs.Common.{◌≡◌, ◌+◌, ◌||◌, ◌&&◌, not, ℕ, Bool, true, false, cond, if◌then◌else◌, fold, List, [], ◌∷◌, ◌++◌, Option, Some, None, slice_get, refl, sym, ap, subst, ◌∙◌, inl, inr, append_assoc}
use Rattle.std.specs.List.{AllByRecursion, list_any}
use Rattle.std.proofs.lemmas.Bool.{and_parts, false≢true}
use Rattle.std.proofs.lemmas.List.Concat.{flat_map-append}
use Rattle.pl_lemmas.proofs.Exports.{all_append}
use Rattle.pl_frame.specs.declared.address.Ip4.{Ip4}
use Rattle.pl_frame.specs.declared.address.Mac.{Mac}
use Rattle.pl_frame.specs.declared.address.SwitchId.{SwitchId}
use Rattle.pl_pmac.specs.declared.pmac.Pmac.{Pmac}
use Rattle.pl_layouts.specs.Equality.{same_pmac}
use Rattle.pl_layouts.proofs.Exports.{pmac_itself}
use Rattle.pl_wiring.specs.Plan.{IsPlan, Plan}
use Rattle.pl_node.specs.AddressUses.{standing_trap}
use Rattle.pl_node.specs.declared.acts.ManagerAct.{ManagerAct}
use Rattle.pl_node.specs.declared.acts.ManagerAct.TheVariants.{Number, Say}
use Rattle.pl_node.specs.declared.messages.ToManager.{ToManager}
use Rattle.pl_node.specs.declared.messages.ToManager.TheVariants as tell
use Rattle.pl_node.specs.declared.messages.ToSwitch.{ToSwitch}
use Rattle.pl_node.specs.declared.messages.ToSwitch.TheVariants as say
use Rattle.pl_node.specs.declared.switch_records.Grant.{Grant}
use Rattle.pl_node.specs.declared.trap.Trap.{Trap}
use Rattle.pl_node.specs.ManagerViews.{Learnt, ManagerView, Registration, Reported, lookup, newest, registry}
use Rattle.pl_node.specs.SwitchViews.{SwitchView}
use Rattle.pl_manager_rule.specs.ManagerRule.{LearntStep, ManagerStep, answer_to, avoid_acts, invalidation, manager_hears, nothing_said, reply, tree_acts, view_after}
use Rattle.pl_manager_rule.specs.Reports.{forgets_known, is_known_led_to, known_at, releases_as_known, releases_known}
use Rattle.pl_manager_rule.specs.Treating.{Treating, then_releases, treats_word}
use Rattle.pl_switch_rule.specs.Granting.{granted}
use Rattle.pl_law_control_plane.specs.PlaneSteps.{ordered, ordered_by}
use Rattle.pl_law_due.proofs.Exports.{ordered_other, releases_other}
use Rattle.pl_law_addresses.proofs.Exports.{is_or_other}
use Rattle.pl_law_epochs.specs.Addressed.{AreInOrder}
use Rattle.pl_law_epochs.specs.Edges.{is_later, is_unheard}
use Rattle.pl_law_epochs.specs.Leading.{IsNoTrap, TrapsLeadOn, is_release_of}
use Rattle.pl_law_epochs.proofs.Leading.{LeadsThere, more_lead, trap_there}
use Rattle.pl_law_epochs.proofs.Learnt.{led_nowhere}
use Rattle.pl_law_epochs.proofs.Orders.{ArePlain, IsActFor, IsPlain, answer_is_plain, avoids_plain, for_weaker, ordered_all, trees_plain, unheard_more}
use Rattle.pl_law_epochs.proofs.Releasing.{releases_in_order}

-- ---- a word that is treated releases nothing
abbrev IsNoRelease : ToSwitch → Type 0
IsNoRelease (say.Release x) = ⊥
IsNoRelease says = Unit {0}

plain_no_release : (says : ToSwitch) → IsPlain says → IsNoRelease says
plain_no_release (say.Release x) is = is
plain_no_release (say.Hello epoch) is = tt
plain_no_release (say.Invalidate a b c d) is = tt
plain_no_release says is = tt

none_released : (y : Pmac) (orders : List ToSwitch) → AllByRecursion IsNoRelease orders → list_any (is_release_of y) orders ≡ false
none_released y [] all = refl
none_released y (say.Release x ∷ orders) all = absurd all.0
none_released y (says ∷ orders) all = none_released y orders all.1

module _ (plan : Plan) (t : ℕ) where
  abbrev NoneFor : List ManagerAct → Type 0
  NoneFor acts = AllByRecursion (IsActFor plan t IsNoRelease) acts

  of_plain : (acts : List ManagerAct) → ArePlain plan t acts → NoneFor acts
  of_plain acts all = for_weaker plan t IsPlain IsNoRelease plain_no_release acts all

  invalidation_none : (learnt : Learnt) (new : Pmac) (number : ℕ) (old : Option Registration) → NoneFor (invalidation learnt new number old)
  invalidation_none learnt new number None = tt
  invalidation_none learnt new number (Some old) = ((λ named. tt), tt)

  none_heard : (before : ManagerView) (s : SwitchId) (told : ToManager) → NoneFor (reply before (view_after before s told) s told) → NoneFor (manager_hears before s told).acts
  unfolding manager_hears
  none_heard before s told none =
      let after = view_after before s told in
      all_append (IsActFor plan t IsNoRelease) (reply before after s told ++ avoid_acts before.told after.told) (tree_acts before after)
      (all_append (IsActFor plan t IsNoRelease) (reply before after s told) (avoid_acts before.told after.told) none (of_plain (avoid_acts before.told after.told) (avoids_plain plan t before.told after.told)))
      (of_plain (tree_acts before after) (trees_plain plan t before after))

  learnt_none : (before after : ManagerView) (s : SwitchId) (x : Pmac) (mac : Mac) (ip : Option Ip4) → NoneFor (reply before after s (tell.Learned x mac ip))
  learnt_none before after s x mac ip = by (list_any (λ r. same_pmac r.pmac x) (registry before.learnt))
    where
      by : (b : Bool) → NoneFor (if b then [] else Number x (before.learnt.count + 1) ∷ invalidation after.learnt x (before.learnt.count + 1) (newest before.learnt mac))
      by true = tt
      by false = (tt, invalidation_none after.learnt x (before.learnt.count + 1) (newest before.learnt mac))

  answer_none : (asker : Pmac) (asker_ip ip : Ip4) (found : Option Pmac) → IsNoRelease (answer_to asker asker_ip ip found)
  answer_none asker asker_ip ip found = plain_no_release (answer_to asker asker_ip ip found) (answer_is_plain plan t asker asker_ip ip found)

  word_none : (m : Treating) (s : SwitchId) (says : ToManager) → NoneFor (treats_word m s says).acts
  word_none m s (tell.Aged x number) = tt
  word_none m s (tell.Trapped a b c) = tt
  word_none m s (tell.Place place) = none_heard m.view s (tell.Place place) tt
  word_none m s (tell.Link u usable) = none_heard m.view s (tell.Link u usable) tt
  word_none m s tell.PodWanted = none_heard m.view s tell.PodWanted ((λ named. tt), tt)
  word_none m s (tell.Learned a b c) = none_heard m.view s (tell.Learned a b c) (learnt_none m.view (view_after m.view s (tell.Learned a b c)) s a b c)
  word_none m s (tell.Begin n) = none_heard m.view s (tell.Begin n) tt
  word_none m s (tell.End n) = none_heard m.view s (tell.End n) tt
  word_none m s (tell.Query a b c) = none_heard m.view s (tell.Query a b c) ((λ named. answer_none a b c (lookup m.view.learnt c)), tt)
  word_none m s (tell.Members group any) = none_heard m.view s (tell.Members group any) tt

pub word_leads : (plan : Plan) (view : ℕ → SwitchView) (orders : ℕ → List ToSwitch) (m : Treating) (s : SwitchId) (says : ToManager) → TrapsLeadOn plan view orders →
    TrapsLeadOn plan view (λ t. orders t ++ ordered plan t (treats_word m s says).acts)
word_leads plan view orders m s says lead =
    more_lead plan view orders (λ t. ordered plan t (treats_word m s says).acts)
    (λ at id named x g trap found set t i there.
    none_released trap.new (ordered plan t (treats_word m s says).acts) (ordered_all plan t IsNoRelease (treats_word m s says).acts (word_none plan t m s says))) lead

-- ---- releases
not_true : (b : Bool) → not b ≡ true → b ≡ false
not_true true h = absurd (false≢true h)
not_true false h = refl

none_any : {X : Type 0} (p : X → Bool) (xs : List X) → AllByRecursion (λ x. p x ≡ false) xs → list_any p xs ≡ false
none_any p [] all = refl
none_any p (x ∷ xs) all = ap (λ b. b || list_any p xs) all.0 ∙ none_any p xs all.1

module _ (own : Mac → Option Ip4) (plan : Plan) (is_plan : IsPlan plan) (view : ℕ → SwitchView) (due : ℕ → List ToManager)
    (untrapped : (s : ℕ) (id : SwitchId) → slice_get plan.ids s ≡ Some id → AllByRecursion IsNoTrap (due s)) where
  -- no trap leads to what is released
  unreleased : (orders : ℕ → List ToSwitch) (manager : ManagerView) → AreInOrder own plan view due orders manager →
      ((s : ℕ) (id : SwitchId) → slice_get plan.ids s ≡ Some id → is_unheard (orders s) ≡ false) → (x : Pmac) → (s : ℕ) (id : SwitchId) → slice_get plan.ids s ≡ Some id →
      (y : Pmac) (g : Grant) (trap : Trap) → granted (view s) y ≡ Some g → standing_trap g.held ≡ Some trap → (t : ℕ) →
      list_any (is_release_of trap.new) (ordered plan t (releases_known x manager.learnt).acts) ≡ false
  unreleased orders manager a loud x s id named y g trap found set t = by (known_at manager.learnt x)
    where
      there : LeadsThere (known_at manager.learnt y) (record { new = trap.new; number = trap.number })
      there = trap_there own plan view due orders manager a s id named y g trap found set (loud s id named) (untrapped s id named)

      other : is_known_led_to manager.learnt x ≡ false → same_pmac x trap.new ≡ false
      other none = elim (is_or_other x trap.new) [
        | inr not_this ↦ not_this
        | inl same ↦
            absurd (led_nowhere (is_later manager) manager.learnt x none y there.known (record { new = trap.new; number = trap.number }) there.found there.recall there.waits
            (subst (λ z. same_pmac trap.new z ≡ true) (sym same) (pmac_itself trap.new)))
      ]

      may : (known : Reported) (b : Bool) → (known.aged && not (is_known_led_to manager.learnt x)) ≡ b →
          list_any (is_release_of trap.new) (ordered plan t
          (cond {A = LearntStep} b (record { learnt = forgets_known manager.learnt x; acts = Say known.switch (say.Release x) ∷ [] }) (nothing_said manager.learnt)).acts) ≡ false
      may known false cannot = refl
      may known true can =
          let none = not_true (is_known_led_to manager.learnt x) (and_parts known.aged (not (is_known_led_to manager.learnt x)) can).1 in
          none_any (is_release_of trap.new) (ordered plan t (Say known.switch (say.Release x) ∷ []))
          (ordered_all plan t (λ q. is_release_of trap.new q ≡ false) (Say known.switch (say.Release x) ∷ []) ((λ at. other none), tt))

      by : (o : Option Reported) → list_any (is_release_of trap.new) (ordered plan t (releases_as_known manager.learnt x o).acts) ≡ false
      by None = refl
      by (Some known) = may known (known.aged && not (is_known_led_to manager.learnt x)) refl

  -- one after the other
  pub releases_lead : (xs : List Pmac) (orders : ℕ → List ToSwitch) (step : ManagerStep) → AreInOrder own plan view due (λ t. orders t ++ ordered plan t step.acts) step.view →
      ((s : ℕ) (id : SwitchId) → slice_get plan.ids s ≡ Some id → is_unheard (orders s ++ ordered plan s step.acts) ≡ false) →
      TrapsLeadOn plan view (λ t. orders t ++ ordered plan t step.acts) → TrapsLeadOn plan view (λ t. orders t ++ ordered plan t (fold then_releases step xs).acts)
  releases_lead [] orders step a loud lead = lead
  releases_lead (x ∷ xs) orders step a loud lead =
      let done = releases_known x step.view.learnt in
      let path : (t : ℕ) → (orders t ++ ordered plan t step.acts) ++ ordered plan t done.acts ≡ orders t ++ ordered plan t (step.acts ++ done.acts) =
      λ t. append_assoc (orders t) (ordered plan t step.acts) (ordered plan t done.acts) ∙ ap (λ os. orders t ++ os) (sym (flat_map-append (ordered_by plan t) step.acts done.acts)) in
      let quiet : (t : ℕ) → is_unheard (ordered plan t done.acts) ≡ false =
      λ t. ordered_other plan t done.acts (releases_other (x ∷ []) (record { view = step.view; acts = [] }) tt) in
      releases_lead xs orders (then_releases step x) (releases_in_order own plan is_plan view due (x ∷ []) orders step a)
      (λ s id named. ap is_unheard (sym (path s)) ∙ unheard_more (orders s ++ ordered plan s step.acts) (ordered plan s done.acts) (quiet s) ∙ loud s id named)
      (subst (TrapsLeadOn plan view) (fun_ext path)
      (more_lead plan view (λ t. orders t ++ ordered plan t step.acts) (λ t. ordered plan t done.acts)
      (λ s id named y g trap found set t i at. unreleased (λ n. orders n ++ ordered plan n step.acts) step.view a loud x s id named y g trap found set t) lead))
