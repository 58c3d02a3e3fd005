-- Where the manager hears a switch, the reports are gathered in order still.
use mathlib.Core.Path.{fun_ext}
use Rattle.std.proofs.Common.{◌≡◌, ℕ, ◌==◌, ◌||◌, ◌&&◌, not, nat_le, Bool, true, false, cond, List, [], ◌∷◌, ◌++◌, length, Some, slice_get, refl, sym, ap, subst, ◌∙◌, inl, inr, append-nil}
use Rattle.std.specs.List.{AllByRecursion, list_any}
use Rattle.std.proofs.lemmas.Bool.{and_parts, cases_Bool, cases_eq, cond_both, false≢true, or_parts}
use Rattle.pl_lemmas.proofs.Exports.{all_append, or_false}
use Rattle.pl_frame.specs.declared.address.SwitchId.{SwitchId}
use Rattle.pl_layouts.specs.Equality.{same_switch}
use Rattle.pl_wiring.specs.Plan.{IsPlan, Plan}
use Rattle.pl_gathering.specs.Acting.{Step, does_nothing, goes_through, is_void_end, steps_at_end, steps_at_word}
use Rattle.pl_gathering.specs.Gathering.{Gathered, Heard, Report, in_turn, is_among, is_whole, keeps_word, with_ended}
use Rattle.pl_gathering.specs.Gathering.Report.{End}
use Rattle.pl_gathering.specs.Keeping.{before}
use Rattle.pl_gathering.specs.Orderly.{AreComing, IsOrderly, begins, has}
use Rattle.pl_gathering.proofs.Exports.{everyone, hearing_coming, whole_later}
use Rattle.pl_node.specs.declared.acts.ManagerAct.{ManagerAct}
use Rattle.pl_node.specs.declared.messages.ToManager.{ToManager}
use Rattle.pl_node.specs.declared.messages.ToSwitch.{ToSwitch}
use Rattle.pl_node.specs.ManagerFacts.{switch_count}
use Rattle.pl_node.specs.ManagerViews.{ManagerView, restarted_manager}
use Rattle.pl_manager_rule.specs.Treating.{Treating, as_report, follows, treats, waits_for_places}
use Rattle.pl_manager_rule.specs.WholeRule.{gathered, viewed, whole_rule}
use Rattle.pl_law_control_plane.specs.ControlPlanes.{ControlPlane}
use Rattle.pl_law_control_plane.specs.PlaneSteps.{IsReportTaken, ManagerTurns, ordered}
use Rattle.pl_law_control_plane.proofs.Exports.{any_append}
use Rattle.pl_law_due.specs.Due.{at_id, is_hello, is_silent, queue_of, read, silent_of}
use Rattle.pl_law_due.specs.Gathering.{GathersBy, GathersWell, IsHelloAlone, IsOld, IsWord}
use Rattle.pl_law_due.proofs.Hearing as hearing
use Rattle.pl_law_due.proofs.Hearing.{Kind, kind}
use Rattle.pl_law_due.proofs.Hearing.Kind.{IsBegin, IsEnd, IsPlain}
use Rattle.pl_law_due.proofs.Ids.{ids_apart, switch_is}
use Rattle.pl_law_due.proofs.Plain.{IsOther, all_other, ordered_other}

module _ (f m g : ControlPlane) (is : IsPlan f.plan) (well : GathersWell f) (s : ℕ) (id : SwitchId) (told : ToManager)
    (named : slice_get f.plan.ids s ≡ Some id) (taken : IsReportTaken f s told m) (turns : ManagerTurns whole_rule m id told g) where
  abbrev g₀ : Gathered Treating ToManager
  g₀ = gathered f.manager

  abbrev stepped : Report ToManager → Step Treating ToManager ManagerAct
  stepped r = hearing.stepped f m g is well s id told named taken turns r

  abbrev r₀ : Report ToManager
  r₀ = as_report told

  abbrev now : Gathered Treating ToManager
  now = (stepped r₀).now

  abbrev after : ManagerView
  after = viewed now

  abbrev queue : SwitchId → List (Report ToManager)
  queue = hearing.queue f m g is well s id told named taken turns

  abbrev orders : ℕ → List ToSwitch
  orders n = f.orders n ++ ordered f.plan n (stepped r₀).acts

  many_then : switch_count after.k ≡ now.many
  many_then = hearing.many_then f m g is well s id told named taken turns

  orderly_now : IsOrderly f.plan.ids now
  orderly_now = hearing.orderly_now f m g is well s id told named taken turns

  whole_is : is_whole (gathered after) ≡ is_whole now
  whole_is = ap (λ n. (now.epoch == 0) || nat_le n (length now.ended)) many_then

  orderly_after : IsOrderly f.plan.ids (gathered after)
  orderly_after = record {
    many = many_then ∙ orderly_now.many;
    once = orderly_now.once;
    within = orderly_now.within;
    begun = orderly_now.begun;
    gathering = record { kept = orderly_now.gathering.kept; none = λ whole. orderly_now.gathering.none (sym whole_is ∙ whole) };
  }

  -- ---- what is kept are words
  plain_now : (k : Kind told) → AllByRecursion (λ h. IsWord h.word) now.kept
  plain_now (IsBegin n so) =
      subst (λ r. AllByRecursion (λ h. IsWord h.word) (stepped r).now.kept) (sym so)
      (cond_both (is_whole g₀ || (not (n == g₀.epoch) || is_among id g₀.begun)) g₀ (record g₀ { begun = id ∷ g₀.begun }) (λ x. AllByRecursion (λ h. IsWord h.word) x.kept)
      (λ void. well.plain) (λ heard. well.plain))
  plain_now (IsEnd n so) =
      subst (λ r. AllByRecursion (λ h. IsWord h.word) (stepped r).now.kept) (sym so)
      (cond_both (is_void_end g₀ id n) (does_nothing g₀) (steps_at_end treats waits_for_places follows g₀ id) (λ x. AllByRecursion (λ h. IsWord h.word) x.now.kept)
      (λ void. well.plain)
      (λ heard. cond_both (is_whole (with_ended id g₀)) (goes_through treats waits_for_places follows (with_ended id g₀)) (does_nothing (with_ended id g₀))
      (λ x. AllByRecursion (λ h. IsWord h.word) x.now.kept) (λ last. tt) (λ missing. well.plain)))
  plain_now (IsPlain so) =
      let h : Heard ToManager = record { switch = id; word = told } in
      subst (λ r. AllByRecursion (λ h. IsWord h.word) (stepped r).now.kept) (sym so)
      (cond_both (is_whole g₀) (steps_at_word treats follows g₀ h) (does_nothing (keeps_word g₀ id told)) (λ x. AllByRecursion (λ h. IsWord h.word) x.now.kept)
      (λ whole. well.plain)
      (λ part. cond_both (is_among id g₀.begun) (record g₀ { kept = g₀.kept ++ h ∷ [] }) g₀ (λ x. AllByRecursion (λ h. IsWord h.word) x.kept)
      (λ begun. all_append (λ h. IsWord h.word) g₀.kept (h ∷ []) well.plain (so, tt)) (λ unheard. well.plain)))

  -- ---- the manager says to nobody that it begins anew
  acts_other : (k : Kind told) → AllByRecursion IsOther (stepped r₀).acts
  acts_other (IsBegin n so) = subst (λ r. AllByRecursion IsOther (stepped r).acts) (sym so) tt
  acts_other (IsEnd n so) =
      subst (λ r. AllByRecursion IsOther (stepped r).acts) (sym so)
      (cond_both (is_void_end g₀ id n) (does_nothing g₀) (steps_at_end treats waits_for_places follows g₀ id) (λ x. AllByRecursion IsOther x.acts) (λ void. tt)
      (λ heard. cond_both (is_whole (with_ended id g₀)) (goes_through treats waits_for_places follows (with_ended id g₀)) (does_nothing (with_ended id g₀))
      (λ x. AllByRecursion IsOther x.acts) (λ last. all_other (in_turn waits_for_places g₀.kept) g₀.known) (λ missing. tt)))
  acts_other (IsPlain so) =
      let h : Heard ToManager = record { switch = id; word = told } in
      subst (λ r. AllByRecursion IsOther (stepped r).acts) (sym so)
      (cond_both (is_whole g₀) (steps_at_word treats follows g₀ h) (does_nothing (keeps_word g₀ id told)) (λ x. AllByRecursion IsOther x.acts)
      (λ whole. all_other (h ∷ []) g₀.known) (λ part. tt))

  silent_as : (n : ℕ) → is_silent orders n ≡ is_silent f.orders n
  silent_as n =
      any_append is_hello (f.orders n) (ordered f.plan n (stepped r₀).acts)
      ∙ ap (λ b. is_silent f.orders n || b) (ordered_other f.plan n (stepped r₀).acts (acts_other (kind told)))
      ∙ sym (or_false (is_silent f.orders n))

  silent_same : silent_of f.plan.ids orders ≡ silent_of f.plan.ids f.orders
  silent_same = ap (λ at t. at_id false f.plan.ids at t) (fun_ext silent_as)

  -- ---- the reports that are missing are coming
  coming_after : AreComing f.plan.ids (gathered after) (silent_of f.plan.ids orders) (queue_of f.plan.ids m.reports)
  coming_after =
      let was : AreComing f.plan.ids g₀ (silent_of f.plan.ids orders) (before id r₀ queue) =
      subst (AreComing f.plan.ids g₀ (silent_of f.plan.ids orders)) (hearing.queue_before f m g is well s id told named taken turns)
      (subst (λ silent. AreComing f.plan.ids g₀ silent (queue_of f.plan.ids f.reports)) (sym silent_same) well.coming) in
      let coming : AreComing f.plan.ids now (silent_of f.plan.ids orders) queue =
      subst (λ (x : Gathered Treating ToManager). AreComing f.plan.ids x (silent_of f.plan.ids orders) queue) (sym (hearing.now_is f m g is well s id told named taken turns r₀))
      (hearing_coming f.plan.ids g₀ (silent_of f.plan.ids orders) id queue hearing.treat waits_for_places hearing.after_all r₀ was) in
      λ t known loud part missing. coming t known loud (sym whole_is ∙ part) missing

  -- ---- of a silent switch all is old
  epoch_is : now.epoch ≡ f.manager.epoch
  epoch_is = hearing.epoch_is f m g is well s id told named taken turns

  -- a report begins only where its begin was heard
  begun_before : (t : SwitchId) → is_among t g₀.begun ≡ false → (same_switch id t ≡ true → begins g₀.epoch r₀ ≡ false) → (k : Kind told) → is_among t now.begun ≡ false
  begun_before t fresh none (IsBegin n so) =
      subst (λ r. is_among t (stepped r).now.begun ≡ false) (sym so)
      (cond_both (is_whole g₀ || (not (n == g₀.epoch) || is_among id g₀.begun)) g₀ (record g₀ { begun = id ∷ g₀.begun }) (λ x. is_among t x.begun ≡ false) (λ void. fresh)
      (λ heard.
      let two = or_parts (is_whole g₀) (not (n == g₀.epoch) || is_among id g₀.begun) heard in
      let more = or_parts (not (n == g₀.epoch)) (is_among id g₀.begun) two.1 in
      by (same_switch id t) (λ same. absurd (apart (n == g₀.epoch) (sym (ap (begins g₀.epoch) so) ∙ none same) more.0))))
    where
      apart : (b : Bool) → b ≡ false → not b ≡ false → ⊥
      apart true no_begin equal = absurd (cc no_begin)
      apart false no_begin equal = absurd (cc equal)

      by : (b : Bool) → (b ≡ true → ⊥) → (b || is_among t g₀.begun) ≡ false
      by true other = absurd (other refl)
      by false other = fresh
  begun_before t fresh none (IsEnd n so) =
      subst (λ r. is_among t (stepped r).now.begun ≡ false) (sym so)
      (cond_both (is_void_end g₀ id n) (does_nothing g₀) (steps_at_end treats waits_for_places follows g₀ id) (λ x. is_among t x.now.begun ≡ false) (λ void. fresh)
      (λ heard. cond_both (is_whole (with_ended id g₀)) (goes_through treats waits_for_places follows (with_ended id g₀)) (does_nothing (with_ended id g₀))
      (λ x. is_among t x.now.begun ≡ false) (λ last. fresh) (λ missing. fresh)))
  begun_before t fresh none (IsPlain so) =
      let h : Heard ToManager = record { switch = id; word = told } in
      subst (λ r. is_among t (stepped r).now.begun ≡ false) (sym so)
      (cond_both (is_whole g₀) (steps_at_word treats follows g₀ h) (does_nothing (keeps_word g₀ id told)) (λ x. is_among t x.now.begun ≡ false) (λ whole. fresh)
      (λ part. cond_both (is_among id g₀.begun) (record g₀ { kept = g₀.kept ++ h ∷ [] }) g₀ (λ x. is_among t x.begun ≡ false) (λ begun. fresh) (λ unheard. fresh)))

  old_after : (n : ℕ) (t : SwitchId) → slice_get f.plan.ids n ≡ Some t → is_silent orders n ≡ true → IsOld (gathered after) t (read (m.reports n))
  old_after n t named_t silent =
      let old = well.old n t named_t (sym (silent_as n) ∙ silent) in
      record {
        not_begun = begun_before t old.not_begun (λ same. first same old.begins_none) (kind told);
        begins_none = subst (λ e. AllByRecursion (λ r. begins e r ≡ false) (read (m.reports n))) (sym epoch_is) (rest old.begins_none);
      }
    where
      first : same_switch id t ≡ true → AllByRecursion (λ r. begins g₀.epoch r ≡ false) (read (f.reports n)) → begins g₀.epoch r₀ ≡ false
      first same all =
          let one : n ≡ s = ids_apart f.plan is n s id (named_t ∙ ap Some (sym (switch_is id t same))) named in
          (subst (λ q. AllByRecursion (λ r. begins g₀.epoch r ≡ false) (read q)) (ap f.reports one ∙ taken.first) all).0

      rest : AllByRecursion (λ r. begins g₀.epoch r ≡ false) (read (f.reports n)) → AllByRecursion (λ r. begins g₀.epoch r ≡ false) (read (m.reports n))
      rest all = elim (cases_eq n s) [
        | inl one ↦
            subst (λ x. AllByRecursion (λ r. begins g₀.epoch r ≡ false) (read (m.reports x))) (sym one)
            (subst (λ q. AllByRecursion (λ r. begins g₀.epoch r ≡ false) (read q)) (ap f.reports one ∙ taken.first) all).1
        | inr differ ↦ subst (λ q. AllByRecursion (λ r. begins g₀.epoch r ≡ false) (read q)) (sym (taken.others n differ)) all
      ]

  -- ---- while a report is missing nothing is known
  part_before : is_whole now ≡ false → is_whole g₀ ≡ false
  part_before part = elim (cases_Bool (is_whole g₀)) [
    | inl whole ↦ absurd (false≢true (sym part ∙ ap is_whole (hearing.now_is f m g is well s id told named taken turns r₀)
        ∙ whole_later g₀ id queue hearing.treat waits_for_places hearing.after_all r₀ whole))
    | inr missing ↦ missing
  ]

  -- ---- once none is, each switch has heard of the epoch
  all_begun : is_whole g₀ ≡ false → is_whole now ≡ true → (k : Kind told) → (t : SwitchId) → has f.plan.ids t ≡ true → is_among t g₀.begun ≡ false → ⊥
  all_begun part whole (IsBegin n so) t known fresh =
      absurd (false≢true (sym (subst (λ r. is_whole (stepped r).now ≡ false) (sym so) (hearing.begin_still f m g is well s id told named taken turns n part)) ∙ whole))
  all_begun part whole (IsPlain so) t known fresh =
      absurd (false≢true (sym (subst (λ r. is_whole (stepped r).now ≡ false) (sym so) (hearing.word_still f m g is well s id told named taken turns told part)) ∙ whole))
  all_begun part whole (IsEnd n so) t known fresh =
      cond_both (is_void_end g₀ id n) (does_nothing g₀) (steps_at_end treats waits_for_places follows g₀ id) (λ x. is_whole x.now ≡ true → ⊥)
      (λ void w. absurd (false≢true (sym part ∙ w)))
      (λ heard.
      let two = or_parts (is_whole g₀) (not (n == g₀.epoch && is_among id g₀.begun) || is_among id g₀.ended) heard in
      let more = or_parts (not (n == g₀.epoch && is_among id g₀.begun)) (is_among id g₀.ended) two.1 in
      let here = and_parts (n == g₀.epoch) (is_among id g₀.begun) (unnot (n == g₀.epoch && is_among id g₀.begun) more.0) in
      cond_both (is_whole (with_ended id g₀)) (goes_through treats waits_for_places follows (with_ended id g₀)) (does_nothing (with_ended id g₀)) (λ x. is_whole x.now ≡ true → ⊥)
      (λ last w. someone (everyone f.plan.ids g₀ well.orderly id (hearing.there f m g is well s id told named taken turns) mark (λ u stranger. unmarked (has f.plan.ids u) stranger)
      part here.1 more.1 last t fresh))
      (λ missing w. absurd (false≢true (sym missing ∙ w))))
      (subst (λ r. is_whole (stepped r).now ≡ true) so whole)
    where
      unnot : (b : Bool) → not b ≡ false → b ≡ true
      unnot true h = refl
      unnot false h = absurd (cc h)

      -- something stands at each switch of the wiring
      mark : SwitchId → List (Report ToManager)
      mark u = cond (has f.plan.ids u) (End 0 ∷ []) []

      unmarked : (b : Bool) → b ≡ false → ◌≡◌ {A = List (Report ToManager)} (cond b (End 0 ∷ []) []) []
      unmarked true stranger = absurd (cc stranger)
      unmarked false stranger = refl

      someone : mark t ≡ [] → ⊥
      someone none = let some = sym (ap (λ b. cond b (End 0 ∷ []) []) known) ∙ none in absurd (cc some)

  -- ---- all of it
  well_after : GathersBy f.plan.ids after m.reports orders
  well_after = record {
    orderly = orderly_after;
    plain = plain_now (kind told);
    coming = coming_after;
    old = old_after;
    anew = λ missing.
        let part : is_whole now ≡ false = sym whole_is ∙ missing in
        let was = part_before part in
        let rests = hearing.still_rests f m g is well s id told named taken turns was part in
        let before = well.anew was in
        record {
          knows_nothing = hearing.treated_same f m g is well s id told named taken turns rests ∙ before.knows_nothing
              ∙ (λ i. restarted_manager (size_back i) (epoch_back i));
          orders_alone = λ n t named_t.
              subst (λ e. IsHelloAlone e (orders n)) epoch_back
              (subst (IsHelloAlone f.manager.epoch) (sym (ap (λ acts. f.orders n ++ ordered f.plan n acts) rests.acts ∙ append-nil (f.orders n))) (before.orders_alone n t named_t));
        };
    loud = λ whole n t named_t. silent_as n ∙ (elim (cases_Bool (is_whole g₀)) [
      | inl before ↦ well.loud before n t named_t
      | inr part ↦ elim (cases_Bool (is_silent f.orders n)) [
        | inr loud ↦ loud
        | inl silent ↦ absurd (all_begun part (sym whole_is ∙ whole) (kind told) t (hearing.known f m g is well s id told named taken turns n t named_t)
            (well.old n t named_t silent).not_begun)
      ]
    ]);
  }
    where
      epoch_back : f.manager.epoch ≡ now.epoch
      epoch_back = sym epoch_is

      size_back : f.manager.k ≡ after.k
      size_back = sym (hearing.size_is f m g is well s id told named taken turns)

  pub heard_well : GathersWell g
  heard_well =
      subst (λ (p : Plan). GathersBy p.ids g.manager g.reports g.orders) (sym (hearing.plan_is f m g is well s id told named taken turns))
      (subst (λ (v : ManagerView). GathersBy f.plan.ids v g.reports g.orders) (sym (hearing.manager_is f m g is well s id told named taken turns))
      (subst (λ (q : ℕ → List ToManager). GathersBy f.plan.ids after q g.orders) (sym (fun_ext turns.reports))
      (subst (GathersBy f.plan.ids after m.reports) (sym (fun_ext (hearing.orders_are f m g is well s id told named taken turns))) well_after)))

  pub silent_after : (n : ℕ) → is_silent g.orders n ≡ is_silent f.orders n
  silent_after n = ap (list_any is_hello) (hearing.orders_are f m g is well s id told named taken turns n) ∙ silent_as n

  pub epoch_after : g.manager.epoch ≡ f.manager.epoch
  epoch_after = ap (λ (v : ManagerView). v.epoch) (hearing.manager_is f m g is well s id told named taken turns) ∙ epoch_is
