-- The manager hears a switch: what that is to what is due.
use mathlib.Core.Path.{fun_ext}
use Rattle.std.proofs.Common.{◌≡◌, ℕ, ◌==◌, ◌||◌, ◌&&◌, Bool, true, false, cond, not, List, [], ◌∷◌, ◌++◌, Option, Some, None, slice_get, fold, refl, sym, ap, subst, ◌∙◌, inl, inr, append_assoc, append-nil}
use Rattle.std.specs.List.{AllByRecursion, filter, list_any}
use Rattle.std.proofs.lemmas.Bool.{cases_Bool, cases_eq, cond-true, cond_both, false≢true}
use Rattle.std.proofs.lemmas.Grind.{flat_map-append}
use Rattle.std.proofs.lemmas.Option.{same_Some}
use Rattle.pl_lemmas.proofs.Exports.{all_append, all_filter}
use Rattle.pl_frame.specs.declared.address.SwitchId.{SwitchId}
use Rattle.pl_layouts.specs.Equality.{same_switch}
use Rattle.pl_layouts.proofs.Exports.{switch_itself}
use Rattle.pl_wiring.specs.Plan.{IsPlan, Plan}
use Rattle.pl_gathering.specs.Acting.{Done, Step, does_nothing, goes_through, is_void_end, steps, steps_at_end, steps_at_word, then_treats, treats_all}
use Rattle.pl_gathering.specs.Gathering.{Gathered, Heard, Report, due, hears, hears_end, in_turn, is_among, is_whole, keeps_word, kept_of, with_ended, words}
use Rattle.pl_gathering.specs.Gathering.Report.{Begin, End, Tells}
use Rattle.pl_gathering.specs.Keeping.{before}
use Rattle.pl_gathering.specs.Orderly.{IsOrderly, has}
use Rattle.pl_gathering.proofs.Exports.{begin_first, does_nothing_yet, due_whole, end_due, hearing_orderly, IsGoneThrough, IsUnchanged, it_gathers, kept_both, last_end, nothing_treated}
use Rattle.pl_node.specs.declared.acts.ManagerAct.{ManagerAct}
use Rattle.pl_node.specs.declared.messages.ToManager.{ToManager}
use Rattle.pl_node.specs.declared.messages.ToManager.TheVariants as tell
use Rattle.pl_node.specs.ManagerDuties.{IsGrown}
use Rattle.pl_node.specs.ManagerFacts.{switch_count}
use Rattle.pl_manager_rule.specs.Treating.{Treating, as_report, follows, treats, waits_for_places}
use Rattle.pl_manager_rule.specs.WholeRule.{gathered, manager_steps, viewed, whole_rule}
use Rattle.pl_manager_rule.proofs.Exports.{whole_answers}
use Rattle.pl_law_control_plane.specs.ControlPlanes.{ControlPlane}
use Rattle.pl_law_control_plane.specs.PlaneSteps.{IsReportTaken, ManagerTurns, ordered, ordered_by}
use Rattle.pl_law_control_plane.proofs.Exports.{any_append}
use Rattle.pl_law_due.specs.Due.{at_id, due_of, due_plane, is_hello, is_silent, queue_of, read, treated, words_of}
use Rattle.pl_law_control_plane.specs.Restarts.{IsAlike}
use Rattle.pl_law_due.specs.DueSteps.{AllReleaseWhere, IsLast, IsTurned, ManagerPart, Parts, released, ReleasesWhere}
use Rattle.pl_law_due.specs.DueSteps.ManagerPart.{Released, Turned}
use Rattle.pl_law_due.specs.Gathering.{GathersWell}
use Rattle.pl_law_due.proofs.Ids.{at_named, at_stranger, ids_apart, named_there, switch_is, there_named}
use Rattle.pl_law_due.proofs.Plain.{each_other, ordered_other}
use Rattle.pl_law_due.proofs.Parts.{IsAt, all_treated, at_itself, left_of, plane_at}
use Rattle.pl_law_due.proofs.Treating.{each_epoch, follows_acts, follows_epoch, follows_view}

-- a word, or where a report begins or ends
pub data Kind (told : ToManager) : Type 0 where
  IsPlain : as_report told ≡ Tells told → Kind told
  IsBegin : (n : ℕ) → as_report told ≡ Begin n → Kind told
  IsEnd : (n : ℕ) → as_report told ≡ End n → Kind told

pub kind : (told : ToManager) → Kind told
kind (tell.Begin n) = IsBegin n refl
kind (tell.End n) = IsEnd n refl
kind (tell.Place place) = IsPlain refl
kind (tell.Link u usable) = IsPlain refl
kind tell.PodWanted = IsPlain refl
kind (tell.Learned a b c) = IsPlain refl
kind (tell.Aged a b) = IsPlain refl
kind (tell.Trapped a b c) = IsPlain refl
kind (tell.Query a b c) = IsPlain refl
kind (tell.Members group any) = IsPlain refl

kept_filter : {T : Type 0} (p : T → Bool) (s : SwitchId) (kept : List (Heard T)) → kept_of s (filter (λ h. p h.word) kept) ≡ filter p (kept_of s kept)
kept_filter p s [] = refl
kept_filter p s (h ∷ kept) = by (p h.word) refl (kept_filter p s kept)
  where
    by : (b : Bool) → p h.word ≡ b → kept_of s (filter (λ k. p k.word) kept) ≡ filter p (kept_of s kept) →
        kept_of s (cond b (h ∷ filter (λ k. p k.word) kept) (filter (λ k. p k.word) kept)) ≡ filter p (cond (same_switch h.switch s) (h.word ∷ kept_of s kept) (kept_of s kept))
    by true passes rest = two (same_switch h.switch s)
      where
        two : (d : Bool) → cond d (h.word ∷ kept_of s (filter (λ k. p k.word) kept)) (kept_of s (filter (λ k. p k.word) kept)) ≡ filter p (cond d (h.word ∷ kept_of s kept) (kept_of s kept))
        two true = ap (λ ws. h.word ∷ ws) rest ∙ sym (cond-true (p h.word) (h.word ∷ filter p (kept_of s kept)) (filter p (kept_of s kept)) passes)
        two false = rest
    by false fails rest = two (same_switch h.switch s)
      where
        two : (d : Bool) → kept_of s (filter (λ k. p k.word) kept) ≡ filter p (cond d (h.word ∷ kept_of s kept) (kept_of s kept))
        two true = rest ∙ sym (ap (λ b. cond b (h.word ∷ filter p (kept_of s kept)) (filter p (kept_of s kept))) fails)
        two false = rest

-- those of which a word is kept are switches of the wiring
kept_named : (ids begun : List SwitchId) (kept : List (Heard ToManager)) → ((t : SwitchId) → is_among t begun ≡ true → has ids t ≡ true) →
    ((t : SwitchId) → is_among t begun ≡ false → kept_of t kept ≡ []) → AllByRecursion (λ h. has ids h.switch ≡ true) kept
kept_named ids begun [] within none = tt
kept_named ids begun (h ∷ kept) within none = (first, kept_named ids begun kept within (λ t fresh. behind t (same_switch h.switch t) (none t fresh)))
  where
    behind : (t : SwitchId) (b : Bool) → cond b (h.word ∷ kept_of t kept) (kept_of t kept) ≡ [] → kept_of t kept ≡ []
    behind t true is = absurd (cc is)
    behind t false is = is

    first : has ids h.switch ≡ true
    first = elim (cases_Bool (is_among h.switch begun)) [
      | inl there ↦ within h.switch there
      | inr fresh ↦ (let own = sym (ap (λ b. cond b (h.word ∷ kept_of h.switch kept) (kept_of h.switch kept)) (switch_itself h.switch)) ∙ none h.switch fresh in absurd (cc own))
    ]

abbrev pub treat : Treating → Heard ToManager → Treating
treat k h = (treats k h).known

abbrev pub after_all : Treating → Treating
after_all k = (follows k).known

module _ (f m g : ControlPlane) (is : IsPlan f.plan) (well : GathersWell f) (s : ℕ) (id : SwitchId) (told : ToManager)
    (named : slice_get f.plan.ids s ≡ Some id) (taken : IsReportTaken f s told m) (turns : ManagerTurns whole_rule m id told g) where
  abbrev pub g₀ : Gathered Treating ToManager
  g₀ = gathered f.manager

  abbrev pub stepped : Report ToManager → Step Treating ToManager ManagerAct
  stepped r = steps treats waits_for_places follows g₀ id r

  abbrev pub st : Step Treating ToManager ManagerAct
  st = stepped (as_report told)

  -- what waits then, by the id of its switch
  abbrev pub queue : SwitchId → List (Report ToManager)
  queue t = at_id [] f.plan.ids (λ n. read (m.reports n)) t

  abbrev start : Done Treating ManagerAct
  start = record { known = g₀.known; acts = [] }

  -- ---- what the manager's turn is
  pub manager_is : g.manager ≡ viewed st.now
  unfolding manager_steps
  manager_is = turns.manager ∙ turns.ruled.0 ∙ ap (λ v. (manager_steps v id told).view) taken.left.manager

  acts_are : turns.acts ≡ st.acts
  unfolding manager_steps
  acts_are = turns.ruled.1 ∙ ap (λ v. (manager_steps v id told).acts) taken.left.manager

  pub plan_is : g.plan ≡ f.plan
  plan_is = turns.plan ∙ taken.left.plan

  pub orders_are : (t : ℕ) → g.orders t ≡ f.orders t ++ ordered f.plan t st.acts
  orders_are t =
      turns.orders t ∙ ap (λ os. os ++ ordered m.plan t turns.acts) (taken.orders t) ∙ ap (λ p. f.orders t ++ ordered p t turns.acts) taken.left.plan
      ∙ ap (λ acts. f.orders t ++ ordered f.plan t acts) acts_are

  grown : IsGrown f.manager id (viewed st.now)
  unfolding manager_steps
  grown = whole_answers.grows f.manager id told (viewed st.now) st.acts (refl, refl)

  alike : IsAlike (due_plane f) (due_plane g)
  alike = record {
    plan = plan_is;
    view = λ t. turns.view t ∙ taken.left.view t;
    says = λ t port. turns.says t port ∙ taken.messages t port;
    carries = λ t port carries. taken.left.carries t port (sym (turns.carries t port) ∙ carries);
  }

  pub there : has f.plan.ids id ≡ true
  there = named_there f.plan.ids s id named

  pub now_is : (r : Report ToManager) → (stepped r).now ≡ hears treat waits_for_places after_all g₀ id r
  now_is r = it_gathers treats waits_for_places follows g₀ id r

  pub orderly_now : IsOrderly f.plan.ids st.now
  orderly_now =
      subst (IsOrderly f.plan.ids) (sym (now_is (as_report told)))
      (hearing_orderly f.plan.ids g₀ well.orderly id there treat waits_for_places after_all (as_report told))

  pub many_then : switch_count (viewed st.now).k ≡ st.now.many
  many_then = ap switch_count grown.k ∙ well.orderly.many ∙ sym orderly_now.many

  pub epoch_is : st.now.epoch ≡ f.manager.epoch
  epoch_is = grown.epoch

  pub size_is : (viewed st.now).k ≡ f.manager.k
  size_is = grown.k

  pub known : (n : ℕ) (t : SwitchId) → slice_get f.plan.ids n ≡ Some t → has f.plan.ids t ≡ true
  known n t named_t = named_there f.plan.ids n t named_t

  -- ---- what is due, before it and behind it
  pub waits_at : (n : ℕ) (t : SwitchId) → slice_get f.plan.ids n ≡ Some t → queue t ≡ read (m.reports n)
  waits_at n t named_t = at_named [] f.plan.ids (ids_apart f.plan is) (λ i. read (m.reports i)) n t named_t

  pub strangers : (t : SwitchId) → has f.plan.ids t ≡ false → queue t ≡ []
  strangers t stranger = at_stranger [] f.plan.ids (λ n. read (m.reports n)) t stranger

  pub queue_before : queue_of f.plan.ids f.reports ≡ before id (as_report told) queue
  queue_before = fun_ext (λ t. elim (cases_Bool (has f.plan.ids t)) [
    | inl known ↦ (let it = there_named f.plan.ids t known in of_named t it.0 it.1)
    | inr stranger ↦ at_stranger [] f.plan.ids (λ n. read (f.reports n)) t stranger
        ∙ sym (ap (λ b. cond b (as_report told ∷ queue t) (queue t)) (other t stranger) ∙ strangers t stranger)
  ])
    where
      other : (t : SwitchId) → has f.plan.ids t ≡ false → same_switch id t ≡ false
      other t stranger = elim (cases_Bool (same_switch id t)) [
        | inl same ↦ absurd (false≢true (sym stranger ∙ subst (λ x. has f.plan.ids x ≡ true) (switch_is id t same) there))
        | inr apart ↦ apart
      ]

      of_named : (t : SwitchId) (n : ℕ) → slice_get f.plan.ids n ≡ Some t → queue_of f.plan.ids f.reports t ≡ before id (as_report told) queue t
      of_named t n named_t = at_named [] f.plan.ids (ids_apart f.plan is) (λ i. read (f.reports i)) n t named_t ∙ by (same_switch id t) refl
        where
          by : (b : Bool) → same_switch id t ≡ b → read (f.reports n) ≡ cond b (as_report told ∷ queue t) (queue t)
          by true same =
              let one : n ≡ s = ids_apart f.plan is n s id (named_t ∙ ap Some (sym (switch_is id t same))) named in
              ap (λ x. read (f.reports x)) one ∙ ap read taken.first ∙ sym (ap (λ q. as_report told ∷ q) (waits_at n t named_t ∙ ap (λ x. read (m.reports x)) one))
          by false apart = elim (cases_eq n s) [
            | inl one ↦ absurd (false≢true (sym apart ∙ subst (λ x. same_switch id x ≡ true) (same_id one) (switch_itself id)))
            | inr differ ↦ ap read (sym (taken.others n differ)) ∙ sym (waits_at n t named_t)
          ]
            where
              same_id : n ≡ s → id ≡ t
              same_id one = same_Some id t (sym named ∙ ap (slice_get f.plan.ids) (sym one) ∙ named_t)

  pub due_before : (n : ℕ) (t : SwitchId) → slice_get f.plan.ids n ≡ Some t → (due_plane f).reports n ≡ due g₀ (before id (as_report told) queue) t
  due_before n t named_t =
      ap (λ o. due_of f.manager o (f.reports n)) named_t
      ∙ ap (λ q. due g₀ (λ u. q) t) (sym (at_named [] f.plan.ids (ids_apart f.plan is) (λ i. read (f.reports i)) n t named_t))
      ∙ ap (λ qs. due g₀ qs t) queue_before

  due_behind : (n : ℕ) (t : SwitchId) → slice_get f.plan.ids n ≡ Some t → (due_plane g).reports n ≡ due st.now queue t
  due_behind n t named_t =
      (λ i. due_of (manager_is i) (slice_get (plan_is i).ids n) (turns.reports n i))
      ∙ ap (λ o. due_of (viewed st.now) o (m.reports n)) named_t
      ∙ (λ i. due (record (gathered (viewed st.now)) { many = many_then i }) (λ u. read (m.reports n)) t)
      ∙ ap (λ q. due st.now (λ u. q) t) (sym (waits_at n t named_t))

  nothing_before : (n : ℕ) → slice_get f.plan.ids n ≡ None → (due_plane f).reports n ≡ []
  nothing_before n none = ap (λ o. due_of f.manager o (f.reports n)) none

  nothing_behind : (n : ℕ) → slice_get f.plan.ids n ≡ None → (due_plane g).reports n ≡ []
  nothing_behind n none = (λ i. due_of (manager_is i) (slice_get (plan_is i).ids n) (g.reports n)) ∙ ap (λ o. due_of (viewed st.now) o (g.reports n)) none

  -- what is so of each switch with an id, and of a number without
  each_id : (R : ℕ → Type 0) → ((n : ℕ) (t : SwitchId) → slice_get f.plan.ids n ≡ Some t → R n) → ((n : ℕ) → slice_get f.plan.ids n ≡ None → R n) → (n : ℕ) → R n
  each_id R some none n = by (slice_get f.plan.ids n) refl
    where
      by : (o : Option SwitchId) → slice_get f.plan.ids n ≡ o → R n
      by None is_none = none n is_none
      by (Some t) is_some = some n t is_some

  -- what is so of the last part of what the manager does
  abbrev pub IsLastNow : ControlPlane → Type 0
  IsLastNow x = IsLast g x

  whole_now : is_whole (gathered g.manager) ≡ is_whole st.now
  whole_now = ap (λ v. is_whole (gathered v)) manager_is ∙ (λ i. is_whole (record (gathered (viewed st.now)) { many = many_then i }))

  or_none : (b : Bool) → (b || false) ≡ b
  or_none true = refl
  or_none false = refl

  -- ---- nothing is treated
  pub record Rests (r : Report ToManager) : Type 0 where
    pub unchanged : IsUnchanged g₀ id queue r (stepped r).now
    pub acts : (stepped r).acts ≡ []

  pub treated_same : Rests (as_report told) → treated (viewed st.now) ≡ treated f.manager
  treated_same so = λ i. record (so.unchanged.same i).view { epoch = epoch_is i; begun = []; ended = []; kept = [] }

  rests : Rests (as_report told) → (part : ManagerPart (due_plane f) (due_plane g)) × ReleasesWhere IsLastNow (due_plane f) (due_plane g) part
  rests so = (
    Released [] (record {
      alike = alike;
      reports = each_id (λ n. (due_plane g).reports n ≡ (due_plane f).reports n)
          (λ n t named_t. due_behind n t named_t ∙ ap (λ d. d t) so.unchanged.stays ∙ sym (due_before n t named_t))
          (λ n none. nothing_behind n none ∙ sym (nothing_before n none));
      orders = λ n. orders_are n ∙ ap (λ acts. f.orders n ++ ordered f.plan n acts) so.acts;
      manager = ap treated manager_is ∙ treated_same so;
    }),
    inl refl,
  )

  -- ---- and what follows, once these words were treated
  last_part : (heard : List (Heard ToManager)) → st.now.known ≡ (treats_all treats follows g₀.known heard).known →
      st.acts ≡ (treats_all treats follows g₀.known heard).acts → is_whole st.now ≡ true → (x : ControlPlane) →
      IsAt (record g { plan = f.plan }) is f.orders m.reports x [] (fold (then_treats treats) start heard) →
      (part : ManagerPart x (due_plane g)) × ReleasesWhere IsLastNow x (due_plane g) part
  last_part heard known acts whole x at = (
    Released done.known.aged (record {
      alike = record { plan = plan_is ∙ at.alike.plan; view = at.alike.view; says = at.alike.says; carries = at.alike.carries };
      reports = each_id (λ n. (due_plane g).reports n ≡ x.reports n)
          (λ n t named_t.
          due_behind n t named_t ∙ ap (λ d. d t) (due_whole st.now queue whole) ∙ ap (λ q. words q) (waits_at n t named_t)
          ∙ sym (at.reports n ∙ ap (λ o. left_of [] o (m.reports n)) named_t))
          (λ n none. nothing_behind n none ∙ sym (at.reports n ∙ ap (λ o. left_of [] o (m.reports n)) none));
      orders = λ n.
          orders_are n ∙ ap (λ xs. f.orders n ++ ordered f.plan n xs) acts
          ∙ ap (λ os. f.orders n ++ os) (flat_map-append (ordered_by f.plan n) done.acts (follows done.known).acts)
          ∙ sym (append_assoc (f.orders n) (ordered f.plan n done.acts) (ordered f.plan n (follows done.known).acts))
          ∙ sym (ap (λ os. os ++ ordered x.plan n (released x.manager done.known.aged).acts) (at.orders n)
          ∙ ap (λ p. (f.orders n ++ ordered f.plan n done.acts) ++ ordered p n (released x.manager done.known.aged).acts) (sym at.alike.plan)
          ∙ ap (λ xs. (f.orders n ++ ordered f.plan n done.acts) ++ ordered f.plan n xs) (ap (λ v. (released v done.known.aged).acts) at.manager ∙ follows_acts done.known));
      manager =
          ap treated manager_is
          ∙ (λ i. record (known i).view { epoch = epoch i; begun = []; ended = []; kept = [] })
          ∙ sym (ap (λ v. (released v done.known.aged).known.view) at.manager ∙ follows_view done.known);
    }),
    inr (record {
      plan = sym at.alike.plan ∙ sym plan_is;
      whole = whole_now ∙ whole;
      silence = λ n silent.
          let before : is_silent x.orders n ≡ is_silent f.orders n =
          ap (list_any is_hello) (at.orders n) ∙ any_append is_hello (f.orders n) (ordered f.plan n done.acts)
          ∙ ap (λ b. is_silent f.orders n || b) (ordered_other f.plan n done.acts (each_other heard start tt)) ∙ or_none (is_silent f.orders n) in
          ap (list_any is_hello) (orders_are n) ∙ any_append is_hello (f.orders n) (ordered f.plan n st.acts)
          ∙ ap (λ b. b || list_any is_hello (ordered f.plan n st.acts)) (sym before ∙ silent);
      reports = λ n t named_t.
          at.reports n ∙ ap (λ o. left_of [] o (m.reports n)) (ap (λ (p : Plan). slice_get p.ids n) (sym plan_is) ∙ named_t) ∙ ap words_of (sym (turns.reports n));
    }),
  )
    where
      done : Done Treating ManagerAct
      done = fold (then_treats treats) start heard

      epoch : st.now.epoch ≡ (follows done.known).known.view.epoch
      epoch = grown.epoch ∙ sym (follows_epoch done.known ∙ each_epoch heard start)

  base_alike : IsAlike (due_plane f) (record g { plan = f.plan })
  base_alike = record { plan = refl; view = alike.view; says = alike.says; carries = alike.carries }

  no_acts : (n : ℕ) → f.orders n ≡ f.orders n ++ ordered f.plan n start.acts
  no_acts n = sym (append-nil (f.orders n))

  -- ---- a word is treated at once
  word_parts : as_report told ≡ Tells told → is_whole g₀ ≡ true → (mids : List ControlPlane) × ((parts : Parts mids (due_plane f) (due_plane g)) × AllReleaseWhere IsLastNow mids (due_plane f) (due_plane g) parts)
  word_parts plain whole =
      all_treated (record g { plan = f.plan }) is f.orders m.reports IsLastNow (due_plane f) (due_plane g) (h ∷ []) start
      (record {
        alike = base_alike;
        reports = each_id (λ n. (due_plane f).reports n ≡ left_of (h ∷ []) (slice_get f.plan.ids n) (m.reports n))
            (λ n t named_t.
            due_before n t named_t ∙ ap (λ d. d t) (due_whole g₀ (before id (as_report told) queue) whole)
            ∙ ap (λ r. words (cond (same_switch id t) (r ∷ queue t) (queue t))) plain
            ∙ first t (same_switch id t)
            ∙ ap (λ q. kept_of t (h ∷ []) ++ words q) (waits_at n t named_t)
            ∙ sym (ap (λ o. left_of (h ∷ []) o (m.reports n)) named_t))
            (λ n none. nothing_before n none ∙ sym (ap (λ o. left_of (h ∷ []) o (m.reports n)) none));
        orders = no_acts;
        manager = refl;
      })
      (there, tt) (last_part (h ∷ []) (ap (λ x. x.now.known) steps_so) (ap (λ x. x.acts) steps_so) (ap (λ x. is_whole x.now) steps_so ∙ whole))
    where
      h : Heard ToManager
      h = record { switch = id; word = told }

      first : (t : SwitchId) (b : Bool) → words (cond b (Tells told ∷ queue t) (queue t)) ≡ cond b (told ∷ []) [] ++ words (queue t)
      first t true = refl
      first t false = refl

      steps_so : st ≡ steps_at_word treats follows g₀ h
      steps_so = ap stepped plain ∙ cond-true (is_whole g₀) (steps_at_word treats follows g₀ h) (does_nothing (keeps_word g₀ id told)) whole

  -- ---- the last report ends
  record Goes (step : Step Treating ToManager ManagerAct) : Type 0 where
    known : step.now.known ≡ (treats_all treats follows g₀.known (in_turn waits_for_places g₀.kept)).known
    acts : step.acts ≡ (treats_all treats follows g₀.known (in_turn waits_for_places g₀.kept)).acts

  end_goes : (n : ℕ) → is_whole g₀ ≡ false → is_whole (stepped (End n)).now ≡ true → Goes (stepped (End n))
  end_goes n part =
      cond_both (is_void_end g₀ id n) (does_nothing g₀) (steps_at_end treats waits_for_places follows g₀ id) (λ x. is_whole x.now ≡ true → Goes x)
      (λ void whole. absurd (false≢true (sym part ∙ whole)))
      (λ heard.
      cond_both (is_whole (with_ended id g₀)) (goes_through treats waits_for_places follows (with_ended id g₀)) (does_nothing (with_ended id g₀)) (λ x. is_whole x.now ≡ true → Goes x)
      (λ last whole. record { known = refl; acts = refl })
      (λ missing whole. absurd (false≢true (sym missing ∙ whole))))

  end_parts : (n : ℕ) → as_report told ≡ End n → is_whole g₀ ≡ false → is_whole st.now ≡ true → (mids : List ControlPlane) × ((parts : Parts mids (due_plane f) (due_plane g)) × AllReleaseWhere IsLastNow mids (due_plane f) (due_plane g) parts)
  end_parts n ends part whole =
      let goes : Goes st = subst (λ r. Goes (stepped r)) (sym ends) (end_goes n part (subst (λ r. is_whole (stepped r).now ≡ true) ends whole)) in
      let gone : IsGoneThrough treat waits_for_places after_all g₀ id queue n (hears_end treat waits_for_places after_all g₀ id n) =
      last_end treat waits_for_places after_all g₀ id queue f.plan.ids well.orderly there strangers n part
      (subst (λ (x : Gathered Treating ToManager). is_whole x ≡ true) (now_is (End n)) (subst (λ r. is_whole (stepped r).now ≡ true) ends whole)) in
      let heard = in_turn waits_for_places g₀.kept in
      let all = kept_named f.plan.ids g₀.begun g₀.kept well.orderly.within well.orderly.gathering.kept in
      let from = plane_at (record g { plan = f.plan }) is f.orders m.reports heard start in
      let rest = all_treated (record g { plan = f.plan }) is f.orders m.reports IsLastNow from (due_plane g) heard start
      (at_itself (record g { plan = f.plan }) is f.orders m.reports heard start)
      (all_append (λ h. has f.plan.ids h.switch ≡ true) (filter (λ h. not (waits_for_places h.word)) g₀.kept) (filter (λ h. waits_for_places h.word) g₀.kept)
      (all_filter (λ h. has f.plan.ids h.switch ≡ true) (λ h. not (waits_for_places h.word)) g₀.kept all)
      (all_filter (λ h. has f.plan.ids h.switch ≡ true) (λ h. waits_for_places h.word) g₀.kept all))
      (last_part heard goes.known goes.acts whole) in (
        from ∷ rest.0,
        (
          (
            Turned (record {
              alike = record { plan = refl; view = alike.view; says = alike.says; carries = alike.carries };
              reports = each_id (λ k. IsTurned ((due_plane f).reports k) (left_of heard (slice_get f.plan.ids k) (m.reports k)))
                  (λ k t named_t. record {
                    first = kept_of t g₀.kept;
                    others = words (read (m.reports k));
                    was = due_before k t named_t ∙ ap (λ r. due g₀ (before id r queue) t) ends ∙ ap (λ d. d t) gone.was_due ∙ ap (λ q. kept_of t g₀.kept ++ words q) (waits_at k t named_t);
                    now = ap (λ o. left_of heard o (m.reports k)) named_t ∙ ap (λ ws. ws ++ words (read (m.reports k))) (turned t);
                  })
                  (λ k none. record {
                    first = [];
                    others = [];
                    was = nothing_before k none;
                    now = ap (λ o. left_of heard o (m.reports k)) none;
                  });
              orders = λ k. sym (no_acts k);
              manager = refl;
            }),
            rest.1.0,
          ),
          (tt, rest.1.1),
        ),
      )
    where
      turned : (t : SwitchId) → kept_of t (in_turn waits_for_places g₀.kept)
          ≡ filter (λ w. not (waits_for_places w)) (kept_of t g₀.kept) ++ filter waits_for_places (kept_of t g₀.kept)
      turned t =
          kept_both t (filter (λ h. not (waits_for_places h.word)) g₀.kept) (filter (λ h. waits_for_places h.word) g₀.kept)
          ∙ (λ i. kept_filter (λ w. not (waits_for_places w)) t g₀.kept i ++ kept_filter waits_for_places t g₀.kept i)

  -- ---- where all reports were heard, a begin or an end is nothing
  begin_rests : (n : ℕ) → is_whole g₀ ≡ true → Rests (Begin n)
  begin_rests n whole = record {
    unchanged = cond_both (is_whole g₀ || (not (n == g₀.epoch) || is_among id g₀.begun)) g₀ (record g₀ { begun = id ∷ g₀.begun }) (IsUnchanged g₀ id queue (Begin n))
        (λ void. record {
          same = refl;
          stays = sym (due_whole g₀ (before id (Begin n) queue) whole ∙ fun_ext (λ t. begin_first id t n queue (same_switch id t)) ∙ sym (due_whole g₀ queue whole));
        })
        (λ heard. absurd (false≢true (sym heard ∙ ap (λ b. b || (not (n == g₀.epoch) || is_among id g₀.begun)) whole)));
    acts = refl;
  }

  end_rests : (n : ℕ) → is_whole g₀ ≡ true → Rests (End n)
  end_rests n whole = made (cond_both (is_void_end g₀ id n) (does_nothing g₀) (steps_at_end treats waits_for_places follows g₀ id)
      (λ x. (IsUnchanged g₀ id queue (End n) x.now) × (x.acts ≡ []))
      (λ void. (record { same = refl; stays = sym (end_due g₀ id n queue true whole) }, refl))
      (λ heard. absurd (false≢true (sym heard ∙ ap (λ b. b || (not (n == g₀.epoch && is_among id g₀.begun) || is_among id g₀.ended)) whole))))
    where
      made : (IsUnchanged g₀ id queue (End n) (stepped (End n)).now) × ((stepped (End n)).acts ≡ []) → Rests (End n)
      made both = record { unchanged = both.0; acts = both.1 }

  -- ---- while one is missing, only an end is the last of all
  pub begin_still : (n : ℕ) → is_whole g₀ ≡ false → is_whole (stepped (Begin n)).now ≡ false
  begin_still n part =
      cond_both (is_whole g₀ || (not (n == g₀.epoch) || is_among id g₀.begun)) g₀ (record g₀ { begun = id ∷ g₀.begun }) (λ x. is_whole x ≡ false) (λ void. part) (λ heard. part)

  pub word_still : (w : ToManager) → is_whole g₀ ≡ false → is_whole (stepped (Tells w)).now ≡ false
  word_still w part =
      let h : Heard ToManager = record { switch = id; word = w } in
      cond_both (is_whole g₀) (steps_at_word treats follows g₀ h) (does_nothing (keeps_word g₀ id w)) (λ x. is_whole x.now ≡ false)
      (λ whole. absurd (false≢true (sym part ∙ whole)))
      (λ missing. cond_both (is_among id g₀.begun) (record g₀ { kept = g₀.kept ++ h ∷ [] }) g₀ (λ x. is_whole x ≡ false) (λ begun. part) (λ unheard. part))

  pub still_rests : is_whole g₀ ≡ false → is_whole st.now ≡ false → Rests (as_report told)
  still_rests part still = record {
    unchanged = subst (IsUnchanged g₀ id queue (as_report told)) (sym (now_is (as_report told)))
        (nothing_treated g₀ id queue treat waits_for_places after_all (as_report told) well.orderly.gathering part
        (subst (λ (x : Gathered Treating ToManager). is_whole x ≡ false) (now_is (as_report told)) still));
    acts = does_nothing_yet treats waits_for_places follows g₀ id (as_report told) part still;
  }

  pub hearing_parts : (mids : List ControlPlane) × ((parts : Parts mids (due_plane f) (due_plane g)) × AllReleaseWhere IsLastNow mids (due_plane f) (due_plane g) parts)
  hearing_parts = elim (cases_Bool (is_whole g₀)) [
    | inl whole ↦ at_once whole (kind told)
    | inr part ↦ elim (cases_Bool (is_whole st.now)) [
      | inl last ↦ at_end part last (kind told)
      | inr still ↦ ([], rests (still_rests part still))
    ]
  ]
    where
      at_once : is_whole g₀ ≡ true → Kind told → (mids : List ControlPlane) × ((parts : Parts mids (due_plane f) (due_plane g)) × AllReleaseWhere IsLastNow mids (due_plane f) (due_plane g) parts)
      at_once whole (IsPlain plain) = word_parts plain whole
      at_once whole (IsBegin n begins) = ([], rests (subst Rests (sym begins) (begin_rests n whole)))
      at_once whole (IsEnd n ends) = ([], rests (subst Rests (sym ends) (end_rests n whole)))

      at_end : is_whole g₀ ≡ false → is_whole st.now ≡ true → Kind told → (mids : List ControlPlane) × ((parts : Parts mids (due_plane f) (due_plane g)) × AllReleaseWhere IsLastNow mids (due_plane f) (due_plane g) parts)
      at_end part last (IsPlain plain) = absurd (false≢true (sym (subst (λ r. is_whole (stepped r).now ≡ false) (sym plain) (word_still told part)) ∙ last))
      at_end part last (IsBegin n begins) = absurd (false≢true (sym (subst (λ r. is_whole (stepped r).now ≡ false) (sym begins) (begin_still n part)) ∙ last))
      at_end part last (IsEnd n ends) = end_parts n ends part last
