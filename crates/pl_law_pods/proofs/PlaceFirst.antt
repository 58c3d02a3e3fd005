-- While a report is missing, of the report of each switch that was greeted its place comes first: each step keeps it so.
use Rattle.std.proofs.Common.{◌≡◌, ℕ, ◌==◌, ◌&&◌, ◌||◌, not, nat_le, Bool, true, false, cond, List, [], ◌∷◌, ◌++◌, length, Some, slice_get, refl, sym, ap, ◌∙◌, subst, subst₂, inl, inr, append-nil, append_assoc, eqb-true, eq-eqb}
use Rattle.std.specs.List.{AllByRecursion, list_any}
use Rattle.std.proofs.lemmas.Bool.{and_parts, cases_Bool, cases_eq, cond_both, false≢true, or_left, or_parts}
use Rattle.std.proofs.lemmas.Option.{same_Some}
use Rattle.pl_frame.specs.declared.address.SwitchId.{SwitchId}
use Rattle.pl_frame.proofs.Exports.{same_id}
use Rattle.pl_layouts.specs.declared.place.Place.{Place}
use Rattle.pl_layouts.specs.Equality.{same_switch}
use Rattle.pl_layouts.proofs.Exports.{switch_itself}
use Rattle.pl_wiring.specs.Plan.{IsPlan, Plan}
use Rattle.pl_gathering.specs.Acting.{Step, does_nothing, goes_through, is_void_end, steps, steps_at_end, steps_at_word}
use Rattle.pl_gathering.specs.Gathering.{Gathered, Heard, Report, is_among, is_whole, keeps_word, kept_of, with_ended}
use Rattle.pl_gathering.specs.Gathering.Report.{Tells}
use Rattle.pl_gathering.specs.Orderly.{begins}
use Rattle.pl_node.specs.declared.acts.ManagerAct.{ManagerAct}
use Rattle.pl_node.specs.declared.messages.ToManager.{ToManager}
use Rattle.pl_node.specs.declared.messages.ToManager.TheVariants as tell
use Rattle.pl_node.specs.declared.messages.ToSwitch.{ToSwitch}
use Rattle.pl_node.specs.declared.messages.ToSwitch.TheVariants as say
use Rattle.pl_node.specs.ManagerDuties.{IsGrown}
use Rattle.pl_node.specs.ManagerFacts.{switch_count}
use Rattle.pl_node.specs.ManagerViews.{ManagerView}
use Rattle.pl_node.specs.SwitchInputs.SwitchInput.{Says}
use Rattle.pl_switch_rule.specs.Reporting.{addresses_reported, links_reported, members_reported, report_for, wish_reported}
use Rattle.pl_switch_rule.specs.SwitchRule.{switch_step}
use Rattle.pl_manager_rule.specs.Treating.{Treating, as_report, follows, treats, waits_for_places}
use Rattle.pl_manager_rule.specs.WholeRule.{as_step, gathered, manager_steps, viewed, whole_rule}
use Rattle.pl_manager_rule.proofs.Exports.{whole_answers}
use Rattle.pl_law_control_plane.specs.ControlPlanes.{ControlPlane, tells}
use Rattle.pl_law_control_plane.specs.PlaneSteps.{AreAsBefore, IsLeft, IsReportTaken, ManagerTurns, ordered}
use Rattle.pl_law_control_plane.proofs.Exports.{any_append}
use Rattle.pl_law_due.specs.Due.{is_hello, is_silent, read}
use Rattle.pl_law_due.specs.Gathering.{GathersWell}
use Rattle.pl_law_due.proofs.Exports.{each_tells, ids_apart}
use Rattle.pl_law_pods.specs.Numbering.{PlaceComesFirst, PlacesComeFirst}
use Rattle.pl_law_pods.specs.Numbering.PlaceComesFirst.{IsBehind, IsNext, WasKept}
use Rattle.pl_law_pods.proofs.Acting.{SwitchActs, TakesOrder}
use Rattle.pl_law_pods.proofs.Acting.TakesOrder.{AnOrder, NoOrder}

-- ---- more is told
first_told : (epoch : ℕ) (begun ended : Bool) (kept queue more : List ToManager) → PlaceComesFirst epoch begun ended kept queue →
    PlaceComesFirst epoch begun ended kept (queue ++ more)
first_told epoch begun ended kept queue more (WasKept place rest is) = WasKept place rest is
first_told epoch begun ended kept queue more (IsNext place rest b e k is) = IsNext place (rest ++ more) b e k (ap (λ q. q ++ more) is)
first_told epoch begun ended kept queue more (IsBehind place old rest b none is) =
    IsBehind place old (rest ++ more) b none (ap (λ q. q ++ more) is ∙ append_assoc old (tell.Begin epoch ∷ tell.Place place ∷ rest) more)

-- what stands behind the place in a report
abbrev behind_place : ℕ → List ToManager → List ToManager → List ToManager → List ToManager → List ToManager
behind_place epoch links wish addresses members = ((links ++ wish) ++ (addresses ++ members)) ++ tell.End epoch ∷ []

module _ (f g : ControlPlane) (is : IsPlan f.plan) (well : GathersWell f) (first : PlacesComeFirst f) (a : SwitchActs f g) where
  abbrev s : ℕ
  s = a.switch

  manager_then : g.manager ≡ f.manager
  manager_then = a.turns.acted.manager ∙ a.manager

  abbrev IsFirstIn : SwitchId → List ToManager → Type 0
  IsFirstIn id queue = PlaceComesFirst f.manager.epoch (is_among id f.manager.begun) (is_among id f.manager.ended) (kept_of id f.manager.kept) queue

  acts_here : (id : SwitchId) → slice_get f.plan.ids s ≡ Some id → is_whole (gathered f.manager) ≡ false → is_silent g.orders s ≡ false →
      IsFirstIn id (g.reports s)
  acts_here id named part loud =
      subst (IsFirstIn id) (sym (a.turns.acted.reports ∙ ap (λ r. r ++ tells a.turns.acts) (a.reports s))) (elim (cases_Bool (is_silent f.orders s)) [
        | inr before ↦ first_told f.manager.epoch (is_among id f.manager.begun) (is_among id f.manager.ended) (kept_of id f.manager.kept) (f.reports s)
            (tells a.turns.acts) (first part s id named before)
        | inl silent ↦ by silent a.takes
      ])
    where
      by : is_silent f.orders s ≡ true → TakesOrder f a.mid s a.input → IsFirstIn id (f.reports s ++ tells a.turns.acts)
      by silent (NoOrder same none) = absurd (false≢true (sym loud ∙ ap (list_any is_hello) (a.turns.acted.orders s ∙ same) ∙ silent))
      by silent (AnOrder says order taken) = elim ((well.anew part).orders_alone s id named) [
        | inl none ↦ absurd (false≢true (sym (ap (list_any is_hello) none) ∙ silent))
        | inr alone ↦
            let w = a.mid.view s in
            let hello : says ≡ say.Hello f.manager.epoch = front says (say.Hello f.manager.epoch) (a.mid.orders s) [] (sym taken ∙ alone) in
            let words : tells a.turns.acts ≡ report_for f.manager.epoch w =
            ap tells a.turns.ruled.steps.done ∙ ap (λ x. tells (switch_step a.turns.ruled.choose w x).acts) (order ∙ ap (λ x. Says x) hello)
            ∙ each_tells (report_for f.manager.epoch w) in
            let old = well.old s id named silent in
            IsBehind w.place (f.reports s)
            (behind_place f.manager.epoch (links_reported w) (wish_reported w.place) (addresses_reported w) (members_reported w)) old.not_begun old.begins_none
            (ap (λ ws. f.reports s ++ ws) words)
      ]
        where
          front : (x y : ToSwitch) (xs ys : List ToSwitch) → x ∷ xs ≡ y ∷ ys → x ≡ y
          front x y xs ys same = cc same

  pub acts_first : PlacesComeFirst g
  acts_first part t id named loud =
      let missing : is_whole (gathered f.manager) ≡ false = ap (λ (v : ManagerView). is_whole (gathered v)) (sym manager_then) ∙ part in
      let there : slice_get f.plan.ids t ≡ Some id = ap (λ (p : Plan). slice_get p.ids t) (sym (a.turns.acted.plan ∙ a.plan)) ∙ named in
      subst (λ (v : ManagerView). PlaceComesFirst v.epoch (is_among id v.begun) (is_among id v.ended) (kept_of id v.kept) (g.reports t)) (sym manager_then)
      (elim (cases_eq t s) [
        | inl here ↦
            subst (λ x. IsFirstIn id (g.reports x)) (sym here)
            (acts_here id (ap (slice_get f.plan.ids) (sym here) ∙ there) missing (ap (is_silent g.orders) (sym here) ∙ loud))
        | inr other ↦
            let orders = a.turns.acted.orders t ∙ a.others t other in
            subst (IsFirstIn id) (sym (a.turns.acted.other_reports t other ∙ a.reports t))
            (first missing t id there (ap (list_any is_hello) (sym orders) ∙ loud))
      ])

-- ---- the manager hears a word, and a report is missing still
-- how it gathers then
pub data Collects (v w : ManagerView) (id : SwitchId) (told : ToManager) : Type 0 where
  Ignores : w.begun ≡ v.begun → w.ended ≡ v.ended → w.kept ≡ v.kept →
      (is_among id v.begun ≡ true → (as_report told ≡ Tells told → ⊥)) → (is_among id v.begun ≡ false → begins v.epoch (as_report told) ≡ true → ⊥) →
      Collects v w id told
  BeginsIt : (n : ℕ) → told ≡ tell.Begin n → (n == v.epoch) ≡ true → is_among id v.begun ≡ false → w.begun ≡ id ∷ v.begun → w.ended ≡ v.ended →
      w.kept ≡ v.kept → Collects v w id told
  EndsIt : (n : ℕ) → told ≡ tell.End n → is_among id v.begun ≡ true → w.begun ≡ v.begun → w.ended ≡ id ∷ v.ended → w.kept ≡ v.kept → Collects v w id told
  KeepsIt : is_among id v.begun ≡ true → w.begun ≡ v.begun → w.ended ≡ v.ended → w.kept ≡ v.kept ++ record { switch = id; word = told } ∷ [] →
      Collects v w id told

pub record IsMissing (v w : ManagerView) (id : SwitchId) (told : ToManager) : Type 0 where
  pub part : is_whole (gathered v) ≡ false
  pub epoch : w.epoch ≡ v.epoch
  pub collects : Collects v w id told

module _ (v : ManagerView) (id : SwitchId) where
  abbrev g₀ : Gathered Treating ToManager
  g₀ = gathered v

  abbrev After : Report ToManager → ManagerView
  After r = (as_step (steps treats waits_for_places follows g₀ id r)).view

  abbrev Goal : ToManager → ManagerView → Type 0
  Goal told w = is_whole (gathered w) ≡ false → w.k ≡ v.k → IsMissing v w id told

  word_gathers : (word : ToManager) → as_report word ≡ Tells word → (begins v.epoch (as_report word) ≡ true → ⊥) → Goal word (After (Tells word))
  word_gathers word is_word no_begin =
      let h : Heard ToManager = record { switch = id; word = word } in
      cond_both (is_whole g₀) (steps_at_word treats follows g₀ h) (does_nothing (keeps_word g₀ id word))
      (λ (st : Step Treating ToManager ManagerAct). Goal word (viewed st.now))
      (λ whole missing size. absurd (false≢true (sym missing ∙ ap (λ k. (v.epoch == 0) || nat_le (switch_count k) (length v.ended)) size ∙ whole)))
      (λ part. cond_both (is_among id g₀.begun) (record g₀ { kept = g₀.kept ++ h ∷ [] }) g₀ (λ (g : Gathered Treating ToManager). Goal word (viewed g))
      (λ begun missing size. record { part = part; epoch = refl; collects = KeepsIt begun refl refl refl })
      (λ unheard missing size. record {
        part = part;
        epoch = refl;
        collects = Ignores refl refl refl (λ begun. absurd (false≢true (sym unheard ∙ begun))) (λ fresh begin. no_begin begin);
      }))

  begin_gathers : (n : ℕ) → Goal (tell.Begin n) (After (as_report (tell.Begin n)))
  begin_gathers n =
      cond_both (is_whole g₀ || (not (n == g₀.epoch) || is_among id g₀.begun)) g₀ (record g₀ { begun = id ∷ g₀.begun })
      (λ (g : Gathered Treating ToManager). Goal (tell.Begin n) (viewed g))
      (λ void missing size. record {
        part = missing;
        epoch = refl;
        collects = Ignores refl refl refl (λ begun same. absurd (cc same))
            (λ fresh begin. ignored (is_whole g₀) (n == v.epoch) (is_among id v.begun) void missing begin fresh);
      })
      (λ heard missing size.
      let two = or_parts (is_whole g₀) (not (n == g₀.epoch) || is_among id g₀.begun) heard in
      let more = or_parts (not (n == g₀.epoch)) (is_among id g₀.begun) two.1 in
      record { part = missing; epoch = refl; collects = BeginsIt n refl (unnot (n == g₀.epoch) more.0) more.1 refl refl refl })
    where
      unnot : (b : Bool) → not b ≡ false → b ≡ true
      unnot true h = refl
      unnot false h = absurd (cc h)

      ignored : (w n_is b : Bool) → (w || (not n_is || b)) ≡ true → w ≡ false → n_is ≡ true → b ≡ false → ⊥
      ignored w n_is b void missing begin fresh = false≢true (sym (ap (λ x. x || (not n_is || b)) missing ∙ ap (λ x. not x || b) begin ∙ fresh) ∙ void)

  end_gathers : (n : ℕ) → Goal (tell.End n) (After (as_report (tell.End n)))
  end_gathers n =
      cond_both (is_void_end g₀ id n) (does_nothing g₀) (steps_at_end treats waits_for_places follows g₀ id)
      (λ (st : Step Treating ToManager ManagerAct). Goal (tell.End n) (viewed st.now))
      (λ void missing size. record {
        part = missing;
        epoch = refl;
        collects = Ignores refl refl refl (λ begun same. absurd (cc same)) (λ fresh begin. absurd (false≢true begin));
      })
      (λ heard.
      let two = or_parts (is_whole g₀) (not (n == g₀.epoch && is_among id g₀.begun) || is_among id g₀.ended) heard in
      let more = or_parts (not (n == g₀.epoch && is_among id g₀.begun)) (is_among id g₀.ended) two.1 in
      let here = and_parts (n == g₀.epoch) (is_among id g₀.begun) (unnot (n == g₀.epoch && is_among id g₀.begun) more.0) in
      cond_both (is_whole (with_ended id g₀)) (goes_through treats waits_for_places follows (with_ended id g₀)) (does_nothing (with_ended id g₀))
      (λ (st : Step Treating ToManager ManagerAct). Goal (tell.End n) (viewed st.now))
      (λ last missing size. absurd (false≢true (sym missing ∙ ap (λ k. (v.epoch == 0) || nat_le (switch_count k) (length (id ∷ v.ended))) size ∙ last)))
      (λ early missing size. record { part = two.0; epoch = refl; collects = EndsIt n refl here.1 refl refl refl }))
    where
      unnot : (b : Bool) → not b ≡ false → b ≡ true
      unnot true h = refl
      unnot false h = absurd (cc h)

  pub gathers_as : (told : ToManager) → Goal told (manager_steps v id told).view
  unfolding manager_steps
  gathers_as (tell.Begin n) = begin_gathers n
  gathers_as (tell.End n) = end_gathers n
  gathers_as (tell.Place place) = word_gathers (tell.Place place) refl (λ begin. absurd (false≢true begin))
  gathers_as (tell.Link u usable) = word_gathers (tell.Link u usable) refl (λ begin. absurd (false≢true begin))
  gathers_as tell.PodWanted = word_gathers tell.PodWanted refl (λ begin. absurd (false≢true begin))
  gathers_as (tell.Learned a b c) = word_gathers (tell.Learned a b c) refl (λ begin. absurd (false≢true begin))
  gathers_as (tell.Aged a b) = word_gathers (tell.Aged a b) refl (λ begin. absurd (false≢true begin))
  gathers_as (tell.Trapped a b c) = word_gathers (tell.Trapped a b c) refl (λ begin. absurd (false≢true begin))
  gathers_as (tell.Query a b c) = word_gathers (tell.Query a b c) refl (λ begin. absurd (false≢true begin))
  gathers_as (tell.Members group any) = word_gathers (tell.Members group any) refl (λ begin. absurd (false≢true begin))

kept_of_append : (id : SwitchId) (xs ys : List (Heard ToManager)) → kept_of id (xs ++ ys) ≡ kept_of id xs ++ kept_of id ys
kept_of_append id [] ys = refl
kept_of_append id (x ∷ xs) ys = by (same_switch x.switch id) (kept_of_append id xs ys)
  where
    by : (b : Bool) → kept_of id (xs ++ ys) ≡ kept_of id xs ++ kept_of id ys →
        cond b (x.word ∷ kept_of id (xs ++ ys)) (kept_of id (xs ++ ys)) ≡ cond b (x.word ∷ kept_of id xs) (kept_of id xs) ++ kept_of id ys
    by true rest = ap (λ ws. x.word ∷ ws) rest
    by false rest = rest

-- of the switch that is heard
module _ (v w : ManagerView) (id : SwitchId) (told : ToManager) (queue rest : List ToManager) (taken : queue ≡ told ∷ rest) (missing : IsMissing v w id told)
    (unbegun_none : is_among id v.begun ≡ false → kept_of id v.kept ≡ []) (ended_begun : is_among id v.ended ≡ true → is_among id v.begun ≡ true) where
  abbrev FirstIn : ManagerView → List ToManager → Type 0
  FirstIn u q = PlaceComesFirst u.epoch (is_among id u.begun) (is_among id u.ended) (kept_of id u.kept) q

  front : (x y : ToManager) (xs ys : List ToManager) → x ∷ xs ≡ y ∷ ys → x ≡ y
  front x y xs ys same = cc same

  behind : (x y : ToManager) (xs ys : List ToManager) → x ∷ xs ≡ y ∷ ys → xs ≡ ys
  behind x y xs ys same = cc same

  -- what was kept is kept
  kept_more : Collects v w id told → (place : Place) (others : List ToManager) → kept_of id v.kept ≡ tell.Place place ∷ others → FirstIn w rest
  kept_more (Ignores b e k x y) place others is = WasKept place others (ap (kept_of id) k ∙ is)
  kept_more (BeginsIt n so here fresh b e k) place others is = WasKept place others (ap (kept_of id) k ∙ is)
  kept_more (EndsIt n so begun b e k) place others is = WasKept place others (ap (kept_of id) k ∙ is)
  kept_more (KeepsIt begun b e k) place others is =
      let h : Heard ToManager = record { switch = id; word = told } in
      WasKept place (others ++ kept_of id (h ∷ [])) (ap (kept_of id) k ∙ kept_of_append id v.kept (h ∷ []) ∙ ap (λ ws. ws ++ kept_of id (h ∷ [])) is)

  next_kept : Collects v w id told → (place : Place) → is_among id v.begun ≡ true → kept_of id v.kept ≡ [] → told ≡ tell.Place place → FirstIn w rest
  next_kept (Ignores b e k no_word x) place begun none is = absurd (no_word begun (ap as_report is ∙ ap (λ t. Tells t) (sym is)))
  next_kept (BeginsIt n so here fresh b e k) place begun none is = absurd (false≢true (sym fresh ∙ begun))
  next_kept (EndsIt n so x b e k) place begun none is = (let apart = sym so ∙ is in absurd (cc apart))
  next_kept (KeepsIt x b e k) place begun none is =
      let h : Heard ToManager = record { switch = id; word = told } in
      WasKept place []
      (ap (kept_of id) k ∙ kept_of_append id v.kept (h ∷ []) ∙ ap (λ ws. ws ++ kept_of id (h ∷ [])) none
      ∙ ap (λ c. cond c (told ∷ []) []) (switch_itself id) ∙ ap (λ t. t ∷ []) is)

  behind_next : Collects v w id told → (place : Place) (old others : List ToManager) → is_among id v.begun ≡ false →
      AllByRecursion (λ r. begins v.epoch r ≡ false) (read old) →
      told ∷ rest ≡ old ++ tell.Begin v.epoch ∷ tell.Place place ∷ others → FirstIn w rest
  behind_next collects place [] others fresh none is = by collects (front told (tell.Begin v.epoch) rest (tell.Place place ∷ others) is)
      (behind told (tell.Begin v.epoch) rest (tell.Place place ∷ others) is)
    where
      not_ended : is_among id v.ended ≡ false
      not_ended = elim (cases_Bool (is_among id v.ended)) [
        | inl ended ↦ absurd (false≢true (sym fresh ∙ ended_begun ended))
        | inr missing ↦ missing
      ]

      by : Collects v w id told → told ≡ tell.Begin v.epoch → rest ≡ tell.Place place ∷ others → FirstIn w rest
      by (Ignores b e k x no_begin) begin next = absurd (no_begin fresh (ap (λ t. begins v.epoch (as_report t)) begin ∙ eq-eqb v.epoch v.epoch refl))
      by (BeginsIt n so here y b e k) begin next =
          IsNext place others (ap (is_among id) b ∙ or_left (same_switch id id) (is_among id v.begun) (switch_itself id)) (ap (is_among id) e ∙ not_ended)
          (ap (kept_of id) k ∙ unbegun_none fresh) next
      by (EndsIt n so begun b e k) begin next = absurd (false≢true (sym fresh ∙ begun))
      by (KeepsIt begun b e k) begin next = absurd (false≢true (sym fresh ∙ begun))
  behind_next collects place (o ∷ old) others fresh none is =
      by collects (front told o rest (old ++ tell.Begin v.epoch ∷ tell.Place place ∷ others) is)
      (behind told o rest (old ++ tell.Begin v.epoch ∷ tell.Place place ∷ others) is)
    where
      by : Collects v w id told → told ≡ o → rest ≡ old ++ tell.Begin v.epoch ∷ tell.Place place ∷ others → FirstIn w rest
      by (Ignores b e k x y) same next =
          IsBehind place old others (ap (is_among id) b ∙ fresh) (subst (λ n. AllByRecursion (λ r. begins n r ≡ false) (read old)) (sym missing.epoch) none.1)
          (next ∙ ap (λ n. old ++ tell.Begin n ∷ tell.Place place ∷ others) (sym missing.epoch))
      by (BeginsIt n so here y b e k) same next = absurd (false≢true (sym none.0 ∙ ap (λ t. begins v.epoch (as_report t)) (sym same ∙ so) ∙ here))
      by (EndsIt n so begun b e k) same next = absurd (false≢true (sym fresh ∙ begun))
      by (KeepsIt begun b e k) same next = absurd (false≢true (sym fresh ∙ begun))

  pub heard_first : FirstIn v queue → FirstIn w rest
  heard_first (WasKept place others is) = kept_more missing.collects place others is
  heard_first (IsNext place others begun ended none is) =
      next_kept missing.collects place begun none (front told (tell.Place place) rest others (sym taken ∙ is))
  heard_first (IsBehind place old others fresh none is) = behind_next missing.collects place old others fresh none (sym taken ∙ is)

-- of another switch
other_first : (v w : ManagerView) (id other : SwitchId) (told : ToManager) (queue : List ToManager) → IsMissing v w id told → same_switch id other ≡ false →
    PlaceComesFirst v.epoch (is_among other v.begun) (is_among other v.ended) (kept_of other v.kept) queue →
    PlaceComesFirst w.epoch (is_among other w.begun) (is_among other w.ended) (kept_of other w.kept) queue
other_first v w id other told queue missing apart first =
    same w.epoch (is_among other w.begun) (is_among other w.ended) (kept_of other w.kept) missing.epoch (begun missing.collects) (ended missing.collects)
    (kept missing.collects)
  where
    same : (epoch : ℕ) (b e : Bool) (k : List ToManager) → epoch ≡ v.epoch → b ≡ is_among other v.begun → e ≡ is_among other v.ended →
        k ≡ kept_of other v.kept → PlaceComesFirst epoch b e k queue
    same epoch b e k epochs bs es ks =
        subst (λ n. PlaceComesFirst n b e k queue) (sym epochs) (subst₂ (λ x y. PlaceComesFirst v.epoch x y k queue) (sym bs) (sym es)
        (subst (λ x. PlaceComesFirst v.epoch (is_among other v.begun) (is_among other v.ended) x queue) (sym ks) first))

    one_more : (ids more : List SwitchId) → more ≡ id ∷ ids → is_among other more ≡ is_among other ids
    one_more ids more is = ap (is_among other) is ∙ ap (λ b. b || is_among other ids) apart

    begun : Collects v w id told → is_among other w.begun ≡ is_among other v.begun
    begun (Ignores b e k x y) = ap (is_among other) b
    begun (BeginsIt n so here fresh b e k) = one_more v.begun w.begun b
    begun (EndsIt n so x b e k) = ap (is_among other) b
    begun (KeepsIt x b e k) = ap (is_among other) b

    ended : Collects v w id told → is_among other w.ended ≡ is_among other v.ended
    ended (Ignores b e k x y) = ap (is_among other) e
    ended (BeginsIt n so here fresh b e k) = ap (is_among other) e
    ended (EndsIt n so x b e k) = one_more v.ended w.ended e
    ended (KeepsIt x b e k) = ap (is_among other) e

    kept : Collects v w id told → kept_of other w.kept ≡ kept_of other v.kept
    kept (Ignores b e k x y) = ap (kept_of other) k
    kept (BeginsIt n so here fresh b e k) = ap (kept_of other) k
    kept (EndsIt n so x b e k) = ap (kept_of other) k
    kept (KeepsIt x b e k) =
        let h : Heard ToManager = record { switch = id; word = told } in
        ap (kept_of other) k ∙ kept_of_append other v.kept (h ∷ []) ∙ ap (λ c. kept_of other v.kept ++ cond c (told ∷ []) []) apart
        ∙ append-nil (kept_of other v.kept)

-- the manager acts
pub manager_first : (f m g : ControlPlane) → IsPlan f.plan → GathersWell f → (s : ℕ) (id : SwitchId) (told : ToManager) → slice_get f.plan.ids s ≡ Some id →
    IsReportTaken f s told m →
    ManagerTurns whole_rule m id told g → PlacesComeFirst f → PlacesComeFirst g
unfolding manager_steps
manager_first f m g is well s id told named taken turns first part t other there loud =
    let after = (manager_steps f.manager id told).view in
    let is_after : g.manager ≡ after = turns.manager ∙ turns.ruled.0 ∙ ap (λ v. (manager_steps v id told).view) taken.left.manager in
    let grown : IsGrown f.manager id after = whole_answers.grows f.manager id told after _ (refl, refl) in
    let missing = gathers_as f.manager id told (ap (λ (v : ManagerView). is_whole (gathered v)) (sym is_after) ∙ part) grown.k in
    let at : slice_get f.plan.ids t ≡ Some other = ap (λ (p : Plan). slice_get p.ids t) (sym (turns.plan ∙ taken.left.plan)) ∙ there in
    let before : is_silent f.orders t ≡ false =
    (or_parts (is_silent f.orders t) (list_any is_hello (ordered m.plan t turns.acts))
    (sym (ap (list_any is_hello) (turns.orders t ∙ ap (λ os. os ++ ordered m.plan t turns.acts) (taken.orders t))
    ∙ any_append is_hello (f.orders t) (ordered m.plan t turns.acts)) ∙ loud)).0 in
    let was = first missing.part t other at before in
    subst₂ (λ (v : ManagerView) q. PlaceComesFirst v.epoch (is_among other v.begun) (is_among other v.ended) (kept_of other v.kept) q) (sym is_after)
    (sym (turns.reports t))
    (elim (cases_eq t s) [
      | inl here ↦
          let one : id ≡ other = same_Some id other (sym named ∙ ap (slice_get f.plan.ids) (sym here) ∙ at) in
          subst₂ (λ x y. PlaceComesFirst after.epoch (is_among y after.begun) (is_among y after.ended) (kept_of y after.kept) (m.reports x)) (sym here) one
          (heard_first f.manager after id told (f.reports s) (m.reports s) taken.first missing (well.orderly.gathering.kept id) (well.orderly.begun id)
          (subst₂ (λ x y. PlaceComesFirst f.manager.epoch (is_among y f.manager.begun) (is_among y f.manager.ended) (kept_of y f.manager.kept)
          (f.reports x)) here (sym one) was))
      | inr differ ↦
          let apart : same_switch id other ≡ false = elim (cases_Bool (same_switch id other)) [
            | inr apart ↦ apart
            | inl same ↦ absurd (differ (ids_apart f.plan is t s id (at ∙ ap Some (sym (same_id id other (eqb-true id.0 other.0 same)))) named))
          ] in
          subst (PlaceComesFirst after.epoch (is_among other after.begun) (is_among other after.ended) (kept_of other after.kept)) (sym (taken.others t differ))
          (other_first f.manager after id other told (f.reports t) missing apart was)
    ])

-- nobody acts
pub left_first : (f g : ControlPlane) → IsLeft f g → AreAsBefore f g → PlacesComeFirst f → PlacesComeFirst g
left_first f g left same first part t id named loud =
    subst₂ (λ (v : ManagerView) q. PlaceComesFirst v.epoch (is_among id v.begun) (is_among id v.ended) (kept_of id v.kept) q) (sym left.manager)
    (sym (same.reports t))
    (first (ap (λ (v : ManagerView). is_whole (gathered v)) (sym left.manager) ∙ part) t id (ap (λ (p : Plan). slice_get p.ids t) (sym left.plan) ∙ named)
    (ap (list_any is_hello) (sym (same.orders t)) ∙ loud))
