-- What the manager does with what it gathers is the step of its rule over all epochs.
use Rattle.std.proofs.Common.{◌≡◌, ℕ, ◌==◌, ◌&&◌, ◌||◌, not, nat_le, Bool, true, false, cond, List, [], ◌∷◌, ◌++◌, length, refl, sym, ap, subst, ◌∙◌, append-nil, Result, Ok, Err, OnOk}
use Rattle.pl_frame.specs.declared.address.SwitchId.{SwitchId}
use Rattle.pl_gathering.specs.Acting.{Done, Step, does_nothing, goes_through, is_void_end, steps, steps_at_end, steps_at_word, treats_all}
use Rattle.pl_gathering.specs.Gathering.{Gathered, Heard, Report, hears_begin, in_turn, is_among, is_whole, keeps_word, with_ended}
use Rattle.pl_gathering.specs.Gathering.Report.{Begin, End, Tells}
use Rattle.pl_gatherer.specs.Gatherers.{Gathering, ends_now}
use Rattle.pl_node.specs.declared.acts.ManagerAct.{ManagerAct}
use Rattle.pl_node.specs.declared.messages.ToManager.{ToManager}
use Rattle.pl_node.specs.declared.messages.ToManager.TheVariants as tell
use Rattle.pl_node.specs.Gains.{Gains}
use Rattle.pl_node.specs.ManagerFacts.{switch_count}
use Rattle.pl_node.specs.ManagerViews.{ManagerView}
use Rattle.pl_manager_rule.specs.ManagerRule.{ManagerStep}
use Rattle.pl_manager_rule.specs.Treating.{Treating, as_report, at_rest, follows, treats, waits_for_places}
use Rattle.pl_manager_rule.specs.WholeRule.{as_step, gathered, manager_steps, whole_rule}
use Rattle.pl_manager.specs.Manager.{EndsSo, TellsSo, put, view_of}
use Rattle.pl_manager.specs.declared.known.Known.{Known}

-- a report does not end exactly where it is void
void_or_ends : (w a b c : Bool) → (w || (not (a && b) || c)) ≡ not (not w && a && b && not c)
void_or_ends true a b c = refl
void_or_ends false false b c = refl
void_or_ends false true false c = refl
void_or_ends false true true true = refl
void_or_ends false true true false = refl

module _ (known : Known) (g : Gathering) (s : SwitchId) (many : g.many ≡ switch_count known.k) where
  abbrev view : ManagerView
  view = view_of known g

  abbrev all : Gathered Treating ToManager
  all = gathered view

  whole_is : is_whole all ≡ is_whole g
  whole_is = ap (λ n. (g.epoch == 0) || nat_le n (length g.ended)) (sym many)

  abbrev Treated : Known → List (Heard ToManager) → List ManagerAct → List ManagerAct → Type 0
  Treated after heard out out_after = (v : ManagerView) → v.epoch ≡ g.epoch →
      Gains out out_after (λ acts. treats_all treats follows (at_rest (put known v)) heard ≡ record { known = at_rest (put after v); acts = acts })

  -- ---- a word
  module _ (word : ToManager) where
    abbrev h : Heard ToManager
    h = record { switch = s; word = word }

    abbrev told : Bool → ManagerStep
    told b = as_step (cond {A = Step Treating ToManager ManagerAct} b (steps_at_word treats follows all h) (does_nothing (keeps_word all s word)))

    abbrev with_done : Done Treating ManagerAct → ManagerStep
    with_done done = as_step (record { now = record all { known = done.known }; acts = done.acts })

    pub word_treated : (after : Known) (out out_after : List ManagerAct) → is_whole g ≡ true → Treated after (h ∷ []) out out_after → TellsSo known g s word after g out out_after
    word_treated after out out_after whole treated =
        let gains = treated view refl in
        record { items = gains.items; gained = gains.gained; holds = ap told (whole_is ∙ whole) ∙ ap with_done gains.holds }

    kept_step : (b : Bool) → as_step (does_nothing (cond {A = Gathered Treating ToManager} b (record all { kept = all.kept ++ h ∷ [] }) all))
        ≡ record { view = view_of known (cond {A = Gathering} b (record g { kept = g.kept ++ h ∷ [] }) g); acts = [] }
    kept_step true = refl
    kept_step false = refl

    pub word_kept : (after : Gathering) (out : List ManagerAct) → is_whole g ≡ false → after ≡ keeps_word g s word → TellsSo known g s word known after out out
    word_kept after out part kept = record {
      items = [];
      gained = sym (append-nil out);
      holds = ap told (whole_is ∙ part) ∙ kept_step (is_among s g.begun)
          ∙ ap (λ (x : Gathering). let step : ManagerStep = record { view = view_of known x; acts = [] } in step) (sym kept);
    }

  -- ---- the end of a report
  module _ (n : ℕ) where
    abbrev ended : Bool → ManagerStep
    ended b = as_step (cond {A = Step Treating ToManager ManagerAct} b (does_nothing all) (steps_at_end treats waits_for_places follows all s))

    void_is : is_void_end all s n ≡ not (ends_now g s n)
    void_is = ap (λ w. w || (not (n == g.epoch && is_among s g.begun) || is_among s g.ended)) whole_is
        ∙ void_or_ends (is_whole g) (n == g.epoch) (is_among s g.begun) (is_among s g.ended)

    pub end_void : (after : Gathering) (out : List ManagerAct) → ends_now g s n ≡ false → after ≡ g → EndsSo known g s n known after out out
    end_void after out void same = record {
      items = [];
      gained = sym (append-nil out);
      holds = ap ended (void_is ∙ ap not void) ∙ ap (λ (x : Gathering). let step : ManagerStep = record { view = view_of known x; acts = [] } in step) (sym same);
    }

    abbrev last : Bool → ManagerStep
    last b = as_step (cond {A = Step Treating ToManager ManagerAct} b (goes_through treats waits_for_places follows (with_ended s all)) (does_nothing (with_ended s all)))

    whole_then : is_whole (with_ended s all) ≡ is_whole (with_ended s g)
    whole_then = ap (λ m. (g.epoch == 0) || nat_le m (length (s ∷ g.ended))) (sym many)

    pub end_missing : (after : Gathering) (out : List ManagerAct) → ends_now g s n ≡ true → is_whole (with_ended s g) ≡ false → after ≡ with_ended s g →
        EndsSo known g s n known after out out
    end_missing after out ends part same = record {
      items = [];
      gained = sym (append-nil out);
      holds = ap ended (void_is ∙ ap not ends) ∙ ap last (whole_then ∙ part)
          ∙ ap (λ (x : Gathering). let step : ManagerStep = record { view = view_of known x; acts = [] } in step) (sym same);
    }

    abbrev through : Done Treating ManagerAct → ManagerStep
    through done = as_step (record { now = record all { ended = s ∷ g.ended; kept = []; known = done.known }; acts = done.acts })

    pub end_last : (after : Known) (h : Gathering) (out out_after : List ManagerAct) → ends_now g s n ≡ true → is_whole (with_ended s g) ≡ true →
        h ≡ record (with_ended s g) { kept = [] } → Treated after (in_turn waits_for_places g.kept) out out_after → EndsSo known g s n after h out out_after
    end_last after h out out_after ends whole same treated =
        let gains = treated view refl in
        record {
          items = gains.items;
          gained = gains.gained;
          holds = ap ended (void_is ∙ ap not ends) ∙ ap last (whole_then ∙ whole) ∙ ap through gains.holds
              ∙ ap (λ (x : Gathering). let step : ManagerStep = record { view = view_of after x; acts = gains.items } in step) (sym same);
        }

-- what is gathered once a report may have ended
pub with_end : (g after : Gathering) (s : SwitchId) (n : ℕ) (b : Bool) → after ≡ cond (ends_now g s n) (with_ended s g) g → ends_now g s n ≡ b → after ≡ cond b (with_ended s g) g
with_end g after s n b is ends = is ∙ ap (λ c. cond c (with_ended s g) g) ends

-- ---- by what the code answers
module _ {T E : Type 0} (result : Result T E) (known : Known) (g : Gathering) (s : SwitchId) (many : g.many ≡ switch_count known.k) where
  pub word_told_ok : (word : ToManager) (epoch : ℕ) (after : Known) (out out_after : List ManagerAct) → is_whole g ≡ true → epoch ≡ g.epoch →
      OnOk result ((v : ManagerView) → v.epoch ≡ epoch → Gains out out_after (λ acts.
      treats_all treats follows (at_rest (put known v)) (record { switch = s; word = word } ∷ []) ≡ record { known = at_rest (put after v); acts = acts })) →
      OnOk result (TellsSo known g s word after g out out_after)
  word_told_ok word epoch after out out_after whole same = by result
    where
      by : (r : Result T E) → OnOk r ((v : ManagerView) → v.epoch ≡ epoch → Gains out out_after (λ acts.
          treats_all treats follows (at_rest (put known v)) (record { switch = s; word = word } ∷ []) ≡ record { known = at_rest (put after v); acts = acts })) →
          OnOk r (TellsSo known g s word after g out out_after)
      by (Ok x) treated = word_treated known g s many word after out out_after whole (λ v first. treated v (first ∙ sym same))
      by (Err e) treated = tt

  pub word_kept_ok : (word : ToManager) (after : Gathering) (out : List ManagerAct) → is_whole g ≡ false → OnOk result (after ≡ keeps_word g s word) →
      OnOk result (TellsSo known g s word known after out out)
  word_kept_ok word after out part = by result
    where
      by : (r : Result T E) → OnOk r (after ≡ keeps_word g s word) → OnOk r (TellsSo known g s word known after out out)
      by (Ok x) kept = word_kept known g s many word after out part kept
      by (Err e) kept = tt

  pub end_last_ok : (n epoch : ℕ) (after : Known) (h : Gathering) (heard : List (Heard ToManager)) (out out_after : List ManagerAct) → ends_now g s n ≡ true →
      is_whole (with_ended s g) ≡ true → h ≡ record (with_ended s g) { kept = [] } → epoch ≡ g.epoch → heard ≡ g.kept →
      OnOk result ((v : ManagerView) → v.epoch ≡ epoch → Gains out out_after (λ acts.
      treats_all treats follows (at_rest (put known v)) (in_turn waits_for_places heard) ≡ record { known = at_rest (put after v); acts = acts })) →
      OnOk result (EndsSo known g s n after h out out_after)
  end_last_ok n epoch after h heard out out_after ends whole emptied same all_kept = by result
    where
      by : (r : Result T E) → OnOk r ((v : ManagerView) → v.epoch ≡ epoch → Gains out out_after (λ acts.
          treats_all treats follows (at_rest (put known v)) (in_turn waits_for_places heard) ≡ record { known = at_rest (put after v); acts = acts })) →
          OnOk r (EndsSo known g s n after h out out_after)
      by (Ok x) treated = end_last known g s many n after h out out_after ends whole emptied
          (λ v first. subst (λ (hs : List (Heard ToManager)). Gains out out_after (λ acts.
          treats_all treats follows (at_rest (put known v)) (in_turn waits_for_places hs) ≡ record { known = at_rest (put after v); acts = acts })) all_kept
          (treated v (first ∙ sym same)))
      by (Err e) treated = tt

  -- ---- a step of the rule
  abbrev IsStep : ToManager → ManagerView → List ManagerAct → List ManagerAct → Type 0
  IsStep says after out out_after = Gains out out_after (whole_rule (view_of known g) s says after)

  step_by : (says : ToManager) (r : Report ToManager) (after : ManagerView) (out out_after : List ManagerAct) → as_report says ≡ r →
      Gains out out_after (λ acts. as_step (steps treats waits_for_places follows (gathered (view_of known g)) s r) ≡ record { view = after; acts = acts }) → IsStep says after out out_after
  unfolding manager_steps
  step_by says r after out out_after is gains =
      let same : manager_steps (view_of known g) s says ≡ record { view = after; acts = gains.items } =
      ap (λ (x : Report ToManager). as_step (steps treats waits_for_places follows (gathered (view_of known g)) s x)) is ∙ gains.holds in
      record {
        items = gains.items;
        gained = gains.gained;
        holds = (sym (ap (λ (step : ManagerStep). step.view) same), sym (ap (λ (step : ManagerStep). step.acts) same));
      }

  pub told_step_ok : (says : ToManager) (after : Known) (h : Gathering) (out out_after : List ManagerAct) → as_report says ≡ Tells says →
      OnOk result (TellsSo known g s says after h out out_after) → OnOk result (IsStep says (view_of after h) out out_after)
  told_step_ok says after h out out_after is = by result
    where
      by : (r : Result T E) → OnOk r (TellsSo known g s says after h out out_after) → OnOk r (IsStep says (view_of after h) out out_after)
      by (Ok x) told = step_by says (Tells says) (view_of after h) out out_after is told
      by (Err e) told = tt

  pub ended_step_ok : (says : ToManager) (n : ℕ) (after : Known) (h : Gathering) (out out_after : List ManagerAct) → says ≡ tell.End n →
      OnOk result (EndsSo known g s n after h out out_after) → OnOk result (IsStep says (view_of after h) out out_after)
  ended_step_ok says n after h out out_after is = by result
    where
      by : (r : Result T E) → OnOk r (EndsSo known g s n after h out out_after) → OnOk r (IsStep says (view_of after h) out out_after)
      by (Ok x) ends = step_by says (End n) (view_of after h) out out_after (ap as_report is) ends
      by (Err e) ends = tt

  begun_step : (n : ℕ) (b : Bool) → as_step (does_nothing (cond {A = Gathered Treating ToManager} b (gathered (view_of known g))
      (record (gathered (view_of known g)) { begun = s ∷ g.begun })))
      ≡ record { view = view_of known (cond {A = Gathering} b g (record g { begun = s ∷ g.begun })); acts = [] }
  begun_step n true = refl
  begun_step n false = refl

  pub begun_step_ok : (says : ToManager) (n : ℕ) (h : Gathering) (out : List ManagerAct) → says ≡ tell.Begin n → OnOk result (h ≡ hears_begin g s n) →
      OnOk result (IsStep says (view_of known h) out out)
  begun_step_ok says n h out is = by result
    where
      begins : h ≡ hears_begin g s n → IsStep says (view_of known h) out out
      begins began = step_by says (Begin n) (view_of known h) out out (ap as_report is) (record {
        items = [];
        gained = sym (append-nil out);
        holds =
            ap (λ (w : Bool). as_step (does_nothing (cond {A = Gathered Treating ToManager} (w || (not (n == g.epoch) || is_among s g.begun)) (gathered (view_of known g))
            (record (gathered (view_of known g)) { begun = s ∷ g.begun })))) (whole_is known g s many)
            ∙ begun_step n (is_whole g || (not (n == g.epoch) || is_among s g.begun))
            ∙ ap (λ (x : Gathering). let step : ManagerStep = record { view = view_of known x; acts = [] } in step) (sym began);
      })

      by : (r : Result T E) → OnOk r (h ≡ hears_begin g s n) → OnOk r (IsStep says (view_of known h) out out)
      by (Ok x) began = begins began
      by (Err e) began = tt

-- what is neither the beginning of a report nor its end is a word
pub tells_word : (says : ToManager) → ((n : ℕ) → says ≡ tell.Begin n → ⊥) → ((n : ℕ) → says ≡ tell.End n → ⊥) → as_report says ≡ Tells says
tells_word (tell.Begin n) begins ends = absurd (begins n refl)
tells_word (tell.End n) begins ends = absurd (ends n refl)
tells_word (tell.Place place) begins ends = refl
tells_word (tell.Link u usable) begins ends = refl
tells_word tell.PodWanted begins ends = refl
tells_word (tell.Learned pmac amac ip) begins ends = refl
tells_word (tell.Aged x number) begins ends = refl
tells_word (tell.Trapped old new number) begins ends = refl
tells_word (tell.Query asker asker_ip ip) begins ends = refl
tells_word (tell.Members group any) begins ends = refl
