-- Where the rules leave no choice, the same moments have one log.
use Rattle.std.specs.List.{filter}
use Rattle.std.proofs.Common.{◌≡◌, ℕ, if◌then◌else◌, List, [], ◌∷◌, ◌++◌, Option, None, Some, refl, sym, ap, ◌∙◌, subst}
use Rattle.std.proofs.lemmas.Option.{same_Some}
use Rattle.pl_frame.specs.declared.address.SwitchId.{SwitchId}
use Rattle.pl_journal.specs.declared.entry.Entry.{Entry}
use Rattle.pl_node.specs.declared.messages.ToManager.{ToManager}
use Rattle.pl_node.specs.HostInputs.{HostRule}
use Rattle.pl_node.specs.ManagerDuties.{ManagerRule}
use Rattle.pl_node.specs.SwitchInputs.{SwitchRule}
use Rattle.pl_node.specs.SwitchViews.{SwitchView}
use Rattle.pl_law_runs.proofs.Exports.{steps_agree}
use Rattle.pl_law_runs.specs.NoChoice.{LeavesHostNoChoice, LeavesManagerNoChoice, LeavesSwitchNoChoice}
use Rattle.pl_schedule.specs.Coming.{telling}
use Rattle.pl_world.specs.declared.event.Event.{Event}
use Rattle.pl_world.specs.Changes.{noted}
use Rattle.pl_world.specs.Drops.{Coming, coming, turn_of, written}
use Rattle.pl_world.specs.Drops.Turn.{OfSwitch}
use Rattle.pl_world.specs.Runs.{Moment}
use Rattle.pl_world.specs.Runs.Moment.{Mark, Step}
use Rattle.pl_world.specs.WorldRule.{WorldStep}
use Rattle.pl_world.specs.Worlds.{WorldView}
use Rattle.pl_log_lines.specs.declared.look.Look.{Look}
use Rattle.pl_log_lines.specs.Looks.{is_within, shows}
use Rattle.pl_watch.specs.Logs.{IsLog, LogLine, entry_lines, event_lines, manager_lines, present_line, said_in, shown_below, step_lines, switch_lines, unheard_lines}
use Rattle.pl_watch.specs.Logs.IsLog.{Begins, GoesOn, IsMarked}
use Rattle.pl_log_lines.specs.Rows.{Below}
use Rattle.pl_watch.proofs.Finishing.{not_told}
use Rattle.pl_watch.proofs.Turns.{ManagerTakes, SwitchTakes, step_told, step_turns}

-- ---- lists with one more

empty_is_no_more : {T : Type 0} (xs : List T) (x : T) → xs ++ x ∷ [] ≡ [] → ⊥
empty_is_no_more [] x is = absurd (cc)
empty_is_no_more (y ∷ xs) x is = absurd (cc)

abbrev tail_of : {T : Type 0} → List T → List T
tail_of [] = []
tail_of (x ∷ xs) = xs

same_but_last : {T : Type 0} (xs ys : List T) (x y : T) → xs ++ x ∷ [] ≡ ys ++ y ∷ [] → (xs ≡ ys) × (x ≡ y)
same_but_last [] [] x y is = let same : x ≡ y = cc in (refl, same)
same_but_last [] (b ∷ ys) x y is = absurd (empty_is_no_more ys y (sym (ap tail_of is)))
same_but_last (a ∷ xs) [] x y is = absurd (empty_is_no_more xs x (ap tail_of is))
same_but_last (a ∷ xs) (b ∷ ys) x y is =
    let first : a ≡ b = cc in
    let rest = same_but_last xs ys x y (ap tail_of is) in
    (ap (λ z. z ∷ xs) first ∙ ap (λ zs. b ∷ zs) rest.0, rest.1)

module _ (switch : SwitchRule) (manager : ManagerRule) (host : HostRule) where
  -- ---- how a log ends
  data Ends (look : Look) (old : WorldView) (all : List Moment) (w : WorldView) (lines : List LogLine) : Type 0 where
    AtFirst : all ≡ [] → w ≡ old → lines ≡ [] → Ends look old all w lines
    WithStep : (moments : List Moment) (mid : WorldView) (before : List LogLine) → IsLog switch manager host look old moments mid before → (happens : Event) →
        (step : WorldStep switch manager host mid happens w) → all ≡ moments ++ Step happens ∷ [] →
        lines ≡ before ++ (shown_below switch manager host look mid happens w step ++ entry_lines look mid.journal (written mid w)) → Ends look old all w lines
    WithMark : (moments : List Moment) (mid : WorldView) (before : List LogLine) → IsLog switch manager host look old moments mid before → (entry : Entry) →
        all ≡ moments ++ Mark entry ∷ [] → w ≡ noted mid entry → lines ≡ before ++ entry_lines look mid.journal (entry ∷ []) → Ends look old all w lines

  ends : (look : Look) (old : WorldView) (all : List Moment) (w : WorldView) (lines : List LogLine) → IsLog switch manager host look old all w lines → Ends look old all w lines
  ends look old all w lines Begins = AtFirst refl refl refl
  ends look old all w lines (GoesOn moments mid before log happens new allowed step) = WithStep moments mid before log happens step refl refl
  ends look old all w lines (IsMarked moments mid before log entry is) = WithMark moments mid before log entry refl refl refl

  module _ (switches : LeavesSwitchNoChoice switch) (managers : LeavesManagerNoChoice manager) (hosts : LeavesHostNoChoice host) where
    -- ---- one step has one set of lines
    module _ (w : WorldView) (e : Event) (v : WorldView) (one other : WorldStep switch manager host w e v) where
      abbrev lines_of : WorldStep switch manager host w e v → List Below
      lines_of step = step_lines w e v (turn_of switch manager host w e v step) (said_in switch manager host w e v step)

      heard : (c : Coming) → coming w e ≡ Some c → lines_of one ≡ lines_of other
      heard c is =
          let first : SwitchTakes switch w c (turn_of switch manager host w e v one) v = step_turns switch manager host w e v one c is in
          let second : SwitchTakes switch w c (turn_of switch manager host w e v other) v = step_turns switch manager host w e v other c is in
          let before : first.before ≡ second.before = same_Some first.before second.before (sym first.found ∙ second.found) in
          let acts = (switches second.before c.input first.after second.after first.acts second.acts
          (subst (λ (x : SwitchView). switch x c.input first.after first.acts) before first.ruled) second.ruled).1 in
          let turn : turn_of switch manager host w e v one ≡ turn_of switch manager host w e v other = first.is ∙ ap OfSwitch acts ∙ sym second.is in
          ap (λ t. step_lines w e v t (said_in switch manager host w e v one)) turn
          ∙ ap (λ o. switch_lines w e v (coming w e) (turn_of switch manager host w e v other) ++ manager_lines w e o (said_in switch manager host w e v one) ++ unheard_lines w e (coming w e))
          (not_told w e c is)
          ∙ sym (ap (λ o. switch_lines w e v (coming w e) (turn_of switch manager host w e v other) ++ manager_lines w e o (said_in switch manager host w e v other) ++ unheard_lines w e (coming w e))
          (not_told w e c is))

      abbrev rest_of : WorldStep switch manager host w e v → Option (ℕ × ToManager) → List Below
      rest_of step o = [] ++ manager_lines w e o (said_in switch manager host w e v step) ++ unheard_lines w e None

      unheard : coming w e ≡ None → (step : WorldStep switch manager host w e v) → lines_of step ≡ rest_of step (telling w e)
      unheard none step =
          ap (λ o. switch_lines w e v o (turn_of switch manager host w e v step) ++ manager_lines w e (telling w e) (said_in switch manager host w e v step) ++ unheard_lines w e o) none

      said : (o : Option (ℕ × ToManager)) → telling w e ≡ o → rest_of one o ≡ rest_of other o
      said None is = refl
      said (Some t) is =
          let first : ManagerTakes manager w t.0 t.1 (said_in switch manager host w e v one) v = step_told switch manager host w e v one t is in
          let second : ManagerTakes manager w t.0 t.1 (said_in switch manager host w e v other) v = step_told switch manager host w e v other t is in
          let id : first.id ≡ second.id = same_Some first.id second.id (sym first.found ∙ second.found) in
          let acts = (managers w.manager second.id t.1 first.after second.after (said_in switch manager host w e v one) (said_in switch manager host w e v other)
          (subst (λ (x : SwitchId). manager w.manager x t.1 first.after (said_in switch manager host w e v one)) id first.ruled) second.ruled).1 in
          ap (λ acts. [] ++ manager_lines w e (Some t) acts ++ unheard_lines w e None) acts

      by_coming : (o : Option Coming) → coming w e ≡ o → lines_of one ≡ lines_of other
      by_coming (Some c) is = heard c is
      by_coming None is = unheard is one ∙ said (telling w e) refl ∙ sym (unheard is other)

      same_lines : lines_of one ≡ lines_of other
      same_lines = by_coming (coming w e) refl

    -- ---- one world after it, and one set of lines in the log
    module _ (look : Look) (mid : WorldView) (e : Event) (new : WorldView) (step : WorldStep switch manager host mid e new) where
      abbrev adds : (m : WorldView) (f : Event) (v : WorldView) → WorldStep switch manager host m f v → List LogLine
      adds m f v s = shown_below switch manager host look m f v s ++ entry_lines look m.journal (written m v)

      abbrev IsSame : (m : WorldView) (f : Event) (v : WorldView) → WorldStep switch manager host m f v → Type 0
      IsSame m f v s = (new ≡ v) × (adds mid e new step ≡ adds m f v s)

      here : (s : WorldStep switch manager host mid e new) → IsSame mid e new s
      here s = (
        refl,
        ap (λ (ls : List Below). if◌then◌else◌ {A = List LogLine} (is_within look (present_line mid.journal)) (event_lines look mid e (filter (shows look) ls)) []
            ++ entry_lines look mid.journal (written mid new)) (same_lines mid e new step s),
      )

      at_world : (v : WorldView) → new ≡ v → (s : WorldStep switch manager host mid e v) → IsSame mid e v s
      at_world v is = subst (λ (x : WorldView). (s : WorldStep switch manager host mid e x) → IsSame mid e x s) is here

      at_event : (f : Event) → e ≡ f → (v : WorldView) (s : WorldStep switch manager host mid f v) → IsSame mid f v s
      at_event f is = subst (λ (x : Event). (v : WorldView) (s : WorldStep switch manager host mid x v) → IsSame mid x v s) is
          (λ v s. at_world v (steps_agree switch manager host switches managers hosts mid e new v step s) s)

      at_mid : (m : WorldView) → mid ≡ m → (f : Event) → e ≡ f → (v : WorldView) (s : WorldStep switch manager host m f v) → IsSame m f v s
      at_mid m is = subst (λ (x : WorldView). (f : Event) → e ≡ f → (v : WorldView) (s : WorldStep switch manager host x f v) → IsSame x f v s) is at_event

    module _ (look : Look) (old : WorldView) where
      abbrev Agrees : List Moment → WorldView → List LogLine → Type 0
      Agrees moments mid lines = (v : WorldView) (other : List LogLine) → IsLog switch manager host look old moments v other → (mid ≡ v) × (lines ≡ other)

      at_first : (v : WorldView) (other : List LogLine) → Ends look old [] v other → (old ≡ v) × ([] ≡ other)
      at_first v other (AtFirst none is lines) = (sym is, sym lines)
      at_first v other (WithStep moments mid before log e step is lines) = absurd (empty_is_no_more moments (Step e) (sym is))
      at_first v other (WithMark moments mid before log entry is same lines) = absurd (empty_is_no_more moments (Mark entry) (sym is))

      with_step : (moments : List Moment) (mid : WorldView) (lines : List LogLine) → Agrees moments mid lines → (e : Event) (new : WorldView)
          (step : WorldStep switch manager host mid e new) (v : WorldView) (other : List LogLine) → Ends look old (moments ++ Step e ∷ []) v other →
          (new ≡ v) × (lines ++ adds look mid e new step mid e new step ≡ other)
      with_step moments mid lines agrees e new step v other (AtFirst none is ls) = absurd (empty_is_no_more moments (Step e) none)
      with_step moments mid lines agrees e new step v other (WithStep ms m before log f s is ls) =
          let both = same_but_last moments ms (Step e) (Step f) is in
          let event : e ≡ f = let steps = both.1 in cc in
          let rest = agrees m before (subst (λ (x : List Moment). IsLog switch manager host look old x m before) (sym both.0) log) in
          let same = at_mid look mid e new step m rest.0 f event v s in
          (same.0, ap (λ (x : List LogLine). x ++ adds look mid e new step mid e new step) rest.1 ∙ ap (λ (x : List LogLine). before ++ x) same.1 ∙ sym ls)
      with_step moments mid lines agrees e new step v other (WithMark ms m before log entry is same ls) =
          let both = same_but_last moments ms (Step e) (Mark entry) is in
          let apart = both.1 in
          absurd (cc)

      with_mark : (moments : List Moment) (mid : WorldView) (lines : List LogLine) → Agrees moments mid lines → (entry : Entry) (v : WorldView) (other : List LogLine) →
          Ends look old (moments ++ Mark entry ∷ []) v other → (noted mid entry ≡ v) × (lines ++ entry_lines look mid.journal (entry ∷ []) ≡ other)
      with_mark moments mid lines agrees entry v other (AtFirst none is ls) = absurd (empty_is_no_more moments (Mark entry) none)
      with_mark moments mid lines agrees entry v other (WithStep ms m before log f s is ls) =
          let both = same_but_last moments ms (Mark entry) (Step f) is in
          let apart = both.1 in
          absurd (cc)
      with_mark moments mid lines agrees entry v other (WithMark ms m before log x is same ls) =
          let both = same_but_last moments ms (Mark entry) (Mark x) is in
          let mark : entry ≡ x = let marks = both.1 in cc in
          let rest = agrees m before (subst (λ (ms : List Moment). IsLog switch manager host look old ms m before) (sym both.0) log) in (
            ap (λ (a : WorldView). noted a entry) rest.0 ∙ ap (noted m) mark ∙ sym same,
            ap (λ (a : List LogLine). a ++ entry_lines look mid.journal (entry ∷ [])) rest.1
                ∙ ap (λ (a : WorldView). before ++ entry_lines look a.journal (entry ∷ [])) rest.0
                ∙ ap (λ (y : Entry). before ++ entry_lines look m.journal (y ∷ [])) mark ∙ sym ls,
          )

      one_of : (moments : List Moment) (w : WorldView) (lines : List LogLine) → IsLog switch manager host look old moments w lines → Agrees moments w lines
      one_of moments w lines Begins = λ v other log. at_first v other (ends look old [] v other log)
      one_of all w lines (GoesOn moments mid before log e new allowed step) = λ v other second.
          with_step moments mid before (one_of moments mid before log) e new step v other (ends look old (moments ++ Step e ∷ []) v other second)
      one_of all w lines (IsMarked moments mid before log entry is) = λ v other second.
          with_mark moments mid before (one_of moments mid before log) entry v other (ends look old (moments ++ Mark entry ∷ []) v other second)

    pub one_log : (look : Look) (old : WorldView) (moments : List Moment) (new : WorldView) (one other : List LogLine) →
        IsLog switch manager host look old moments new one → IsLog switch manager host look old moments new other → one ≡ other
    one_log look old moments new one other first second = (one_of look old moments new one first new other second).1
