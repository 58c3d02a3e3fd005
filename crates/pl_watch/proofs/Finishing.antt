-- Once a step was told, what the second nodes know is what the world's do, and what stands there is the log of the run with that step.
use Rattle.std.proofs.Common.{◌≡◌, ℕ, if◌then◌else◌, List, [], ◌∷◌, ◌++◌, length, map, Option, None, Some, set, slice_get, refl, sym, ap, ◌∙◌, subst, arith}
use Rattle.std.specs.List.{filter}
use Rattle.std.proofs.lemmas.List.{append-nil, take_all}
use Rattle.std.proofs.lemmas.Option.{same_Some}
use Rattle.pl_lemmas.proofs.Exports.{set_there}
use Rattle.pl_frame.specs.declared.address.SwitchId.{SwitchId}
use Rattle.pl_node.specs.declared.acts.Act.{Act}
use Rattle.pl_node.specs.declared.acts.ManagerAct.{ManagerAct}
use Rattle.pl_node.specs.declared.messages.ToManager.{ToManager}
use Rattle.pl_node.specs.HostInputs.{HostRule}
use Rattle.pl_node.specs.ManagerDuties.{ManagerRule}
use Rattle.pl_node.specs.ManagerViews.{ManagerView}
use Rattle.pl_node.specs.SwitchInputs.{SwitchRule}
use Rattle.pl_node.specs.SwitchViews.{SwitchView}
use Rattle.pl_law_runs.specs.NoChoice.{LeavesManagerNoChoice, LeavesSwitchNoChoice}
use Rattle.pl_schedule.specs.Coming.{telling}
use Rattle.pl_world.specs.declared.event.Event.{Event}
use Rattle.pl_world.specs.declared.event.Event.TheVariants as event
use Rattle.pl_world.specs.declared.event.QueueName.TheVariants as queue
use Rattle.pl_world.specs.Drops.{Coming, coming, turn_of}
use Rattle.pl_world.specs.Drops.Turn.{OfSwitch}
use Rattle.pl_world.specs.Refusals.{refusal}
use Rattle.pl_world.specs.WorldRule.{WorldStep}
use Rattle.pl_world.specs.Worlds.{WorldView}
use Rattle.pl_log_lines.specs.declared.look.Look.{Look}
use Rattle.pl_log_lines.specs.declared.row.Verb.TheVariants as verb
use Rattle.pl_log_lines.specs.declared.told.Told.{Told}
use Rattle.pl_log_lines.specs.Acts.{act_line, heard_lines, manager_act_line}
use Rattle.pl_watch.specs.Events.{manager_of, node_of}
use Rattle.pl_watch.specs.Logs.{LogLine, event_lines, log_text, lost_lines, manager_lines, news_at, present_line, said_in, shown_below, step_lines, switch_lines, unheard_lines}
use Rattle.pl_log_lines.specs.Looks.{is_within, shows}
use Rattle.pl_log_lines.specs.Messages.{told_line}
use Rattle.pl_watch.specs.News.{news}
use Rattle.pl_log_lines.specs.Pages.{Prints}
use Rattle.pl_log_lines.specs.Rows.{Below}
use Rattle.pl_watch.specs.Seen.{HasSeen, IsToldOf, Kept, ToldOfManager, ToldOfSwitch}
use Rattle.pl_log_lines.specs.Telling.{Tells, TellsEvent, node_in}
use Rattle.pl_watch.proofs.Showing.{event_and_below}
use Rattle.pl_watch.proofs.Turns.{AreSame, ManagerTakes, SwitchTakes, step_told, step_turns, step_unheard}
use Rattle.pl_watch.proofs.Writing as writing

-- where a switch hears something the manager does not
pub not_told : (w : WorldView) (e : Event) (c : Coming) → coming w e ≡ Some c → telling w e ≡ None
not_told w (event.Deliver (queue.FromHost h)) c is = refl
not_told w (event.Deliver (queue.Port s port)) c is = refl
not_told w (event.Deliver (queue.ToManager s)) c is = let none : None ≡ Some c = is in absurd (cc)
not_told w (event.Deliver (queue.FromManager s)) c is = refl
not_told w (event.Tick s) c is = refl
not_told w (event.Fail a b) c is = refl
not_told w (event.Repair a b) c is = refl
not_told w (event.Lose s port) c is = refl
not_told w (event.Move h s port) c is = refl
not_told w (event.Start h) c is = refl
not_told w (event.Play h frame original raw) c is = refl
not_told w (event.Retry h) c is = refl
not_told w (event.Join h group) c is = refl
not_told w (event.Leave h group) c is = refl
not_told w event.Restart c is = refl

-- and where the manager does, nothing is lost
not_lost : (w : WorldView) (e : Event) (t : ℕ × ToManager) → telling w e ≡ Some t → lost_lines w e ≡ []
not_lost w (event.Deliver (queue.FromHost h)) t is = refl
not_lost w (event.Deliver (queue.Port s port)) t is = let none : None ≡ Some t = is in absurd (cc)
not_lost w (event.Deliver (queue.ToManager s)) t is = refl
not_lost w (event.Deliver (queue.FromManager s)) t is = refl
not_lost w (event.Tick s) t is = refl
not_lost w (event.Fail a b) t is = refl
not_lost w (event.Repair a b) t is = refl
not_lost w (event.Lose s port) t is = let none : None ≡ Some t = is in absurd (cc)
not_lost w (event.Move h s port) t is = refl
not_lost w (event.Start h) t is = refl
not_lost w (event.Play h frame original raw) t is = refl
not_lost w (event.Retry h) t is = refl
not_lost w (event.Join h group) t is = refl
not_lost w (event.Leave h group) t is = refl
not_lost w event.Restart t is = refl

module _ (switch : SwitchRule) (manager : ManagerRule) (host : HostRule) where
  -- what was printed of a step, and what is kept behind it, go on with a log
  module _ (kept mid new : Kept) (w : WorldView) (e : Event) (before told last : Told) (v : WorldView) (allowed : refusal w e ≡ None)
      (step : WorldStep switch manager host w e v) (seen : HasSeen switch manager host kept w) (all : kept.entries ≡ length w.journal) (is : IsToldOf kept w e before)
      (begins : TellsEvent kept.page mid.page before told) where
    line_is : before.line ≡ present_line w.journal
    line_is = is.line ∙ seen.line ∙ ap (λ es. present_line es) (take_all kept.entries w.journal (omega (arith, all)))

    same_node : node_in told ≡ node_of w e
    same_node = ap node_in begins.told ∙ is.node

    shown_so : (lines : List Below) → step_lines w e v (turn_of switch manager host w e v step) (said_in switch manager host w e v step) ≡ lines →
        (if is_within before.look before.line then event_lines before.look w e (filter (shows before.look) lines) else [])
        ≡ shown_below switch manager host kept.look w e v step
    shown_so lines same =
        ap (λ (l : Look). if◌then◌else◌ {A = List LogLine} (is_within l before.line) (event_lines l w e (filter (shows l) lines)) []) is.look
        ∙ ap (λ n. if◌then◌else◌ {A = List LogLine} (is_within kept.look n) (event_lines kept.look w e (filter (shows kept.look) lines)) []) line_is
        ∙ ap (λ xs. if◌then◌else◌ {A = List LogLine} (is_within kept.look (present_line w.journal)) (event_lines kept.look w e (filter (shows kept.look) xs)) []) (sym same)

    goes_on : (lines : List Below) → step_lines w e v (turn_of switch manager host w e v step) (said_in switch manager host w e v step) ≡ lines →
        Tells mid.page new.page told last lines → new ≡ record kept { page = new.page; switches = v.switches; manager = v.manager } → HasSeen switch manager host new v
    goes_on lines same tells keeps =
        writing.step_told switch manager host kept new w e v allowed step seen all keeps
        (subst (λ ls. Prints kept.page new.page (log_text kept.page.json w.plan ls)) (shown_so lines same)
        (event_and_below kept.page mid.page new.page before told last w e lines is.unprinted is.step is.words is.node begins tells))

    -- ---- a switch heard something
    module _ (no_choice : LeavesSwitchNoChoice switch) (c : Coming) (comes : coming w e ≡ Some c) (stays : mid ≡ record kept { page = mid.page })
        (keeps : new ≡ record mid { page = new.page; switches = new.switches }) (took : ToldOfSwitch switch w.plan c mid.switches new.switches mid.page new.page told last) where
      turn : SwitchTakes switch w c (turn_of switch manager host w e v step) v
      turn = step_turns switch manager host w e v step c comes

      same_first : took.first ≡ turn.before
      same_first = same_Some took.first turn.before
          (sym took.found ∙ ap (λ (k : Kept). slice_get k.switches c.switch) stays ∙ ap (λ (xs : List SwitchView). slice_get xs c.switch) seen.same_switches ∙ turn.found)

      same_rest : (took.last ≡ turn.after) × (took.acts ≡ turn.acts)
      same_rest = no_choice turn.before c.input took.last turn.after took.acts turn.acts
          (subst (λ (first : SwitchView). switch first c.input took.last took.acts) same_first took.ruled) turn.ruled

      abbrev plain_lines : Option ℕ → List Below
      plain_lines node = heard_lines w.plan node c.input c.frame ++ news w.plan node turn.before turn.after ++ map (act_line w.plan node) turn.acts

      its_news : news_at w.plan (node_of w e) (slice_get w.switches c.switch) (slice_get v.switches c.switch) ≡ news w.plan (node_of w e) turn.before turn.after
      its_news =
          ap (λ o. news_at w.plan (node_of w e) o (slice_get v.switches c.switch)) turn.found
          ∙ ap (λ o. news_at w.plan (node_of w e) (Some turn.before) o)
          (ap (λ (xs : List SwitchView). slice_get xs c.switch) turn.switches ∙ set_there w.switches c.switch turn.before turn.after turn.found)

      its_lines : step_lines w e v (turn_of switch manager host w e v step) (said_in switch manager host w e v step) ≡ plain_lines (node_of w e)
      its_lines =
          ap (λ t. step_lines w e v t (said_in switch manager host w e v step)) turn.is
          ∙ ap (λ o. switch_lines w e v o (OfSwitch turn.acts) ++ manager_lines w e (telling w e) (said_in switch manager host w e v step) ++ unheard_lines w e o) comes
          ∙ ap (λ o. switch_lines w e v (Some c) (OfSwitch turn.acts) ++ manager_lines w e o (said_in switch manager host w e v step) ++ []) (not_told w e c comes)
          ∙ append-nil (switch_lines w e v (Some c) (OfSwitch turn.acts) ++ [])
          ∙ append-nil (switch_lines w e v (Some c) (OfSwitch turn.acts))
          ∙ ap (λ ns. heard_lines w.plan (node_of w e) c.input c.frame ++ ns ++ map (act_line w.plan (node_of w e)) turn.acts) its_news

      told_lines : Tells mid.page new.page told last (plain_lines (node_of w e))
      told_lines =
          subst (λ node. Tells mid.page new.page told last (plain_lines node)) same_node
          (subst (λ (acts : List Act). Tells mid.page new.page told last
          (heard_lines w.plan (node_in told) c.input c.frame ++ news w.plan (node_in told) turn.before turn.after ++ map (act_line w.plan (node_in told)) acts)) same_rest.1
          (subst (λ (after : SwitchView). Tells mid.page new.page told last
          (heard_lines w.plan (node_in told) c.input c.frame ++ news w.plan (node_in told) turn.before after ++ map (act_line w.plan (node_in told)) took.acts)) same_rest.0
          (subst (λ (first : SwitchView). Tells mid.page new.page told last
          (heard_lines w.plan (node_in told) c.input c.frame ++ news w.plan (node_in told) first took.last ++ map (act_line w.plan (node_in told)) took.acts)) same_first took.told)))

      kept_so : new ≡ record kept { page = new.page; switches = v.switches; manager = v.manager }
      kept_so =
          keeps
          ∙ ap (λ (k : Kept). record k { page = new.page; switches = new.switches }) stays
          ∙ ap (λ (xs : List SwitchView). record kept { page = new.page; switches = xs })
          (took.changed ∙ ap (λ (k : Kept). set k.switches c.switch took.last) stays ∙ ap (λ (xs : List SwitchView). set xs c.switch took.last) seen.same_switches
          ∙ ap (λ (x : SwitchView). set w.switches c.switch x) same_rest.0 ∙ sym turn.switches)
          ∙ ap (λ (m : ManagerView). record kept { page = new.page; switches = v.switches; manager = m }) (seen.same_manager ∙ sym turn.manager)

      pub switch_told : HasSeen switch manager host new v
      switch_told = goes_on (plain_lines (node_of w e)) its_lines told_lines kept_so

    -- ---- the manager heard something
    module _ (no_choice : LeavesManagerNoChoice manager) (t : ℕ × ToManager) (tells : telling w e ≡ Some t) (unheard : coming w e ≡ None)
        (stays : mid ≡ record kept { page = mid.page }) (keeps : new ≡ record mid { page = new.page; manager = new.manager })
        (took : ToldOfManager manager w.plan t.0 t.1 mid.manager new.manager mid.page new.page told last) where
      managed : ManagerTakes manager w t.0 t.1 (said_in switch manager host w e v step) v
      managed = step_told switch manager host w e v step t tells

      same_id : took.id ≡ managed.id
      same_id = same_Some took.id managed.id (sym took.found ∙ managed.found)

      same_manager : mid.manager ≡ w.manager
      same_manager = ap (λ (k : Kept). k.manager) stays ∙ seen.same_manager

      same_outcome : (new.manager ≡ managed.after) × (took.acts ≡ said_in switch manager host w e v step)
      same_outcome = no_choice w.manager managed.id t.1 new.manager managed.after took.acts (said_in switch manager host w e v step)
          (subst (λ (m : ManagerView). manager m managed.id t.1 new.manager took.acts) same_manager
          (subst (λ (id : SwitchId). manager mid.manager id t.1 new.manager took.acts) same_id took.ruled)) managed.ruled

      abbrev said_lines : Option ℕ → List Below
      said_lines node = told_line w.plan node verb.Heard t.1 ∷ map (manager_act_line w.plan node) (said_in switch manager host w e v step)

      managed_lines : step_lines w e v (turn_of switch manager host w e v step) (said_in switch manager host w e v step) ≡ said_lines (node_of w e)
      managed_lines =
          ap (λ o. switch_lines w e v o (turn_of switch manager host w e v step) ++ manager_lines w e (telling w e) (said_in switch manager host w e v step) ++ unheard_lines w e o) unheard
          ∙ ap (λ o. manager_lines w e o (said_in switch manager host w e v step) ++ lost_lines w e) tells
          ∙ ap (λ xs. said_lines (node_of w e) ++ xs) (not_lost w e t tells)
          ∙ append-nil (said_lines (node_of w e))

      pub manager_told : HasSeen switch manager host new v
      manager_told =
          goes_on (said_lines (node_of w e)) managed_lines
          (subst (λ node. Tells mid.page new.page told last (said_lines node)) same_node
          (subst (λ (acts : List ManagerAct). Tells mid.page new.page told last (told_line w.plan (node_in told) verb.Heard t.1 ∷ map (manager_act_line w.plan (node_in told)) acts))
          same_outcome.1 took.told))
          (keeps
          ∙ ap (λ (k : Kept). record k { page = new.page; manager = new.manager }) stays
          ∙ ap (λ (xs : List SwitchView). record kept { page = new.page; switches = xs; manager = new.manager }) (seen.same_switches ∙ sym managed.switches)
          ∙ ap (λ (m : ManagerView). record kept { page = new.page; switches = v.switches; manager = m }) (same_outcome.0 ∙ sym managed.manager))

    -- ---- nothing was heard
    module _ (untold : telling w e ≡ None) (unheard : coming w e ≡ None) (stays : mid ≡ record kept { page = mid.page })
        (keeps : new ≡ record mid { page = new.page; manager = manager_of w e }) (took : Tells mid.page new.page told last (lost_lines w e)) where
      rests : AreSame (record w { manager = manager_of w e }) v
      rests = step_unheard switch manager host w e v step unheard untold

      rest_lines : step_lines w e v (turn_of switch manager host w e v step) (said_in switch manager host w e v step) ≡ lost_lines w e
      rest_lines =
          ap (λ o. switch_lines w e v o (turn_of switch manager host w e v step) ++ manager_lines w e (telling w e) (said_in switch manager host w e v step) ++ unheard_lines w e o) unheard
          ∙ ap (λ o. manager_lines w e o (said_in switch manager host w e v step) ++ lost_lines w e) untold

      pub nothing_told : HasSeen switch manager host new v
      nothing_told =
          goes_on (lost_lines w e) rest_lines took
          (keeps
          ∙ ap (λ (k : Kept). record k { page = new.page; manager = manager_of w e }) stays
          ∙ ap (λ (xs : List SwitchView). record kept { page = new.page; switches = xs; manager = manager_of w e }) (seen.same_switches ∙ sym rests.switches)
          ∙ ap (λ (m : ManagerView). record kept { page = new.page; switches = v.switches; manager = m }) (sym rests.manager))
