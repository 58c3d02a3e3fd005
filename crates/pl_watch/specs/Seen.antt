-- What a chronicle has written of a world, and what it keeps.
use Rattle.std.specs.Prelude.{◌≡◌, ◌≤◌, ◌+◌, ℕ, unwrap_or, false, List, ◌∷◌, ◌++◌, drop, length, map, Some, slice_get, slice_set, take}
use Rattle.pl_frame.specs.declared.address.SwitchId.{SwitchId}
use Rattle.pl_journal.specs.declared.entry.Entry.{Entry}
use Rattle.pl_wiring.specs.Plan.{Plan}
use Rattle.pl_node.specs.declared.acts.Act.{Act}
use Rattle.pl_node.specs.declared.acts.ManagerAct.{ManagerAct}
use Rattle.pl_node.specs.declared.messages.ToManager.{ToManager}
use Rattle.pl_node.specs.HostInputs.{HostRule}
use Rattle.pl_node.specs.ManagerDuties.{ManagerRule}
use Rattle.pl_node.specs.ManagerViews.{ManagerView}
use Rattle.pl_node.specs.SwitchInputs.{SwitchRule}
use Rattle.pl_node.specs.SwitchViews.{SwitchView}
use Rattle.pl_shelf.specs.Held.{Held, with_end}
use Rattle.pl_world.specs.declared.event.Event.{Event}
use Rattle.pl_world.specs.Booting.{booted}
use Rattle.pl_world.specs.Runs.{Moment}
use Rattle.pl_world.specs.Worlds.{WorldView}
use Rattle.pl_world.specs.Drops.{Coming}
use Rattle.pl_log_lines.specs.declared.look.Look.{Look}
use Rattle.pl_log_lines.specs.declared.row.Verb.TheVariants as verb
use Rattle.pl_log_lines.specs.declared.told.Told.{Told}
use Rattle.pl_log_lines.specs.Acts.{act_line, heard_lines, manager_act_line}
use Rattle.pl_watch.specs.Events.{event_words, node_of}
use Rattle.pl_log_lines.specs.Messages.{told_line}
use Rattle.pl_watch.specs.News.{news}
use Rattle.pl_log_lines.specs.Rows.{words_text}
use Rattle.pl_log_lines.specs.Telling.{Tells, node_in}
use Rattle.pl_watch.specs.Logs.{IsLog, LogLine, entry_lines, line_in, log_text, present_line, shown_entry}
use Rattle.pl_log_lines.specs.Pages.{HoldsText, PageView, Prints}

-- what is kept: the page, what the second switches and the second manager know, how many entries were written, and the line of the last of them
pub record Kept : Type 0 where
  pub look : Look
  pub page : PageView
  pub switches : List SwitchView
  pub manager : ManagerView
  pub entries : ℕ
  pub line : ℕ

module _ (switch : SwitchRule) (manager : ManagerRule) (host : HostRule) where
  -- There is a log of a run to this world of which all was written, but the last entries of the journal; and the second nodes know what the world's do.
  pub record HasSeen (kept : Kept) (w : WorldView) : Type 0 where
    pub moments : List Moment
    pub lines : List LogLine
    pub log : IsLog switch manager host kept.look (booted w.plan w.limits) moments w lines
    pub same_switches : kept.switches ≡ w.switches
    pub same_manager : kept.manager ≡ w.manager
    pub entries : kept.entries ≤ length w.journal
    pub line : kept.line ≡ present_line (take kept.entries w.journal)
    pub form : kept.page.json ≡ kept.look.json
    pub text : kept.page.failed ≡ false → HoldsText
        (with_end kept.page.text (log_text kept.look.json w.plan (entry_lines kept.look (take kept.entries w.journal) (drop kept.entries w.journal))))
        (log_text kept.look.json w.plan lines)

  -- The log of a run to this world is all that stands there, as far as the shelf tells it.
  pub record IsLogged (look : Look) (held : Held) (w : WorldView) : Type 0 where
    pub moments : List Moment
    pub lines : List LogLine
    pub log : IsLog switch manager host look (booted w.plan w.limits) moments w lines
    pub text : HoldsText held (log_text look.json w.plan lines)

-- ---- what telling of an entry does

-- It was written, where it is shown; and from then on its line of the script is the present one.
pub record WritesEntry (plan : Plan) (entry : Entry) (old new : Kept) : Type 0 where
  pub line : new.line ≡ unwrap_or (line_in entry) old.line
  pub page : Prints old.page new.page (log_text old.page.json plan (shown_entry old.look new.line entry))
  pub kept : new ≡ record old { page = new.page; entries = old.entries + 1; line = new.line }

-- ---- what telling of a step does

-- An event is told with what the log shows of it.
pub record IsToldOf (kept : Kept) (w : WorldView) (happens : Event) (told : Told) : Type 0 where
  pub look : told.look ≡ kept.look
  pub line : told.line ≡ kept.line
  pub step : told.step ≡ w.steps + 1
  pub node : node_in told ≡ node_of w happens
  pub words : words_text told.words ≡ event_words w happens
  pub unprinted : told.is_printed ≡ false

-- The second one of a switch took what comes: this was told of it.
pub record ToldOfSwitch (rule : SwitchRule) (plan : Plan) (c : Coming) (old new : List SwitchView) (page next : PageView) (before later : Told) : Type 0 where
  pub first : SwitchView
  pub last : SwitchView
  pub acts : List Act
  pub found : slice_get old c.switch ≡ Some first
  pub ruled : rule first c.input last acts
  pub changed : new ≡ slice_set old c.switch last
  pub told : Tells page next before later
      (heard_lines plan (node_in before) c.input c.frame ++ news plan (node_in before) first last ++ map (act_line plan (node_in before)) acts)

-- And the second manager.
pub record ToldOfManager (rule : ManagerRule) (plan : Plan) (s : ℕ) (says : ToManager) (old new : ManagerView) (page next : PageView)
    (before later : Told) : Type 0 where
  pub id : SwitchId
  pub acts : List ManagerAct
  pub found : slice_get plan.ids s ≡ Some id
  pub ruled : rule old id says new acts
  pub told : Tells page next before later (told_line plan (node_in before) verb.Heard says ∷ map (manager_act_line plan (node_in before)) acts)
