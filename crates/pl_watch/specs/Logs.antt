-- The log of a run: of its moments, and of what each node heard and did in them.
use Rattle.std.specs.Prelude.{◌≡◌, ℕ, ◌+◌, ◌&&◌, Bool, if◌then◌else◌, List, [], ◌∷◌, ◌++◌, map, Option, Some, None, slice_get, unwrap_or}
use Rattle.std.specs.List.{filter, filter_map, flat_map}
use Rattle.std.specs.Option.{option_or}
use Rattle.pl_journal.specs.declared.entry.Entry.{Entry}
use Rattle.pl_journal.specs.declared.entry.Entry.TheVariants.{Line}
use Rattle.pl_journal.specs.Text.{words_of}
use Rattle.pl_node.specs.declared.acts.ManagerAct.{ManagerAct}
use Rattle.pl_node.specs.declared.messages.ToManager.{ToManager}
use Rattle.pl_node.specs.HostInputs.{HostRule}
use Rattle.pl_node.specs.ManagerDuties.{ManagerRule}
use Rattle.pl_node.specs.SwitchInputs.{SwitchRule}
use Rattle.pl_node.specs.SwitchViews.{SwitchView}
use Rattle.pl_queues.specs.Queues.{items_at}
use Rattle.pl_wiring.specs.Plan.{Plan}
use Rattle.pl_world.specs.declared.event.Event.{Event}
use Rattle.pl_world.specs.declared.event.Event.TheVariants as event
use Rattle.pl_world.specs.declared.event.QueueName.TheVariants as queue
use Rattle.pl_world.specs.declared.item.Item.{Item}
use Rattle.pl_world.specs.declared.item.Item.TheVariants.{Control}
use Rattle.pl_world.specs.Changes.{noted, out_of}
use Rattle.pl_world.specs.Drops.{Coming, OfSwitch, Turn, coming, turn_of, written}
use Rattle.pl_world.specs.Refusals.{refusal}
use Rattle.pl_world.specs.Runs.{IsMark, Moment}
use Rattle.pl_world.specs.Runs.Moment.{Mark, Step}
use Rattle.pl_world.specs.WorldRule.{DeliversToManager, WorldStep}
use Rattle.pl_world.specs.Worlds.{WorldView}
use Rattle.pl_schedule.specs.Coming.{telling}
use Rattle.pl_log_lines.specs.declared.look.Look.{Look}
use Rattle.pl_log_lines.specs.declared.row.Verb.TheVariants as verb
use Rattle.pl_log_lines.specs.Acts.{act_line, heard_lines, manager_act_line}
use Rattle.pl_log_lines.specs.Controls.{control_line}
use Rattle.pl_watch.specs.Events.{event_words, node_of}
use Rattle.pl_log_lines.specs.Looks.{is_within, shows, shows_entry, shows_event}
use Rattle.pl_log_lines.specs.Messages.{told_line}
use Rattle.pl_watch.specs.News.{news}
use Rattle.pl_log_lines.specs.Rows.{Below, below_line, entry_line, event_line}

-- ---- what happens in a step, as lines below its event

abbrev pub news_at : Plan → Option ℕ → Option SwitchView → Option SwitchView → List Below
news_at plan number (Some before) (Some after) = news plan number before after
news_at plan number before after = []

-- A switch hears something; it knows more then; and it does something.
abbrev pub switch_lines : WorldView → Event → WorldView → Option Coming → Turn → List Below
switch_lines old happens new (Some c) (OfSwitch acts) =
    heard_lines old.plan (node_of old happens) c.input c.frame
    ++ news_at old.plan (node_of old happens) (slice_get old.switches c.switch) (slice_get new.switches c.switch)
    ++ map (act_line old.plan (node_of old happens)) acts
switch_lines old happens new c turn = []

-- The manager hears a switch, and does something.
abbrev pub manager_lines : WorldView → Event → Option (ℕ × ToManager) → List ManagerAct → List Below
manager_lines old happens None acts = []
manager_lines old happens (Some told) acts =
    told_line old.plan (node_of old happens) verb.Heard told.1 ∷ map (manager_act_line old.plan (node_of old happens)) acts

-- A control frame is lost, or comes out of a port where no switch hears it.
abbrev pub lost_of : Plan → Option ℕ → Option Item → List Below
lost_of plan number (Some (Control frame)) = control_line plan number verb.Lost None frame ∷ []
lost_of plan number item = []

abbrev pub lost_lines : WorldView → Event → List Below
lost_lines old (event.Lose s port) = lost_of old.plan (node_of old (event.Lose s port)) (slice_get (out_of old s.0 port) 0)
lost_lines old (event.Deliver (queue.Port s port)) =
    lost_of old.plan (node_of old (event.Deliver (queue.Port s port))) (slice_get (out_of old s.0 port) 0)
lost_lines old happens = []

abbrev pub unheard_lines : WorldView → Event → Option Coming → List Below
unheard_lines old happens None = lost_lines old happens
unheard_lines old happens (Some c) = []

abbrev pub step_lines : WorldView → Event → WorldView → Turn → List ManagerAct → List Below
step_lines old happens new turn acts =
    switch_lines old happens new (coming old happens) turn
    ++ manager_lines old happens (telling old happens) acts
    ++ unheard_lines old happens (coming old happens)

-- ---- what is shown of it

-- the line of the script that a journal has come to
abbrev pub line_in : Entry → Option ℕ
line_in (Line n) = Some n
line_in entry = None

abbrev pub last_some : {T : Type 0} → (T → Option ℕ) → List T → Option ℕ
last_some f [] = None
last_some f (x ∷ xs) = option_or (last_some f xs) (f x)

abbrev pub present_line : List Entry → ℕ
present_line entries = unwrap_or (last_some line_in entries) 0

-- What stands in a log: an entry of the journal, the line of an event with the number of its step, or a line below it.
pub data LogLine : Type 0 where
  IsEntry : (entry : Entry) → LogLine
  IsEvent : (step : ℕ) (words : List (List ℕ)) → LogLine
  IsBelow : (below : Below) → LogLine

-- the line of the event stands above those below it that are shown
abbrev pub event_lines : Look → WorldView → Event → List Below → List LogLine
event_lines look old happens [] = if shows_event look (node_of old happens) then IsEvent (old.steps + 1) (event_words old happens) ∷ [] else []
event_lines look old happens (b ∷ shown) = IsEvent (old.steps + 1) (event_words old happens) ∷ map IsBelow (b ∷ shown)

abbrev pub shown_entry : Look → ℕ → Entry → List LogLine
shown_entry look line entry = if is_within look line && shows_entry look entry then IsEntry entry ∷ [] else []

-- entries behind those before, each in its line of the script
abbrev pub entry_lines : Look → List Entry → List Entry → List LogLine
entry_lines look before [] = []
entry_lines look before (entry ∷ entries) =
    shown_entry look (present_line (before ++ entry ∷ [])) entry ++ entry_lines look (before ++ entry ∷ []) entries

-- ---- the log

module _ (switch : SwitchRule) (manager : ManagerRule) (host : HostRule) where
  -- what the manager did
  abbrev pub said_to : (w : WorldView) (s : ℕ) (items : List ToManager) (new : WorldView) → DeliversToManager manager w s items new → List ManagerAct
  said_to w s [] new turn = []
  said_to w s (told ∷ items) new turn = turn.acts

  abbrev pub said_in : (old : WorldView) (happens : Event) (new : WorldView) → WorldStep switch manager host old happens new → List ManagerAct
  said_in old (event.Deliver (queue.ToManager s)) new turn = said_to _ s.0 (items_at old.to_manager s.0) new turn
  said_in old happens new turn = []

  -- what is shown of what was heard and done in a step
  abbrev pub shown_below : Look → (old : WorldView) (happens : Event) (new : WorldView) → WorldStep switch manager host old happens new → List LogLine
  shown_below look old happens new turn =
      if is_within look (present_line old.journal)
      then event_lines look old happens (filter (shows look)
      (step_lines old happens new (turn_of switch manager host old happens new turn) (said_in old happens new turn)))
      else []

  -- The log of a run, which grows with its moments: of each step its event, with what was heard and done below it, and then the entries that it wrote;
  -- and the entries that a script wrote of itself.
  pub data IsLog (look : Look) (old : WorldView) : List Moment → WorldView → List LogLine → Type 0 where
    Begins : IsLog look old [] old []
    GoesOn : (moments : List Moment) (mid : WorldView) (lines : List LogLine) → IsLog look old moments mid lines →
        (happens : Event) (new : WorldView) → refusal mid happens ≡ None → (step : WorldStep switch manager host mid happens new) →
        IsLog look old (moments ++ Step happens ∷ []) new (lines ++ (shown_below look mid happens new step ++ entry_lines look mid.journal (written mid new)))
    IsMarked : (moments : List Moment) (mid : WorldView) (lines : List LogLine) → IsLog look old moments mid lines → (entry : Entry) → IsMark entry →
        IsLog look old (moments ++ Mark entry ∷ []) (noted mid entry) (lines ++ entry_lines look mid.journal (entry ∷ []))

-- ---- its text, and the journal in it

abbrev pub text_of_line : Bool → Plan → LogLine → List ℕ
text_of_line json plan (IsEntry entry) = entry_line json (words_of plan entry)
text_of_line json plan (IsEvent step words) = event_line json step words
text_of_line json plan (IsBelow b) = below_line json b

abbrev pub log_text : Bool → Plan → List LogLine → List ℕ
log_text json plan lines = flat_map (text_of_line json plan) lines

abbrev pub entry_in : LogLine → Option Entry
entry_in (IsEntry entry) = Some entry
entry_in line = None

abbrev pub entries_in : List LogLine → List Entry
entries_in lines = filter_map entry_in lines
