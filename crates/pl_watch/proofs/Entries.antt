-- The entries in a log from which nothing is left out are those of the journal.
use Rattle.std.proofs.Common.{◌≡◌, ℕ, ◌+◌, ◌&&◌, Bool, true, false, if◌then◌else◌, List, [], ◌∷◌, ◌++◌, map, Option, None, Some, is_none, refl, sym, ap, ◌∙◌}
use Rattle.std.specs.List.{filter}
use Rattle.std.proofs.lemmas.List.Elements.{filter_map-append}
use Rattle.pl_journal.specs.declared.entry.Entry.{Entry}
use Rattle.pl_journal.specs.declared.entry.Entry.TheVariants as entry
use Rattle.pl_node.specs.HostInputs.{HostRule}
use Rattle.pl_node.specs.ManagerDuties.{ManagerRule}
use Rattle.pl_node.specs.SwitchInputs.{SwitchRule}
use Rattle.pl_world.specs.declared.event.Event.{Event}
use Rattle.pl_world.specs.Drops.{turn_of, written}
use Rattle.pl_world.specs.Runs.{Moment}
use Rattle.pl_world.specs.WorldRule.{WorldStep}
use Rattle.pl_world.specs.Worlds.{WorldView}
use Rattle.pl_log_lines.specs.declared.look.Look.{Look}
use Rattle.pl_watch.specs.Logs.{IsLog, LogLine, entries_in, entry_in, entry_lines, event_lines, present_line, said_in, shown_below, shown_entry, step_lines}
use Rattle.pl_watch.specs.Logs.IsLog.{Begins, GoesOn, IsMarked}
use Rattle.pl_watch.specs.Logs.LogLine.{IsBelow, IsEntry, IsEvent}
use Rattle.pl_watch.specs.Events.{event_words, node_of}
use Rattle.pl_log_lines.specs.Looks.{ShowsAll, is_of, is_within, shows as are_shown, shows_entry, shows_event}
use Rattle.pl_log_lines.specs.Rows.{Below}

-- ---- lines of events have no entries

none_below : (bs : List Below) → entries_in (map IsBelow bs) ≡ []
none_below [] = refl
none_below (b ∷ bs) = none_below bs

if_event : (shown : Bool) (step : ℕ) (words : List (List ℕ)) → entries_in (if shown then IsEvent step words ∷ [] else []) ≡ []
if_event true step words = refl
if_event false step words = refl

none_of_event : (look : Look) (old : WorldView) (happens : Event) (bs : List Below) → entries_in (event_lines look old happens bs) ≡ []
none_of_event look old happens [] = if_event (shows_event look (node_of old happens)) (old.steps + 1) (event_words old happens)
none_of_event look old happens (b ∷ bs) = none_below bs

none_where : (within : Bool) (lines : List LogLine) → entries_in lines ≡ [] → entries_in (if within then lines else []) ≡ []
none_where true lines none = none
none_where false lines none = refl

-- ---- each entry is shown

module _ (look : Look) (all : ShowsAll look) where
  both : (number : Option ℕ) → (is_none look.kind && is_of look number) ≡ true
  both number = rw (all.kinds, all.switches) refl

  shows : (e : Entry) → shows_entry look e ≡ true
  shows (entry.Line n) = refl
  shows (entry.Settled rounds) = refl
  shows (entry.Unsettled pending) = refl
  shows (entry.Sent id h frame) = both None
  shows (entry.Skipped h skip) = both None
  shows (entry.Made id s frame) = both (Some s.0)
  shows (entry.Crossed id s) = both (Some s.0)
  shows (entry.Redirected id old new) = both None
  shows (entry.Copied id copy) = both None
  shows (entry.Arrived id h frame) = both None
  shows (entry.Taken id s) = both (Some s.0)
  shows (entry.Dropped id cause) = both None
  shows (entry.Granted pmac h s port) = both (Some s.0)
  shows (entry.Registered pmac n) = both None
  shows (entry.Freed pmac) = both None
  shows (entry.Restarted n) = both None
  shows (entry.Placed s place) = both (Some s.0)
  shows (entry.LinkDown a b) = both (Some a.0)
  shows (entry.LinkUp a b) = both (Some a.0)
  shows (entry.Moved h s port) = both (Some s.0)

  is_shown : (line : ℕ) (entry : Entry) → shown_entry look line entry ≡ IsEntry entry ∷ []
  is_shown line entry = rw (all.lines line, shows entry) refl

  entries_shown : (before entries : List Entry) → entries_in (entry_lines look before entries) ≡ entries
  entries_shown before [] = refl
  entries_shown before (e ∷ entries) =
      let rest = entry_lines look (before ++ e ∷ []) entries in
      ap (λ first. entries_in (first ++ rest)) (is_shown (present_line (before ++ e ∷ [])) e)
      ∙ ap (λ more. e ∷ more) (entries_shown (before ++ e ∷ []) entries)

  -- as far as steps write behind what is there
  module _ (switch : SwitchRule) (manager : ManagerRule) (host : HostRule)
      (grows : (old : WorldView) (happens : Event) (new : WorldView) → WorldStep switch manager host old happens new → new.journal ≡ old.journal ++ written old new) where
    pub entries_of_log : (old : WorldView) (moments : List Moment) (new : WorldView) (lines : List LogLine) → old.journal ≡ [] →
        IsLog switch manager host look old moments new lines → entries_in lines ≡ new.journal
    entries_of_log old moments new lines empty Begins = sym empty
    entries_of_log old done last lines empty (GoesOn moments mid before log happens new allowed step) =
        let below = shown_below switch manager host look mid happens new step in
        let shown = filter (are_shown look) (step_lines mid happens new (turn_of switch manager host mid happens new step) (said_in switch manager host mid happens new step)) in
        let wrote = entry_lines look mid.journal (written mid new) in
        filter_map-append entry_in before (below ++ wrote)
        ∙ ap (λ es. entries_in before ++ es) (filter_map-append entry_in below wrote
        ∙ ap (λ es. es ++ entries_in wrote) (none_where (is_within look (present_line mid.journal)) (event_lines look mid happens shown) (none_of_event look mid happens shown))
        ∙ entries_shown mid.journal (written mid new))
        ∙ ap (λ es. es ++ written mid new) (entries_of_log old moments mid before empty log)
        ∙ sym (grows mid happens new step)
    entries_of_log old done last lines empty (IsMarked moments mid before log entry is) =
        filter_map-append entry_in before (entry_lines look mid.journal (entry ∷ []))
        ∙ ap (λ es. entries_in before ++ es) (entries_shown mid.journal (entry ∷ []))
        ∙ ap (λ es. es ++ entry ∷ []) (entries_of_log old moments mid before empty log)
