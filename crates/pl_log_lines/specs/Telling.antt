-- Lines below an event as they are told one after the other: the event's own line stands above the first that is shown.
use Rattle.std.specs.Prelude.{◌≡◌, ℕ, ◌&&◌, ◌||◌, Bool, true, if◌then◌else◌, List, [], ◌∷◌, ◌++◌, Option, option_map}
use Rattle.std.specs.List.{list_any}
use Rattle.pl_log_lines.specs.declared.told.Told.{Told}
use Rattle.pl_log_lines.specs.Looks.{is_within, shows, shows_event}
use Rattle.pl_log_lines.specs.Pages.{PageView, Prints}
use Rattle.pl_log_lines.specs.Rows.{Below, below_line, event_line, words_text}

-- the switch of which the event speaks
abbrev pub node_in : Told → Option ℕ
node_in told = option_map (λ s. s.0) told.node

abbrev pub is_shown : Told → Below → Bool
is_shown told b = is_within told.look told.line && shows told.look b

-- the line of the event, unless it stands there already
abbrev pub head_text : Bool → Told → Bool → List ℕ
head_text json told printed = if printed then [] else event_line json told.step (words_text told.words)

abbrev pub below_text : Bool → Told → Bool → List Below → List ℕ
below_text json told printed [] = []
below_text json told printed (b ∷ bs) =
    if is_shown told b then head_text json told printed ++ (below_line json b ++ below_text json told true bs) else below_text json told printed bs

-- the event after these lines below it were told
abbrev pub after : Told → List Below → Told
after told bs = record told { is_printed = told.is_printed || list_any (is_shown told) bs }

-- Lines were told.
pub record Tells (old new : PageView) (before last : Told) (bs : List Below) : Type 0 where
  pub prints : Prints old new (below_text old.json before before.is_printed bs)
  pub told : last ≡ after before bs

-- An event's own line is printed at once, where the event is shown even where no line below it is.
abbrev pub is_event_shown : Told → Bool
is_event_shown told = is_within told.look told.line && shows_event told.look (node_in told)

pub record TellsEvent (old new : PageView) (before last : Told) : Type 0 where
  pub prints : Prints old new (if is_event_shown before then head_text old.json before before.is_printed else [])
  pub told : last ≡ record before { is_printed = is_event_shown before || before.is_printed }
