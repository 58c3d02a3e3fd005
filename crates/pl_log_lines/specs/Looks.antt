-- Which lines of a log are shown.
use Rattle.std.specs.Prelude.{◌≡◌, ℕ, ◌==◌, ◌&&◌, nat_le, Bool, true, false, Option, Some, None, is_none}
use Rattle.std.specs.Option.{option_map_or}
use Rattle.std.specs.Str.{bytes_eq}
use Rattle.pl_journal.specs.declared.entry.Entry.{Entry}
use Rattle.pl_journal.specs.declared.entry.Entry.TheVariants.{Crossed, Granted, Line, LinkDown, LinkUp, Made, Moved, Placed, Settled, Taken, Unsettled}
use Rattle.pl_log_lines.specs.declared.kind.Kind.{Kind}
use Rattle.pl_log_lines.specs.declared.look.Look.{Look}
use Rattle.pl_log_lines.specs.Kinds.{kind_text}
use Rattle.pl_log_lines.specs.Rows.{Below}

abbrev pub is_within : Look → ℕ → Bool
is_within look line = nat_le look.first line && nat_le line look.last

abbrev pub is_node : Option ℕ → ℕ → Bool
is_node None of = false
is_node (Some node) of = node == of

-- of one switch alone, where that is asked
abbrev pub is_of : Look → Option ℕ → Bool
is_of look node = option_map_or (λ of. is_node node of.0) look.of true

abbrev pub is_kind : Look → Kind → Bool
is_kind look kind = option_map_or (λ wanted. bytes_eq (kind_text wanted) (kind_text kind)) look.kind true

-- a line below an event
abbrev pub shows : Look → Below → Bool
shows look b = is_of look b.node && is_kind look b.kind

-- an event, even where no line below it is shown
abbrev pub shows_event : Look → Option ℕ → Bool
shows_event look node = is_none look.kind && is_of look node

-- the switch of which an entry speaks
abbrev pub switch_of : Entry → Option ℕ
switch_of (Made id s frame) = Some s.0
switch_of (Crossed id s) = Some s.0
switch_of (Taken id s) = Some s.0
switch_of (Granted pmac h s port) = Some s.0
switch_of (Placed s place) = Some s.0
switch_of (LinkDown a b) = Some a.0
switch_of (LinkUp a b) = Some a.0
switch_of (Moved h s port) = Some s.0
switch_of entry = None

-- lines of the script, and how a settling ended, always
abbrev pub shows_entry : Look → Entry → Bool
shows_entry look (Line n) = true
shows_entry look (Settled rounds) = true
shows_entry look (Unsettled pending) = true
shows_entry look entry = is_none look.kind && is_of look (switch_of entry)

-- nothing is left out
pub record ShowsAll (look : Look) : Type 0 where
  pub switches : look.of ≡ None
  pub kinds : look.kind ≡ None
  pub lines : (line : ℕ) → is_within look line ≡ true
