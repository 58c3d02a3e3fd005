-- The lines of a log: how each is spelled.
use Rattle.std.specs.Prelude.{ℕ, Bool, if◌then◌else◌, List, [], ◌∷◌, ◌++◌, codes, decimal, option_map, Option, position}
use Rattle.std.specs.List.{filter_map, flat_map}
use Rattle.std.specs.Option.{option_map_or}
use Rattle.pl_frame.specs.Address.{ip4_text}
use Rattle.pl_frame.specs.declared.address.Ip4.{Ip4}
use Rattle.pl_frame.specs.declared.address.SwitchId.{SwitchId}
use Rattle.pl_layouts.specs.Equality.{same_switch}
use Rattle.pl_journal.specs.Text.{field_text, parted, switch_text}
use Rattle.pl_wiring.specs.Plan.{Plan}
use Rattle.pl_log_lines.specs.declared.kind.Kind.{Kind}
use Rattle.pl_log_lines.specs.declared.row.Row.{Row}
use Rattle.pl_log_lines.specs.declared.row.Verb.{Verb}
use Rattle.pl_log_lines.specs.declared.row.Verb.TheVariants as verb
use Rattle.pl_log_lines.specs.declared.row.Word.{Word}
use Rattle.pl_log_lines.specs.declared.row.Word.TheVariants.{Field, Ip}
use Rattle.pl_log_lines.specs.Kinds.{kind_text}

abbrev pub verb_text : Verb → List ℕ
verb_text verb.Heard = codes "heard"
verb_text verb.Sends = codes "sends"
verb_text verb.Tells = codes "tells"
verb_text verb.Says = codes "says"
verb_text verb.Does = codes "does"
verb_text verb.Knows = codes "knows"
verb_text verb.Lost = codes "lost"

abbrev pub word_text : Word → List ℕ
word_text (Field field) = field_text field
word_text (Ip ip) = ip4_text ip

-- the words that are there
abbrev pub words_text : List (Option Word) → List (List ℕ)
words_text words = filter_map (option_map word_text) words

-- A line below an event: which switch it speaks of, if it speaks of one, how it begins, and its further words.
pub record Below : Type 0 where
  pub node : Option ℕ
  pub verb : Verb
  pub kind : Kind
  pub words : List (List ℕ)

abbrev pub below_of : Option ℕ → Row → Below
below_of node row = record { node = node; verb = row.verb; kind = row.kind; words = words_text row.words }

-- ---- words

abbrev pub unknown : List ℕ
unknown = codes "-"

abbrev pub ip_word : Option Ip4 → List ℕ
ip_word ip = option_map_or ip4_text ip unknown

-- a switch by its label; where the wiring has none of that id, by the id
abbrev pub id_word : Plan → SwitchId → List ℕ
id_word plan id = option_map_or (switch_text plan) (position (same_switch id) plan.ids) (decimal id.0)

abbrev pub known_id_word : Plan → Option SwitchId → List ℕ
known_id_word plan id = option_map_or (id_word plan) id unknown

-- ---- lines

-- a word as a JSON string: no word has a character that is escaped there
abbrev pub quoted : List ℕ → List ℕ
quoted word = 34 ∷ (word ++ 34 ∷ [])

abbrev pub behind_comma : List ℕ → List ℕ
behind_comma word = codes "," ++ quoted word

-- an array of its words, of which the first says what sort of line it is
abbrev pub json_line : List ℕ → List (List ℕ) → List ℕ
json_line sort words = codes "[" ++ (quoted sort ++ (flat_map behind_comma words ++ codes "]\n"))

-- or the words parted by blanks, behind a mark
abbrev pub plain_line : List ℕ → List (List ℕ) → List ℕ
plain_line mark words = mark ++ (parted words ++ codes "\n")

abbrev pub line_text : Bool → List ℕ → List ℕ → List (List ℕ) → List ℕ
line_text json mark sort words = if json then json_line sort words else plain_line mark words

-- an entry of the journal, the line of an event with the number of its step, and a line below it
abbrev pub entry_line : Bool → List (List ℕ) → List ℕ
entry_line json words = line_text json [] (codes "journal") words

abbrev pub event_line : Bool → ℕ → List (List ℕ) → List ℕ
event_line json step words = line_text json (codes "@ ") (codes "event") (decimal step ∷ words)

abbrev pub below_line : Bool → Below → List ℕ
below_line json b = line_text json (codes "  ") (codes "below") (verb_text b.verb ∷ kind_text b.kind ∷ b.words)
