-- What the words of the command line ask for: the files of a run, and which lines of its log are shown.
use Rattle.std.specs.Prelude.{ℕ, ◌==◌, Bool, not, if◌then◌else◌, List, [], ◌∷◌, codes, filter, find, Option, Some, None, option_map}
use Rattle.std.specs.Option.{option_and_then, option_copied}
use Rattle.std.specs.List.{list_any, before_first, after_first}
use Rattle.std.specs.Str.{bytes_eq}
use Rattle.pl_wiring.specs.declared.label.SwitchNo.{SwitchNo}
use Rattle.pl_wiring.specs.SwitchNames.{switch_named}
use Rattle.pl_inputs.specs.Met.{asked}
use Rattle.pl_inputs.specs.Words.{Asked, Given, items_of, number_in, value_if_given, value_in}
use Rattle.pl_inputs.specs.declared.words.Network.TheVariants.{Fabric}
use Rattle.pl_log_lines.specs.declared.kind.Kind.{Kind}
use Rattle.pl_log_lines.specs.declared.look.Look.{Look}
use Rattle.pl_log_lines.specs.Kinds.{all_kinds, kind_text}
use Rattle.pl_watch_run.specs.declared.words.Asked.{Asked as Told}

-- what the program is asked to do: the files of a run, and the words that say which lines of its log are shown
pub record Watching : Type 0 where
  pub files : Asked
  pub of : Option (List ℕ)
  pub kind : Option (List ℕ)
  pub lines : Option (List ℕ)
  pub json : Bool

abbrev pub watch_items : List (List ℕ)
watch_items =
    codes "--topology" ∷ codes "--script" ∷ codes "--captures" ∷ codes "--out" ∷ codes "--of" ∷ codes "--kind" ∷ codes "--lines" ∷ []

abbrev pub is_json : List ℕ → Bool
is_json word = bytes_eq word (codes "--json")

-- each of the three files is named; nothing is saved
abbrev pub files_with : Option (List ℕ) → Option (List ℕ) → Option (List ℕ) → Option Asked
files_with (Some t) (Some s) (Some c) = Some (record { network = Fabric; topology = t; script = s; captures = c; out = [] })
files_with _ _ _ = None

abbrev pub files_by : List Given → Option Asked
files_by items = files_with (value_in (codes "--topology") items) (value_in (codes "--script") items) (value_in (codes "--captures") items)

-- no other item is there twice; --out is taken, and passed over
abbrev pub asked_with : Bool → Option (Option (List ℕ)) → Option Asked → Option (Option (List ℕ)) → Option (Option (List ℕ)) → Option (Option (List ℕ)) →
    Option Watching
asked_with json (Some out) (Some files) (Some of) (Some kind) (Some lines) =
    Some (record { files = files; of = of; kind = kind; lines = lines; json = json })
asked_with json _ _ _ _ _ = None

abbrev pub asked_by : Bool → List Given → Option Watching
asked_by json items =
    asked_with json (value_if_given (codes "--out") items) (files_by items) (value_if_given (codes "--of") items)
    (value_if_given (codes "--kind") items) (value_if_given (codes "--lines") items)

-- The program's name, and then items in any order, as a run has them; --json stands anywhere among them, without a value.
unfoldable pub asked_of : List (List ℕ) → Option Watching
asked_of [] = None
asked_of (program ∷ words) =
    option_and_then (asked_by (list_any is_json words)) (items_of watch_items (filter (λ word. not (is_json word)) words))

-- the same as the code holds it
abbrev pub watching : Told → Watching
watching told = record {
  files = asked told.files;
  of = option_copied told.of;
  kind = option_copied told.kind;
  lines = option_copied told.lines;
  json = told.json;
}

-- ---- the lines that are shown

-- what a word means, where it is given
abbrev pub if_given : {T : Type 0} → (List ℕ → Option T) → Option (List ℕ) → Option (Option T)
if_given read None = Some None
if_given read (Some text) = option_map Some (read text)

abbrev pub kind_named : List ℕ → Option Kind
kind_named text = find (λ kind. bytes_eq (kind_text kind) text) all_kinds

-- a line of a script, or 0
abbrev pub line_number : List ℕ → Option ℕ
line_number text = number_in 0 4294967295 text

abbrev pub is_dash : ℕ → Bool
is_dash byte = byte == 45

abbrev pub both : Option ℕ → Option ℕ → Option (ℕ × ℕ)
both (Some first) (Some last) = Some (first, last)
both _ _ = None

-- the numbers before and behind the first dash
abbrev pub lines_in : List ℕ → Option (ℕ × ℕ)
lines_in text = if list_any is_dash text then both (line_number (before_first is_dash text)) (line_number (after_first is_dash text)) else None

-- all of them, where they are not given
abbrev pub lines_of : Option (List ℕ) → Option (ℕ × ℕ)
lines_of None = Some (0, 4294967295)
lines_of (Some text) = lines_in text

abbrev pub look_with : Bool → Option (Option SwitchNo) → Option (Option Kind) → Option (ℕ × ℕ) → Option Look
look_with json (Some of) (Some kind) (Some lines) = Some (record { of = of; kind = kind; first = lines.0; last = lines.1; json = json })
look_with json _ _ _ = None

-- on a tree of switches with so many ports
unfoldable pub look_of : ℕ → Watching → Option Look
look_of k w = look_with w.json (if_given (switch_named k) w.of) (if_given kind_named w.kind) (lines_of w.lines)
