-- What a page has got, and what printing on it does.
use Rattle.std.specs.Prelude.{◌≡◌, ℕ, Bool, false, if◌then◌else◌, List, [], ◌++◌, codes}
use Rattle.std.specs.List.{flat_map}
use Rattle.pl_journal.specs.Text.{with_blank}
use Rattle.pl_shelf.specs.Held.{Held, absent, holds, unknown, with_end}
use Rattle.pl_log_lines.specs.Rows.{behind_comma, quoted}

-- what was written and printed, in which form, and whether a write failed
pub record PageView : Type 0 where
  pub text : Held
  pub json : Bool
  pub failed : Bool

-- Bytes were printed behind what was there, unless a write failed, which is remembered.
pub record Prints (old new : PageView) (bytes : List ℕ) : Type 0 where
  pub form : new.json ≡ old.json
  pub before : new.failed ≡ false → old.failed ≡ false
  pub printed : new.failed ≡ false → new.text ≡ with_end old.text bytes

-- how a line begins, with its first word
abbrev pub line_begin : Bool → List ℕ → List ℕ → List ℕ → List ℕ
line_begin json mark sort first = if json then codes "[" ++ (quoted sort ++ behind_comma first) else mark ++ first

-- a word behind the first one, and the words behind it
abbrev pub behind : Bool → List ℕ → List ℕ
behind json = if json then behind_comma else with_blank

abbrev pub more_words : Bool → List (List ℕ) → List ℕ
more_words json words = flat_map (behind json) words

-- how a line ends
abbrev pub line_end : Bool → List ℕ
line_end json = if json then codes "]\n" else codes "\n"

-- this text is all that is there, as far as the shelf tells it
abbrev pub HoldsText : Held → List ℕ → Type 0
HoldsText unknown text = Unit {0}
HoldsText absent text = text ≡ []
HoldsText (holds bytes) text = bytes ≡ text
