-- The lines of a file and the words of a line.
use Rattle.std.specs.Prelude.{◌≡◌, ℕ, Bool, true, false, ◌||◌, ◌==◌, if◌then◌else◌, List, [], ◌∷◌, filter, codes, refl}
use Rattle.std.specs.List.{slice_split, before_first}
use Rattle.std.specs.Str.Lines.{strip_carriage_return}
use Rattle.pl_script.specs.declared.words.Words.{Words}
use Rattle.pl_script.specs.declared.words.Words.TheVariants.{Zero, One, Two, Three, More}

abbrev pub is_newline : ℕ → Bool
is_newline byte = byte == 10

abbrev pub is_some_text : List ℕ → Bool
is_some_text [] = false
is_some_text (byte ∷ bytes) = true

-- a last part with nothing in it is no line
abbrev pub without_empty_last : List (List ℕ) → List (List ℕ)
without_empty_last [] = []
without_empty_last (last ∷ []) = if is_some_text last then last ∷ [] else []
without_empty_last (line ∷ next ∷ more) = line ∷ without_empty_last (next ∷ more)

-- each line ends with a newline or with the file
abbrev pub lines_of : List ℕ → List (List ℕ)
lines_of file = without_empty_last (slice_split is_newline file)

abbrev pub is_hash : ℕ → Bool
is_hash byte = byte == 35

-- space or tab
abbrev pub is_blank : ℕ → Bool
is_blank byte = byte == 32 || byte == 9

-- the parts between blanks that have something in them
abbrev pub words_of : List ℕ → List (List ℕ)
words_of text = filter is_some_text (slice_split is_blank text)

-- a comment goes from # to the end of the line
abbrev pub before_comment : List ℕ → List ℕ
before_comment text = before_first is_hash text

-- the words that a value holds
abbrev pub words_in : Words → List (List ℕ)
words_in Zero = []
words_in (One a) = a.now ∷ []
words_in (Two a b) = a.now ∷ b.now ∷ []
words_in (Three a b c) = a.now ∷ b.now ∷ c.now ∷ []
words_in (More a b c d rest) = a.now ∷ b.now ∷ c.now ∷ d.now ∷ words_of rest.now

three_lines : lines_of (codes "a\n\nb") ≡ codes "a" ∷ [] ∷ codes "b" ∷ []
three_lines = refl

ended_by_a_newline : lines_of (codes "a\n") ≡ codes "a" ∷ []
ended_by_a_newline = refl

no_line : lines_of [] ≡ []
no_line = refl

three_words : words_of (codes "  send\ta  2 ") ≡ codes "send" ∷ codes "a" ∷ codes "2" ∷ []
three_words = refl

no_word : words_of (codes " \t ") ≡ []
no_word = refl

comment_inside_a_word : words_of (before_comment (codes "settle 6#4 rest")) ≡ codes "settle" ∷ codes "6" ∷ []
comment_inside_a_word = refl

one_carriage_return : strip_carriage_return (codes "start a\r\r") ≡ codes "start a\r"
one_carriage_return = refl
