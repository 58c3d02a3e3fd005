-- What a manager that gathers reports does: each word that is treated brings acts about, and so does what follows from all that were treated.
-- A is an act.
use Rattle.std.specs.Prelude.{ℕ, ◌==◌, ◌&&◌, ◌||◌, not, Bool, if◌then◌else◌, List, [], ◌∷◌, ◌++◌, fold}
use Rattle.pl_frame.specs.declared.address.SwitchId.{SwitchId}
use Rattle.pl_gathering.specs.Gathering.{Gathered, Heard, Report, hears_begin, in_turn, is_among, is_whole, keeps_word, with_ended}
use Rattle.pl_gathering.specs.Gathering.Report.{Begin, End, Tells}

-- what is known then, and what is done
pub record Done (K A : Type 0) : Type 0 where
  pub known : K
  pub acts : List A

pub record Step (K T A : Type 0) : Type 0 where
  pub now : Gathered K T
  pub acts : List A

-- one word more is treated, and its acts stand behind those before it
abbrev pub then_treats : {K T A : Type 0} → (K → Heard T → Done K A) → Done K A → Heard T → Done K A
then_treats treats done h = record { known = (treats done.known h).known; acts = done.acts ++ (treats done.known h).acts }

-- these words are treated in turn, and then comes what follows from all of them
abbrev pub treats_all : {K T A : Type 0} → (K → Heard T → Done K A) → (K → Done K A) → K → List (Heard T) → Done K A
treats_all treats follows known heard = let done = fold (then_treats treats) (record { known = known; acts = [] }) heard in record {
  known = (follows done.known).known;
  acts = done.acts ++ (follows done.known).acts;
}

abbrev pub does_nothing : {K T A : Type 0} → Gathered K T → Step K T A
does_nothing g = record { now = g; acts = [] }

-- no report is missing any more: all that was kept is treated
abbrev pub goes_through : {K T A : Type 0} → (K → Heard T → Done K A) → (T → Bool) → (K → Done K A) → Gathered K T → Step K T A
goes_through treats waits follows g = let done = treats_all treats follows g.known (in_turn waits g.kept) in record {
  now = record g { kept = []; known = done.known };
  acts = done.acts;
}

-- a report that did not begin, or has ended, does not end
abbrev pub is_void_end : {K T : Type 0} → Gathered K T → SwitchId → ℕ → Bool
is_void_end g s epoch = is_whole g || (not (epoch == g.epoch && is_among s g.begun) || is_among s g.ended)

abbrev pub steps_at_end : {K T A : Type 0} → (K → Heard T → Done K A) → (T → Bool) → (K → Done K A) → Gathered K T → SwitchId → Step K T A
steps_at_end treats waits follows g s =
    if is_whole (with_ended s g) then goes_through treats waits follows (with_ended s g) else does_nothing (with_ended s g)

abbrev pub steps_at_word : {K T A : Type 0} → (K → Heard T → Done K A) → (K → Done K A) → Gathered K T → Heard T → Step K T A
steps_at_word treats follows g h = let done = treats_all treats follows g.known (h ∷ []) in record { now = record g { known = done.known }; acts = done.acts }

-- the step: a switch tells this
abbrev pub steps : {K T A : Type 0} → (K → Heard T → Done K A) → (T → Bool) → (K → Done K A) → Gathered K T → SwitchId → Report T → Step K T A
steps treats waits follows g s (Begin epoch) = does_nothing (hears_begin g s epoch)
steps treats waits follows g s (End epoch) = if is_void_end g s epoch then does_nothing g else steps_at_end treats waits follows g s
steps treats waits follows g s (Tells word) =
    if is_whole g then steps_at_word treats follows g (record { switch = s; word = word }) else does_nothing (keeps_word g s word)
