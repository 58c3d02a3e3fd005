-- A manager that lost all that it knew: until each switch has said all that the manager has to know of it, it keeps what it hears.
-- K is what the manager knows, and T a word that a switch tells it.
use Rattle.std.specs.Prelude.{ℕ, ◌==◌, ◌&&◌, ◌||◌, not, nat_le, Bool, if◌then◌else◌, List, [], ◌∷◌, ◌++◌, length, map, fold}
use Rattle.std.specs.List.{filter, list_any}
use Rattle.pl_frame.specs.declared.address.SwitchId.{SwitchId}
use Rattle.pl_layouts.specs.Equality.{same_switch}

-- what a switch tells the manager: that its report begins, that it ends, or anything else
pub data Report (T : Type 0) : Type 0 where
  Begin : (epoch : ℕ) → Report T
  End : (epoch : ℕ) → Report T
  Tells : (word : T) → Report T

-- a switch told this
pub record Heard (T : Type 0) : Type 0 where
  pub switch : SwitchId
  pub word : T

-- The epoch is the number of restarts. In each but the first the manager hears a switch from its `Begin` on, and treats nothing before
-- the `End` of each of so many switches.
pub record Gathered (K T : Type 0) : Type 0 where
  pub many : ℕ
  pub epoch : ℕ
  -- each once
  pub begun : List SwitchId
  pub ended : List SwitchId
  -- in the order of hearing
  pub kept : List (Heard T)
  pub known : K

abbrev pub is_among : SwitchId → List SwitchId → Bool
is_among s ids = list_any (λ t. same_switch t s) ids

-- all reports were heard, or there are none in this epoch
abbrev pub is_whole : {K T : Type 0} → Gathered K T → Bool
is_whole g = (g.epoch == 0) || nat_le g.many (length g.ended)

-- the manager begins anew, and knows nothing
abbrev pub restarted : {K T : Type 0} → K → ℕ → Gathered K T → Gathered K T
restarted nothing epoch g = record { many = g.many; epoch = epoch; begun = []; ended = []; kept = []; known = nothing }

-- each is treated as if it were heard now
abbrev pub all_treated : {K T : Type 0} → (K → Heard T → K) → K → List (Heard T) → K
all_treated treat known kept = fold treat known kept

-- words that wait for the places of all switches come behind the others
abbrev pub in_turn : {T : Type 0} → (T → Bool) → List (Heard T) → List (Heard T)
in_turn waits kept = filter (λ h. not (waits h.word)) kept ++ filter (λ h. waits h.word) kept

-- the last report has ended: what was kept is treated, and then what follows from all of it
abbrev pub gone_through : {K T : Type 0} → (K → Heard T → K) → (T → Bool) → (K → K) → Gathered K T → Gathered K T
gone_through treat waits after g =
    if is_whole g then record g { kept = []; known = after (all_treated treat g.known (in_turn waits g.kept)) } else g

-- a switch that has begun, and has not ended, has ended
abbrev pub with_ended : {K T : Type 0} → SwitchId → Gathered K T → Gathered K T
with_ended s g = record g { ended = s ∷ g.ended }

abbrev pub hears_begin : {K T : Type 0} → Gathered K T → SwitchId → ℕ → Gathered K T
hears_begin g s epoch = if is_whole g || (not (epoch == g.epoch) || is_among s g.begun) then g else record g { begun = s ∷ g.begun }

abbrev pub hears_end : {K T : Type 0} → (K → Heard T → K) → (T → Bool) → (K → K) → Gathered K T → SwitchId → ℕ → Gathered K T
hears_end treat waits after g s epoch =
    if is_whole g || (not (epoch == g.epoch && is_among s g.begun) || is_among s g.ended) then g
    else gone_through treat waits after (with_ended s g)

-- a word that comes while a report is missing is kept, where that of its switch has begun
abbrev pub keeps_word : {K T : Type 0} → Gathered K T → SwitchId → T → Gathered K T
keeps_word g s word = if is_among s g.begun then record g { kept = g.kept ++ record { switch = s; word = word } ∷ [] } else g

abbrev pub hears_word : {K T : Type 0} → (K → Heard T → K) → Gathered K T → SwitchId → T → Gathered K T
hears_word treat g s word =
    if is_whole g then record g { known = treat g.known (record { switch = s; word = word }) }
    else keeps_word g s word

-- a word that is heard alone, while no report is missing, is treated, and then what follows from it
abbrev pub treated_alone : {K T : Type 0} → (K → Heard T → K) → (K → K) → K → Heard T → K
treated_alone treat after known h = after (treat known h)

abbrev pub hears : {K T : Type 0} → (K → Heard T → K) → (T → Bool) → (K → K) → Gathered K T → SwitchId → Report T → Gathered K T
hears treat waits after g s (Begin epoch) = hears_begin g s epoch
hears treat waits after g s (End epoch) = hears_end treat waits after g s epoch
hears treat waits after g s (Tells word) = hears_word (treated_alone treat after) g s word

-- what a switch tells that hears of an epoch: these words, between `Begin` and `End`
abbrev pub report : {T : Type 0} → ℕ → List T → List (Report T)
report epoch told = Begin epoch ∷ (map (λ w. Tells w) told ++ End epoch ∷ [])

-- What is still to be treated of a switch.

-- of the words that were kept
abbrev pub kept_of : {T : Type 0} → SwitchId → List (Heard T) → List T
kept_of s [] = []
kept_of s (h ∷ kept) = if same_switch h.switch s then h.word ∷ kept_of s kept else kept_of s kept

-- of a queue, all words
abbrev pub words : {T : Type 0} → List (Report T) → List T
words [] = []
words (Begin n ∷ queue) = words queue
words (End n ∷ queue) = words queue
words (Tells word ∷ queue) = word ∷ words queue

-- of the queue of a switch that has not begun, those behind its `Begin`
abbrev pub words_behind_begin : {T : Type 0} → ℕ → List (Report T) → List T
words_behind_begin epoch [] = []
words_behind_begin epoch (Begin n ∷ queue) = if n == epoch then words queue else words_behind_begin epoch queue
words_behind_begin epoch (End n ∷ queue) = words_behind_begin epoch queue
words_behind_begin epoch (Tells word ∷ queue) = words_behind_begin epoch queue

-- what the manager is going to treat, if nothing more is told
abbrev pub due : {K T : Type 0} → Gathered K T → (SwitchId → List (Report T)) → SwitchId → List T
due g queue s =
    if is_whole g then words (queue s)
    else if is_among s g.begun then kept_of s g.kept ++ words (queue s) else words_behind_begin g.epoch (queue s)
