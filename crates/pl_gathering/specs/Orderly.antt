-- Of a manager that gathers reports: whose it has, and that one which is missing is on its way.
use Rattle.std.specs.Prelude.{◌≡◌, ◌==◌, ◌||◌, ℕ, Bool, true, false, if◌then◌else◌, List, [], ◌∷◌, length}
use Rattle.std.specs.List.{IsDistinct, list_any}
use Rattle.pl_frame.specs.declared.address.SwitchId.{SwitchId}
use Rattle.pl_layouts.specs.Equality.{same_switch}
use Rattle.pl_gathering.specs.Gathering.{Gathered, Report, is_among, is_whole, kept_of}
use Rattle.pl_gathering.specs.Gathering.Report.{Begin, End, Tells}

-- of a list of ids whether one is among them, by the test of the library
abbrev pub has : List SwitchId → SwitchId → Bool
has ids s = list_any (same_switch s) ids

-- a switch of which something is kept has begun, and where all reports were heard nothing is kept
pub record IsGathering {K T : Type 0} (g : Gathered K T) : Type 0 where
  pub kept : (s : SwitchId) → is_among s g.begun ≡ false → kept_of s g.kept ≡ []
  pub none : is_whole g ≡ true → g.kept ≡ []

-- those whose report ended differ, are switches of the tree, and have begun
pub record IsOrderly {K T : Type 0} (ids : List SwitchId) (g : Gathered K T) : Type 0 where
  pub many : g.many ≡ length ids
  pub once : IsDistinct same_switch g.ended
  pub within : (t : SwitchId) → is_among t g.begun ≡ true → has ids t ≡ true
  pub begun : (t : SwitchId) → is_among t g.ended ≡ true → is_among t g.begun ≡ true
  pub gathering : IsGathering g

-- whether the end of the report of this epoch stands in a queue: behind its `Begin`, where that was not heard
abbrev pub will_end : {T : Type 0} → ℕ → Bool → List (Report T) → Bool
will_end epoch begun [] = false
will_end epoch true (End n ∷ queue) = (n == epoch) || will_end epoch true queue
will_end epoch false (End n ∷ queue) = will_end epoch false queue
will_end epoch true (Begin n ∷ queue) = will_end epoch true queue
will_end epoch false (Begin n ∷ queue) = if n == epoch then will_end epoch true queue else will_end epoch false queue
will_end epoch begun (Tells word ∷ queue) = will_end epoch begun queue

-- a switch whose report has not ended, and that knows of this epoch, is going to end it
abbrev pub AreComing : {K T : Type 0} → List SwitchId → Gathered K T → (SwitchId → Bool) → (SwitchId → List (Report T)) → Type 0
AreComing ids g silent queue = (s : SwitchId) → has ids s ≡ true → silent s ≡ false → is_whole g ≡ false → is_among s g.ended ≡ false →
    will_end g.epoch (is_among s g.begun) (queue s) ≡ true

-- whether this is the `Begin` of an epoch
abbrev pub begins : {T : Type 0} → ℕ → Report T → Bool
begins epoch (Begin n) = n == epoch
begins epoch r = false
