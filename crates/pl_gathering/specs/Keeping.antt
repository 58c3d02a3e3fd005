-- What is so of what the manager knows and of what it is going to treat: what keeps it so.
use Rattle.std.specs.Prelude.{Bool, if◌then◌else◌, List, ◌∷◌, ◌++◌}
use Rattle.pl_frame.specs.declared.address.SwitchId.{SwitchId}
use Rattle.pl_layouts.specs.Equality.{same_switch}
use Rattle.pl_gathering.specs.Gathering.{Heard, Report, in_turn, kept_of}

-- a word of a switch stands before all that is due of it
abbrev pub put_first : {T : Type 0} → Heard T → (SwitchId → List T) → SwitchId → List T
put_first h due s = if same_switch h.switch s then h.word ∷ due s else due s

-- the queues before the first report of a switch was taken
abbrev pub before : {T : Type 0} → SwitchId → Report T → (SwitchId → List (Report T)) → SwitchId → List (Report T)
before s r queue t = if same_switch s t then r ∷ queue t else queue t

-- treating one word keeps it
abbrev pub IsKept : {K T : Type 0} → (K → Heard T → K) → (K → (SwitchId → List T) → Type 0) → Type 0
IsKept {K} {T} treat P = (k : K) (h : Heard T) (due : SwitchId → List T) → P k (put_first h due) → P (treat k h) due

-- so does each word that is treated, so is it where words that wait come behind the others, and so does what follows from all of it
pub record AreKept {K T : Type 0} (treat : K → Heard T → K) (waits : T → Bool) (after : K → K) (P : K → (SwitchId → List T) → Type 0) : Type 0 where
  pub each : IsKept treat P
  pub turns : (k : K) (kept : List (Heard T)) (up : SwitchId → List T) → P k (λ s. kept_of s kept ++ up s) → P k (λ s. kept_of s (in_turn waits kept) ++ up s)
  pub then_kept : (k : K) (due : SwitchId → List T) → P k due → P (after k) due
