-- The switches that a leg and a trail keep, the last one first.
use Rattle.std.specs.Prelude.{ℕ, List, [], ◌∷◌, map}
use Rattle.pl_wiring.specs.declared.label.SwitchNo.{SwitchNo}
use Rattle.pl_past_tables.specs.declared.leg.Leg.{Leg}
use Rattle.pl_past_tables.specs.declared.leg.Leg.TheVariants as legs
use Rattle.pl_past_tables.specs.declared.leg.Trail.{Trail}
use Rattle.pl_past_tables.specs.declared.leg.Trail.TheVariants as trails

abbrev pub numbers : List SwitchNo → List ℕ
numbers switches = map (λ s. s.0) switches

abbrev pub switches_of : Leg → List ℕ
switches_of legs.Empty = []
switches_of (legs.One a) = a.0 ∷ []
switches_of (legs.Two a b) = a.0 ∷ b.0 ∷ []
switches_of (legs.Three a b c) = a.0 ∷ b.0 ∷ c.0 ∷ []
switches_of (legs.Four a b c d) = a.0 ∷ b.0 ∷ c.0 ∷ d.0 ∷ []
switches_of (legs.Five a b c d e) = a.0 ∷ b.0 ∷ c.0 ∷ d.0 ∷ e.0 ∷ []

abbrev pub trail_of : Trail → List ℕ
trail_of trails.Empty = []
trail_of (trails.One a) = a.0 ∷ []
trail_of (trails.More a b) = a.0 ∷ b.0 ∷ []
