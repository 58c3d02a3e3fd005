-- Runs of a world: steps, and between them what a script writes of itself.
use Rattle.std.specs.Prelude.{◌≡◌, List, [], ◌∷◌, None}
use Rattle.pl_journal.specs.declared.entry.Entry.{Entry}
use Rattle.pl_journal.specs.declared.entry.Entry.TheVariants.{Line, Settled, Unsettled}
use Rattle.pl_wiring.specs.Plan.{Plan}
use Rattle.pl_node.specs.HostInputs.{HostRule}
use Rattle.pl_node.specs.ManagerDuties.{ManagerRule}
use Rattle.pl_node.specs.SwitchInputs.{SwitchRule}
use Rattle.pl_world.specs.declared.event.Event.{Event}
use Rattle.pl_world.specs.declared.limits.Limits.{Limits}
use Rattle.pl_world.specs.Booting.{CanBegin, booted}
use Rattle.pl_world.specs.Changes.{noted}
use Rattle.pl_world.specs.Refusals.{refusal}
use Rattle.pl_world.specs.WorldRule.{WorldStep}
use Rattle.pl_world.specs.Worlds.{WorldView}

-- what a script writes of itself: a line of it, or how a settling ended
abbrev pub IsMark : Entry → Type 0
IsMark (Line n) = Unit {0}
IsMark (Settled rounds) = Unit {0}
IsMark (Unsettled pending) = Unit {0}
IsMark entry = ⊥

-- what befalls a world at a moment: a step, or a mark
pub data Moment : Type 0 where
  Step : (event : Event) → Moment
  Mark : (entry : Entry) → Moment

-- a step that is not refused is made, or a mark is written
abbrev pub Befalls : SwitchRule → ManagerRule → HostRule → WorldView → Moment → WorldView → Type 0
Befalls switch manager host old (Step event) new = (refusal old event ≡ None) × WorldStep switch manager host old event new
Befalls switch manager host old (Mark entry) new = IsMark entry × (new ≡ noted old entry)

-- Moments one after the other.
abbrev pub WorldRun : SwitchRule → ManagerRule → HostRule → WorldView → List Moment → WorldView → Type 0
WorldRun switch manager host old [] new = new ≡ old
WorldRun switch manager host old (moment ∷ moments) new =
    (next : WorldView) × Befalls switch manager host old moment next × WorldRun switch manager host next moments new

-- So it is at each moment of every run from the beginning of a fabric.
abbrev pub InEveryRun : SwitchRule → ManagerRule → HostRule → (WorldView → Type 0) → Type 0
InEveryRun switch manager host Holds = (plan : Plan) (limits : Limits) (moments : List Moment) (new : WorldView) → CanBegin plan →
    WorldRun switch manager host (booted plan limits) moments new → Holds new
