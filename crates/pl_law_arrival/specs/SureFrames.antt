-- Sure frames: what the fabric promises them stands in the laws of this crate.
use Rattle.std.specs.Prelude.{◌≡◌, ℕ, Contains, List, [], ◌∷◌}
use Rattle.pl_pmac.specs.declared.pmac.Pmac.{Pmac}
use Rattle.pl_journal.specs.declared.entry.Entry.TheVariants.{Sent}
use Rattle.pl_node.specs.HostInputs.{HostRule}
use Rattle.pl_node.specs.ManagerDuties.{ManagerRule}
use Rattle.pl_node.specs.SwitchInputs.{SwitchRule}
use Rattle.pl_fabric.specs.Settled.{IsSettled}
use Rattle.pl_world.specs.Changes.{host_no}
use Rattle.pl_world.specs.Runs.{Befalls, Moment}
use Rattle.pl_world.specs.Worlds.{WorldView}
use Rattle.pl_law_arrival.specs.Losses.{IsLostAt}
use Rattle.pl_law_arrival.specs.Reach.{IsUnicastTo, Reaches}

-- The fabric is settled, and the one host reaches the other.
pub record IsSureMoment (w : WorldView) (h g : ℕ) (x : Pmac) : Type 0 where
  pub settled : IsSettled w
  pub reaches : Reaches w h g x

-- From one moment of a run to another each is such a one, and no lose event takes the frame. No event is refused.
abbrev pub StaysSure : SwitchRule → ManagerRule → HostRule → ℕ → ℕ → ℕ → Pmac → WorldView → List Moment → WorldView → Type 0
StaysSure switch manager host id h g x old [] new = IsSureMoment old h g x × (new ≡ old)
StaysSure switch manager host id h g x old (moment ∷ moments) new =
    IsSureMoment old h g x × (IsLostAt old moment id → ⊥)
    × ((next : WorldView) × Befalls switch manager host old moment next × StaysSure switch manager host id h g x next moments new)

-- A frame that host h sent to the newest address of host g, and that no edge switch takes for itself: one moment of a run sends it, and from
-- then on it stays sure.
pub record IsSure (switch : SwitchRule) (manager : ManagerRule) (host : HostRule) (old : WorldView) (moments : List Moment) (new : WorldView) (id h g : ℕ) : Type 0 where
  pub moment : Moment
  pub sent : WorldView
  pub befalls : Befalls switch manager host old moment sent
  pub frame : List ℕ
  pub entry : Contains sent.journal (Sent id (host_no h) frame)
  pub at_once : Contains old.journal (Sent id (host_no h) frame) → ⊥
  pub address : Pmac
  pub to_one_host : IsUnicastTo frame address
  pub stays : StaysSure switch manager host id h g address sent moments new
