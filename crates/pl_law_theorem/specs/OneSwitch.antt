-- What a fabric of switches, a manager and hosts is at each moment of each of its runs: one lossy switch.
use Rattle.std.specs.Prelude.{◌≡◌, ℕ, ◌≤◌, ◌<◌, ◌++◌, Contains, List, Some, slice_get}
use Rattle.pl_pmac.specs.declared.pmac.Pmac.{Pmac}
use Rattle.pl_wiring.specs.declared.label.SwitchNo.{SwitchNo}
use Rattle.pl_journal.specs.declared.cause.Cause.{Cause}
use Rattle.pl_journal.specs.declared.entry.Entry.TheVariants.{Arrived, Dropped, Taken}
use Rattle.pl_journal.specs.Flights.{ends}
use Rattle.pl_journal.specs.Lossy.{GoodTrail, Run}
use Rattle.pl_node.specs.HostInputs.{HostRule}
use Rattle.pl_node.specs.ManagerDuties.{ManagerRule}
use Rattle.pl_node.specs.SwitchInputs.{SwitchRule}
use Rattle.pl_node.specs.SwitchViews.{SwitchView}
use Rattle.pl_switch_rule.specs.CauseOf.{cause_of, cause_of_made}
use Rattle.pl_world.specs.declared.event.Event.{Event}
use Rattle.pl_world.specs.declared.limits.Limits.{Limits}
use Rattle.pl_world.specs.Booting.{booted}
use Rattle.pl_world.specs.Changes.{host_no}
use Rattle.pl_world.specs.Drops.{Coming, coming, drops_in, made_in, written}
use Rattle.pl_world.specs.Runs.{Befalls, Moment, WorldRun}
use Rattle.pl_world.specs.Runs.Moment.{Step}
use Rattle.pl_world.specs.Worlds.{WorldView}
use Rattle.pl_law_addresses.specs.Addressed.{IsLiveNowhere}
use Rattle.pl_law_addresses.specs.GrantedOnce.{times_freed, times_granted}
use Rattle.pl_law_addresses.specs.Standing.{StandsForNothing}
use Rattle.pl_law_flights.specs.OnTheWay.{IsJournaled}
use Rattle.pl_law_arrival.specs.SureFrames.{IsSure}
use Rattle.pl_law_runs.specs.NamedDrops.{all_for, by_rule, one_or_none}
use Rattle.pl_law_theorem.specs.Invariant.{NetworkInvariant}

-- The frame arrived at this host, and that is its one end: nothing dropped it, no edge switch took it, and no other host got it.
pub record HasArrived (w : WorldView) (id g : ℕ) : Type 0 where
  pub frame : List ℕ
  pub arrived : Contains w.journal (Arrived id (host_no g) frame)
  pub not_dropped : (cause : Cause) → Contains w.journal (Dropped id cause) → ⊥
  pub not_taken : (switch : SwitchNo) → Contains w.journal (Taken id switch) → ⊥
  pub nowhere_else : (other : ℕ) (copy : List ℕ) → (other ≡ g → ⊥) → Contains w.journal (Arrived id (host_no other) copy) → ⊥

-- So it is of each frame that was sure from the moment of a run that sent it to one at which it had ended, where the run went on to this world.
abbrev pub SureFramesArrive : SwitchRule → ManagerRule → HostRule → WorldView → Type 0
SureFramesArrive switch manager host w =
    (limits : Limits) (before moments after : List Moment) (old ended : WorldView) (id h g : ℕ) → WorldRun switch manager host (booted w.plan limits) before old
    → IsSure switch manager host old moments ended id h g → 1 ≤ ends ended.journal id → WorldRun switch manager host ended after w → HasArrived w id g

-- At each moment of a run that leads to this world, its beginning and its end among them, the invariant of the network holds.
abbrev pub HoldsAtEachMoment : SwitchRule → ManagerRule → HostRule → WorldView → Type 0
HoldsAtEachMoment switch manager host w =
    (limits : Limits) (before after : List Moment) (old : WorldView) → WorldRun switch manager host (booted w.plan limits) before old
    → WorldRun switch manager host old after w → NetworkInvariant old

-- Of two moments of a run that leads to this world: an address that was granted between them, and was not freed between them, was nobody's at the
-- first. No trap stood from it or to it, no message to an edge switch spoke of it, and the fabric manager did not know it.
abbrev pub GrantsStandForNothing : SwitchRule → ManagerRule → HostRule → WorldView → Type 0
GrantsStandForNothing switch manager host w =
    (limits : Limits) (before between after : List Moment) (old later : WorldView) (x : Pmac) → WorldRun switch manager host (booted w.plan limits) before old
    → WorldRun switch manager host old between later → WorldRun switch manager host later after w → times_granted x old.journal < times_granted x later.journal
    → times_freed x later.journal ≡ times_freed x old.journal → IsLiveNowhere old.switches x × StandsForNothing old x

-- At each step of a run that leads to this world at which something comes at a switch, the frames that are dropped are just these, but for those on failed
-- links: the one that came, for the first cause that holds by what the switch knew, if one does, and the one that the switch makes, for its own.
abbrev pub DropsForTheFirstCause : SwitchRule → ManagerRule → HostRule → WorldView → Type 0
DropsForTheFirstCause switch manager host w =
    (limits : Limits) (before after : List Moment) (event : Event) (old new : WorldView) (comes : Coming) (v : SwitchView) →
    WorldRun switch manager host (booted w.plan limits) before old → Befalls switch manager host old (Step event) new → WorldRun switch manager host new after w →
    coming old event ≡ Some comes → slice_get old.switches comes.switch ≡ Some v → by_rule (drops_in (written old new))
    ≡ all_for (one_or_none comes.frame) (cause_of v comes.input) ++ all_for (made_in (written old new)) (cause_of_made v comes.input)

-- A world to which a run of the fabric has led from its beginning.
pub record IsOneSwitch (switch : SwitchRule) (manager : ManagerRule) (host : HostRule) (w : WorldView) : Type 0 where
  -- the journal is a run of one lossy switch: a frame arrives once, unaltered, where its address leads, or ends by its named cause
  pub run : Run w.plan w.journal
  -- a frame crosses at most five switches for each address, up and then down, over links that were live, and one to one host none twice
  pub trails : GoodTrail w.plan w.journal
  -- each frame that has not ended waits where the journal says
  pub journaled : IsJournaled w
  -- what nodes know and what waits between them is in order, now and at each moment before
  pub invariant : NetworkInvariant w
  pub moments : HoldsAtEachMoment switch manager host w
  -- an address is granted, also again, where nothing stands for it
  pub given : GrantsStandForNothing switch manager host w
  -- a frame that a switch drops by its rule ends in that step, for the first cause that holds
  pub drops : DropsForTheFirstCause switch manager host w
  -- while the fabric stays settled, a frame between registered hosts that a live path joins arrives, if it ends
  pub sure : SureFramesArrive switch manager host w
