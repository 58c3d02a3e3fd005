-- What each step leaves: the wiring, the live links or what switches know, and what was written.
use Rattle.std.proofs.Common.{◌≡◌, ◌⊎◌, ℕ, ◌+◌, List, [], ◌∷◌, None, ap, inl, inr}
use Rattle.pl_journal.specs.declared.entry.Entry.{Entry}
use Rattle.pl_node.specs.ManagerDuties.{ManagerRule}
use Rattle.pl_node.specs.SwitchInputs.{SwitchRule}
use Rattle.pl_node.specs.HostInputs.{HostRule}
use Rattle.pl_node.proofs.Exports.{among_left, IsAmong}
use Rattle.pl_manager_rule.specs.WholeRule.{whole_rule}
use Rattle.pl_switch_rule.specs.SwitchRule.{Loose}
use Rattle.pl_world.specs.declared.event.Event.{Event}
use Rattle.pl_world.specs.Runs.{Moment, WorldRun}
use Rattle.pl_world.specs.WorldRule.{WorldStep}
use Rattle.pl_world.specs.Worlds.{WorldView}
use Rattle.pl_world.proofs.Exports.{Any, any_of_switches, by_event_but, ByTurns, event_left, Left, MovesAndLinks, run_along, step_plan, Takes, Turns, Writes}
use Rattle.pl_world.proofs.Exports.Left.{LinkFails, Moves, Repairs, Restarts, Stays}
use Rattle.pl_fabric.specs.Settled.{IsSettled}
use Rattle.pl_law_control_plane.specs.ControlPlanes.{control_plane}
use Rattle.pl_law_control_plane.proofs.Exports.{step_on_plane}
use Rattle.pl_switch_rule.proofs.Exports.{loose_steps_are_accounted}
use Rattle.pl_node.specs.ManagerViews.{ManagerView}
use Rattle.pl_world.specs.Refusals.{refusal}
use Rattle.pl_law_arrival.specs.Orderly.{IsOrderlyWorld}
use Rattle.pl_law_arrival.specs.Ways.{Alike, fabric_of}
use Rattle.pl_law_arrival.proofs.Alike.{alike_by_manager, alike_by_views, one_of_both_on}
use Rattle.pl_law_arrival.proofs.Grounds.{ready}
use Rattle.pl_law_arrival.proofs.Ready.{net}

pub record Follows (old new : WorldView) : Type 0 where
  pub plan : new.plan ≡ old.plan
  -- the same links are live, or switches know the same
  pub ground : (new.links ≡ old.links) ⊎ ((s : ℕ) → (control_plane new).view s ≡ (control_plane old).view s)
  pub journal : (e : Entry) → IsAmong e old.journal → IsAmong e new.journal

-- ---- what was written stays written
abbrev StaysWritten : WorldView → WorldView → Type 0
StaysWritten a b = (e : Entry) → IsAmong e a.journal → IsAmong e b.journal

written_writes : Writes StaysWritten Any
written_writes =
    record { same = λ w e h. h; on = λ a b c one next e h. next e (one e h); entry = λ w x may e h. among_left e w.journal (x ∷ []) h; dropped = λ id why. tt }

written_takes : Takes StaysWritten
written_takes =
    record { from_hosts = λ w h items e j. j; out = λ w i items e j. j; to_manager = λ w s items e j. j; from_manager = λ w s items e j. j; heard = λ w heard e j. j }

written_turns : Turns StaysWritten Any
written_turns = record {
  switches_write = any_of_switches StaysWritten (λ w x e h. among_left e w.journal (x ∷ []) h);
  placed = λ s place. tt;
  registered = λ pmac n. tt;
  out = λ w i item e h. h;
  reports = λ w s told e h. h;
  sends = λ w n frame e h. among_left e w.journal (_ ∷ []) h;
  orders = λ w s says e h. h;
  switches = λ w s view e h. h;
  hosts = λ w n view e h. h;
  manager = λ w view e h. h;
}

written_moves : MovesAndLinks StaysWritten Any
written_moves = record { moved = λ h s port. tt; down = λ a b. tt; up = λ a b. tt; attachments = λ w h to e j. j; links = λ w links e j. j; restarted = λ n. tt; anew = λ w n e j. j }

module _ (switch : SwitchRule) (manager : ManagerRule) (host : HostRule) (old : WorldView) (happens : Event) (new : WorldView)
    (step : WorldStep switch manager host old happens new) where
  abbrev w : WorldView
  w = record old { steps = old.steps + 1 }

  -- the same links are live, or switches know the same
  ground : Left ByTurns w happens new → (new.links ≡ old.links) ⊎ ((s : ℕ) → (control_plane new).view s ≡ (control_plane old).view s)
  ground (Stays r) = inl (ap (λ (x : WorldView). x.links) r)
  ground (Moves h s port from is at r) = inl (ap (λ (x : WorldView). x.links) r)
  ground (LinkFails a b link is found fails) = inr (λ s. ap (λ (x : WorldView). (control_plane x).view s) fails)
  ground (Repairs a b link is found repairs) = inr (λ s. ap (λ (x : WorldView). (control_plane x).view s) repairs)
  ground (Restarts is anew) = inr (λ s. ap (λ (x : WorldView). (control_plane x).view s) anew)

  pub follows : Follows old new
  follows = record {
    plan = step_plan switch manager host old happens new step;
    ground = ground (by_event_but switch manager host w happens new step);
    journal =
        event_left StaysWritten Any written_writes written_takes (λ id s. tt) (λ id h frame. tt)
        (λ h skip. tt) switch manager host w happens new written_turns written_moves step;
  }

pub stays_written : (host : HostRule) (old : WorldView) (moments : List Moment) (new : WorldView) → WorldRun Loose whole_rule host old moments new →
    (e : Entry) → IsAmong e old.journal → IsAmong e new.journal
stays_written host old moments new run =
    run_along StaysWritten written_writes.same written_writes.on Loose whole_rule host
    (λ a happens b none step. (follows Loose whole_rule host a happens b step).journal)
    (λ a mark is. written_writes.entry a mark tt) old moments new run

-- Between two settled moments that one step joins no link and no place changes.
pub unchanged : (host : HostRule) (old new : WorldView) (happens : Event) → IsOrderlyWorld old → IsOrderlyWorld new → IsSettled old → IsSettled new → refusal old happens ≡ None →
    WorldStep Loose whole_rule host old happens new → Alike (fabric_of old) (fabric_of new)
unchanged host old new happens order later settled still none step =
    let r = ready old order settled in
    let ahead = ready new later still in
    let f = follows Loose whole_rule host old happens new step in
    let plane = step_on_plane Loose whole_rule host loose_steps_are_accounted old happens new r.counted r.hosts none step in
    elim f.ground [
      | inr views ↦ alike_by_views (net old) (net new) r.calm ahead.calm f.plan views
      | inl links ↦ elim (one_of_both_on (control_plane old) (control_plane new) plane) [
        | inl manager ↦ alike_by_manager (net old) (net new) r.calm ahead.calm f.plan links (ap (λ (m : ManagerView). m.told) manager)
        | inr views ↦ alike_by_views (net old) (net new) r.calm ahead.calm f.plan views
      ]
    ]
