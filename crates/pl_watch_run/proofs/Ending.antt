-- What stands on standard output once the script was played.
use Rattle.std.proofs.Common.{◌≡◌, ℕ, List, [], length, Option, Some, None, Result, Ok, Err, IfOk, refl, sym, subst}
use Rattle.std.proofs.lemmas.List.Elements.{All-weaker}
use Rattle.pl_shelf.specs.Held.{ShelfMoment, standard_output}
use Rattle.pl_node.specs.HostInputs.{HostRule}
use Rattle.pl_node.specs.ManagerDuties.{ManagerRule}
use Rattle.pl_node.specs.SwitchInputs.{SwitchRule}
use Rattle.pl_wiring.specs.declared.host.Host.{Host}
use Rattle.pl_wiring.specs.Plan.{IsHostMac, IsPlan, Plan}
use Rattle.pl_inputs.specs.declared.status.Status.{Status}
use Rattle.pl_inputs.specs.declared.status.Status.TheVariants as status
use Rattle.pl_inputs.specs.declared.words.Network.TheVariants.{Fabric}
use Rattle.pl_inputs.specs.Inputs.{Inputs}
use Rattle.pl_script_rule.specs.declared.stop.Stop.{Stop}
use Rattle.pl_playing.specs.Networks.{PlaysTo}
use Rattle.pl_playing.specs.Outcomes.{Course, IsUntouched, outcome}
use Rattle.pl_playing.specs.Watched.{IsPlayedBefore, LedTo}
use Rattle.pl_playing.proofs.Exports.{no_stop}
use Rattle.pl_world.specs.declared.limits.Limits.{Limits}
use Rattle.pl_world.specs.Booting.{CanBegin, booted}
use Rattle.pl_world.specs.Runs.{Moment}
use Rattle.pl_world.specs.Worlds.{WorldView}
use Rattle.pl_log_lines.specs.declared.look.Look.{Look}
use Rattle.pl_watch.specs.Logs.{IsLog, LogLine, entries_in}
use Rattle.pl_log_lines.specs.Looks.{ShowsAll}
use Rattle.pl_log_lines.specs.Pages.{HoldsText}
use Rattle.pl_watch.specs.Seen.{IsLogged}
use Rattle.pl_watch_run.specs.Answers.{EndsWatching}

pub if_ok : {T E : Type 0} (r : Result T E) (P Q : T → Type 0) → ((x : T) → P x → Q x) → IfOk r P → IfOk r Q
if_ok (Ok x) P Q weaker p = weaker x p
if_ok (Err e) P Q weaker p = tt

never_written : (leads : Course) (i : Inputs) (w : WorldView) (name : List ℕ) → LedTo leads i w (status.WriteFault name) → ⊥
never_written leads i w name is = by is.end is.led is.answered
  where
    by : (end : Option (ℕ × Stop)) → leads i end is.scene → status.WriteFault name ≡ outcome end → ⊥
    by None led answered = absurd (cc)
    by (Some stopped) led answered =
        no_stop leads i (status.WriteFault name) refl (record { stopped = stopped; scene = is.scene; played = led; answered = answered })

can_begin : (plan : Plan) → IsPlan plan → CanBegin plan
can_begin plan is = record {
  is_plan = is;
  addresses = All-weaker (λ (h : Host). IsHostMac h.mac) (λ (h : Host). length h.mac.0 ≡ 6) (λ h mac. mac.six_bytes) plan.hosts is.host_macs;
}

module _ (switch : SwitchRule) (manager : ManagerRule) (host : HostRule) (look : Look) (i : Inputs) (new : ShelfMoment) (w : WorldView) where
  pub ends_so :
      ((l : Look) (plan : Plan) (limits : Limits) (moments : List Moment) (last : WorldView) (lines : List LogLine) → CanBegin plan → ShowsAll l →
      IsLog switch manager host l (booted plan limits) moments last lines → entries_in lines ≡ last.journal) → IsPlan w.plan →
      IsLogged switch manager host look (new.held standard_output) w → (e : Status) → IsPlayedBefore (PlaysTo switch manager host Fabric) i w e →
      EndsWatching switch manager host look i new e
  ends_so law plan log = by
    where
      journal : ShowsAll look → entries_in log.lines ≡ w.journal
      journal all = law look w.plan w.limits log.moments w log.lines (can_begin w.plan plan) all log.log

      by : (e : Status) → IsPlayedBefore (PlaysTo switch manager host Fabric) i w e → EndsWatching switch manager host look i new e
      by status.Done p = record { world = w; played = p; log = log; journal = journal }
      by status.Usage p = record { world = w; played = p; log = log; journal = journal }
      by (status.ReadFault name) p = record { world = w; played = p; log = log; journal = journal }
      by (status.BadTopology reason) p = record { world = w; played = p; log = log; journal = journal }
      by (status.BadScript line reason) p = record { world = w; played = p; log = log; journal = journal }
      by (status.BadCapture h reason at) p = record { world = w; played = p; log = log; journal = journal }
      by (status.WriteFault name) p = absurd (never_written (PlaysTo switch manager host Fabric) i w name p)
      by (status.ExpectFailed line) p = record { world = w; played = p; log = log; journal = journal }
      by (status.Refused line reason) p = record { world = w; played = p; log = log; journal = journal }
      by (status.TooLong name) p = record { world = w; played = p; log = log; journal = journal }
      by (status.StepsSpent line) p = record { world = w; played = p; log = log; journal = journal }
      by (status.JournalFull line) p = record { world = w; played = p; log = log; journal = journal }
      by status.OutOfMemory p = tt
      by (status.NotLegal entry) p = record { world = w; played = p; log = log; journal = journal }
      by (status.BadJournal line) p = record { world = w; played = p; log = log; journal = journal }
      by (status.BadSection h reason) p = record { world = w; played = p; log = log; journal = journal }

-- nothing stands on standard output still
pub still_empty : (old new : ShelfMoment) → IsUntouched old new → HoldsText (old.held standard_output) [] → HoldsText (new.held standard_output) []
still_empty old new is empty = subst (λ held. HoldsText held []) (sym (is.same standard_output)) empty
