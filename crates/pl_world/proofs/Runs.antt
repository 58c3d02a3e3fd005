-- What each step and each mark keeps, each run keeps.
use Rattle.std.proofs.Common.{◌≡◌, ℕ, ◌+◌, List, [], ◌∷◌, refl, sym, subst}
use Rattle.pl_journal.specs.declared.entry.Entry.{Entry}
use Rattle.pl_journal.specs.declared.entry.Entry.TheVariants.{Arrived, Copied, Crossed, Dropped, Freed, Granted, Line, LinkDown, LinkUp, Made, Moved, Placed, Redirected, Registered, Restarted, Sent, Settled, Skipped, Taken, Unsettled}
use Rattle.pl_journal.specs.Flights.{begun, ends}
use Rattle.pl_node.specs.Accounting.{AccountsForFrames}
use Rattle.pl_node.specs.HostDuties.{HostsSendData}
use Rattle.pl_node.specs.HostInputs.{HostRule}
use Rattle.pl_node.specs.ManagerDuties.{AnswersDuly, ManagerRule}
use Rattle.pl_node.specs.SwitchInputs.{SwitchRule}
use Rattle.pl_world.specs.Changes.{noted}
use Rattle.pl_world.specs.Flying.{IsCounted}
use Rattle.pl_world.specs.Hearing.{IsWithinHearing}
use Rattle.pl_world.specs.Runs.{Befalls, IsMark, Moment, WorldRun}
use Rattle.pl_world.specs.Runs.Moment.{Mark, Step}
use Rattle.pl_world.specs.Worlds.{WorldView}
use Rattle.pl_world.proofs.Knowing.{step_within}
use Rattle.pl_world.proofs.StepBalances.{counted, noted_owes, sound, step_is_counted}

-- a mark begins and ends no frame
written : (w : WorldView) (e : Entry) → begun (e ∷ []) ≡ 0 → ((id : ℕ) → 0 ≡ ends (e ∷ []) id + 0) → IsCounted w → IsCounted (noted w e)
written w e begins ending is = let s = sound w is in
    counted (noted w e) (record { balance = noted_owes w (λ id. 0) (λ id. 0) (e ∷ []) begins ending s.balance; rest = s.rest })

marked : (w : WorldView) (e : Entry) → IsMark e → IsCounted w → IsCounted (noted w e)
marked w (Line n) is counted = written w (Line n) refl (λ id. refl) counted
marked w (Settled rounds) is counted = written w (Settled rounds) refl (λ id. refl) counted
marked w (Unsettled pending) is counted = written w (Unsettled pending) refl (λ id. refl) counted
marked w (Sent id host frame) is counted = absurd is
marked w (Skipped host skip) is counted = absurd is
marked w (Made id switch frame) is counted = absurd is
marked w (Crossed id switch) is counted = absurd is
marked w (Redirected id old new) is counted = absurd is
marked w (Copied id new) is counted = absurd is
marked w (Arrived id host frame) is counted = absurd is
marked w (Taken id switch) is counted = absurd is
marked w (Dropped id cause) is counted = absurd is
marked w (Granted pmac host switch port) is counted = absurd is
marked w (Registered pmac number) is counted = absurd is
marked w (Freed pmac) is counted = absurd is
marked w (Placed switch place) is counted = absurd is
marked w (LinkDown x y) is counted = absurd is
marked w (LinkUp x y) is counted = absurd is
marked w (Moved host edge port) is counted = absurd is
marked w (Restarted number) is counted = absurd is

pub marked_counted : (w new : WorldView) (e : Entry) → IsMark e → new ≡ noted w e → IsCounted w → IsCounted new
marked_counted w new e is same before = subst IsCounted (sym same) (marked w e is before)

pub marked_within : (w new : WorldView) (e : Entry) → new ≡ noted w e → IsWithinHearing w → IsWithinHearing new
marked_within w new e same before = subst IsWithinHearing (sym same) (record { within = before.within; few_steps = before.few_steps })

module _ (switch : SwitchRule) (manager : ManagerRule) (host : HostRule) where
  kept_in_run : (Holds : WorldView → Type 0) → ((old : WorldView) (moment : Moment) (new : WorldView) → Holds old → Befalls switch manager host old moment new → Holds new) →
      (old : WorldView) (moments : List Moment) (new : WorldView) → Holds old → WorldRun switch manager host old moments new → Holds new
  kept_in_run Holds keeps old [] new holds same = subst Holds (sym same) holds
  kept_in_run Holds keeps old (moment ∷ moments) new holds run =
      kept_in_run Holds keeps run.0 moments new (keeps old moment run.0 holds run.1) run.2

  moment_is_counted : AccountsForFrames switch → HostsSendData host → (old : WorldView) (moment : Moment) (new : WorldView) → IsCounted old →
      Befalls switch manager host old moment new → IsCounted new
  moment_is_counted accounts sends old (Step event) new is befalls = step_is_counted switch manager host accounts sends old event new is befalls.0 befalls.1
  moment_is_counted accounts sends old (Mark entry) new is befalls = marked_counted old new entry befalls.0 befalls.1 is

  pub run_is_counted : AccountsForFrames switch → HostsSendData host → (old : WorldView) (moments : List Moment) (new : WorldView) → IsCounted old →
      WorldRun switch manager host old moments new → IsCounted new
  run_is_counted accounts sends = kept_in_run IsCounted (moment_is_counted accounts sends)

  moment_within : AnswersDuly manager → (old : WorldView) (moment : Moment) (new : WorldView) → IsWithinHearing old →
      Befalls switch manager host old moment new → IsWithinHearing new
  moment_within answers old (Step event) new is befalls = step_within switch manager host answers old event new is befalls.1
  moment_within answers old (Mark entry) new is befalls = marked_within old new entry befalls.1 is

  pub run_within : AnswersDuly manager → (old : WorldView) (moments : List Moment) (new : WorldView) → IsWithinHearing old →
      WorldRun switch manager host old moments new → IsWithinHearing new
  run_within answers = kept_in_run IsWithinHearing (moment_within answers)
