-- A log is one of a run.
use Rattle.std.proofs.Common.{List, [], ◌∷◌, ◌++◌, refl, sym, subst}
use Rattle.std.proofs.lemmas.List.{append_assoc, append-nil}
use Rattle.pl_node.specs.HostInputs.{HostRule}
use Rattle.pl_node.specs.ManagerDuties.{ManagerRule}
use Rattle.pl_node.specs.SwitchInputs.{SwitchRule}
use Rattle.pl_world.specs.Changes.{noted}
use Rattle.pl_world.specs.Runs.{Befalls, Moment, WorldRun}
use Rattle.pl_world.specs.Runs.Moment.{Mark, Step}
use Rattle.pl_world.specs.Worlds.{WorldView}
use Rattle.pl_log_lines.specs.declared.look.Look.{Look}
use Rattle.pl_watch.specs.Logs.{IsLog, LogLine}
use Rattle.pl_watch.specs.Logs.IsLog.{Begins, GoesOn, IsMarked}

module _ (switch : SwitchRule) (manager : ManagerRule) (host : HostRule) where
  run_more : (old mid new : WorldView) (moments : List Moment) (moment : Moment) → WorldRun switch manager host old moments mid →
      Befalls switch manager host mid moment new → WorldRun switch manager host old (moments ++ moment ∷ []) new
  run_more old mid new [] moment run more = (new, subst (λ (w : WorldView). Befalls switch manager host w moment new) run more, refl)
  run_more old mid new (first ∷ moments) moment run more = (run.0, run.1, run_more run.0 mid new moments moment run.2 more)

  pub run_of : (look : Look) (old : WorldView) (moments : List Moment) (new : WorldView) (lines : List LogLine) → IsLog switch manager host look old moments new lines →
      WorldRun switch manager host old moments new
  run_of look old moments new lines Begins = refl
  run_of look old all last lines (GoesOn moments mid before log happens new allowed step) =
      run_more old mid new moments (Step happens) (run_of look old moments mid before log) (allowed, step)
  run_of look old all last lines (IsMarked moments mid before log entry is) =
      run_more old mid (noted mid entry) moments (Mark entry) (run_of look old moments mid before log) (is, refl)

  -- a log goes on along a run
  goes_along : (look : Look) (old mid new : WorldView) (before moments : List Moment) (lines : List LogLine) → IsLog switch manager host look old before mid lines →
      WorldRun switch manager host mid moments new → (all : List LogLine) × IsLog switch manager host look old (before ++ moments) new all
  goes_along look old mid new before [] lines log run = (
    lines,
    subst (λ (w : WorldView). IsLog switch manager host look old (before ++ []) w lines) (sym run)
        (subst (λ (ms : List Moment). IsLog switch manager host look old ms mid lines) (sym (append-nil before)) log),
  )
  goes_along look old mid new before (Step happens ∷ moments) lines log run =
      let more = goes_along look old run.0 new (before ++ Step happens ∷ []) moments _ (GoesOn before mid lines log happens run.0 run.1.0 run.1.1) run.2 in
      (more.0, subst (λ (ms : List Moment). IsLog switch manager host look old ms new more.0) (append_assoc before (Step happens ∷ []) moments) more.1)
  goes_along look old mid new before (Mark entry ∷ moments) lines log run =
      let rest = subst (λ (w : WorldView). WorldRun switch manager host w moments new) run.1.1 run.2 in
      let more = goes_along look old (noted mid entry) new (before ++ Mark entry ∷ []) moments _ (IsMarked before mid lines log entry run.1.0) rest in
      (more.0, subst (λ (ms : List Moment). IsLog switch manager host look old ms new more.0) (append_assoc before (Mark entry ∷ []) moments) more.1)

  pub log_of_run : (look : Look) (old : WorldView) (moments : List Moment) (new : WorldView) → WorldRun switch manager host old moments new →
      (lines : List LogLine) × IsLog switch manager host look old moments new lines
  log_of_run look old moments new run = goes_along look old old new [] moments [] Begins run
