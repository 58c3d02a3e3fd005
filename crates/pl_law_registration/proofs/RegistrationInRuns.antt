-- What each step keeps in worlds where all of it holds, each run from the beginning keeps.
use Rattle.std.proofs.Common.{◌≡◌, List, [], ◌∷◌, ◌++◌, None, refl, sym, subst}
use Rattle.pl_wiring.specs.Plan.{Plan}
use Rattle.pl_node.specs.HostDuties.{HostsSendData, HostsSendOwn}
use Rattle.pl_node.specs.HostInputs.{HostRule}
use Rattle.pl_journal.specs.declared.entry.Entry.{Entry}
use Rattle.pl_manager_rule.specs.WholeRule.{whole_rule}
use Rattle.pl_switch_rule.specs.SwitchRule.{Loose}
use Rattle.pl_world.specs.declared.event.Event.{Event}
use Rattle.pl_world.specs.declared.limits.Limits.{Limits}
use Rattle.pl_world.specs.Booting.{CanBegin, booted}
use Rattle.pl_world.specs.Changes.{noted}
use Rattle.pl_world.specs.Refusals.{refusal}
use Rattle.pl_world.specs.Runs.{Befalls, IsMark, Moment, WorldRun}
use Rattle.pl_world.specs.Runs.Moment.{Mark, Step}
use Rattle.pl_world.specs.WorldRule.{WorldStep}
use Rattle.pl_world.specs.Worlds.{WorldView}
use Rattle.pl_law_invariant.specs.ControlInvariant.{ControlInvariant}
use Rattle.pl_law_invariant.proofs.Exports.{run_keeps_all}

module _ (rule : HostRule) (sends : HostsSendData rule) (owns : HostsSendOwn rule) (Holds : WorldView → Type 0)
    (steps : (old : WorldView) (e : Event) (new : WorldView) → ControlInvariant old → Holds old → refusal old e ≡ None → WorldStep Loose whole_rule rule old e new → Holds new)
    (marks : (w : WorldView) (e : Entry) → IsMark e → Holds w → Holds (noted w e)) where
  run_more : (x y z : WorldView) (moments : List Moment) (m : Moment) → WorldRun Loose whole_rule rule x moments y → Befalls Loose whole_rule rule y m z →
      WorldRun Loose whole_rule rule x (moments ++ m ∷ []) z
  run_more x y z [] m run more = (z, subst (λ (w : WorldView). Befalls Loose whole_rule rule w m z) run more, refl)
  run_more x y z (n ∷ moments) m run more = (run.0, run.1, run_more run.0 y z moments m run.2 more)

  module _ (plan : Plan) (limits : Limits) (can : CanBegin plan) where
    from_there : (before : List Moment) (old : WorldView) → WorldRun Loose whole_rule rule (booted plan limits) before old → Holds old →
        (moments : List Moment) (new : WorldView) → WorldRun Loose whole_rule rule old moments new → Holds new
    from_there before old run holds [] new same = subst Holds (sym same) holds
    from_there before old run holds (Step e ∷ moments) new rest =
        from_there (before ++ Step e ∷ []) rest.0 (run_more (booted plan limits) old rest.0 before (Step e) run rest.1)
        (steps old e rest.0 (run_keeps_all rule sends owns plan limits before old can run) holds rest.1.0 rest.1.1) moments new rest.2
    from_there before old run holds (Mark entry ∷ moments) new rest =
        from_there (before ++ Mark entry ∷ []) rest.0 (run_more (booted plan limits) old rest.0 before (Mark entry) run rest.1)
        (subst Holds (sym rest.1.1) (marks old entry rest.1.0 holds)) moments new rest.2

    pub kept_from_beginning : Holds (booted plan limits) → (moments : List Moment) (new : WorldView) → WorldRun Loose whole_rule rule (booted plan limits) moments new → Holds new
    kept_from_beginning first moments new run = from_there [] (booted plan limits) refl first moments new run
