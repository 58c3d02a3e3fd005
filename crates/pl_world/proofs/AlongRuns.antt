-- What holds over each step and each mark, over nothing and over one thing behind another, holds over each run.
use Rattle.std.proofs.Common.{◌≡◌, List, [], ◌∷◌, None, sym, subst}
use Rattle.pl_journal.specs.declared.entry.Entry.{Entry}
use Rattle.pl_node.specs.HostInputs.{HostRule}
use Rattle.pl_node.specs.ManagerDuties.{ManagerRule}
use Rattle.pl_node.specs.SwitchInputs.{SwitchRule}
use Rattle.pl_world.specs.declared.event.Event.{Event}
use Rattle.pl_world.specs.Changes.{noted}
use Rattle.pl_world.specs.Refusals.{refusal}
use Rattle.pl_world.specs.Runs.{Befalls, IsMark, Moment, WorldRun}
use Rattle.pl_world.specs.Runs.Moment.{Mark, Step}
use Rattle.pl_world.specs.WorldRule.{WorldStep}
use Rattle.pl_world.specs.Worlds.{WorldView}

module _ (R : WorldView → WorldView → Type 0) (same : (w : WorldView) → R w w) (on : (a b c : WorldView) → R a b → R b c → R a c) (switch : SwitchRule)
    (manager : ManagerRule)
    (host : HostRule) (step : (old : WorldView) (e : Event) (new : WorldView) → refusal old e ≡ None → WorldStep switch manager host old e new → R old new)
    (mark : (w : WorldView) (e : Entry) → IsMark e → R w (noted w e)) where
  befalls_along : (old : WorldView) (moment : Moment) (new : WorldView) → Befalls switch manager host old moment new → R old new
  befalls_along old (Step e) new is = step old e new is.0 is.1
  befalls_along old (Mark e) new is = subst (λ (x : WorldView). R old x) (sym is.1) (mark old e is.0)

  pub run_along : (old : WorldView) (moments : List Moment) (new : WorldView) → WorldRun switch manager host old moments new → R old new
  run_along old [] new is = subst (λ (x : WorldView). R old x) (sym is) (same old)
  run_along old (moment ∷ moments) new run = on old run.0 new (befalls_along old moment run.0 run.1) (run_along run.0 moments new run.2)
