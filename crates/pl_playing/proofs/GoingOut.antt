-- A run is one under a looser rule of switches, and as much goes out of each port in it.
use Rattle.std.proofs.Common.{◌≡◌, ℕ, ◌+◌, List, [], ◌∷◌, refl, sym, ap, subst}
use Rattle.pl_journal.specs.Places.{EdgePort}
use Rattle.pl_node.specs.Accounting.{AllowsNoMore}
use Rattle.pl_node.specs.HostInputs.{HostRule}
use Rattle.pl_node.specs.ManagerDuties.{ManagerRule}
use Rattle.pl_node.specs.SwitchInputs.{SwitchRule}
use Rattle.pl_world.specs.Runs.{Befalls, Moment, WorldRun}
use Rattle.pl_world.specs.Worlds.{WorldView}
use Rattle.pl_world.proofs.Exports.{run_looser}
use Rattle.pl_law_bridge.specs.GoingOut.{goes_out_at, times_gone_out}

module _ (rule other : SwitchRule) (manager : ManagerRule) (host : HostRule) (within : AllowsNoMore rule other) where
  -- a run under the other rule, in which the same goes out
  pub record GoesOutAlike (old : WorldView) (moments : List Moment) (new : WorldView) (run : WorldRun rule manager host old moments new) : Type 0 where
    pub under : WorldRun other manager host old moments new
    pub alike : (r : ℕ) (there : EdgePort) →
        times_gone_out rule manager host old moments new run r there ≡ times_gone_out other manager host old moments new under r there

  -- what befalls under the rule befalls under the other one
  befalls_too : (old : WorldView) (moment : Moment) (next : WorldView) → Befalls rule manager host old moment next → Befalls other manager host old moment next
  befalls_too old moment next befalls =
      let alone : WorldRun rule manager host old (moment ∷ []) next = (next, befalls, refl) in
      let loose : WorldRun other manager host old (moment ∷ []) next = run_looser rule other manager host within old (moment ∷ []) next alone in
      subst (λ (w : WorldView). Befalls other manager host old moment w) (sym loose.2) loose.1

  pub goes_out_alike : (old : WorldView) (moments : List Moment) (new : WorldView) (run : WorldRun rule manager host old moments new) →
      GoesOutAlike old moments new run
  goes_out_alike old [] new run = record { under = run; alike = λ r there. refl }
  goes_out_alike old (moment ∷ moments) new run =
      let rest : GoesOutAlike run.0 moments new run.2 = goes_out_alike run.0 moments new run.2 in
      record {
        under = (run.0, befalls_too old moment run.0 run.1, rest.under);
        alike = λ r there. ap (λ n. goes_out_at old moment r there + n) (rest.alike r there);
      }
