use Rattle.std.proofs.Common.{◌≡◌, ◌<◌, ℕ, None}
use Rattle.std.proofs.lemmas.Result.{IfOk-weaker}
use Rattle.pl_fabric.specs.declared.settling.Settling.{Settling}
use Rattle.pl_fabric.specs.declared.settling.Settling.TheVariants.{Settled}
use Rattle.pl_fabric.specs.Settlings.{Settles}
use Rattle.pl_fabric.proofs.Exports.{ends_weaker, IsRun}
use Rattle.pl_law_settled.specs.AtPlace.{ReceiversArePlaced}
use Rattle.pl_law_settled.specs.Whole.{IsWholePod}
use Rattle.pl_law_registration.specs.Registering.{AreRegistered}
use Rattle.pl_law_theorem.specs.OneSwitch.{IsOneSwitch}
use Rattle.pl_law_calls.specs.Moments.{IsOfRun}
use Rattle.pl_law_calls.proofs.Going.{few_then, goes_on, promised}
use Rattle.pl_law_calls.proofs.LeftBySettling.{is_at_rest_then, is_settled_then, settling_runs}
use Rattle.pl_law_calls.proofs.fabric.settle.Goals as goal

pub returns : goal.returns
returns g c =
    let old = c.args.world.now in
    let new = c.settle.new.world in
    let asked = c.args.rounds in
    let on = λ (run : IsRun g.S.SwitchLogic.rule g.M.ManagerLogic.rule g.H.HostLogic.rule old new). goes_on g.S.SwitchLogic.rule g.M.ManagerLogic.rule g.H.HostLogic.rule old new c.requires.moment run in
    let holds = λ (run : IsRun g.S.SwitchLogic.rule g.M.ManagerLogic.rule g.H.HostLogic.rule old new). promised g.S.SwitchLogic.rule g.M.ManagerLogic.rule g.H.HostLogic.rule c.lawful_logic_is_one_switch.ensures new (on run)
    (few_then g.S.SwitchLogic.rule g.M.ManagerLogic.rule g.H.HostLogic.rule old new c.requires.orderly run) in
    let runs = settling_runs g.S.SwitchLogic.rule g.M.ManagerLogic.rule g.H.HostLogic.rule asked old new c.settle.result
    (λ n end done. c.the_rounds_of_a_settling_are_a_run.ensures n old new end done) c.settle.ensures.settles c.settle.ensures.refused in
    let ran = λ (answer : Settling) (settles : Settles g.S.SwitchLogic.rule g.M.ManagerLogic.rule g.H.HostLogic.rule asked old answer new). c.the_rounds_of_a_settling_are_a_run.ensures settles.used old new None settles.rounds in
    record {
      settles = c.settle.ensures.settles;
      refused = c.settle.ensures.refused;
      placed = IfOk-weaker c.settle.result (λ answer. Settles g.S.SwitchLogic.rule g.M.ManagerLogic.rule g.H.HostLogic.rule asked old answer new)
          (λ answer. (used : ℕ) → answer ≡ Settled used → (pod : ℕ) → IsWholePod new pod → ReceiversArePlaced new pod)
          (λ answer settles used is pod whole. (holds (ran answer settles)).invariant.placed
          (is_settled_then g.S.SwitchLogic.rule g.M.ManagerLogic.rule g.H.HostLogic.rule asked old new answer settles used is) pod whole)
          c.settle.ensures.settles;
      registered = IfOk-weaker c.settle.result (λ answer. Settles g.S.SwitchLogic.rule g.M.ManagerLogic.rule g.H.HostLogic.rule asked old answer new)
          (λ answer. (used : ℕ) → answer ≡ Settled used → used < asked → AreRegistered new)
          (λ answer settles used is fewer. (holds (ran answer settles)).invariant.registered
          (c.a_fabric_at_rest_has_empty_queues.ensures new (is_at_rest_then g.S.SwitchLogic.rule g.M.ManagerLogic.rule g.H.HostLogic.rule asked old new answer settles used is fewer)))
          c.settle.ensures.settles;
      orderly = c.settle.ensures.orderly;
      moment = ends_weaker (λ _. IsRun g.S.SwitchLogic.rule g.M.ManagerLogic.rule g.H.HostLogic.rule old new)
          (λ _. IsOfRun g.S.SwitchLogic.rule g.M.ManagerLogic.rule g.H.HostLogic.rule new) (λ end run. on run) c.settle.result runs;
      one_switch = ends_weaker (λ _. IsRun g.S.SwitchLogic.rule g.M.ManagerLogic.rule g.H.HostLogic.rule old new)
          (λ _. IsOneSwitch g.S.SwitchLogic.rule g.M.ManagerLogic.rule g.H.HostLogic.rule new) (λ end run. holds run) c.settle.result runs;
    }
