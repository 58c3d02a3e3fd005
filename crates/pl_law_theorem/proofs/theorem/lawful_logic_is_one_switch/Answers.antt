use Rattle.std.proofs.Common.{subst, ◌∷◌}
use Rattle.pl_wiring.specs.Plan.{Plan}
use Rattle.pl_world.specs.Booting.{booted}
use Rattle.pl_world.specs.Runs.{WorldRun}
use Rattle.pl_world.specs.Runs.Moment.{Step}
use Rattle.pl_law_ledger.proofs.Exports.{numbers_sufficed}
use Rattle.pl_law_theorem.proofs.theorem.lawful_logic_is_one_switch.Goals as goal

pub returns : goal.returns
returns g c = λ plan limits moments new can run few.
    let same = c.each_run_keeps_the_wiring.ensures plan limits moments new can run in
    let now = c.lawful_logic_keeps_the_invariant.ensures plan limits moments new can run few in
    record {
      run = now.run;
      trails = now.trails;
      journaled = now.journaled;
      invariant = now;
      moments = λ limit before after old began went.
          let from : Plan → Type 0 = λ p. WorldRun g.S.SwitchLogic.rule g.M.ManagerLogic.rule g.H.HostLogic.rule (booted p limit) before old in
          c.lawful_logic_keeps_the_invariant.ensures plan limit before old can (subst from same began)
          (numbers_sufficed g.S.SwitchLogic.rule g.M.ManagerLogic.rule g.H.HostLogic.rule old after new went few);
      given = λ limit before between after old later x began went rest more freed.
          let from : Plan → Type 0 = λ p. WorldRun g.S.SwitchLogic.rule g.M.ManagerLogic.rule g.H.HostLogic.rule (booted p limit) before old in
          c.lawful_logic_grants_no_address_while_anything_stands_for_it.ensures plan limit before between old later x can
          (subst from same began) went more freed;
      drops = λ limit before after event old next comes v began befell went is found.
          let from : Plan → Type 0 = λ p. WorldRun g.S.SwitchLogic.rule g.M.ManagerLogic.rule g.H.HostLogic.rule (booted p limit) before old in
          let then : WorldRun g.S.SwitchLogic.rule g.M.ManagerLogic.rule g.H.HostLogic.rule old (Step event ∷ after) new = (next, befell, went) in
          let kept = (c.lawful_logic_keeps_the_invariant.ensures plan limit before old can (subst from same began)
          (numbers_sufficed g.S.SwitchLogic.rule g.M.ManagerLogic.rule g.H.HostLogic.rule old (Step event ∷ after) new then few)).kept in
          c.a_switch_drops_frames_for_the_first_cause.ensures old event next comes v kept.counted befell.1 is found;
      sure = c.sure_frames_arrive.ensures plan limits moments new can run;
    }
