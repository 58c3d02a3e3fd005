use Rattle.std.proofs.Common.{◌≡◌, ◌≤◌, sym, subst}
use Rattle.std.proofs.lemmas.Result.{on_ok_weaker}
use Rattle.pl_world.specs.Changes.{noted}
use Rattle.pl_world.specs.Worlds.{WorldView}
use Rattle.pl_law_calls.specs.Moments.{IsOfRun}
use Rattle.pl_law_calls.proofs.Going.{goes_on, marks_run, promised}
use Rattle.pl_law_calls.proofs.fabric.mark.Goals as goal

pub returns : goal.returns
returns g c =
    let on = λ (is : c.mark.new.self ≡ noted c.args.world.now c.args.entry). subst
    (λ (v : WorldView). IsOfRun g.S.SwitchLogic.rule g.M.ManagerLogic.rule g.H.HostLogic.rule v) (sym is)
    (goes_on g.S.SwitchLogic.rule g.M.ManagerLogic.rule g.H.HostLogic.rule c.args.world.now (noted c.args.world.now c.args.entry) c.requires.moment
    (marks_run g.S.SwitchLogic.rule g.M.ManagerLogic.rule g.H.HostLogic.rule c.args.entry c.args.world.now c.requires.mark)) in
    record {
      marked = c.mark.ensures.marked;
      err = c.mark.ensures.err;
      orderly = on_ok_weaker c.mark.result (λ keeps. keeps c.requires.orderly) c.mark.ensures.orderly;
      moment = on_ok_weaker c.mark.result on c.mark.ensures.marked;
      one_switch = on_ok_weaker c.mark.result (λ is. promised g.S.SwitchLogic.rule g.M.ManagerLogic.rule g.H.HostLogic.rule c.lawful_logic_is_one_switch.ensures c.mark.new.self (on is)
          (subst (λ (v : WorldView). v.limits.steps ≤ 4000000000) (sym is) c.requires.orderly.hearing.few_steps)) c.mark.ensures.marked;
    }
