use Rattle.std.proofs.Common.{◌≡◌, ◌≤◌, ◌∙◌, sym, subst}
use Rattle.pl_world.specs.Booting.{booted}
use Rattle.pl_world.specs.Ready.{CanStep}
use Rattle.pl_world.specs.Worlds.{WorldView}
use Rattle.pl_law_calls.specs.Moments.{IsOfRun}
use Rattle.pl_law_calls.proofs.Going.{begins, promised}
use Rattle.pl_law_calls.proofs.fabric.boot.Goals as goal

pub returns : goal.returns
returns g c =
    let world : c.new.result ≡ booted c.args.wiring c.args.limits = c.new.ensures ∙ c.in_ok-world.ensures.booted in
    let moment = subst (λ (v : WorldView). IsOfRun g.S.SwitchLogic.rule g.M.ManagerLogic.rule g.H.HostLogic.rule v) (sym world)
    (begins g.S.SwitchLogic.rule g.M.ManagerLogic.rule g.H.HostLogic.rule c.args.wiring c.args.limits c.hosts-hosts.ensures.plan) in
    record {
      booted = world;
      orderly = subst CanStep (sym c.new.ensures) c.in_ok-world.ensures.orderly;
      moment = moment;
      one_switch = promised g.S.SwitchLogic.rule g.M.ManagerLogic.rule g.H.HostLogic.rule c.lawful_logic_is_one_switch.ensures c.new.result moment
          (subst (λ (v : WorldView). v.limits.steps ≤ 4000000000) (sym world) c.requires);
    }
