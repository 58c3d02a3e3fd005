use Rattle.pl_script_rule.proofs.Exports.{plays_is_run}
use Rattle.pl_law_registration.proofs.LeftBySettlings.{rest_registers}
use Rattle.pl_law_registration.proofs.script_laws.a_script_that_ends_at_rest_leaves_hosts_registered.Goals as goal

pub returns : goal.returns
returns g c = λ plan limits records lines end scene can plays rest.
    let run = plays_is_run g.S.SwitchLogic.rule g.M.ManagerLogic.rule g.H.HostLogic.rule plan limits records lines end scene plays in
    rest_registers g.S.SwitchLogic.rule g.M.ManagerLogic.rule g.H.HostLogic.rule g.met.S.LooseSwitch.obeys g.met.M.LawfulManager.lawful g.met.H.LawfulHost.lawful
    g.met.H.HostLogic.sends g.met.H.HostLogic.owns plan limits run.0 scene.world can run.1 rest
