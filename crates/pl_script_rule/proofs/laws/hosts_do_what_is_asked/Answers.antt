use Rattle.pl_script_rule.proofs.HostScripts.{does_as_asked}
use Rattle.pl_script_rule.proofs.laws.hosts_do_what_is_asked.Goals as goal

pub returns : goal.returns
returns g c = λ plan limits records lines scene n host begins plays found.
    does_as_asked g.S.SwitchLogic.rule g.M.ManagerLogic.rule g.H.HostLogic.rule n plan limits records lines scene host found plays
