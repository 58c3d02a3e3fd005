use Rattle.std.proofs.Common.{None, arith}
use Rattle.std.proofs.lemmas.Result.{IfOk-weaker}
use Rattle.pl_inputs.specs.declared.words.Network.TheVariants.{Fabric}
use Rattle.pl_inputs.specs.Loaded.{inputs_of}
use Rattle.pl_world.specs.Booting.{booted}
use Rattle.pl_law_ledger.proofs.Exports.{numbers_last}
use Rattle.pl_law_theorem.proofs.Exports.{can_begin}
use Rattle.pl_playing.specs.Networks.{on_fabric}
use Rattle.pl_playing.specs.Outcomes.{records_of, run_limits}
use Rattle.pl_playing.specs.Plays.{IsPlayedOver, IsPlayedTo, played_over}
use Rattle.pl_playing.proofs.Playing.{AreLaws, files_many, played_to}
use Rattle.pl_playing.proofs.on_fabric.play_on_fabric.Goals as goal

pub returns-clause-ok : goal.returns-clause-ok
returns-clause-ok g c =
    let i = inputs_of c.args.inputs in
    let begins = can_begin i.plan c.hosts-hosts.ensures.plan in
    let play = on_fabric g.S.SwitchLogic.rule g.M.ManagerLogic.rule g.H.HostLogic.rule in
    let laws : AreLaws Fabric g.S.SwitchLogic.rule g.M.ManagerLogic.rule g.H.HostLogic.rule play i = record {
      run = λ scene plays. c.a_script_is_a_run.ensures i.plan run_limits (records_of i) i.lines None scene plays;
      wiring = λ moments new run. c.each_run_keeps_the_wiring.ensures i.plan run_limits moments new begins run;
      savable = λ moments new run. c.every_entry_can_be_saved.ensures i.plan run_limits moments new begins run;
      known = λ scene plays.
          let run = c.a_script_is_a_run.ensures i.plan run_limits (records_of i) i.lines None scene plays in
          record {
            behaviour = λ n host found. c.hosts_do_what_is_asked.ensures i.plan run_limits (records_of i) i.lines scene n host begins plays found;
            one_switch = c.lawful_logic_is_one_switch.ensures i.plan run_limits run.0 scene.world begins run.1
                (numbers_last g.S.SwitchLogic.rule g.M.ManagerLogic.rule g.H.HostLogic.rule (booted i.plan run_limits) run.0 scene.world run.1 (omega arith));
          };
    } in
    IfOk-weaker c.play_script.result (λ p. IsPlayedOver play.leads i (played_over p.0 p.1.items)) (λ p. IsPlayedTo play i (played_over p.0 p.1.items))
    (λ p over. played_to Fabric g.S.SwitchLogic.rule g.M.ManagerLogic.rule g.H.HostLogic.rule play i (played_over p.0 p.1.items) laws
    (files_many c.args.inputs.captures.items c.args.inputs.wiring c.args.inputs.many) over)
    c.play_script.ensures.ok
