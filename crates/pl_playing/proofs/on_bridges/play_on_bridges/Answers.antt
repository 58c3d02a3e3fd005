use Rattle.std.proofs.Common.{◌≤◌, None, subst, sym}
use Rattle.std.proofs.lemmas.Result.{IfOk-weaker}
use Rattle.pl_bridge_rule.specs.BridgeRule.{Bridges}
use Rattle.pl_inputs.specs.declared.words.Network.TheVariants.{Bridges as on_tree}
use Rattle.pl_inputs.specs.Loaded.{inputs_of}
use Rattle.pl_world.proofs.Exports.{run_looser}
use Rattle.pl_law_bridge.specs.TreeWorld.{tree_world}
use Rattle.pl_law_theorem.proofs.Exports.{can_begin}
use Rattle.pl_playing.specs.Networks.{on_bridges}
use Rattle.pl_playing.specs.Outcomes.{records_of, run_limits}
use Rattle.pl_playing.specs.Plays.{IsPlayedOver, IsPlayedTo, played_over}
use Rattle.pl_playing.proofs.Failing.{failures_allowed}
use Rattle.pl_playing.proofs.GoingOut.{goes_out_alike}
use Rattle.pl_playing.proofs.Playing.{AreLaws, files_many, played_to}
use Rattle.pl_playing.proofs.on_bridges.play_on_bridges.Goals as goal

pub returns-clause-ok : goal.returns-clause-ok
returns-clause-ok g c =
    let i = inputs_of c.args.inputs in
    let begins = can_begin i.plan c.hosts-hosts.ensures.plan in
    let allowed = failures_allowed i.plan c.hosts-hosts.ensures.plan in
    let by_bridges = run_looser g.S.SwitchLogic.rule Bridges g.M.ManagerLogic.rule g.H.HostLogic.rule g.met.S.LearningBridge.bridges in
    let play = on_bridges g.S.SwitchLogic.rule g.M.ManagerLogic.rule g.H.HostLogic.rule in
    let laws : AreLaws on_tree g.S.SwitchLogic.rule g.M.ManagerLogic.rule g.H.HostLogic.rule play i = record {
      run = λ scene plays. c.a_script_on_the_tree_is_a_run.ensures i.plan run_limits (records_of i) i.lines None scene begins allowed plays;
      wiring = λ moments new run. c.each_run_keeps_the_wiring.ensures i.plan run_limits moments new begins run;
      savable = λ moments new run. c.every_entry_can_be_saved.ensures i.plan run_limits moments new begins run;
      known = λ scene plays.
          let keeps = c.a_script_on_the_tree_keeps_to_it.ensures i.plan run_limits (records_of i) i.lines None scene begins c.requires plays in
          record {
            behaviour = λ n host found. c.hosts_on_the_tree_do_what_is_asked.ensures i.plan run_limits (records_of i) i.lines scene n host begins allowed plays found;
            on_tree = record {
              crossed = λ r x. c.no_switch_is_crossed_twice.ensures.crossings scene.world r x keeps;
              lines = λ id x. c.no_switch_is_crossed_twice.ensures.lines scene.world id x keeps;
              paths = λ id. c.a_line_of_crossings_is_a_path_of_the_tree.ensures scene.world id keeps;
              copies = λ r there. c.one_copy_arrives_at_each_port.ensures scene.world r there keeps;
              arrived = c.frames_arrive_as_they_were_sent.ensures scene.world keeps;
            };
            exact = λ before moments more old new id h to frame way none run sure over rest.
                c.a_frame_goes_the_way_that_is_learnt.ensures i.plan run_limits before moments more old new scene.world id h to frame way begins none
                (by_bridges (tree_world i.plan run_limits) before old run) sure over (by_bridges new more scene.world rest);
            goes_out = λ moments run r there none.
                let first = tree_world i.plan run_limits in
                let out = goes_out_alike g.S.SwitchLogic.rule Bridges g.M.ManagerLogic.rule g.H.HostLogic.rule g.met.S.LearningBridge.bridges first moments scene.world run in
                subst (λ n. n ≤ 1) (sym (out.alike r there))
                (c.one_copy_goes_out_of_each_port.ensures.gone first moments scene.world r there none out.under
                (c.the_first_world_keeps_to_the_tree.ensures i.plan run_limits begins));
          };
    } in
    IfOk-weaker c.play_script.result (λ p. IsPlayedOver play.leads i (played_over p.0 p.1.items)) (λ p. IsPlayedTo play i (played_over p.0 p.1.items))
    (λ p over. played_to on_tree g.S.SwitchLogic.rule g.M.ManagerLogic.rule g.H.HostLogic.rule play i (played_over p.0 p.1.items) laws
    (files_many c.args.inputs.captures.items c.args.inputs.wiring c.args.inputs.many) over)
    c.play_script.ensures.ok
