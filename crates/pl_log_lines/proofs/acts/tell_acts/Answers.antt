use Rattle.std.proofs.Common.{◌∙◌, List, Option, ap, map, option_map, subst}
use Rattle.pl_node.specs.declared.acts.Act.{Act}
use Rattle.pl_wiring.specs.declared.label.SwitchNo.{SwitchNo}
use Rattle.pl_log_lines.specs.Acts.{act_line}
use Rattle.pl_log_lines.specs.Rows.{below_of}
use Rattle.pl_log_lines.specs.Telling.{node_in}
use Rattle.pl_log_lines.proofs.Telling.{TellsOn, tells_end, tells_from, tells_next}
use Rattle.pl_log_lines.proofs.acts.tell_acts.Goals as goal

pub loop-act-init : goal.loop-act-init
loop-act-init g c = tells_from c.args.page.now c.args.told.now (map (act_line c.args.index.now (node_in c.args.told.now)) c.args.acts.now)

pub loop-act-preserved-in-Some : goal.loop-act-preserved-in-Some
loop-act-preserved-in-Some g c =
    tells_next (act_line c.args.index.now (node_in c.args.told.now)) c.args.page.now c.loop-act.page c.tell.new.self c.args.told.now c.loop-act.told c.tell.new.told
    (map (act_line c.args.index.now (node_in c.args.told.now)) c.args.acts.now) c.loop-act.acts c.in-Some.act c.take_first.new.self (below_of (node_in c.loop-act.told) c.act_row.result) c.in-Some.ensures
    (c.act_row.ensures (node_in c.loop-act.told) ∙ ap (λ (n : Option SwitchNo). act_line c.args.index.now (option_map (λ (s : SwitchNo). s.0) n) c.in-Some.act) c.loop-act.invariant.node) c.loop-act.invariant c.tell.ensures

pub loop-act-preserved-in-Some-2 : goal.loop-act-preserved-in-Some-2
loop-act-preserved-in-Some-2 g c =
    tells_next (act_line c.args.index.now (node_in c.args.told.now)) c.args.page.now c.loop-act.page c.tell.new.self c.args.told.now c.loop-act.told c.tell.new.told
    (map (act_line c.args.index.now (node_in c.args.told.now)) c.args.acts.now) c.loop-act.acts c.in-Some.act c.take_first.new.self (below_of (node_in c.loop-act.told) c.act_row.result) c.in-Some.ensures
    (c.act_row.ensures (node_in c.loop-act.told) ∙ ap (λ (n : Option SwitchNo). act_line c.args.index.now (option_map (λ (s : SwitchNo). s.0) n) c.in-Some.act) c.loop-act.invariant.node) c.loop-act.invariant c.tell.ensures

pub loop-act-preserved-in-Some-3 : goal.loop-act-preserved-in-Some-3
loop-act-preserved-in-Some-3 g c =
    tells_next (act_line c.args.index.now (node_in c.args.told.now)) c.args.page.now c.loop-act.page c.tell.new.self c.args.told.now c.loop-act.told c.tell.new.told
    (map (act_line c.args.index.now (node_in c.args.told.now)) c.args.acts.now) c.loop-act.acts c.in-Some.act c.take_first.new.self (below_of (node_in c.loop-act.told) c.act_row.result) c.in-Some.ensures
    (c.act_row.ensures (node_in c.loop-act.told) ∙ ap (λ (n : Option SwitchNo). act_line c.args.index.now (option_map (λ (s : SwitchNo). s.0) n) c.in-Some.act) c.loop-act.invariant.node) c.loop-act.invariant c.tell.ensures

pub loop-act-preserved : goal.loop-act-preserved
loop-act-preserved g c =
    tells_next (act_line c.args.index.now (node_in c.args.told.now)) c.args.page.now c.loop-act.page c.tell.new.self c.args.told.now c.loop-act.told c.tell.new.told
    (map (act_line c.args.index.now (node_in c.args.told.now)) c.args.acts.now) c.loop-act.acts c.in-Some.act c.take_first.new.self (below_of (node_in c.loop-act.told) c.act_row.result) c.in-Some.ensures
    (c.act_row.ensures (node_in c.loop-act.told) ∙ ap (λ (n : Option SwitchNo). act_line c.args.index.now (option_map (λ (s : SwitchNo). s.0) n) c.in-Some.act) c.loop-act.invariant.node) c.loop-act.invariant c.tell.ensures

pub returns : goal.returns
returns g c =
    let line = act_line c.args.index.now (node_in c.args.told.now) in
    tells_end c.args.page.now c.loop-act.page c.args.told.now c.loop-act.told (map line c.args.acts.now)
    (subst (λ (acts : List Act). TellsOn c.args.page.now c.args.told.now (map line c.args.acts.now) c.loop-act.page c.loop-act.told (map line acts))
    c.in_default.ensures.0 c.loop-act.invariant)
