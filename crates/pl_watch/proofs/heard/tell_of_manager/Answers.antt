use Rattle.std.proofs.Common.{◌∷◌, [], map, subst}
use Rattle.pl_log_lines.specs.declared.row.Verb.TheVariants as verb
use Rattle.pl_log_lines.specs.Acts.{manager_act_line}
use Rattle.pl_log_lines.specs.Messages.{told_line}
use Rattle.pl_log_lines.specs.Telling.{Tells, node_in}
use Rattle.pl_watch.proofs.Learning.{tells_more}
use Rattle.pl_watch.proofs.heard.tell_of_manager.Goals as goal

pub returns : goal.returns
returns g c =
    tells_more c.args.page.now c.tell.new.self c.tell_manager_acts.new.page c.args.told.now c.tell.new.told c.tell_manager_acts.new.told
    (told_line c.args.index.now (node_in c.args.told.now) verb.Heard c.args.says.now ∷ []) (λ node. map (manager_act_line c.args.index.now node) c.args.acts.now)
    (subst (λ b. Tells c.args.page.now c.tell.new.self c.args.told.now c.tell.new.told (b ∷ [])) (c.told_row.ensures (node_in c.args.told.now)) c.tell.ensures) c.tell_manager_acts.ensures
