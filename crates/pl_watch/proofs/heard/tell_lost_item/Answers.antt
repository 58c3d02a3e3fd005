use Rattle.std.proofs.Common.{◌∙◌, ◌∷◌, [], None, Some, ap, subst, sym}
use Rattle.pl_log_lines.specs.declared.row.Verb.TheVariants as verb
use Rattle.pl_world.specs.declared.item.Item.{Item}
use Rattle.pl_log_lines.specs.Controls.{control_line}
use Rattle.pl_watch.specs.Logs.{lost_of}
use Rattle.pl_log_lines.specs.Telling.{Tells, node_in}
use Rattle.pl_watch.proofs.heard.tell_lost_item.Goals as goal

pub returns-in-Control : goal.returns-in-Control
returns-in-Control g c =
    subst (λ (item : Item). Tells c.args.page.now c.tell.new.self c.args.told.now c.tell.new.told (lost_of c.args.index.now (node_in c.args.told.now) (Some item))) (sym c.in-Control.is)
    (subst (λ b. Tells c.args.page.now c.tell.new.self c.args.told.now c.tell.new.told (b ∷ []))
    (c.lost_control.ensures (node_in c.args.told.now) ∙ ap (control_line c.args.index.now (node_in c.args.told.now) verb.Lost None) c.bytes.ensures) c.tell.ensures)
