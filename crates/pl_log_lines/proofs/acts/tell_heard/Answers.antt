use Rattle.std.proofs.Common.{◌∷◌, [], sym, subst}
use Rattle.pl_world_parts.specs.declared.incoming.Incoming.{Incoming}
use Rattle.pl_world_parts.specs.OneStep.{input_from}
use Rattle.pl_log_lines.specs.Acts.{heard_lines}
use Rattle.pl_log_lines.specs.Telling.{Tells, node_in}
use Rattle.pl_log_lines.proofs.acts.tell_heard.Goals as goal

pub returns-in-Message : goal.returns-in-Message
returns-in-Message g c =
    subst (λ (i : Incoming). Tells c.args.page.now c.tell-in-Message.new.self c.args.told.now c.tell-in-Message.new.told
    (heard_lines c.args.index.now (node_in c.args.told.now) (input_from i) c.args.id)) (sym c.in-Message.is)
    (subst (λ b. Tells c.args.page.now c.tell-in-Message.new.self c.args.told.now c.tell-in-Message.new.told (b ∷ []))
    (c.says_row.ensures (node_in c.args.told.now)) c.tell-in-Message.ensures)
