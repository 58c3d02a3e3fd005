use Rattle.std.proofs.Common.{◌∙◌, Some, ap, decimal, sym}
use Rattle.pl_layouts.specs.Control.{control_in}
use Rattle.pl_log_lines.specs.Controls.{said_line}
use Rattle.pl_log_lines.specs.declared.kind.Kind.TheVariants as kind
use Rattle.pl_log_lines.specs.declared.row.Verb.TheVariants as verb
use Rattle.std.proofs.Common.{[], ◌∷◌}
use Rattle.pl_log_lines.proofs.Words.{read_so, unread_so}
use Rattle.pl_log_lines.proofs.controls.sent_control.Goals as goal

pub returns-in-Err : goal.returns-in-Err
returns-in-Err c = λ node.
    c.unread_row.ensures node
    ∙ ap (λ word. record { node = node; verb = verb.Sends; kind = kind.Unread; words = word ∷ [] }) c.port.ensures
    ∙ unread_so c.args.index.now node verb.Sends (Some (decimal c.args.by)) c.args.frame.now c.in-Err.field-0
    (sym (c.read_control.ensures.exact ∙ ap control_in c.payload.ensures) ∙ c.in-Err.is)

pub returns-in-Ok : goal.returns-in-Ok
returns-in-Ok c = λ node.
    c.said_row.ensures node
    ∙ ap (λ word. said_line c.args.index.now node verb.Sends word c.in-Ok.control) c.port-in-Ok.ensures
    ∙ read_so c.args.index.now node verb.Sends (Some (decimal c.args.by)) c.args.frame.now c.in-Ok.control
    (sym (c.read_control.ensures.exact ∙ ap control_in c.payload.ensures) ∙ c.in-Ok.is)
