use Rattle.std.proofs.Common.{◌∙◌, None, ap, sym}
use Rattle.pl_layouts.specs.Control.{control_in}
use Rattle.pl_log_lines.specs.Controls.{said_line}
use Rattle.pl_log_lines.specs.Rows.{id_word}
use Rattle.pl_log_lines.proofs.Words.{read_so, unread_so}
use Rattle.pl_log_lines.proofs.controls.control_row.Goals as goal

pub returns-in-Err : goal.returns-in-Err
returns-in-Err c = λ node.
    c.unread_row.ensures node
    ∙ unread_so c.args.index.now node c.args.verb None c.args.frame.now c.in-Err.field-0 (sym (c.read_control.ensures.exact ∙ ap control_in c.payload.ensures) ∙ c.in-Err.is)

pub returns-in-Ok : goal.returns-in-Ok
returns-in-Ok c = λ node.
    c.said_row.ensures node
    ∙ ap (λ word. said_line c.args.index.now node c.args.verb word c.in-Ok.control) (c.switch.ensures ∙ ap (id_word c.args.index.now) c.sender.ensures)
    ∙ read_so c.args.index.now node c.args.verb None c.args.frame.now c.in-Ok.control (sym (c.read_control.ensures.exact ∙ ap control_in c.payload.ensures) ∙ c.in-Ok.is)
