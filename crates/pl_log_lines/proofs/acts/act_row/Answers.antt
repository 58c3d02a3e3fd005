use Rattle.std.proofs.Common.{◌∙◌, ◌∷◌, [], Some, ap, decimal, sym}
use Rattle.pl_journal.specs.Text.{address_text}
use Rattle.pl_log_lines.specs.declared.kind.Kind.TheVariants as kind
use Rattle.pl_log_lines.specs.declared.row.Verb.TheVariants as verb
use Rattle.pl_log_lines.specs.Acts.{act_line, does_line}
use Rattle.pl_log_lines.specs.Controls.{control_line}
use Rattle.pl_log_lines.specs.Rows.{word_text}
use Rattle.pl_log_lines.proofs.acts.act_row.Goals as goal

pub returns-in-Control : goal.returns-in-Control
returns-in-Control c = λ node.
    c.sent_control.ensures node ∙ ap (control_line c.args.index.now node verb.Sends (Some (decimal c.in-Control.by))) c.bytes.ensures
    ∙ sym (ap (act_line c.args.index.now node) c.in-Control.is)

pub returns-in-Tell : goal.returns-in-Tell
returns-in-Tell c = λ node.
    c.told_row.ensures node
    ∙ sym (ap (act_line c.args.index.now node) c.in-Tell.is)

pub returns-in-Grant : goal.returns-in-Grant
returns-in-Grant c = λ node.
    c.does.ensures node
    ∙ ap (does_line node kind.Grant) (c.two.ensures ∙ ap (λ word. word ∷ word_text c.mac.result ∷ []) c.pmac.ensures
    ∙ ap (λ word. address_text c.in-Grant.granted ∷ word ∷ []) c.mac.ensures)
    ∙ sym (ap (act_line c.args.index.now node) c.in-Grant.is)

pub returns-in-Free : goal.returns-in-Free
returns-in-Free c = λ node.
    c.does-in-Free.ensures node ∙ ap (does_line node kind.Free) (c.one.ensures ∙ ap (λ word. word ∷ []) c.pmac-in-Free.ensures)
    ∙ sym (ap (act_line c.args.index.now node) c.in-Free.is)

pub returns-in-Make : goal.returns-in-Make
returns-in-Make c = λ node.
    c.does-in-Make.ensures node
    ∙ sym (ap (act_line c.args.index.now node) c.in-Make.is)

pub returns-in-Redirect : goal.returns-in-Redirect
returns-in-Redirect c = λ node.
    c.does-in-Redirect.ensures node
    ∙ ap (does_line node kind.Redirect) (c.two-in-Redirect.ensures ∙ ap (λ word. word ∷ word_text c.pmac-in-Redirect-2.result ∷ []) c.pmac-in-Redirect.ensures
    ∙ ap (λ word. address_text c.in-Redirect.old ∷ word ∷ []) c.pmac-in-Redirect-2.ensures)
    ∙ sym (ap (act_line c.args.index.now node) c.in-Redirect.is)

pub returns-in-Pass : goal.returns-in-Pass
returns-in-Pass c = λ node.
    c.does-in-Pass.ensures node ∙ ap (does_line node kind.Pass) (c.one-in-Pass.ensures ∙ ap (λ word. word ∷ []) c.port.ensures)
    ∙ sym (ap (act_line c.args.index.now node) c.in-Pass.is)

pub returns-in-Take : goal.returns-in-Take
returns-in-Take c = λ node.
    c.does-in-Take.ensures node
    ∙ sym (ap (act_line c.args.index.now node) c.in-Take.is)

pub returns-in-Drop : goal.returns-in-Drop
returns-in-Drop c = λ node.
    c.does-in-Drop.ensures node ∙ ap (does_line node kind.Drop) (c.one-in-Drop.ensures ∙ ap (λ word. word ∷ []) (c.text.ensures ∙ c.name.ensures))
    ∙ sym (ap (act_line c.args.index.now node) c.in-Drop.is)
