use Rattle.std.proofs.Common.{◌∙◌, ◌∷◌, [], ap, sym}
use Rattle.pl_log_lines.specs.declared.kind.Kind.TheVariants as kind
use Rattle.pl_log_lines.specs.declared.row.Verb.TheVariants as verb
use Rattle.pl_log_lines.specs.Acts.{frame_line}
use Rattle.pl_log_lines.proofs.acts.frame_row.Goals as goal

pub returns-in-Some : goal.returns-in-Some
returns-in-Some c = λ node.
    c.row.ensures node
    ∙ ap (λ words. record { node = node; verb = verb.Heard; kind = kind.Frame; words = words }) (c.one.ensures ∙ ap (λ word. word ∷ []) c.number.ensures)
    ∙ sym (ap (frame_line c.args.index.now node c.args.frame.now) c.in-Some.is)

pub returns-in-None : goal.returns-in-None
returns-in-None c = λ node. c.heard_control.ensures node ∙ sym (ap (frame_line c.args.index.now node c.args.frame.now) c.in-None.is)
