use Rattle.std.proofs.Common.{sym, ◌∙◌, subst}
use Rattle.std.specs.Str.{IsUtf8}
use Rattle.pl_script.proofs.LineLemmas.{command_in-utf8, command_in-other}
use Rattle.pl_script.proofs.lines.line_command.Goals as goal

pub returns-in-Ok : goal.returns-in-Ok
returns-in-Ok c =
    c.text_command.ensures
    ∙ command_in-utf8 c.args.wiring.now c.args.line.now _ (c.in-Ok.ensures.cases.0 ∙ c.without_carriage_return.ensures)
    (subst (λ t. IsUtf8 t) c.without_carriage_return.ensures c.in-Ok.ensures.cases.1)

pub returns-in-Err : goal.returns-in-Err
returns-in-Err c =
    command_in-other c.args.wiring.now c.args.line.now (λ utf8.
    c.in-Err.ensures.cases.0 (subst (λ t. IsUtf8 t) (sym c.without_carriage_return.ensures) utf8))
