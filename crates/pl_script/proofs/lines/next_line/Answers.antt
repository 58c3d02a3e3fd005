use Rattle.std.proofs.Common.{◌+◌, ◌∷◌, ◌<◌, length, take, sym, ap, ◌∙◌, arith}
use Rattle.std.proofs.lemmas.Bool.{eqb-false}
use Rattle.std.proofs.lemmas.List.{drop_all, take_rest}
use Rattle.pl_script.specs.Texts.{lines_of}
use Rattle.pl_script.proofs.LineLemmas.{lines_of-first, lines_of-last}
use Rattle.pl_script.proofs.lines.next_line.Goals as goal

pub returns-in-Some-clause-found : goal.returns-in-Some-clause-found
returns-in-Some-clause-found c =
    lines_of-first c.args.file.now c.in-Some.end (sym c.in-Some.ensures)
    ∙ ap (λ rest. take c.in-Some.end c.args.file.now ∷ lines_of rest) (sym (take_rest c.args.file.now (c.in-Some.end + 1)))

pub returns-in-None-clause-found : goal.returns-in-None-clause-found
returns-in-None-clause-found c =
    let some : 0 < length c.args.file.now = omega (arith, eqb-false (length c.args.file.now) 0 (sym c.is_empty.ensures ∙ c.if-is_empty.false)) in
    lines_of-last c.args.file.now some (sym c.in-None.ensures)
    ∙ ap (λ rest. c.args.file.now ∷ lines_of rest)
    (sym (take_rest c.args.file.now (length c.args.file.now) ∙ drop_all (length c.args.file.now) c.args.file.now (omega arith)))
