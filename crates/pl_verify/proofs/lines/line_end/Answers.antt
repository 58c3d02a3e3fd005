use Rattle.std.proofs.Common.{ℕ, ◌-◌, List, length, drop, subst, arith, length-drop, take_all}
use Rattle.memchr.specs.Find.{NoneBefore, Nowhere, Passes, is_byte}
use Rattle.pl_verify.proofs.LineEnds.{first_line, last_line}
use Rattle.pl_verify.proofs.lines.line_end.Goals as goal

pub returns-in-None-clause-line : goal.returns-in-None-clause-line
returns-in-None-clause-line c =
    let rest = drop c.args.at c.args.text.now in
    let long = length-drop c.args.at c.args.text.now in
    last_line rest _ (omega (arith, long))
    (subst (λ (l : List ℕ). Nowhere (Passes (is_byte 10) l) 0 (length l)) (take_all (length c.args.text.now - c.args.at) rest (omega (arith, long)))
    c.in-None.ensures)

pub returns-in-Some-clause-line : goal.returns-in-Some-clause-line
returns-in-Some-clause-line c =
    let rest = drop c.args.at c.args.text.now in
    let long = length-drop c.args.at c.args.text.now in
    let first = subst (λ (l : List ℕ). NoneBefore (Passes (is_byte 10) l) 0 (length l) c.in-Some.i × Passes (is_byte 10) l c.in-Some.i)
    (take_all (length c.args.text.now - c.args.at) rest (omega (arith, long))) c.in-Some.ensures in
    first_line rest c.in-Some.i _ (omega arith) first.0.high first.0.before first.1
