use Rattle.std.proofs.lemmas.Result.{on_ok_weaker, on_err_weaker}
use Rattle.pl_output.proofs.PrintedLaws.{printed_then, broken_then}
use Rattle.pl_output.proofs.printing.piece.Piece.print_after_blank.Goals as goal

pub returns-in_ok-print_byte-in-Some-clause-ok : goal.returns-in_ok-print_byte-in-Some-clause-ok
returns-in_ok-print_byte-in-Some-clause-ok g c =
    rw c.in-Some.is (on_ok_weaker c.print_field.result (printed_then _ _ _ _ _ _ _ _ _ c.in_ok-print_byte-in-Some.ensures.ok) c.print_field.ensures.ok)

pub returns-in_ok-print_byte-in-Some-clause-err : goal.returns-in_ok-print_byte-in-Some-clause-err
returns-in_ok-print_byte-in-Some-clause-err g c =
    rw c.in-Some.is (on_err_weaker c.print_field.result (broken_then _ _ _ _ _ _ _ _ c.in_ok-print_byte-in-Some.ensures.ok) c.print_field.ensures.err)
