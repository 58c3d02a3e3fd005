use Rattle.std.proofs.lemmas.Result.{on_ok_weaker, on_err_weaker}
use Rattle.pl_output.proofs.PrintedLaws.{printed_then, broken_then}
use Rattle.pl_output.proofs.printing.print_line.Goals as goal

pub returns-clause-ok : goal.returns-clause-ok
returns-clause-ok g c = on_ok_weaker _ (printed_then _ _ _ _ _ _ _ _ _ c.in_ok-print_words.ensures.ok) c.print_byte.ensures.ok

pub returns-clause-err : goal.returns-clause-err
returns-clause-err g c = on_err_weaker _ (broken_then _ _ _ _ _ _ _ _ c.in_ok-print_words.ensures.ok) c.print_byte.ensures.err
