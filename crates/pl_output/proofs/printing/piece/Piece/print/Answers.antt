use Rattle.std.proofs.Common.{◌∙◌}
use Rattle.std.proofs.lemmas.Result.{err_from_is_err_and}
use Rattle.pl_output.proofs.PrintedLaws.{printed_rest, broken_rest}
use Rattle.pl_output.proofs.printing.piece.Piece.print.Goals as goal

pub returns-in_err-send-clause-err : goal.returns-in_err-send-clause-err
returns-in_err-send-clause-err g c =
    let p = err_from_is_err_and c.from_residual.result c.from_residual.ensures.1 in
    let cut = rw (c.put.ensures, c.split_at.ensures.front) at c.in_err-send.ensures.err in
    rw p.1 (broken_rest _ _ _ _ _ _ _ _ _ c.loop-rest.invariant.printed cut)

pub loop-rest-preserved : goal.loop-rest-preserved
loop-rest-preserved g c =
    let sent = rw (c.put.ensures, c.split_at.ensures.front) at c.in_ok-send.ensures.ok in
    record {
      printed = rw (c.in_ok-send.ensures.empty, c.split_at.ensures.back)
          (printed_rest _ _ _ _ _ _ _ _ _ c.loop-rest.invariant.printed sent);
      write_faults = c.in_ok-send.ensures.faults.ok ∙ c.loop-rest.invariant.write_faults;
      read_faults = c.in_ok-send.ensures.faults.other ∙ c.loop-rest.invariant.read_faults;
      capacity = c.in_ok-send.ensures.capacity ∙ c.loop-rest.invariant.capacity;
    }
