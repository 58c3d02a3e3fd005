use Rattle.std.proofs.Common.{◌∙◌, refl}
use Rattle.std.proofs.lemmas.Result.{err_from_is_err_and}
use Rattle.pl_output.proofs.HexPrinting.{up_to_none, up_to_more, up_to_broken}
use Rattle.pl_output.proofs.printing.piece.Piece.print_hexadecimal.Goals as goal

pub loop-rest-init : goal.loop-rest-init
loop-rest-init g c = record { printed = up_to_none _ _ _ _; write_faults = refl; read_faults = refl; capacity = refl }

pub returns-in_err-print_chunk-clause-err : goal.returns-in_err-print_chunk-clause-err
returns-in_err-print_chunk-clause-err g c =
    let p = err_from_is_err_and c.from_residual.result c.from_residual.ensures.1 in
    let cut = rw c.split_at.ensures.front at c.in_err-print_chunk.ensures.err in
    rw p.1 (up_to_broken _ _ _ _ _ _ _ _ _ c.loop-rest.invariant.printed cut)

pub loop-rest-preserved : goal.loop-rest-preserved
loop-rest-preserved g c =
    let next = rw c.split_at.ensures.front at c.in_ok-print_chunk.ensures.ok in
    record {
      printed = rw c.split_at.ensures.back (up_to_more _ _ _ _ _ _ _ _ _ c.loop-rest.invariant.printed _ next);
      write_faults = c.in_ok-print_chunk.ensures.faults.ok ∙ c.loop-rest.invariant.write_faults;
      read_faults = c.in_ok-print_chunk.ensures.faults.other ∙ c.loop-rest.invariant.read_faults;
      capacity = c.in_ok-print_chunk.ensures.capacity ∙ c.loop-rest.invariant.capacity;
    }
