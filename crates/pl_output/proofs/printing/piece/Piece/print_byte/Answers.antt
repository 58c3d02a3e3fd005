use Rattle.std.proofs.Common.{[]}
use Rattle.std.proofs.lemmas.Result.{err_from_is_err_and}
use Rattle.pl_output.proofs.PrintedLaws.{broken_first, printed_put}
use Rattle.pl_output.proofs.printing.piece.Piece.print_byte.Goals as goal

pub returns-in_err-make_room-clause-err : goal.returns-in_err-make_room-clause-err
returns-in_err-make_room-clause-err g c =
    let p = err_from_is_err_and c.from_residual.result c.from_residual.ensures.1 in
    rw p.1 (broken_first _ _ _ _ [] _ c.in_err-make_room.ensures.err)

pub returns-clause-ok : goal.returns-clause-ok
returns-clause-ok g c = printed_put _ _ _ _ _ _ _ c.in_ok-make_room.ensures.ok c.put_byte.ensures
