use Rattle.std.proofs.Common.{map, subst, sym}
use Rattle.std.proofs.lemmas.Result.{err_from_is_err_and}
use Rattle.pl_output.specs.Receipts.{capture_in}
use Rattle.pl_output.specs.Room.{HaveRoomInTurn}
use Rattle.pl_output.proofs.Fitting.{no_room_still}
use Rattle.pl_output.proofs.saving.captures.save_captures.Goals as goal

pub returns-in_err-save_inbox-clause-unfit : goal.returns-in_err-save_inbox-clause-unfit
returns-in_err-save_inbox-clause-unfit g c =
    let S = g.S.Shelf in
    let l = c.loop-inbox in
    let capacity = S.capacity c.args.shelf.now in
    let journal = c.args.journal.now in
    let p = err_from_is_err_and c.from_residual.result c.from_residual.ensures.1 in
    rw p.1
    (λ room.
    let left = l.invariant.room
    (subst (λ xs. HaveRoomInTurn capacity (S.moment c.args.shelf.now).held (map (capture_in journal) xs)) (sym c.into_iter-inbox-iterator.ensures.into_iter_gives.0) room) in
    let next = subst (λ xs. HaveRoomInTurn capacity (S.moment l.shelf).held (map (capture_in journal) xs)) c.in-Some.ensures.steps.0 left in
    no_room_still capacity (S.capacity l.shelf) (S.moment l.shelf).held (capture_in journal c.in-Some.inbox) l.invariant.capacity c.in_err-save_inbox.ensures.unfit next.0)
