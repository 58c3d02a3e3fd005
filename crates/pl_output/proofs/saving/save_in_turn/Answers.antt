use Rattle.std.proofs.Common.{◌∙◌, inl, inr, refl, string_bytes}
use Rattle.std.proofs.lemmas.Result.{err_from_is_err_and, on_err_weaker, on_ok_weaker}
use Rattle.pl_output.proofs.Turns.{breaks_behind, breaks_front, if_err_both, turns_append}
use Rattle.pl_journal.specs.Text.{journal_text}
use Rattle.pl_output.specs.Saved.{Saving}
use Rattle.pl_output.proofs.Fitting.{no_room_still, room_behind, room_front}
use Rattle.pl_output.proofs.saving.save_in_turn.Goals as goal

pub returns-in_err-save_captures-clause-err : goal.returns-in_err-save_captures-clause-err
returns-in_err-save_captures-clause-err g c =
    let p = err_from_is_err_and c.from_residual.result c.from_residual.ensures.1 in
    rw (p.1, p.2) (breaks_front _ _ _ _ _ c.in_err-save_captures.ensures.err)

pub returns-in_err-save_entries-clause-err : goal.returns-in_err-save_entries-clause-err
returns-in_err-save_entries-clause-err g c =
    let p = err_from_is_err_and c.from_residual-in_err-save_entries.result c.from_residual-in_err-save_entries.ensures.1 in
    rw (p.1, p.2)
    (breaks_behind _ _ _ _ _ _ c.in_ok-save_captures.ensures.ok (inl (c.in_err-save_entries.ensures.named, c.in_err-save_entries.ensures.err)))

pub returns-clause-ok : goal.returns-clause-ok
returns-clause-ok g c =
    let told = rw c.deref.ensures at c.save_summary.ensures.ok in
    on_ok_weaker c.save_summary.result
    (λ saved. turns_append _ _ _ _ _ c.in_ok-save_captures.ensures.ok (_, c.in_ok-save_entries.ensures.ok, (_, saved, refl))) told

pub returns-clause-err : goal.returns-clause-err
returns-clause-err g c =
    let cut = rw c.deref.ensures at c.save_summary.ensures.err in
    if_err_both c.save_summary.result
    (λ e named broken. breaks_behind _ _ _ _ _ _ c.in_ok-save_captures.ensures.ok (inr (_, c.in_ok-save_entries.ensures.ok, inl (named, broken))))
    c.save_summary.ensures.named cut

pub returns-in_err-save_captures-clause-unfit : goal.returns-in_err-save_captures-clause-unfit
returns-in_err-save_captures-clause-unfit g c =
    let p = err_from_is_err_and c.from_residual.result c.from_residual.ensures.1 in
    rw p.1 (λ room. c.in_err-save_captures.ensures.unfit (room_front _ _ _ _ room))

pub returns-in_err-save_entries-clause-unfit : goal.returns-in_err-save_entries-clause-unfit
returns-in_err-save_entries-clause-unfit g c =
    let S = g.S.Shelf in
    let p = err_from_is_err_and c.from_residual-in_err-save_entries.result c.from_residual-in_err-save_entries.ensures.1 in
    let entries : Saving = record { name = c.args.texts.journal; text = journal_text c.args.wiring.now c.args.journal.now } in
    rw p.1
    (λ room. no_room_still (S.capacity c.args.shelf.now) (S.capacity c.save_captures.new.shelf) (S.moment c.save_captures.new.shelf).held entries
    c.in_ok-save_captures.ensures.capacity c.in_err-save_entries.ensures.unfit
    (room_behind _ _ _ _ _ c.in_ok-save_captures.ensures.ok room).0)

pub returns-clause-unfit : goal.returns-clause-unfit
returns-clause-unfit g c =
    let S = g.S.Shelf in
    let told : Saving = record { name = c.args.texts.output; text = string_bytes c.args.texts.summary } in
    let unfit = rw c.deref.ensures at c.save_summary.ensures.unfit in
    on_err_weaker c.save_summary.result
    (λ none room. no_room_still (S.capacity c.args.shelf.now) (S.capacity c.save_entries.new.shelf) (S.moment c.save_entries.new.shelf).held told
    (c.in_ok-save_entries.ensures.capacity ∙ c.in_ok-save_captures.ensures.capacity) none
    ((room_behind _ _ _ _ _ c.in_ok-save_captures.ensures.ok room).1 (S.moment c.save_entries.new.shelf).held c.in_ok-save_entries.ensures.ok).0)
    unfit
