use Rattle.std.proofs.Common.{ℕ, List, inl, subst, sym}
use Rattle.std.proofs.lemmas.Result.{err_from_is_err_and}
use Rattle.pl_shelf.specs.Held.{ShelfMoment}
use Rattle.pl_playing.specs.Plays.{answer_of}
use Rattle.pl_playing.specs.Prepared.{NamesNoFault}
use Rattle.pl_inputs.specs.Inputs.{IsLoaded, journal_limit}
use Rattle.pl_inputs.specs.Loads.{IsUnloaded}
use Rattle.pl_run.specs.Verified.{AnswersJournal, EndsVerify}
use Rattle.pl_run.proofs.Verifying.{heard_since, missed, room_for_legal, unloaded_names_none}
use Rattle.pl_run.proofs.verify.verify_journal.Goals as goal

pub returns-in_err-text-clause-answers : goal.returns-in_err-text-clause-answers
returns-in_err-text-clause-answers g c =
    let S = g.S.Shelf in
    let old : ShelfMoment = S.moment c.args.shelf.now in
    let new : ShelfMoment = S.moment c.load_journal.new.shelf in
    let p = err_from_is_err_and c.from_residual.result c.from_residual.ensures.1 in
    let e = c.in_err-text.ensures in
    subst (λ r. AnswersJournal old new c.args.wiring.now c.args.journal.now (answer_of r)) (sym p.1)
    (subst (λ e. AnswersJournal old new c.args.wiring.now c.args.journal.now e) (sym p.2)
    (inl (missed (IsUnloaded old.held c.args.journal.now journal_limit) old new e.same e.writes (List ℕ) _ e.err e.reads)))

pub returns-clause-answers : goal.returns-clause-answers
returns-clause-answers g c =
    let S = g.S.Shelf in
    let old : ShelfMoment = S.moment c.args.shelf.now in
    let mid : ShelfMoment = S.moment c.load_journal.new.shelf in
    let new : ShelfMoment = S.moment c.tell.new.shelf in
    let e = c.in_ok-text.ensures in
    heard_since old mid new (record { same = e.same; reads = e.reads; writes = e.writes }) c.args.wiring.now c.args.journal.now c.in_ok-text.text e.ok
    (answer_of c.tell.result)
    (subst (λ text. EndsVerify mid new c.args.wiring.now text (answer_of c.tell.result)) c.bytes.ensures c.tell.ensures.ends)

pub returns-in_err-text-clause-prepared : goal.returns-in_err-text-clause-prepared
returns-in_err-text-clause-prepared g c is =
    let S = g.S.Shelf in
    let p = err_from_is_err_and c.from_residual.result c.from_residual.ensures.1 in
    let e = c.in_err-text.ensures in
    subst (λ r. NamesNoFault (answer_of r)) (sym p.1)
    (subst (λ e. NamesNoFault e) (sym p.2)
    (unloaded_names_none (S.capacity c.args.shelf.now) (S.capacity c.load_journal.new.shelf) (S.moment c.args.shelf.now).held (S.moment c.load_journal.new.shelf).held
    c.args.journal.now journal_limit e.capacity e.same is.reads _ e.err e.unpromised))

pub returns-clause-prepared : goal.returns-clause-prepared
returns-clause-prepared g c is =
    let S = g.S.Shelf in
    let e = c.in_ok-text.ensures in
    c.tell.ensures.prepared
    (room_for_legal (S.capacity c.args.shelf.now) (S.capacity c.load_journal.new.shelf) (S.moment c.args.shelf.now).held
    (S.moment c.load_journal.new.shelf).held c.args.wiring.now c.bytes.result.now e.capacity e.same
    (is.prints c.bytes.result.now
    (subst (λ text. IsLoaded (S.moment c.args.shelf.now).held c.args.journal.now journal_limit text) (sym c.bytes.ensures) e.ok)))
