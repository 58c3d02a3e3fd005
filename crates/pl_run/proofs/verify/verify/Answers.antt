use Rattle.std.proofs.Common.{inl, inr, subst, sym}
use Rattle.std.proofs.lemmas.Result.{err_from_is_err_and}
use Rattle.pl_shelf.specs.Held.{ShelfMoment}
use Rattle.pl_playing.specs.Plays.{answer_of}
use Rattle.pl_playing.specs.Prepared.{NamesNoFault}
use Rattle.pl_wiring.specs.Plan.{Plan}
use Rattle.pl_inputs.specs.Loads.{IsUnplanned}
use Rattle.pl_run.specs.Verified.{AnswersVerify}
use Rattle.pl_run.proofs.Preparing.{unplanned_names_none}
use Rattle.pl_run.proofs.Verifying.{journal_since, missed, prepared_since}
use Rattle.pl_run.proofs.verify.verify.Goals as goal

pub returns-in_err-wiring-clause-answers : goal.returns-in_err-wiring-clause-answers
returns-in_err-wiring-clause-answers g c =
    let S = g.S.Shelf in
    let old : ShelfMoment = S.moment c.args.shelf.now in
    let new : ShelfMoment = S.moment c.load_wiring.new.shelf in
    let p = err_from_is_err_and c.from_residual.result c.from_residual.ensures.1 in
    let e = c.in_err-wiring.ensures in
    subst (λ r. AnswersVerify old new c.args.topology.now c.args.journal.now (answer_of r)) (sym p.1)
    (subst (λ e. AnswersVerify old new c.args.topology.now c.args.journal.now e) (sym p.2)
    (inl (missed (IsUnplanned old.held c.args.topology.now) old new e.same e.writes Plan _ e.err e.reads)))

pub returns-clause-answers : goal.returns-clause-answers
returns-clause-answers g c =
    let S = g.S.Shelf in
    let old : ShelfMoment = S.moment c.args.shelf.now in
    let mid : ShelfMoment = S.moment c.load_wiring.new.shelf in
    let new : ShelfMoment = S.moment c.verify_journal.new.shelf in
    let e = c.in_ok-wiring.ensures in
    inr (
      c.in_ok-wiring.wiring,
      c.k-k.ensures.plan,
      e.ok,
      journal_since old mid new (record { same = e.same; reads = e.reads; writes = e.writes }) c.in_ok-wiring.wiring c.args.journal.now
          (answer_of c.verify_journal.result) c.verify_journal.ensures.answers,
    )

pub returns-in_err-wiring-clause-prepared : goal.returns-in_err-wiring-clause-prepared
returns-in_err-wiring-clause-prepared g c is =
    let S = g.S.Shelf in
    let p = err_from_is_err_and c.from_residual.result c.from_residual.ensures.1 in
    let e = c.in_err-wiring.ensures in
    subst (λ r. NamesNoFault (answer_of r)) (sym p.1)
    (subst (λ e. NamesNoFault e) (sym p.2)
    (unplanned_names_none (S.capacity c.args.shelf.now) (S.capacity c.load_wiring.new.shelf) (S.moment c.args.shelf.now).held
    (S.moment c.load_wiring.new.shelf).held c.args.topology.now e.capacity e.same is.reads _ e.err e.unpromised))

pub returns-clause-prepared : goal.returns-clause-prepared
returns-clause-prepared g c is =
    let S = g.S.Shelf in
    let e = c.in_ok-wiring.ensures in
    c.verify_journal.ensures.prepared
    (prepared_since (S.capacity c.args.shelf.now) (S.capacity c.load_wiring.new.shelf) (S.moment c.args.shelf.now).held
    (S.moment c.load_wiring.new.shelf).held c.in_ok-wiring.wiring c.args.journal.now e.capacity e.same (is.of_journal c.in_ok-wiring.wiring e.ok))
