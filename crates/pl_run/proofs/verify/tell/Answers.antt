use Rattle.std.proofs.Common.{inl, inr, refl, subst, sym}
use Rattle.std.proofs.lemmas.Result.{err_from_is_err_and}
use Rattle.pl_shelf.specs.Held.{ShelfMoment}
use Rattle.pl_playing.specs.Plays.{answer_of}
use Rattle.pl_playing.specs.Prepared.{NamesNoFault}
use Rattle.pl_run.specs.Verified.{EndsVerify}
use Rattle.pl_run.proofs.Verifying.{names_none}
use Rattle.pl_run.proofs.verify.tell.Goals as goal

pub returns-in_err-entries-clause-ends : goal.returns-in_err-entries-clause-ends
returns-in_err-entries-clause-ends g c =
    let S = g.S.Shelf in
    let old : ShelfMoment = S.moment c.args.shelf.now in
    let p = err_from_is_err_and c.from_residual.result c.from_residual.ensures.1 in
    subst (λ r. EndsVerify old old c.args.wiring.now c.args.text.now (answer_of r)) (sym p.1)
    (subst (λ e. EndsVerify old old c.args.wiring.now c.args.text.now e) (sym p.2)
    (inr (c.in_err-entries.ensures.err, record { same = λ q. refl; reads = refl; writes = refl })))

pub returns-clause-ends : goal.returns-clause-ends
returns-clause-ends g c = inl (c.in_ok-entries.entries, c.in_ok-entries.ensures.ok, c.print_legal.ensures.ends)

pub returns-in_err-entries-clause-prepared : goal.returns-in_err-entries-clause-prepared
returns-in_err-entries-clause-prepared g c room =
    let p = err_from_is_err_and c.from_residual.result c.from_residual.ensures.1 in
    subst (λ r. NamesNoFault (answer_of r)) (sym p.1)
    (subst (λ e. NamesNoFault e) (sym p.2) (names_none c.args.wiring.now c.args.text.now _ c.in_err-entries.ensures.err))

pub returns-clause-prepared : goal.returns-clause-prepared
returns-clause-prepared g c room = c.print_legal.ensures.prepared (room c.in_ok-entries.entries c.in_ok-entries.ensures.ok)
