use Rattle.std.proofs.Common.{sym, subst}
use Rattle.std.proofs.lemmas.Result.{err_from_is_err_and}
use Rattle.pl_shelf.specs.Held.{ShelfMoment}
use Rattle.pl_playing.specs.Plays.{answer_of}
use Rattle.pl_playing.specs.Prepared.{NamesNoFault}
use Rattle.pl_run.specs.Checks.{line_of}
use Rattle.pl_run.proofs.Ending.{check_answers}
use Rattle.pl_run.proofs.Preparing.{have_room_since, unplanned_names_none}
use Rattle.pl_run.proofs.check.check.Goals as goal

pub returns-clause-answers : goal.returns-clause-answers
returns-clause-answers g c =
    let S = g.S.Shelf in
    let old : ShelfMoment = S.moment c.args.shelf.now in
    let mid : ShelfMoment = S.moment c.load_wiring.new.shelf in
    let new : ShelfMoment = S.moment c.print_wiring.new.shelf in
    let e = c.in_ok-wiring.ensures in
    check_answers old mid new c.args.topology.now c.in_ok-wiring.wiring e.ok (record { same = e.same; reads = e.reads; writes = e.writes })
    (answer_of c.print_wiring.result) c.print_wiring.ensures.ends

pub returns-in_err-wiring-clause-prepared : goal.returns-in_err-wiring-clause-prepared
returns-in_err-wiring-clause-prepared g c is =
    let S = g.S.Shelf in
    let p = err_from_is_err_and c.from_residual.result c.from_residual.ensures.1 in
    let e = c.in_err-wiring.ensures in
    subst (λ r. NamesNoFault (answer_of r)) (sym p.1)
    (subst (λ e. NamesNoFault e) (sym p.2)
    (unplanned_names_none (S.capacity c.args.shelf.now) (S.capacity c.load_wiring.new.shelf) (S.moment c.args.shelf.now).held (S.moment c.load_wiring.new.shelf).held
    c.args.topology.now e.capacity e.same is.reads _ e.err e.unpromised))

pub returns-clause-prepared : goal.returns-clause-prepared
returns-clause-prepared g c is =
    let S = g.S.Shelf in
    let e = c.in_ok-wiring.ensures in
    c.print_wiring.ensures.prepared
    (have_room_since (S.capacity c.args.shelf.now) (S.capacity c.load_wiring.new.shelf) (S.moment c.args.shelf.now).held (S.moment c.load_wiring.new.shelf).held
    (line_of c.in_ok-wiring.wiring) e.capacity e.same (is.prints c.in_ok-wiring.wiring e.ok))
