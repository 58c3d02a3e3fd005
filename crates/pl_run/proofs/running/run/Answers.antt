use Rattle.std.proofs.Common.{sym, subst}
use Rattle.std.proofs.lemmas.Result.{err_from_is_err_and}
use Rattle.pl_inputs.specs.Loaded.{inputs_of}
use Rattle.pl_inputs.specs.Met.{asked}
use Rattle.pl_shelf.specs.Held.{ShelfMoment}
use Rattle.pl_playing.specs.Plays.{answer_of}
use Rattle.pl_playing.specs.Prepared.{NamesNoFault}
use Rattle.pl_run.proofs.Ending.{comes_since, run_answers}
use Rattle.pl_run.proofs.OnBridges.{none_repaired}
use Rattle.pl_run.proofs.Preparing.{room_since, unread_names_none}
use Rattle.pl_run.proofs.running.run.Goals as goal
use Rattle.pl_run.specs.Fabric.{fits_of, texts_of}

pub play_on-requires : goal.play_on-requires
play_on-requires g c is =
    let S = g.S.Shelf in
    let i = inputs_of c.in_ok-inputs.inputs in
    none_repaired (S.moment c.args.shelf.now).held c.args.files.now.network c.args.files.now.script.now i.plan i.lines is c.in_ok-inputs.ensures.ok.script

pub returns-clause-answers : goal.returns-clause-answers
returns-clause-answers g c =
    let S = g.S.Shelf in
    let old : ShelfMoment = S.moment c.args.shelf.now in
    let mid : ShelfMoment = S.moment c.load_inputs.new.shelf in
    let new : ShelfMoment = S.moment c.play_on.new.shelf in
    let e = c.in_ok-inputs.ensures in
    let i = inputs_of c.in_ok-inputs.inputs in
    run_answers old new (asked c.args.files.now) i e.ok (answer_of c.play_on.result)
    (comes_since c.args.files.now.network old mid new (record { same = e.same; reads = e.reads; writes = e.writes }) i (fits_of c.args.files.now.network i)
    (texts_of c.args.files.now.network c.args.files.now.out.now i) (answer_of c.play_on.result)
    c.play_on.ensures.comes)

pub returns-in_err-inputs-clause-prepared : goal.returns-in_err-inputs-clause-prepared
returns-in_err-inputs-clause-prepared g c is =
    let S = g.S.Shelf in
    let p = err_from_is_err_and c.from_residual.result c.from_residual.ensures.1 in
    let e = c.in_err-inputs.ensures in
    subst (λ r. NamesNoFault (answer_of r)) (sym p.1)
    (subst (λ e. NamesNoFault e) (sym p.2)
    (unread_names_none (S.capacity c.args.shelf.now) (S.capacity c.load_inputs.new.shelf) (S.moment c.args.shelf.now).held (S.moment c.load_inputs.new.shelf).held
    (asked c.args.files.now) e.capacity e.same is _ e.err e.unpromised))

pub returns-clause-prepared : goal.returns-clause-prepared
returns-clause-prepared g c is =
    let S = g.S.Shelf in
    let e = c.in_ok-inputs.ensures in
    let i = inputs_of c.in_ok-inputs.inputs in
    c.play_on.ensures.prepared
    (room_since c.args.files.now.network (S.capacity c.args.shelf.now) (S.capacity c.load_inputs.new.shelf) (S.moment c.args.shelf.now).held (S.moment c.load_inputs.new.shelf).held i
    (texts_of c.args.files.now.network c.args.files.now.out.now i) e.capacity e.same (is.saves i e.ok))
