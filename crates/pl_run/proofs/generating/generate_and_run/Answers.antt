use Rattle.std.proofs.Common.{refl, sym, subst}
use Rattle.std.proofs.lemmas.Result.{err_from_is_err_and}
use Rattle.pl_inputs.specs.Loaded.{inputs_of}
use Rattle.pl_shelf.specs.Held.{ShelfMoment}
use Rattle.pl_playing.specs.Plays.{answer_of}
use Rattle.pl_playing.specs.Prepared.{NamesNoFault}
use Rattle.pl_run.specs.Generated.{AnswersGenerated}
use Rattle.pl_run.proofs.Ending.{generated_answers, ungenerated_answers}
use Rattle.pl_run.proofs.Preparing.{ungenerated_names_none}
use Rattle.pl_run.proofs.generating.generate_and_run.Goals as goal

pub returns-in_err-inputs-clause-answers : goal.returns-in_err-inputs-clause-answers
returns-in_err-inputs-clause-answers g c =
    let S = g.S.Shelf in
    let old : ShelfMoment = S.moment c.args.shelf.now in
    let n = c.args.generation in
    let p = err_from_is_err_and c.from_residual.result c.from_residual.ensures.1 in
    subst (λ r. AnswersGenerated old old n.k n.number n.frames (answer_of r)) (sym p.1)
    (subst (λ e. AnswersGenerated old old n.k n.number n.frames e) (sym p.2)
    (ungenerated_answers old old (record { same = λ q. refl; reads = refl; writes = refl }) n _ c.in_err-inputs.ensures.err))

pub returns-clause-answers : goal.returns-clause-answers
returns-clause-answers g c =
    let S = g.S.Shelf in
    let old : ShelfMoment = S.moment c.args.shelf.now in
    let new : ShelfMoment = S.moment c.play_and_print.new.shelf in
    generated_answers old new c.args.generation (inputs_of c.in_ok-inputs.inputs) c.in_ok-inputs.ensures.ok (answer_of c.play_and_print.result) c.play_and_print.ensures.comes

pub returns-in_err-inputs-clause-prepared : goal.returns-in_err-inputs-clause-prepared
returns-in_err-inputs-clause-prepared g c is =
    let p = err_from_is_err_and c.from_residual.result c.from_residual.ensures.1 in
    subst (λ r. NamesNoFault (answer_of r)) (sym p.1)
    (subst (λ e. NamesNoFault e) (sym p.2) (ungenerated_names_none c.args.generation _ c.in_err-inputs.ensures.err))

pub returns-clause-prepared : goal.returns-clause-prepared
returns-clause-prepared g c is = c.play_and_print.ensures.prepared (is (inputs_of c.in_ok-inputs.inputs) c.in_ok-inputs.ensures.ok)
