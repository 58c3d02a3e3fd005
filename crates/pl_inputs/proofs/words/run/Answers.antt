use Rattle.std.proofs.Common.{codes, None, Some, refl, ap, ◌∙◌, option_map}
use Rattle.pl_inputs.specs.Met.{task, texts}
use Rattle.pl_inputs.specs.Words.{items_of, run_items}
use Rattle.pl_inputs.proofs.CommandLemmas.{run_is, value}
use Rattle.pl_inputs.proofs.words.run.Goals as goal

pub returns-in_err-value-clause-exact : goal.returns-in_err-value-clause-exact
returns-in_err-value-clause-exact c =
    let items = items_of run_items (texts c.args.words.now) in
    ap (option_map task) c.from_residual.ensures
    ∙ run_is c.args.network items None (value items (codes "--script")) (value items (codes "--captures")) (value items (codes "--out")) c.in_err-value.ensures refl refl refl

pub returns-in_err-value-2-clause-exact : goal.returns-in_err-value-2-clause-exact
returns-in_err-value-2-clause-exact c =
    let items = items_of run_items (texts c.args.words.now) in
    ap (option_map task) c.from_residual-in_err-value-2.ensures
    ∙ run_is c.args.network items (Some c.in_ok-value.field-0.now) None (value items (codes "--captures")) (value items (codes "--out")) c.in_ok-value.ensures c.in_err-value-2.ensures refl refl

pub returns-in_err-value-3-clause-exact : goal.returns-in_err-value-3-clause-exact
returns-in_err-value-3-clause-exact c =
    let items = items_of run_items (texts c.args.words.now) in
    ap (option_map task) c.from_residual-in_err-value-3.ensures
    ∙ run_is c.args.network items (Some c.in_ok-value.field-0.now) (Some c.in_ok-value-2.field-0.now) None (value items (codes "--out"))
    c.in_ok-value.ensures c.in_ok-value-2.ensures c.in_err-value-3.ensures refl

pub returns-in_err-value-4-clause-exact : goal.returns-in_err-value-4-clause-exact
returns-in_err-value-4-clause-exact c =
    let items = items_of run_items (texts c.args.words.now) in
    ap (option_map task) c.from_residual-in_err-value-4.ensures
    ∙ run_is c.args.network items (Some c.in_ok-value.field-0.now) (Some c.in_ok-value-2.field-0.now) (Some c.in_ok-value-3.field-0.now) None
    c.in_ok-value.ensures c.in_ok-value-2.ensures c.in_ok-value-3.ensures c.in_err-value-4.ensures

pub returns-clause-exact : goal.returns-clause-exact
returns-clause-exact c =
    let items = items_of run_items (texts c.args.words.now) in
    run_is c.args.network items (Some c.in_ok-value.field-0.now) (Some c.in_ok-value-2.field-0.now) (Some c.in_ok-value-3.field-0.now) (Some c.in_ok-value-4.field-0.now)
    c.in_ok-value.ensures c.in_ok-value-2.ensures c.in_ok-value-3.ensures c.in_ok-value-4.ensures
