use Rattle.std.proofs.Common.{codes, None, Some, refl, ap, ◌∙◌, option_map}
use Rattle.pl_inputs.specs.Met.{asked, texts}
use Rattle.pl_inputs.specs.Words.{items_of}
use Rattle.pl_watch_run.proofs.Asking.{files_are, value}
use Rattle.pl_watch_run.proofs.words.files.Goals as goal

pub returns-in_err-value : goal.returns-in_err-value
returns-in_err-value c =
    let items = items_of (texts c.args.items.now.names.now) (texts c.args.items.now.words.now) in
    ap (option_map asked) c.from_residual.ensures
    ∙ files_are items None (value items (codes "--script")) (value items (codes "--captures")) c.in_err-value.ensures refl refl

pub returns-in_err-value-2 : goal.returns-in_err-value-2
returns-in_err-value-2 c =
    let items = items_of (texts c.args.items.now.names.now) (texts c.args.items.now.words.now) in
    ap (option_map asked) c.from_residual-in_err-value-2.ensures
    ∙ files_are items (Some c.in_ok-value.field-0.now) None (value items (codes "--captures")) c.in_ok-value.ensures c.in_err-value-2.ensures refl

pub returns-in_err-value-3 : goal.returns-in_err-value-3
returns-in_err-value-3 c =
    let items = items_of (texts c.args.items.now.names.now) (texts c.args.items.now.words.now) in
    ap (option_map asked) c.from_residual-in_err-value-3.ensures
    ∙ files_are items (Some c.in_ok-value.field-0.now) (Some c.in_ok-value-2.field-0.now) None c.in_ok-value.ensures c.in_ok-value-2.ensures c.in_err-value-3.ensures

pub returns : goal.returns
returns c =
    let items = items_of (texts c.args.items.now.names.now) (texts c.args.items.now.words.now) in
    files_are items (Some c.in_ok-value.field-0.now) (Some c.in_ok-value-2.field-0.now) (Some c.in_ok-value-3.field-0.now)
    c.in_ok-value.ensures c.in_ok-value-2.ensures c.in_ok-value-3.ensures
