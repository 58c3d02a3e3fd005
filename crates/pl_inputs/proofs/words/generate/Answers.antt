use Rattle.std.proofs.Common.{codes, None, Some, refl, ap, ◌∙◌, option_map}
use Rattle.pl_inputs.specs.Met.{task, texts}
use Rattle.pl_inputs.specs.Words.{Generate, generate_items, items_of}
use Rattle.pl_inputs.proofs.CommandLemmas.{generate_is, value}
use Rattle.pl_inputs.proofs.words.generate.Goals as goal

pub returns-in_err-k-clause-exact : goal.returns-in_err-k-clause-exact
returns-in_err-k-clause-exact c =
    let items = items_of generate_items (texts c.args.words.now) in
    ap (option_map task) c.from_residual.ensures
    ∙ generate_is items None (value items (codes "--number")) (value items (codes "--frames")) c.in_err-k.ensures refl refl

pub returns-in_err-number-clause-exact : goal.returns-in_err-number-clause-exact
returns-in_err-number-clause-exact c =
    let items = items_of generate_items (texts c.args.words.now) in
    ap (option_map task) c.from_residual-in_err-number.ensures
    ∙ generate_is items (Some c.in_ok-k.k.now) None (value items (codes "--frames")) c.in_ok-k.ensures c.in_err-number.ensures refl

pub returns-in_err-frames-clause-exact : goal.returns-in_err-frames-clause-exact
returns-in_err-frames-clause-exact c =
    let items = items_of generate_items (texts c.args.words.now) in
    ap (option_map task) c.from_residual-in_err-frames.ensures
    ∙ generate_is items (Some c.in_ok-k.k.now) (Some c.in_ok-number.number.now) None c.in_ok-k.ensures c.in_ok-number.ensures c.in_err-frames.ensures

pub returns-in_err-of-clause-exact : goal.returns-in_err-of-clause-exact
returns-in_err-of-clause-exact c =
    let items = items_of generate_items (texts c.args.words.now) in
    ap (option_map task) c.from_residual-in_err-of.ensures
    ∙ ap (option_map Generate) c.in_err-of.ensures.exact
    ∙ generate_is items (Some c.in_ok-k.k.now) (Some c.in_ok-number.number.now) (Some c.in_ok-frames.frames.now) c.in_ok-k.ensures c.in_ok-number.ensures c.in_ok-frames.ensures

pub returns-clause-exact : goal.returns-clause-exact
returns-clause-exact c =
    let items = items_of generate_items (texts c.args.words.now) in
    ap (option_map Generate) c.in_ok-of.ensures.exact
    ∙ generate_is items (Some c.in_ok-k.k.now) (Some c.in_ok-number.number.now) (Some c.in_ok-frames.frames.now) c.in_ok-k.ensures c.in_ok-number.ensures c.in_ok-frames.ensures
