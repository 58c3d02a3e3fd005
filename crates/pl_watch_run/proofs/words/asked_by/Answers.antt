use Rattle.std.proofs.Common.{refl, ap, ◌∙◌, option_map}
use Rattle.pl_inputs.specs.Met.{texts}
use Rattle.pl_inputs.specs.Words.{items_of}
use Rattle.pl_watch_run.specs.Words.{watch_items, watching}
use Rattle.pl_watch_run.proofs.Asking.{asked_are}
use Rattle.pl_watch_run.proofs.words.asked_by.Goals as goal

pub returns-in_err-_out : goal.returns-in_err-_out
returns-in_err-_out c =
    ap (option_map watching) c.from_residual.ensures ∙ asked_are c.args.json (items_of watch_items (texts c.args.words.now)) _ _ _ _ _ c.in_err-_out.ensures refl refl refl refl

pub returns-in_err-files : goal.returns-in_err-files
returns-in_err-files c =
    ap (option_map watching) c.from_residual-in_err-files.ensures ∙ asked_are c.args.json (items_of watch_items (texts c.args.words.now)) _ _ _ _ _ c.in_ok-_out.ensures c.in_err-files.ensures refl refl refl

pub returns-in_err-value_if_given : goal.returns-in_err-value_if_given
returns-in_err-value_if_given c =
    ap (option_map watching) c.from_residual-in_err-value_if_given.ensures ∙ asked_are c.args.json (items_of watch_items (texts c.args.words.now)) _ _ _ _ _ c.in_ok-_out.ensures c.in_ok-files.ensures c.in_err-value_if_given.ensures refl refl

pub returns-in_err-value_if_given-2 : goal.returns-in_err-value_if_given-2
returns-in_err-value_if_given-2 c =
    ap (option_map watching) c.from_residual-in_err-value_if_given-2.ensures ∙ asked_are c.args.json (items_of watch_items (texts c.args.words.now)) _ _ _ _ _ c.in_ok-_out.ensures c.in_ok-files.ensures c.in_ok-value_if_given.ensures c.in_err-value_if_given-2.ensures refl

pub returns-in_err-value_if_given-3 : goal.returns-in_err-value_if_given-3
returns-in_err-value_if_given-3 c =
    ap (option_map watching) c.from_residual-in_err-value_if_given-3.ensures ∙ asked_are c.args.json (items_of watch_items (texts c.args.words.now)) _ _ _ _ _ c.in_ok-_out.ensures c.in_ok-files.ensures c.in_ok-value_if_given.ensures c.in_ok-value_if_given-2.ensures c.in_err-value_if_given-3.ensures

pub returns : goal.returns
returns c =
    asked_are c.args.json (items_of watch_items (texts c.args.words.now)) _ _ _ _ _ c.in_ok-_out.ensures c.in_ok-files.ensures c.in_ok-value_if_given.ensures c.in_ok-value_if_given-2.ensures c.in_ok-value_if_given-3.ensures
