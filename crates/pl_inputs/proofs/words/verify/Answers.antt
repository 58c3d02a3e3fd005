use Rattle.std.proofs.Common.{codes, None, Some, refl, ap, ◌∙◌, option_map}
use Rattle.pl_inputs.specs.Met.{task, texts}
use Rattle.pl_inputs.specs.Words.{items_of, verify_items}
use Rattle.pl_inputs.proofs.CommandLemmas.{value, verify_is}
use Rattle.pl_inputs.proofs.words.verify.Goals as goal

pub returns-in_err-topology-clause-exact : goal.returns-in_err-topology-clause-exact
returns-in_err-topology-clause-exact c =
    let items = items_of verify_items (texts c.args.words.now) in
    ap (option_map task) c.from_residual.ensures ∙ verify_is items None (value items (codes "--journal")) c.in_err-topology.ensures refl

pub returns-in_err-journal-clause-exact : goal.returns-in_err-journal-clause-exact
returns-in_err-journal-clause-exact c =
    let items = items_of verify_items (texts c.args.words.now) in
    ap (option_map task) c.from_residual-in_err-journal.ensures
    ∙ verify_is items (Some c.in_ok-topology.topology.now) None c.in_ok-topology.ensures c.in_err-journal.ensures

pub returns-clause-exact : goal.returns-clause-exact
returns-clause-exact c =
    verify_is (items_of verify_items (texts c.args.words.now)) (Some c.in_ok-topology.topology.now) (Some c.in_ok-journal.journal.now) c.in_ok-topology.ensures
    c.in_ok-journal.ensures
