use Rattle.std.proofs.Common.{None, Some, ap, ◌∙◌, option_map}
use Rattle.pl_inputs.specs.Met.{task, texts}
use Rattle.pl_inputs.specs.Words.{check_items, items_of}
use Rattle.pl_inputs.proofs.CommandLemmas.{check_is}
use Rattle.pl_inputs.proofs.words.check.Goals as goal

pub returns-in_err-topology-clause-exact : goal.returns-in_err-topology-clause-exact
returns-in_err-topology-clause-exact c =
    ap (option_map task) c.from_residual.ensures ∙ check_is (items_of check_items (texts c.args.words.now)) None c.in_err-topology.ensures

pub returns-clause-exact : goal.returns-clause-exact
returns-clause-exact c = check_is (items_of check_items (texts c.args.words.now)) (Some c.in_ok-topology.topology.now) c.in_ok-topology.ensures
