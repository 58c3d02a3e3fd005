use Rattle.pl_wiring.proofs.LabelTexts.{found_law, none_law}
use Rattle.pl_wiring.proofs.label.Label.read.Goals as goal

pub returns-clause-found : goal.returns-clause-found
returns-clause-found c = found_law c.args.text.now c.read_label.result c.read_label.ensures

pub returns-clause-none : goal.returns-clause-none
returns-clause-none c = none_law c.args.text.now c.read_label.result c.read_label.ensures
