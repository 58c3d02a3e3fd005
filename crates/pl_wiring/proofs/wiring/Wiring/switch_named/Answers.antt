use Rattle.pl_wiring.proofs.LabelTexts.{named_law, unnamed_law}
use Rattle.pl_wiring.proofs.wiring.Wiring.switch_named.Goals as goal

pub returns-clause-found : goal.returns-clause-found
returns-clause-found c =
    let is = (rw c.k.ensures.k at c.switch_named.ensures) in
    named_law c.args.self.now.k c.args.text.now c.switch_named.result c.k.ensures.plan.arity is

pub returns-clause-none : goal.returns-clause-none
returns-clause-none c =
    let is = (rw c.k.ensures.k at c.switch_named.ensures) in
    unnamed_law c.args.self.now.k c.args.text.now c.switch_named.result c.k.ensures.plan.arity is
