use Rattle.std.proofs.Common.{arith}
use Rattle.pl_wiring.proofs.TextLemmas.{other_first}
use Rattle.pl_wiring.proofs.label_text.letter.Goals as goal

pub returns-in-None-clause-none : goal.returns-in-None-clause-none
returns-in-None-clause-none c = (
  other_first 101 c.args.text.now _ c.strip_prefix.ensures.cases c.in_default.is (omega arith) (omega arith),
  other_first 97 c.args.text.now _ c.strip_prefix-2.ensures.cases c.in_default-strip_prefix.is (omega arith) (omega arith),
  other_first 99 c.args.text.now _ c.strip_prefix-3.ensures.cases c.in-None.is (omega arith) (omega arith),
)
