use Rattle.pl_verify.proofs.Reading.{all_read, read_none}
use Rattle.pl_verify.proofs.verifying.hear_all.Goals as goal

pub loop-at-init : goal.loop-at-init
loop-at-init c = read_none c.args.wiring.now c.args.journal.now c.args.judge.now c.requires

pub returns : goal.returns
returns c =
    all_read c.args.wiring.now c.args.journal.now c.loop-at.at c.loop-at.judge c.verdict.result c.loop-at.invariant c.loop-at-test.false
    (c.verdict.ensures c.args.wiring.now c.args.journal.now _ c.loop-at.invariant.judged)
