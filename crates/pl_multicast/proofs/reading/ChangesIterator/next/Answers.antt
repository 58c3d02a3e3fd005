use Rattle.std.proofs.Common.{◌≡◌, ◌-◌, [], sym, ◌∙◌, arith}
use Rattle.std.proofs.lemmas.Grind.{common_steps}
use Rattle.pl_multicast.specs.declared.reading.Changes.{Changes}
use Rattle.pl_multicast.specs.Changes.{changes_left}
use Rattle.pl_multicast.proofs.RecordSteps.{changes_left-none, changes_left-cut, changes_left-step, changes_left-passed, YieldsFirst-said}
use Rattle.pl_multicast.proofs.reading.ChangesIterator.next.Goals as goal

pub returns-in_err-end-clause-steps : goal.returns-in_err-end-clause-steps
returns-in_err-end-clause-steps c =
    let cut = sym c.record_end.ensures ∙ c.in_err-end.was in
    let rest : changes_left c.loop-self.self ≡ [] = changes_left-cut c.loop-self.self c.loop-self.invariant.0 cut in
    rw c.from_residual.ensures (sym c.loop-self.invariant.1 ∙ rest, rest)

pub returns-then-is_some-clause-steps : goal.returns-then-is_some-clause-steps
returns-then-is_some-clause-steps c =
    let next : Changes = record { only = c.loop-self.self.only; count = c.loop-self.self.count - 1; records = c.split_at.result.1 } in
    let whole = sym c.record_end.ensures ∙ c.in_ok-end.was in
    let step = changes_left-step c.loop-self.self c.in_ok-end.end c.split_at.result.1 c.record_change-change.result
    c.loop-self.invariant.0 c.loop-self-test.true whole c.split_at.ensures.back c.record_change-change.ensures in
    YieldsFirst-said c.args.self.now next c.record_change-change.result (sym c.is_some.ensures ∙ c.if-is_some.true) (sym c.loop-self.invariant.1 ∙ step)

pub returns-then-is_some-clause-goes : goal.returns-then-is_some-clause-goes
returns-then-is_some-clause-goes c =
    let steps = returns-then-is_some-clause-steps c in
    grind (arith, common_steps, steps)

pub loop-self-preserved : goal.loop-self-preserved
loop-self-preserved c =
    let next : Changes = record { only = c.loop-self.self.only; count = c.loop-self.self.count - 1; records = c.split_at.result.1 } in
    let whole = sym c.record_end.ensures ∙ c.in_ok-end.was in
    let step = changes_left-step c.loop-self.self c.in_ok-end.end c.split_at.result.1 c.record_change-change.result
    c.loop-self.invariant.0 c.loop-self-test.true whole c.split_at.ensures.back c.record_change-change.ensures in
    let passed = changes_left-passed c.loop-self.self next c.record_change-change.result (sym c.is_some.ensures ∙ c.if-is_some.false) step in
    (c.loop-self.invariant.0, passed ∙ c.loop-self.invariant.1)

pub returns-clause-steps : goal.returns-clause-steps
returns-clause-steps c =
    let rest : changes_left c.loop-self.self ≡ [] = changes_left-none c.loop-self.self c.loop-self.invariant.0 (omega arith) in
    (sym c.loop-self.invariant.1 ∙ rest, rest)
