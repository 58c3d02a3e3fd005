use Rattle.std.proofs.Common.{◌≡◌, ◌+◌, ◌<◌, [], length, replicate, sym, ap, subst, ◌∙◌, arith}
use Rattle.std.proofs.Math.ListN.{length-set}
use Rattle.pl_queue_array.proofs.Clearing.{AreEmptied, all_emptied, one_more_emptied}
use Rattle.pl_queue_array.proofs.queues.Queues.clear.Goals as goal

pub loop-at-preserved : goal.loop-at-preserved
loop-at-preserved g c =
    let at = c.loop-at.at in
    let many = c.loop-at.invariant.many in
    let view = ap length c.self.view_is in
    let count = c.len-at-end.ensures in
    let low = c.loop-at-test.true in
    let within : at < length c.loop-at.self = omega (arith, many, view, count, low) in
    record {
      done = subst (λ q. AreEmptied q (at + 1)) (sym c.clear_at.ensures) (one_more_emptied c.loop-at.self at within c.loop-at.invariant.done);
      many = ap length c.clear_at.ensures ∙ length-set c.loop-at.self at [] ∙ many;
    }

pub returns : goal.returns
returns g c =
    let at = c.loop-at.at in
    let many = c.loop-at.invariant.many in
    let view = ap length c.self.view_is in
    let count = c.len-at-end.ensures in
    let low = c.loop-at.auto.at-end in
    let high = c.loop-at-test.false in
    let all : at ≡ length c.args.self.now = omega (arith, many, view, count, low, high) in
    all_emptied c.loop-at.self at (all ∙ sym many) c.loop-at.invariant.done ∙ ap (λ n. replicate n []) all
