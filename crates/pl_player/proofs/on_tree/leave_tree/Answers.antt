use Rattle.std.proofs.Common.{◌≡◌, ◌<◌, ◌≤◌, length, refl, sym, ◌∙◌, ap, subst, arith}
use Rattle.pl_wiring.specs.Plan.{Plan}
use Rattle.pl_player.proofs.LinksLeft.{all_left, leaves_on}
use Rattle.pl_player.proofs.on_tree.leave_tree.Goals as goal

pub leave_link-requires : goal.leave_link-requires
leave_link-requires g c =
    let within : c.loop-n.n < length c.args.world.now.plan.links = (let m = c.loop-n.invariant.many in let t = c.loop-n-test.true in omega (arith, t, m)) in
    record {
      orderly = c.loop-n.invariant.orderly;
      there = subst (λ (p : Plan). c.loop-n.n < length p.links) (sym c.loop-n.invariant.plan) within;
    }

pub loop-n-preserved : goal.loop-n-preserved
loop-n-preserved g c =
    let within : c.loop-n.n < length c.args.world.now.plan.links = (let m = c.loop-n.invariant.many in let t = c.loop-n-test.true in omega (arith, t, m)) in
    record {
      orderly = c.in_ok-leave_link.ensures.orderly;
      plan = c.in_ok-leave_link.ensures.plan ∙ c.loop-n.invariant.plan;
      many = c.loop-n.invariant.many;
      left = leaves_on c.args.world.now.plan c.args.world.now c.loop-n.world c.leave_link.new.world c.loop-n.n c.loop-n.invariant.plan within
          c.in_ok-leave_link.ensures.left c.loop-n.invariant.left;
    }

pub returns : goal.returns
returns g c = record {
  left = all_left c.args.world.now.plan.k c.loop-n.n c.args.world.now.plan.links c.loop-n.world _
      (let m = c.loop-n.invariant.many in let t = c.loop-n-test.false in omega (arith, t, m)) c.loop-n.invariant.left;
  orderly = c.loop-n.invariant.orderly;
}
