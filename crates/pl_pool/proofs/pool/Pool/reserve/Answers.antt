use Rattle.std.proofs.Common.{sym, ap, subst, arith}
use Rattle.slab.specs.Slab.{Slab, slab_len}
use Rattle.pl_pool.specs.declared.links.Node.{Node}
use Rattle.pl_pool.specs.Chains.{IsPool}
use Rattle.pl_pool.proofs.Views.{roomier}
use Rattle.pl_pool.proofs.pool.Pool.reserve.Goals as goal

pub invariant_of-self : goal.invariant_of-self
invariant_of-self g c =
    let p = c.self.inside in
    let made = c.reserve.ensures in
    subst (λ (n : Slab (Node g.row.T.Denot)). IsPool n p.ends.items p.spare) (sym made.rest_kept)
    (roomier p.nodes p.ends.items p.spare c.self.invariant c.reserve.new.self.capacity p.spare (omega (arith, made.capacity, c.self.invariant.room)))

pub invariant_of-self-then-self-n : goal.invariant_of-self-then-self-n
invariant_of-self-then-self-n g c =
    let p = c.self.inside in
    let made = c.reserve.ensures in
    let room = c.in_ok-reserve.ensures.room in
    let same = ap (λ (n : Slab (Node g.row.T.Denot)). slab_len n) made.rest_kept in
    subst (λ (n : Slab (Node g.row.T.Denot)). IsPool n p.ends.items c.args.n) (sym made.rest_kept)
    (roomier p.nodes p.ends.items p.spare c.self.invariant c.reserve.new.self.capacity c.args.n (omega (arith, room, same)))
