use Rattle.std.proofs.Common.{◌+◌, sym, ap, ◌∙◌, subst, arith}
use Rattle.slab.specs.Slab.{Slab, get}
use Rattle.pl_pool.specs.declared.links.Node.{Node}
use Rattle.pl_pool.specs.Pool.{Lists, IsFree}
use Rattle.pl_pool.specs.Chains.{IsPool}
use Rattle.pl_pool.proofs.Views.{free_key, roomier, keyed}
use Rattle.pl_pool.proofs.pool.Pool.push_back.Goals as goal

pub invariant_of-self : goal.invariant_of-self
invariant_of-self g c =
    let p = c.self.inside in
    let made = c.make_room.ensures in
    subst (λ (n : Slab (Node g.row.T.Denot)). IsPool n p.ends.items p.spare) (sym made.kept)
    (roomier p.nodes p.ends.items p.spare c.self.invariant c.make_room.new.nodes.capacity p.spare (omega (arith, made.capacity, c.self.invariant.room)))

pub put_last-slot-requires-clause-pool : goal.put_last-slot-requires-clause-pool
put_last-slot-requires-clause-pool g c =
    let p = c.self.inside in
    let made = c.make_room.ensures in (
      p.spare,
      subst (λ (n : Slab (Node g.row.T.Denot)). IsPool n p.ends.items p.spare) (sym made.kept)
          (roomier p.nodes p.ends.items p.spare c.self.invariant c.make_room.new.nodes.capacity p.spare (omega (arith, made.capacity, c.self.invariant.room))),
    )

pub invariant_of-self-2 : goal.invariant_of-self-2
invariant_of-self-2 g c =
    let p = c.self.inside in
    let made = c.in-Ok.ensures in
    let ok = made.ok in
    c.put_last-slot.ensures.pool c.in-Ok.left
    (subst (λ (n : Slab (Node g.row.T.Denot)). IsPool n p.ends.items (c.in-Ok.left + 1)) (sym made.kept)
    (roomier p.nodes p.ends.items p.spare c.self.invariant c.make_room.new.nodes.capacity (c.in-Ok.left + 1) ok.1))

pub returns-clause-free : goal.returns-clause-free
returns-clause-free g c =
    let p = c.self.inside in
    subst (λ (v : Lists g.row.T.Denot). IsFree v (keyed c.put_last-slot.result)) c.self.view_is
    (free_key p.nodes p.ends.items p.spare c.self.invariant c.put_last-slot.result
    (sym (ap (λ (n : Slab (Node g.row.T.Denot)). get n c.put_last-slot.result) c.make_room.ensures.kept) ∙ c.put_last-slot.ensures.free))
